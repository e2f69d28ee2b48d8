-- A stack whose environment and links grow.
use Rattle.std.specs.Prelude.{Result as Outcomes}
use Rattle.std.specs.declared.alloc.AllocError.{AllocError}
use Rattle.std.proofs.Common.{◌≡◌, ℕ, ◌≤◌, List, [], ◌++◌, length, length-append, refl, sym, ap, ap₂, ◌∙◌, subst, arith, reverse, append-nil, le_trans, Bool, true, false, None, Some, Option, Ok, Err, IfOk, IfSome, IfNone, OnErr}
use Rattle.plterm.specs.Tree.{Tree}
use Rattle.plsubst.specs.Unify.{unify}
use Rattle.platoms.specs.Names.{IsTable}
use Rattle.platoms.proofs.Extending.{Extends-trans as extends-names}
use Rattle.plsearch.specs.Lists.{bind_goals}
use Rattle.plenv.specs.Env.{Env, IsEnv}
use Rattle.plenv.specs.Changes.{Keeps, Puts, PutsTerm, Stays, Extends as ExtendsEnv, Unifies as UnifiesEnv}
use Rattle.plcells.specs.declared.cell.Cell.{Cell}
use Rattle.plcells.specs.declared.equation.Equation.{Equation}
use Rattle.plcells.specs.Store.{value}
use Rattle.plcells.specs.Equations.{left_of, right_of}
use Rattle.plenv.specs.Solving.{counted, Solves as SolvesEnv}
use Rattle.plenv.proofs.Solving.{env-counted, extends-counted}
use Rattle.pllinks.specs.declared.link.Link.{Link}
use Rattle.pllinks.specs.declared.link.Continuation.{Continuation}
use Rattle.pllinks.specs.Lists.{Goals, AreItems, all_elements}
use Rattle.pllinks.specs.Links.{items_of, IsChain}
use Rattle.pllinks.specs.Changing.{Agrees}
use Rattle.pllinks.proofs.Changing.{items-agree, items-bound, items-more as wider-items}
use Rattle.plstack.specs.declared.frame.Frame.{Frame}
use Rattle.plstack.specs.Places.{Database, cases}
use Rattle.plstack.specs.Frames.{AreFrames}
use Rattle.plstack.specs.State.{State, goals_in, goals_of, kinds_in, cases_of, IsList, IsState, IsStack, Extends, Solves, Unifies, UnifiesTerms}
use Rattle.plstack.proofs.Naming.{visited-env}
use Rattle.plstack.proofs.Frames.{items-more, cases-kept, AreFrames-kept}

-- the values that cases keep are as they were
module _ (code : Goals) (old new : Env) (links ls more : List Link) (saved : List Cell) (is : ls ≡ links ++ more) (k : Keeps old new) (table : IsTable new.heap.names) where
  pub cases-grown : (db : Database) (fs : List Frame) → AreFrames code old links saved fs → cases db code new ls saved fs ≡ cases db code old links saved fs
  cases-grown db fs a =
      ap₂ (λ ks vs. cases db code new ks vs fs) is (sym (append-nil saved)) ∙ cases-kept code old new links more saved [] k table db fs a

  pub frames-grown : (fs : List Frame) → AreFrames code old links saved fs → AreFrames code new ls saved fs
  frames-grown fs a =
      subst (λ vs. AreFrames code new ls vs fs) (append-nil saved)
      (subst (λ ks. AreFrames code new ks (saved ++ []) fs) (sym is) (AreFrames-kept code old new links more saved [] k table fs a))

-- all values and slots stand for what they did
module _ (s : State) (e : Env) (ls more : List Link) (links : ls ≡ s.links ++ more) (x : ExtendsEnv s.env e) (env : IsEnv e) where
  abbrev pub grown : State
  grown = record { basis = s.basis; env = e; links = ls; saved = s.saved; frames = s.frames; goals = s.goals }

  wider : length s.links ≤ length ls
  wider = rw links (omega (arith, length-append s.links more))

  agrees : Agrees (length s.env.slots) s.env e
  agrees = record { values = x.values; variables = x.variables }

  pub list-grown : (l : Continuation) → IsList s l → IsList grown l × (goals_of grown l ≡ goals_of s l)
  list-grown l is =
      let same : items_of ls l ≡ items_of s.links l = ap (λ ks. items_of ks l) links ∙ items-more s.links more l is.there in
      let r = items-agree (goals_in s) (length s.env.slots) s.env e agrees (items_of s.links l) is.items in (
        record {
          there = le_trans is.there wider;
          items = subst (AreItems (goals_in s) e.heap (length e.slots)) (sym same) (wider-items (goals_in s) e (length s.env.slots) (length e.slots) (items_of s.links l) x.slots r.0);
        },
        ap (all_elements (goals_in s) e) same ∙ r.1,
      )

  pub state-grown : IsState s → IsChain ls → IsState grown
  state-grown is chain = record {
    env = env;
    names = extends-names s.basis.code.text.names s.env.heap.names e.heap.names is.names x.keeps.names;
    none = is.none;
    chain = chain;
    frames = frames-grown (goals_in s) s.env e s.links ls more s.saved links x.keeps env.heap.names (reverse s.frames) is.frames;
    seen = is.seen;
    goals = (list-grown s.goals is.goals).0;
    fits = visited-env (kinds_in s) (goals_in s) s.env e (items_of s.links s.goals) (items_of ls s.goals) (ap (λ ks. items_of ks s.goals) links ∙ items-more s.links more s.goals is.goals.there) is.fits;
  }

  pub extends-grown : IsState s → Extends s grown
  unfolding cases_of
  extends-grown is = record {
    basis = refl;
    frames = refl;
    goals = refl;
    visited = (list-grown s.goals is.goals).1;
    cases = λ db. cases-grown (goals_in s) s.env e s.links ls more s.saved links x.keeps env.heap.names db (reverse s.frames) is.frames;
    lists = list-grown;
    values = x.values;
  }

-- the environment alone grew
module _ (s : State) (d : ℕ) (e : Env) (x : ExtendsEnv s.env e) (env : IsEnv e) (is : IsStack s d) where
  pub stack-env : IsStack (record s { env = e }) d
  stack-env = (state-grown s e s.links [] (sym (append-nil s.links)) x env is.0 is.0.chain, is.1)

  pub extends-env : Extends s (record s { env = e })
  extends-env = extends-grown s e s.links [] (sym (append-nil s.links)) x env is.0

-- a unifier of two terms was put in
module _ (s : State) (d : ℕ) (e : Env) (a b : Tree) (u : UnifiesEnv s.env e a b) (env : IsEnv e) (is : IsStack s d) where
  list-unified : (l : Continuation) → IsList s l → IsList (record s { env = e }) l × (goals_of (record s { env = e }) l ≡ bind_goals u.unifier (goals_of s l))
  list-unified l i = let r = items-bound (goals_in s) s.env e u.unifier u.made (items_of s.links l) i.items in (record { there = i.there; items = r.0 }, r.1)

  pub unified-stack : IsStack (record s { env = e }) d
  unified-stack = (
    record {
      env = env;
      names = extends-names s.basis.code.text.names s.env.heap.names e.heap.names is.0.names u.made.keeps.names;
      none = is.0.none;
      chain = is.0.chain;
      frames = frames-grown (goals_in s) s.env e s.links s.links [] s.saved (sym (append-nil s.links)) u.made.keeps env.heap.names (reverse s.frames) is.0.frames;
      seen = is.0.seen;
      goals = (list-unified s.goals is.0.goals).0;
      fits = visited-env (kinds_in s) (goals_in s) s.env e (items_of s.links s.goals) (items_of s.links s.goals) refl is.0.fits;
    },
    is.1,
  )

  cases-unified : (db : Database) → cases_of db (record s { env = e }) ≡ cases_of db s
  unfolding cases_of
  cases-unified db = cases-grown (goals_in s) s.env e s.links s.links [] s.saved (sym (append-nil s.links)) u.made.keeps env.heap.names db (reverse s.frames) is.0.frames

-- two terms were unified
module _ (s : State) (d : ℕ) (e : Env) (a b : Tree) (u : UnifiesEnv s.env e a b) (env : IsEnv e) (is : IsStack s d) where
  pub unifies : UnifiesTerms s (record s { env = e }) a b
  unifies = record {
    unifier = u.unifier;
    is = u.is;
    values = u.made.values;
    lists = list-unified s d e a b u env is;
    cases = cases-unified s d e a b u env is;
    frames = refl;
    count = u.made.count;
    basis = refl;
    goals = refl;
  }

-- two terms were solved: their new variables are in use, and a unifier was put in
module _ (s : State) (d : ℕ) (e : Env) (a b : Tree) (k : ℕ) (u : SolvesEnv s.env e a b k) (env : IsEnv e) (is : IsStack s d) where
  abbrev wide : Env
  wide = counted k s.env

  wider_env : IsEnv wide
  wider_env = env-counted s.env k is.0.env

  at_first : IsStack (record s { env = wide }) d
  at_first = stack-env s d wide (extends-counted s.env k) wider_env is

  stays : Extends s (record s { env = wide })
  stays = extends-env s d wide (extends-counted s.env k) wider_env is

  abbrev unified : UnifiesEnv wide e a b
  unified = record { unifier = u.unifier; is = u.is; made = u.made }

  pub solved-stack : IsStack (record s { env = e }) d
  solved-stack = unified-stack (record s { env = wide }) d e _ _ unified env at_first

  pub solved-lists : (l : Continuation) → IsList s l → IsList (record s { env = e }) l × (goals_of (record s { env = e }) l ≡ bind_goals u.unifier (goals_of s l))
  solved-lists l i =
      let r = stays.lists l i in
      let t = list-unified (record s { env = wide }) d e _ _ unified env at_first l r.0 in
      (t.0, t.1 ∙ ap (bind_goals u.unifier) r.1)

  pub solved-cases : (db : Database) → cases_of db (record s { env = e }) ≡ cases_of db s
  solved-cases db = cases-unified (record s { env = wide }) d e _ _ unified env at_first db ∙ stays.cases db

-- an equation was solved
module _ (s : State) (d : ℕ) (e : Env) (q : Equation) (env : IsEnv e) (is : IsStack s d) where
  abbrev a : Tree
  a = left_of s.env.heap s.env.count q

  abbrev b : Tree
  b = right_of s.env.heap s.env.count q

  solves : SolvesEnv s.env e a b q.new → Solves s (record s { env = e }) q
  solves u = record {
    unifier = u.unifier;
    is = u.is;
    lists = solved-lists s d e a b q.new u env is;
    cases = solved-cases s d e a b q.new u env is;
    frames = refl;
    count = u.made.count;
    basis = refl;
  }

  -- whatever came of it
  pub solve-stack : (r : Outcomes Bool AllocError) → IfOk r (λ fits. fits ≡ true → SolvesEnv s.env e a b q.new) →
      IfOk r (λ fits. fits ≡ false → (unify a b ≡ None) × Stays s.env e) → OnErr r (Stays s.env e) → IsStack (record s { env = e }) d
  solve-stack (Ok true) fits not err = solved-stack s d e a b q.new (fits refl) env is
  solve-stack (Ok false) fits not err = stack-env s d e (not refl).1.extends env is
  solve-stack (Err x) fits not err = stack-env s d e err.extends env is

  pub solve-solves : (r : Outcomes Bool AllocError) → IfOk r (λ fits. fits ≡ true → SolvesEnv s.env e a b q.new) → IfOk r (λ fits. fits ≡ true → Solves s (record s { env = e }) q)
  solve-solves (Ok answer) fits = λ so. solves (fits so)
  solve-solves (Err x) fits = tt

  pub solve-stays : (r : Outcomes Bool AllocError) → IfOk r (λ fits. fits ≡ false → (unify a b ≡ None) × Stays s.env e) →
      IfOk r (λ fits. fits ≡ false → Extends s (record s { env = e }) × (e.count ≡ s.env.count))
  solve-stays (Ok answer) not = λ no. (extends-env s d e (not no).1.extends env is, (not no).1.count)
  solve-stays (Err x) not = tt

  pub solve-none : (r : Outcomes Bool AllocError) → IfOk r (λ fits. fits ≡ false → (unify a b ≡ None) × Stays s.env e) →
      IfOk r (λ fits. fits ≡ false → unify (left_of s.env.heap s.env.count q) (right_of s.env.heap s.env.count q) ≡ None)
  solve-none (Ok answer) not = λ no. (not no).0
  solve-none (Err x) not = tt

-- whatever was refused memory, all stands for what it did
pub err-extends : (s : State) (d : ℕ) (e : Env) → IsEnv e → IsStack s d → (r : Outcomes Bool AllocError) → OnErr r (Stays s.env e) → OnErr r (Extends s (record s { env = e }) × (e.count ≡ s.env.count))
err-extends s d e env is (Ok answer) err = tt
err-extends s d e env is (Err x) err = (extends-env s d e err.extends env is, err.count)

pub extends_same : (s : State) → Extends s s
extends_same s = record { basis = refl; frames = refl; goals = refl; visited = refl; cases = λ db. refl; lists = λ l i. (i, refl); values = λ v f. (f, refl) }

-- whatever a unification answers, the stack stays one
module _ (s : State) (d : ℕ) (e : Env) (a b : Cell) (env : IsEnv e) (is : IsStack s d) where
  pub unify-stack : (r : Outcomes Bool AllocError) → IfOk r (λ fits. fits ≡ true → UnifiesEnv s.env e (value s.env.heap a) (value s.env.heap b)) →
      IfOk r (λ fits. fits ≡ false → (unify (value s.env.heap a) (value s.env.heap b) ≡ None) × (e ≡ s.env)) → OnErr r (e ≡ s.env) → IsStack (record s { env = e }) d
  unify-stack (Ok true) fits not err = unified-stack s d e _ _ (fits refl) env is
  unify-stack (Ok false) fits not err = rw (not refl).1 is
  unify-stack (Err x) fits not err = rw err is

  pub unify-unifies : (r : Outcomes Bool AllocError) → IfOk r (λ fits. fits ≡ true → UnifiesEnv s.env e (value s.env.heap a) (value s.env.heap b)) → IfOk r (λ fits. fits ≡ true → Unifies s (record s { env = e }) a b)
  unify-unifies (Ok answer) fits = λ so. unifies s d e _ _ (fits so) env is
  unify-unifies (Err x) fits = tt

-- whatever the unification of a term with an integer answers
module _ (s : State) (d : ℕ) (e : Env) (t u : Tree) (env : IsEnv e) (is : IsStack s d) where
  pub number-stack : (r : Outcomes Bool AllocError) → IfOk r (λ fits. fits ≡ true → UnifiesEnv s.env e t u) → IfOk r (λ fits. fits ≡ false → Stays s.env e) → OnErr r (Stays s.env e) → IsStack (record s { env = e }) d
  number-stack (Ok true) fits not err = unified-stack s d e t u (fits refl) env is
  number-stack (Ok false) fits not err = stack-env s d e (not refl).extends env is
  number-stack (Err x) fits not err = stack-env s d e err.extends env is

  pub number-unified : (r : Outcomes Bool AllocError) → IfOk r (λ fits. fits ≡ true → UnifiesEnv s.env e t u) → IfOk r (λ fits. fits ≡ true → UnifiesTerms s (record s { env = e }) t u)
  number-unified (Ok answer) fits = λ so. unifies s d e t u (fits so) env is
  number-unified (Err x) fits = tt

pub number-same : (s : State) (d : ℕ) (e : Env) → IsEnv e → IsStack s d → (r : Outcomes Bool AllocError) → IfOk r (λ fits. fits ≡ false → Stays s.env e) → IfOk r (λ fits. fits ≡ false → Extends s (record s { env = e }) × (e.count ≡ s.env.count))
number-same s d e env is (Ok answer) not = λ no. (extends-env s d e (not no).extends env is, (not no).count)
number-same s d e env is (Err x) not = tt

-- whatever came of putting a term
pub put-extends : (old new : Env) (t : Tree) (n : ℕ) (r : Outcomes Cell AllocError) → IfOk r (λ v. PutsTerm old new v t n) → OnErr r (Stays old new) → ExtendsEnv old new
put-extends old new t n (Ok v) ok err = ok.extends
put-extends old new t n (Err x) ok err = err.extends

pub puts-stay : (old new : Env) (t : Tree) (r : Outcomes Cell AllocError) → IfOk r (λ v. Puts old new v t) → OnErr r (Stays old new) → Stays old new
puts-stay old new t (Ok v) ok err = record { extends = ok.extends; slots = ok.slots; count = ok.count }
puts-stay old new t (Err x) ok err = err

pub if_ok : {A E : Type 0} (P Q : A → Type 0) (r : Outcomes A E) → ((a : A) → P a → Q a) → IfOk r P → IfOk r Q
if_ok P Q (Ok a) f k = f a k
if_ok P Q (Err e) f k = tt

pub if_some : {A : Type 0} (P Q : A → Type 0) (r : Option A) → ((a : A) → P a → Q a) → IfSome r P → IfSome r Q
if_some P Q (Some a) f k = f a k
if_some P Q None f k = tt

pub if_none : {A : Type 0} {P Q : Type 0} (r : Option A) → (P → Q) → IfNone r P → IfNone r Q
if_none (Some a) f k = tt
if_none None f k = f k
