-- The clauses of a procedure, tried in their order.
use Rattle.std.proofs.Common.{◌≡◌, ℕ, zero, suc, ◌+◌, ◌-◌, ◌<◌, ◌≤◌, List, [], ◌∷◌, length, take, drop, get_or, filter_map, refl, sym, ap, ◌∙◌, subst, arith, None, option_map, false}
use Rattle.std.specs.List.{cons_option}
use Rattle.plterm.specs.Tree.{Tree}
use Rattle.plsubst.specs.Subst.{shift, bind}
use Rattle.plsubst.specs.Unify.{unify}
use Rattle.platoms.specs.Names.{Table, IsTable, Extends}
use Rattle.platoms.proofs.Extending.{Extends-trans}
use Rattle.plclause.specs.Clause.{Clause}
use Rattle.plcells.specs.declared.cell.Cell.{Cell}
use Rattle.plcells.specs.Store.{renamed as renamed_heap}
use Rattle.plsearch.specs.Types.{Element}
use Rattle.plsearch.specs.Lists.{bind_goals}
use Rattle.plsearch.specs.Forms.{arguments}
use Rattle.plsearch.specs.Moves.{resolve, before_rest, is_true}
use Rattle.plcode.specs.declared.clause.ClauseCode.{ClauseCode}
use Rattle.plcode.specs.declared.key.Key.{Key}
use Rattle.plcode.specs.declared.node.Node.{Node}
use Rattle.plcode.specs.Keys.{admits, IsFirstKey}
use Rattle.plcode.specs.Index.{NoneAdmitted}
use Rattle.plcode.specs.Steps.{Text}
use Rattle.plcode.proofs.Keys.{IsFirstKey-more, heads}
use Rattle.plenv.specs.Env.{Env, IsEnv, renamed}
use Rattle.plenv.specs.Changes.{Keeps}
use Rattle.plenv.proofs.Keeping.{Keeps-refl}
use Rattle.plstack.specs.Places.{called}
use Rattle.plstack.specs.Fits.{IsOwn, AreOwn, Fitted}
use Rattle.plstack.specs.Attempts.{IsAttempt, IsTried}
use Rattle.plstack.proofs.Fitting.{called-arguments}
use Rattle.plstack.proofs.Renaming.{stays, agrees-renamed, values-renamed, called-renamed}

-- a clause and its code at a place
pub record Both (c : Text) (name : List ℕ) (ks : List ClauseCode) (xs : List Clause) (i : ℕ) : Type 0 where
  pub code : ClauseCode
  pub clause : Clause
  pub code_at : take 1 (drop i ks) ≡ code ∷ []
  pub clause_at : take 1 (drop i xs) ≡ clause ∷ []
  pub own : IsOwn c name code clause

pub own-length : (c : Text) (name : List ℕ) (ks : List ClauseCode) (xs : List Clause) → AreOwn c name ks xs → length ks ≡ length xs
own-length c t [] [] a = refl
own-length c t [] (x ∷ xs) a = absurd a
own-length c t (k ∷ ks) [] a = absurd a
own-length c t (k ∷ ks) (x ∷ xs) a = ap suc (own-length c t ks xs a.1)

pub both-at : (c : Text) (name : List ℕ) (ks : List ClauseCode) (xs : List Clause) (i : ℕ) → AreOwn c name ks xs → i < length ks → Both c name ks xs i
both-at c t [] xs i a lt = absurd (omega arith)
both-at c t (k ∷ ks) [] i a lt = absurd a
both-at c t (k ∷ ks) (x ∷ xs) zero a lt = record { code = k; clause = x; code_at = refl; clause_at = refl; own = a.0 }
both-at c t (k ∷ ks) (x ∷ xs) (suc i) a lt =
    let b = both-at c t ks xs i a.1 (omega arith) in
    record { code = b.code; clause = b.clause; code_at = b.code_at; clause_at = b.clause_at; own = b.own }

-- clauses that do not unify are passed over
module _ (d n : ℕ) (t : Tree) (es : List Element) where
  pub one-passed : (x : Clause) (xs : List Clause) → unify t (shift n x.head) ≡ None → filter_map (resolve d n t es) (x ∷ xs) ≡ filter_map (resolve d n t es) xs
  one-passed x xs e =
      ap (λ o. cons_option (option_map (λ (σ : ℕ → Tree). record { goals = before_rest (is_true x.body) d (bind σ (shift n x.body)) (bind_goals σ es); variables = n + x.variables }) o) (filter_map (resolve d n t es) xs)) e

  pub first-passed : (xs : List Clause) (i : ℕ) → i < length xs → ((x : Clause) → take 1 (drop i xs) ≡ x ∷ [] → unify t (shift n x.head) ≡ None) →
      filter_map (resolve d n t es) (drop i xs) ≡ filter_map (resolve d n t es) (drop (suc i) xs)
  first-passed [] i lt apart = absurd (omega arith)
  first-passed (x ∷ xs) zero lt apart = one-passed x xs (apart x refl)
  first-passed (x ∷ xs) (suc i) lt apart = first-passed xs i (omega arith) apart

  pub passed : (xs : List Clause) (from more : ℕ) → ((i : ℕ) → from ≤ i → i < from + more → (x : Clause) → take 1 (drop i xs) ≡ x ∷ [] → unify t (shift n x.head) ≡ None) → from + more ≤ length xs →
      filter_map (resolve d n t es) (drop from xs) ≡ filter_map (resolve d n t es) (drop (from + more) xs)
  passed xs from zero apart le = ap (λ i. filter_map (resolve d n t es) (drop i xs)) (omega arith)
  passed xs from (suc more) apart le =
      first-passed xs from (omega arith) (apart from (omega arith) (omega arith))
      ∙ passed xs (suc from) more (λ i a b. apart i (omega arith) (omega arith)) (omega arith)
      ∙ ap (λ i. filter_map (resolve d n t es) (drop i xs)) (omega arith)

-- a goal in an environment whose table of names has grown
module _ (c : Text) (e : Env) (name : List ℕ) (vs : List Cell) (key : Key) (nodes : List Node) (ks : List ClauseCode) (xs : List Clause) (a : IsAttempt c e name vs key nodes ks xs) (is : IsEnv e) where
  abbrev goal : Tree
  goal = called e.heap name vs

  key-goal : IsFirstKey e.heap.names key (arguments goal)
  key-goal = subst (IsFirstKey e.heap.names key) (sym (called-arguments e.heap name vs)) a.key_is

  -- a clause whose key is not admitted does not unify
  pub parted : (k : ClauseCode) (x : Clause) → IsOwn c name k x → admits key k.key ≡ false → (n : ℕ) → unify goal (shift n x.head) ≡ None
  parted k x own apart = heads e.heap.names is.heap.names key k.key goal x.head key-goal
      (IsFirstKey-more c.names e.heap.names a.laid.table a.names k.key (arguments x.head) own.code.key) apart

  -- nor do those that are passed over
  pub passed-over : (from to : ℕ) → NoneAdmitted key ks from to → to ≤ length ks → (i : ℕ) → from ≤ i → i < to → (x : Clause) → take 1 (drop i xs) ≡ x ∷ [] → unify goal (shift e.count x.head) ≡ None
  passed-over from to none le i low high x there =
      let b = both-at c name ks xs i a.own (omega (arith, high, le)) in
      subst (λ (y : Clause). unify goal (shift e.count y.head) ≡ None) (ap (λ ys. get_or ys 0 x) (sym b.clause_at ∙ there)) (parted b.code b.clause b.own (none i low high b.code b.code_at) e.count)

  module _ (t : Table) (table : IsTable t) (more : Extends e.heap.names t) where
    pub tried-then : (k : ClauseCode) (x : Clause) → IsOwn c name k x → IsTried c (renamed e t) name vs nodes k x
    tried-then k x own = record {
      laid = a.laid;
      nodes_are = a.nodes_are;
      names = Extends-trans c.names e.heap.names t a.names more;
      fit = (values-renamed e t is table more vs a.fit).0;
      own = own;
    }

    pub fitted-then : (new : Env) (base : ℕ) (x : Clause) → Fitted (renamed e t) new (called (renamed_heap e.heap t) name vs) base x → Fitted e new goal base x
    fitted-then new base x f = record {
      unifier = f.unifier;
      is = ap (λ g. unify g (shift e.count x.head)) (sym (called-renamed e t is table more name vs a.fit)) ∙ f.is;
      values = λ v fits.
          let s = (stays e t is table more).values v fits in
          let w = f.values v s.0 in
          (w.0, w.1 ∙ ap (bind f.unifier) s.1);
      variables = λ i lt. f.variables i lt ∙ ap (bind f.unifier) ((agrees-renamed e t is table more).variables i lt);
      own = f.own;
      place = f.place;
      slots = f.slots;
      count = f.count;
    }

    pub unfit-then : (x : Clause) → unify (called (renamed_heap e.heap t) name vs) (shift e.count x.head) ≡ None → unify goal (shift e.count x.head) ≡ None
    unfit-then x u = ap (λ g. unify g (shift e.count x.head)) (sym (called-renamed e t is table more name vs a.fit)) ∙ u

-- how far a search for a clause has come: the environment is that of the call, perhaps with more names, and what was passed over does not fit
pub record Sought (e now : Env) (vs : List Cell) (key : Key) (nodes : List Node) (ks : List ClauseCode) (start from : ℕ) : Type 0 where
  pub back : now ≡ renamed e now.heap.names
  pub keeps : Keeps e now
  pub within : from ≤ length ks
  pub low : start ≤ from
  pub passed_by : (c : Text) (n : List ℕ) (xs : List Clause) → IsAttempt c e n vs key nodes ks xs → (d : ℕ) (es : List Element) →
      filter_map (resolve d e.count (called e.heap n vs) es) (drop start xs) ≡ filter_map (resolve d e.count (called e.heap n vs) es) (drop from xs)

pub sought-first : (e : Env) (vs : List Cell) (key : Key) (nodes : List Node) (ks : List ClauseCode) (start : ℕ) → start ≤ length ks → Sought e e vs key nodes ks start start
sought-first e vs key nodes ks start le = record { back = refl; keeps = Keeps-refl e; within = le; low = omega arith; passed_by = λ c n xs a d es. refl }

-- the clauses up to a place are passed over
pub up-to : (c : Text) (e : Env) (name : List ℕ) (vs : List Cell) (key : Key) (nodes : List Node) (ks : List ClauseCode) (xs : List Clause) (a : IsAttempt c e name vs key nodes ks xs) (is : IsEnv e) (from to : ℕ) →
    NoneAdmitted key ks from to → from ≤ to → to ≤ length ks → (d : ℕ) (es : List Element) →
    filter_map (resolve d e.count (called e.heap name vs) es) (drop from xs) ≡ filter_map (resolve d e.count (called e.heap name vs) es) (drop to xs)
up-to c e name vs key nodes ks xs a is from to none low high d es =
    let more : ℕ = to - from in
    let there : from + more ≡ to = omega (arith, low) in
    passed d e.count (called e.heap name vs) es xs from more
    (λ i le lt x at. passed-over c e name vs key nodes ks xs a is from to none high i le (omega (arith, lt, there)) x at)
    (omega (arith, there, high, own-length c name ks xs a.own))
    ∙ ap (λ i. filter_map (resolve d e.count (called e.heap name vs) es) (drop i xs)) there
