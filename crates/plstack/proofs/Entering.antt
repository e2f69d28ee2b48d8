-- A call that is tried: the clause that fits is entered, or none is left.
use Rattle.std.proofs.Common.{◌≡◌, ℕ, List, [], ◌∷◌, ◌++◌, drop, reverse, sym, ap, ap₂, ◌∙◌, subst, length, arith, ◌-◌, refl}
use Rattle.plterm.specs.Tree.{Tree}
use Rattle.plsubst.specs.Subst.{bind}
use Rattle.plclause.specs.Clause.{Clause}
use Rattle.plcells.specs.declared.cell.Cell.{Cell}
use Rattle.plsearch.specs.Types.{Element, Resolvent, Case, Choice}
use Rattle.plsearch.specs.Lists.{bind_goals}
use Rattle.plsearch.specs.Moves.{before_rest, is_true}
use Rattle.plsearch.specs.Engine.{deeper}
use Rattle.plcode.specs.Clauses.{IsCodeOf}
use Rattle.plstack.specs.Basis.{Basis}
use Rattle.plenv.specs.Env.{Env, cut, over}
use Rattle.pllinks.specs.Links.{alone}
use Rattle.pllinks.specs.declared.link.Continuation.{Continuation}
use Rattle.plstack.specs.declared.frame.Point.{Point}
use Rattle.plstack.specs.declared.frame.Clauses.{Clauses}
use Rattle.plstack.specs.declared.frame.Resume.TheVariants as resumes
use Rattle.plstack.specs.declared.frame.Frame.{Frame}
use Rattle.plstack.specs.declared.frame.Frame.TheVariants.{Plain, Open}
use Rattle.plstack.specs.declared.fit.Hit.{Hit}
use Rattle.plstack.specs.Places.{Database, called, places_left, size}
use Rattle.plstack.specs.Levels.{Choosing, kinds_of, FitsIn, Precedes}
use Rattle.plstack.specs.State.{State, IsStack, goals_of, kinds_in, place_of, cases_of, IsList, AddsList, Retries, IsClauses, IsUndo, BeginsWith, HasClauses}
use Rattle.plstack.specs.Calls.{places_of, Calls, CallsNone, StaysAt}
use Rattle.plstack.specs.StaticCalls.{AtCall, IsCalling, further, onward, Binds, Enters, Hits}
use Rattle.plstack.proofs.Frames.{reverse-push}
use Rattle.plstack.proofs.Naming.{fits-bound, first-precedes, kinds-length}
use Rattle.plstack.proofs.Stacks.{popped-cases, popped-stack, is-last}
use Rattle.plstack.proofs.Opened.{OpensCall}

-- the list behind the goal has a number
module _ (s t : State) (p : Point) (c : Clauses) (n : ℕ) (at : AtCall s p c) (adds : AddsList s t (alone n) (goals_of s p.list)) where
  pub at-numbered : AtCall t p c
  at-numbered = record {
    calling = record { rest = at.calling.rest; top = adds.stays.frames ∙ at.calling.top };
    now = ap (cut p.marks.env) adds.env ∙ at.now ∙ sym adds.env;
    list = (adds.stays.lists p.list at.list).0;
    fits =
        subst (λ fs. FitsIn (drop 1 (kinds_of (reverse fs))) (goals_of t p.list)) (sym adds.stays.frames)
        (subst (FitsIn (drop 1 (kinds_in s))) (sym (adds.stays.lists p.list at.list).1) at.fits);
  }

  pub calling-found : (u : State) → u ≡ record t { env = u.env } → IsCalling u p c
  calling-found u same = record { rest = at.calling.rest; top = ap (λ (x : State). x.frames) same ∙ adds.stays.frames ∙ at.calling.top }

  -- a clause fits, and the unifier is put into all
  module _ (u : State) (same : u ≡ record t { env = u.env }) (binds : Binds t u) where
    pub behind-found : IsList u (alone n)
    behind-found = (binds.lists (alone n) adds.there).0

    list-found : goals_of u (alone n) ≡ goals_of u p.list
    list-found =
        (binds.lists (alone n) adds.there).1
        ∙ ap (bind_goals binds.unifier) (adds.is ∙ sym (adds.stays.lists p.list at.list).1)
        ∙ sym (binds.lists p.list at-numbered.list).1

    -- it fits in the cases outside of the call
    pub behind-fits : FitsIn (drop 1 (kinds_in u)) (goals_of u (alone n))
    behind-fits =
        let goals : goals_of u (alone n) ≡ bind_goals binds.unifier (goals_of s p.list) = (binds.lists (alone n) adds.there).1 ∙ ap (bind_goals binds.unifier) adds.is in
        let frames : u.frames ≡ s.frames = ap (λ (x : State). x.frames) same ∙ adds.stays.frames in
        subst (λ fs. FitsIn (drop 1 (kinds_of (reverse fs))) (goals_of u (alone n))) (sym frames)
        (subst (FitsIn (drop 1 (kinds_in s))) (sym goals) (fits-bound (drop 1 (kinds_in s)) binds.unifier (goals_of s p.list) at.fits))

    pub code-found : (hit : Hit) (x : Clause) → IsCodeOf t.basis.code.text hit.clause x → IsCodeOf u.basis.code.text hit.clause x
    code-found hit x code = subst (λ (b : Basis). IsCodeOf b.code.text hit.clause x) (sym (ap (λ (y : State). y.basis) same)) code

    pub retries-entered : (db : Database) (new : State) (hit : Hit) → cases_of db u ≡ cases_of db t → Hits db t u p c hit → Enters db u new p c hit n → Retries db s new
    retries-entered db new hit cases hits enters =
        let d : ℕ = deeper enters.goes.below 0 in
        let left : List Resolvent = further db u d p c (onward hit.next (db.statics c.procedure).clauses) in
        let body : Tree = bind (over u.env hit.base) hits.clause.body in
        record {
          others = left;
          older = enters.goes.below;
          was =
              sym (cases ∙ adds.stays.cases db)
              ∙ enters.goes.was
              ∙ ap (λ ps. Choice ps ∷ enters.goes.below) (hits.left d)
              ∙ ap (λ es. Choice (record { goals = before_rest (is_true hits.clause.body) d body es; variables = u.env.count } ∷ left) ∷ enters.goes.below) (sym list-found)
              ∙ ap (λ q. Choice (q ∷ left) ∷ enters.goes.below) (sym (enters.place hits.clause (code-found hit hits.clause hits.code)));
          cases = enters.goes.cases;
        }

-- no clause of the innermost call is left
pub none-entered : (db : Database) (s : State) (p : Point) (c : Clauses) → IsCalling s p c → ((d : ℕ) → further db s d p c (drop c.next (db.statics c.procedure).clauses) ≡ []) →
    (below : List Case) × (cases_of db s ≡ Choice [] ∷ below)
none-entered db s p c calling none =
    let below = cases_of db (record s { frames = calling.rest }) in
    (below, popped-cases db s calling.rest (Open p (resumes.Clauses c)) calling.top ∙ ap (λ ps. Choice ps ∷ below) (none (deeper below 0)))

places_in : List Resolvent → Case → List Resolvent
places_in d (Choice ps) = ps
places_in d x = d

first_case : Case → List Case → Case
first_case d [] = d
first_case d (x ∷ xs) = x

behind_first : List Case → List Case
behind_first [] = []
behind_first (x ∷ xs) = xs

-- a choice before cases is the same
choices-same : (ps qs : List Resolvent) (xs ys : List Case) → Choice ps ∷ xs ≡ Choice qs ∷ ys → (ps ≡ qs) × (xs ≡ ys)
unfolding places_in first_case behind_first
choices-same ps qs xs ys e = (ap (λ zs. places_in ps (first_case (Choice ps) zs)) e, ap behind_first e)

-- a call of a goal before a list
module _ (s t u : State) (procedure n : ℕ) (values : List Cell) (rest : Continuation) (adds : AddsList s t (alone n) (goals_of s rest)) (opens : OpensCall t u procedure values (alone n)) (db : Database) where
  abbrev goal : Tree
  goal = called s.env.heap (db.statics procedure).name values

  abbrev cs : List Clause
  cs = (db.statics procedure).clauses

  numbered-places : places_of db t (called t.env.heap (db.statics procedure).name values) (alone n) cs ≡ places_of db s goal rest cs
  numbered-places =
      ap₂ (λ (xs : List Case) (e : Env). places_left (deeper xs 0) e (called e.heap (db.statics procedure).name values) (goals_of t (alone n)) cs) (adds.stays.cases db) adds.env
      ∙ ap (λ es. places_left (deeper (cases_of db s) 0) s.env goal es cs) adds.is

  opened : cases_of db u ≡ Choice (places_of db s goal rest cs) ∷ cases_of db s
  opened = opens.cases db ∙ ap₂ (λ ps xs. Choice ps ∷ xs) numbered-places (adds.stays.cases db)

  pub calls-entered : (new : State) → Retries db u new → Calls db s new goal rest cs
  calls-entered new r =
      let same = choices-same (places_of db s goal rest cs) (place_of new ∷ r.others) (cases_of db s) r.older (sym opened ∙ r.was) in
      record { others = r.others; places = same.0; cases = r.cases ∙ ap (λ xs. Choice r.others ∷ xs) (sym same.1) }

  pub calls-none : (new : State) → cases_of db u ≡ Choice [] ∷ cases_of db new → CallsNone db s new goal rest cs
  calls-none new e =
      let same = choices-same (places_of db s goal rest cs) [] (cases_of db s) (cases_of db new) (sym opened ∙ e) in
      record { none = same.0; cases = sym same.1 }

pub stays-numbered : (s t : State) (n : ℕ) (es : List Element) → AddsList s t (alone n) es → StaysAt s t
stays-numbered s t n es adds = record {
  cases = adds.stays.cases;
  place = ap₂ (λ gs k. record { goals = gs; variables = k }) adds.stays.visited (ap (λ (e : Env). e.count) adds.env);
}

without : (s : State) (rest : List Frame) (db : Database) (x : Case) (below : List Case) → cases_of db s ≡ x ∷ below → (f : Frame) → IsClauses f → s.frames ≡ rest ++ f ∷ [] →
    cases_of db (record s { frames = rest }) ≡ below
unfolding behind_first
without s rest db x below e (Plain n) i is = absurd i
without s rest db x below e (Open p (resumes.Clauses c)) i is = ap behind_first (sym (popped-cases db s rest (Open p (resumes.Clauses c)) is) ∙ e)
without s rest db x below e (Open p (resumes.Walk w)) i is = absurd i
without s rest db x below e (Open p (resumes.Answers a)) i is = absurd i
without s rest db x below e (Open p resumes.List) i is = absurd i
without s rest db x below e (Open p (resumes.Handle y)) i is = absurd i

-- without the innermost case, a call
pub left-call : (s : State) (rest : List Frame) (f : Frame) → s.frames ≡ rest ++ f ∷ [] → HasClauses s → (db : Database) (x : Case) (below : List Case) → cases_of db s ≡ x ∷ below →
    cases_of db (record s { frames = rest }) ≡ below
left-call s rest f popped has db x below e = without s rest db x below e f (subst (BeginsWith IsClauses) (ap reverse popped ∙ reverse-push rest f) has) popped

-- a body before the list of the innermost call, at its level
pub enters-precede : (s : State) (d : ℕ) → IsStack s d → (p : Point) (c : Clauses) → IsCalling s p c → (k : ℕ) → k ≡ d - 1 → (es : List Element) → FitsIn (drop 1 (kinds_in s)) es → Precedes (kinds_in s) k es
enters-precede s d is p c calling k level es f =
    let kinds : kinds_in s ≡ Choosing ∷ kinds_of (reverse calling.rest) = ap (λ fs. kinds_of (reverse fs)) calling.top ∙ ap kinds_of (reverse-push calling.rest (Open p (resumes.Clauses c))) in
    first-precedes (kinds_in s) (kinds_of (reverse calling.rest)) k es kinds (omega (arith, ap length kinds, kinds-length (reverse s.frames), is.1, level)) (subst (λ ks. FitsIn (drop 1 ks) es) kinds f)

pub left-stack : (s : State) (d : ℕ) → IsStack s d → (rest : List Frame) (f : Frame) → s.frames ≡ rest ++ f ∷ [] → HasClauses s → IsStack (record s { frames = rest; goals = alone 0 }) (d - 1)
left-stack s d is rest f popped has =
    let t = popped-stack s d rest f popped is (stays f (is-last IsClauses s.frames rest f popped has)) in
    (t.0, one f (is-last IsClauses s.frames rest f popped has) ∙ t.1)
  where
    one : (f : Frame) → IsClauses f → d - 1 ≡ d - size f
    one (Plain n) i = absurd i
    one (Open p (resumes.Clauses c)) i = refl
    one (Open p (resumes.Walk w)) i = absurd i
    one (Open p (resumes.Answers a)) i = absurd i
    one (Open p resumes.List) i = absurd i
    one (Open p (resumes.Handle y)) i = absurd i

    stays : (f : Frame) → IsClauses f → IsUndo f → ⊥
    stays (Plain n) i u = u
    stays (Open p (resumes.Clauses c)) i u = u
    stays (Open p (resumes.Walk w)) i u = u
    stays (Open p (resumes.Answers a)) i u = u
    stays (Open p resumes.List) i u = u
    stays (Open p (resumes.Handle y)) i u = i
