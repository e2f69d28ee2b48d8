-- What is left of a call behind a clause, and the clause's body before the rest.
use Rattle.std.proofs.Common.{◌≡◌, ℕ, Bool, true, false, suc, ◌+◌, ◌-◌, ◌≤◌, List, [], ◌∷◌, ◌++◌, length, map, refl, sym, ap, ◌∙◌, subst, arith, reverse, Option, Some, None, if◌then◌else◌}
use Rattle.plsubst.specs.Subst.{bind}
use Rattle.plclause.specs.Clause.{Clause}
use Rattle.plsearch.specs.Types.{Goal, Case}
use Rattle.plsearch.specs.Moves.{before_rest, is_true}
use Rattle.plsearch.specs.Engine.{deeper}
use Rattle.plcode.specs.Clauses.{IsCodeOf}
use Rattle.plcode.specs.Converted.{AreConverted}
use Rattle.plenv.specs.Env.{over}
use Rattle.plenv.specs.Rows.{AllBelowEach}
use Rattle.pllinks.specs.declared.item.ClauseGoals.{ClauseGoals}
use Rattle.pllinks.specs.declared.item.Portion.TheVariants as items
use Rattle.pllinks.specs.declared.link.Continuation.{Continuation}
use Rattle.pllinks.specs.Lists.{goal_of, run_goals, all_elements, IsItem}
use Rattle.pllinks.specs.Links.{alone, done, list_at}
use Rattle.plstack.specs.declared.frame.Point.{Point}
use Rattle.plstack.specs.declared.frame.Clauses.{Clauses}
use Rattle.plstack.specs.declared.frame.Resume.TheVariants as resumes
use Rattle.plstack.specs.declared.frame.Frame.{Frame}
use Rattle.plstack.specs.declared.frame.Frame.TheVariants.{Open}
use Rattle.plstack.specs.declared.fit.Hit.{Hit}
use Rattle.plstack.specs.Places.{Database}
use Rattle.plstack.specs.Frames.{AreOlder}
use Rattle.plstack.specs.State.{State, IsStack, goals_in, goals_of, place_of, cases_of, IsList, CountsUp}
use Rattle.plstack.specs.Cutting.{Settles}
use Rattle.plstack.specs.StaticCalls.{body_at, IsCalling, GoesOn, PushesCall}
use Rattle.plstack.proofs.Replacing.{taken-cases, other-stack, other-cases, none-stack, none-cases, none-older}
use Rattle.plstack.proofs.Stacks.{depth_is}
use Rattle.plstack.proofs.Lists.{first-elements, done-elements}
use Rattle.plstack.specs.Levels.{Sort, Choosing, kinds_of, FitsIn, Precedes}
use Rattle.plstack.proofs.Naming.{before-fits}
use Rattle.plstack.proofs.Frames.{reverse-push}

-- the newest frame, which is a call, was taken off
module _ (s : State) (d : ℕ) (is : IsStack s d) (p : Point) (c : Clauses) (calling : IsCalling s p c) (rest : List Frame) (f : Frame) (taken : s.frames ≡ rest ++ f ∷ []) where
  -- the clauses from a number on are left
  module _ (next : ℕ) (frames : List Frame) (pushed : frames ≡ rest ++ Open p (resumes.Clauses (record { procedure = c.procedure; count = c.count; next = next })) ∷ []) where
    abbrev c' : Clauses
    c' = record { procedure = c.procedure; count = c.count; next = next }

    pub replaced-stack : IsStack (record s { frames = frames }) d
    replaced-stack = other-stack s d is p (resumes.Clauses c) calling.rest calling.top rest f taken (resumes.Clauses c') refl refl refl (λ fits. fits) tt frames pushed

    pub replaced : (db : Database) → GoesOn db s (record s { frames = frames }) p c (Some next)
    replaced db = record {
      below = cases_of db (record s { frames = rest });
      was = taken-cases s d is p (resumes.Clauses c) calling.rest calling.top rest f taken db;
      cases = other-cases s d is p (resumes.Clauses c) calling.rest calling.top rest f taken (resumes.Clauses c') refl refl refl (λ fits. fits) tt frames pushed db;
    }

  -- no clause is left
  module _ (frames : List Frame) (up : CountsUp 1 (reverse rest) (reverse frames)) where
    pub emptied-stack : IsStack (record s { frames = frames }) d
    emptied-stack = none-stack s d is p (resumes.Clauses c) calling.rest calling.top rest f taken frames up refl

    pub emptied : (db : Database) → GoesOn db s (record s { frames = frames }) p c None
    emptied db = record {
      below = cases_of db (record s { frames = rest });
      was = taken-cases s d is p (resumes.Clauses c) calling.rest calling.top rest f taken db;
      cases = none-cases s d is p (resumes.Clauses c) calling.rest calling.top rest f taken frames up db;
    }

    pub emptied-older : AreOlder p.marks (reverse frames)
    emptied-older = none-older s d is p (resumes.Clauses c) calling.rest calling.top rest f taken frames up

pub goes_settled : (db : Database) (s mid new : State) (p : Point) (c : Clauses) (next : Option ℕ) → GoesOn db s mid p c next → Settles mid new → GoesOn db s new p c next
goes_settled db s mid new p c next g y = record { below = g.below; was = g.was; cases = y.cases db ∙ g.cases }

pub place-framed : (s new : State) → new ≡ record s { frames = new.frames } → place_of new ≡ place_of s
place-framed s new e = ap (λ (x : State). place_of x) e

-- a clause's body before a list with a number
module _ (s : State) (d : ℕ) (is : IsStack s d) (hit : Hit) (x : Clause) (code : IsCodeOf s.basis.code.text hit.clause x) (slots : hit.base + hit.clause.variables ≤ length s.env.slots)
    (rest : Continuation) (behind : ℕ) (there : IsList s (alone behind)) (same : goals_of s (alone behind) ≡ goals_of s rest) (level : ℕ) where
  abbrev run : ClauseGoals
  run = record { position = hit.clause.body; owed = 0; base = hit.base; «end» = hit.base + hit.clause.variables; level = level }

  own-goals : run_goals (goals_in s) run ≡ x.body ∷ []
  own-goals = code.body.goals

  own-item : IsItem (goals_in s) s.env.heap (length s.env.slots) (items.Clause run)
  own-item = (record { width = x.variables; below = subst (AllBelowEach x.variables) (sym own-goals) (code.sound.body_below, tt); within = omega (arith, code.variables); converted = subst AreConverted (sym own-goals) (code.sound.converted_body, tt) }, slots)

  there-if : (b : Bool) → IsList s (if b then alone behind else record { run = record { position = hit.clause.body; owed = 0; base = hit.base; «end» = hit.base + hit.clause.variables; level = level }; rest = behind })
  there-if true = there
  there-if false = record { there = there.there; items = (own-item, there.items.1) }

  pub body-there : IsList s (body_at hit behind level)
  body-there = there-if hit.clause.is_fact

  goals-if : (b : Bool) → goals_of s (if b then alone behind else record { run = record { position = hit.clause.body; owed = 0; base = hit.base; «end» = hit.base + hit.clause.variables; level = level }; rest = behind })
      ≡ before_rest b level (bind (over s.env hit.base) x.body) (goals_of s rest)
  goals-if true = same
  goals-if false =
      first-elements s (items.Clause run) (list_at s.links behind)
      ∙ ap (λ ts. map (goal_of s.env run) ts ++ all_elements (goals_in s) s.env (list_at s.links behind)) own-goals
      ∙ ap (λ es. Goal level (bind (over s.env hit.base) x.body) ∷ es) (sym (done-elements s is.0 done (refl, refl) (list_at s.links behind)) ∙ same)

  pub body-goals : goals_of s (body_at hit behind level) ≡ before_rest (is_true x.body) level (bind (over s.env hit.base) x.body) (goals_of s rest)
  body-goals = goals-if hit.clause.is_fact ∙ ap (λ f. before_rest f level (bind (over s.env hit.base) x.body) (goals_of s rest)) code.fact

  pub body-fits : (ks : List Sort) → Precedes ks level (goals_of s rest) → FitsIn ks (goals_of s (body_at hit behind level))
  body-fits ks p = subst (FitsIn ks) (sym body-goals) (before-fits ks (is_true x.body) level (bind (over s.env hit.base) x.body) (goals_of s rest) p)

-- the kinds where a call goes on, or nothing is left of it
pub pushes-kinds : (p : Point) (c : Clauses) (next : Option ℕ) (old new : List Frame) → PushesCall p c next old new → kinds_of (reverse new) ≡ Choosing ∷ kinds_of (reverse old)
pushes-kinds p c None old new up = up.kinds
pushes-kinds p c (Some n) old new pushed = ap (λ fs. kinds_of (reverse fs)) pushed ∙ ap kinds_of (reverse-push old (Open p (resumes.Clauses (record { procedure = c.procedure; count = c.count; next = n }))))

-- another list is visited
pub goes_visited : (db : Database) (s new : State) (l : Continuation) (p : Point) (c : Clauses) (next : Option ℕ) → GoesOn db (record s { goals = l }) new p c next → GoesOn db s new p c next
unfolding cases_of
goes_visited db s new l p c next g = record { below = g.below; was = g.was; cases = g.cases }

-- the level of the innermost case
pub level-of : (db : Database) (s t : State) (d : ℕ) → IsStack s d → s ≡ t → (x : Case) (below : List Case) → cases_of db t ≡ x ∷ below → d - 1 ≡ deeper below 0
level-of db s t d is same x below e =
    let inner : d ≡ suc (deeper below 0) = depth_is db s d is.1 ∙ ap (λ y. deeper (cases_of db y) 0) same ∙ ap (λ cs. deeper cs 0) e in
    omega (arith, inner)
