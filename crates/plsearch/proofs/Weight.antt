-- Each turn takes a step or an answer, or makes the machine lighter: so turns come to an end.
use Rattle.std.specs.Prelude.{not}
use Rattle.std.proofs.Common.{◌≡◌, ℕ, zero, suc, ◌+◌, ◌≤◌, inl, inr, List, [], ◌∷◌, length, refl, ap, arith, Bool, true, false, if◌then◌else◌, Option, Some, None}
use Rattle.std.specs.Option.{option_map}
use Rattle.plevent.specs.Search.{Item, Ask, Answer}
use Rattle.plevent.specs.declared.request.Request.TheVariants.{EraseOne}
use Rattle.plevent.specs.declared.update.ClauseName.{ClauseName}
use Rattle.plevent.specs.declared.update.Update.{Update}
use Rattle.plevent.specs.declared.update.Update.TheVariants.{Erase}
use Rattle.pltx.specs.Own.{any_open, ending, erased_in, made, target_at}
use Rattle.plprogram.specs.Program.{Program}
use Rattle.plterm.specs.Tree.{Tree}
use Rattle.plterm.specs.Variables.{variables, copied}
use Rattle.plsubst.specs.Subst.{bind}
use Rattle.plsubst.specs.Unify.{unify}
use Rattle.plsearch.specs.Types.{Catch, Gather, Undo, Throw, Result, Fail, Kind, Commit, Never, Until, Collect, Transact, Question, Element, Goal, Marker, Raise, Asking, Resolvent, Case, Choice, Mark, Handle, Handler, Local, Move, Give, Go, Asks, End, Pass, Return, Keep, Again, Anew, Supply}
use Rattle.plsearch.specs.Lists.{bind_kind, bind_element, bind_goals}
use Rattle.plsearch.specs.Running.{Runnable, Runs, Raises, runnable}
use Rattle.plbuiltin.specs.Solution.{Solution}
use Rattle.plsearch.specs.Collecting.{copies_from, dropped, gathered}
use Rattle.plsearch.specs.Rows.{select, asked, erasing, published, meet, solved}
use Rattle.plsearch.specs.Moves.{publishing}
use Rattle.plsearch.specs.Replies.{answered, founded}
use Rattle.plsearch.specs.Handlers.{has, recovers, met_by, goes_on, resume}
use Rattle.plsearch.specs.Engine.{left, deeper}
use Rattle.plsearch.specs.Machines.Machine.{Mode, At, Back, Machine, move, step, ask, meets, visits, choose, return, backs, turn_in, turn}
use Rattle.plsearch.specs.Machines.Weight.{kind_weight, element_weight, goals_weight, place_weight, weight, Lighter}

-- a substitution changes no weight
kind-bound : (σ : ℕ → Tree) (m : Kind) → kind_weight (bind_kind σ m) ≡ kind_weight m
kind-bound σ Commit = refl
kind-bound σ Never = refl
kind-bound σ Until = refl
kind-bound σ (Collect t) = refl
kind-bound σ (Transact d) = refl

element-bound : (σ : ℕ → Tree) (e : Element) → element_weight (bind_element σ e) ≡ element_weight e
element-bound σ (Goal k t) = refl
element-bound σ (Marker m l) = kind-bound σ m
element-bound σ (Raise b) = refl
element-bound σ (Asking q) = refl

goals-bound : (σ : ℕ → Tree) (es : List Element) → goals_weight (bind_goals σ es) ≡ goals_weight es
goals-bound σ [] = refl
goals-bound σ (e ∷ es) = let one = element-bound σ e in let others = goals-bound σ es in omega (arith, one, others)

abbrev return_weight : Return → ℕ
return_weight (Keep r w) = 1
return_weight (Again p w) = place_weight p
return_weight (Anew p w) = place_weight p + 1

-- a handler weighs as much as what it may go on with
resume-weight : (h : Handler) (p : Resolvent) (d : ℕ) (r : Result) (w : Local) → return_weight (resume h p d r w) ≤ place_weight p + 3
unfolding resume
resume-weight (Catch c r) p d (Throw b ls) w = go (has d ls)
  where
    recovers-weight : (x : Runnable) (es : List Element) (n : ℕ) → goals_weight es ≡ goals_weight p.goals → return_weight (recovers x d es n w) ≤ place_weight p + 3
    recovers-weight (Runs g) es n same = omega (arith, same)
    recovers-weight (Raises e) es n same = omega arith

    met-weight : (x : Option (ℕ → Tree)) → return_weight (met_by x r b ls p d w) ≤ place_weight p + 3
    met-weight None = omega arith
    met-weight (Some σ) = recovers-weight (runnable (bind σ r)) (bind_goals σ p.goals) (p.variables + length (variables b)) (goals-bound σ p.goals)

    go : (x : Bool) → return_weight (if x then met_by (unify c (copied p.variables b)) r b ls p d w else Keep (Throw b ls) w) ≤ place_weight p + 3
    go false = omega arith
    go true = met-weight (unify c (copied p.variables b))
resume-weight (Catch c r) p d x w = omega arith
resume-weight (Gather l) p d Fail w = goes (gathered l (copies_from d w.kept) p.variables)
  where
    goes : (s : Solution) → return_weight (goes_on (solved p.goals p.variables s) (dropped d w)) ≤ place_weight p + 3
    goes s = from (unify s.left s.right)
      where
        from : (o : Option (ℕ → Tree)) → return_weight (goes_on (option_map (λ σ. record { goals = bind_goals σ p.goals; variables = p.variables + s.new }) o) (dropped d w)) ≤ place_weight p + 3
        from None = omega arith
        from (Some σ) = omega (arith, goals-bound σ p.goals)
resume-weight (Gather l) p d x w = omega arith
resume-weight Undo p d Fail w = omega arith
resume-weight Undo p d (Throw b ls) w = omega arith
resume-weight Undo p d x w = omega arith

-- the machine at a goal list
abbrev at_goals : Resolvent → List Case → Supply → Machine
at_goals p cases run = record { mode = At p; cases = cases; run = run }

move-run : (cases : List Case) (run : Supply) (m : Move) → left (move cases run m).run ≡ left run
move-run cases run (Give r w) = refl
move-run cases run (Go cs p w) = refl

lighter-step : (cases : List Case) (row : Local → Move) (p : Resolvent) (run : Supply) → Lighter (at_goals p cases run) (step cases row run run.steps)
unfolding weight
lighter-step cases row p run = go run.steps refl
  where
    go : (n : ℕ) → run.steps ≡ n → Lighter (at_goals p cases run) (step cases row run n)
    go zero is = inr (refl, omega arith)
    go (suc n) is = inl (omega (arith, is, move-run cases (record run { steps = n }) (row run.local)))

lighter-ask : (cases : List Case) (e : Element) (es : List Element) (n : ℕ) (q : Item) (run : Supply) →
    Lighter (at_goals (record { goals = e ∷ es; variables = n }) cases run) (ask cases e es n q run run.answers)
unfolding weight
lighter-ask cases e es n q run = go run.answers refl
  where
    go : (xs : List Answer) → run.answers ≡ xs → Lighter (at_goals (record { goals = e ∷ es; variables = n }) cases run) (ask cases e es n q run xs)
    go [] is = inr (refl, omega arith)
    go (a ∷ more) is = inl (omega (arith, ap length is, move-run cases (record run { answers = more; below = founded e a run.below }) (answered e a (deeper cases 0) es n run.local)))

-- what is published is lighter than the marker before it
publishing-weight : (us : List Update) (es : List Element) → goals_weight (publishing us es) ≤ 2 + goals_weight es
publishing-weight [] es = omega arith
publishing-weight (u ∷ us) es = omega arith

lighter-erasing : (P : Program) (cases : List Case) (x : ClauseName) (es : List Element) (n : ℕ) (run : Supply) →
    Lighter (at_goals (record { goals = Asking (Question.Erase x) ∷ es; variables = n }) cases run) (meets P cases (Asking (Question.Erase x)) es n run (erasing x run.local))
unfolding weight
lighter-erasing P cases x es n run = go (not (any_open run.local.own)) (erased_in (target_at run.local.own.base x) run.local.own.updates)
  where
    go : (b c : Bool) → Lighter (at_goals (record { goals = Asking (Question.Erase x) ∷ es; variables = n }) cases run)
        (meets P cases (Asking (Question.Erase x)) es n run (if b then Asks (Ask (EraseOne x)) else (if c then End Fail run.local else Pass (record run.local { own = made (Erase x) run.local.own }))))
    go true c = lighter-ask cases (Asking (Question.Erase x)) es n (Ask (EraseOne x)) run
    go false true = inr (refl, omega arith)
    go false false = inr (refl, omega arith)

lighter-meets : (P : Program) (cases : List Case) (e : Element) (es : List Element) (n : ℕ) (run : Supply) →
    Lighter (at_goals (record { goals = e ∷ es; variables = n }) cases run) (meets P cases e es n run (meet e es run.local))
unfolding weight meet
lighter-meets P cases (Goal k t) es n run = lighter-step cases (select P run.below k t (deeper cases 0) es n) (record { goals = Goal k t ∷ es; variables = n }) run
lighter-meets P cases (Marker Commit l) es n run = inr (refl, omega arith)
lighter-meets P cases (Marker Never l) es n run = inr (refl, omega arith)
lighter-meets P cases (Marker Until l) es n run = inr (refl, omega arith)
lighter-meets P cases (Marker (Collect t) l) es n run = inr (refl, omega arith)
lighter-meets P cases (Marker (Transact d) l) es n run = inr (refl, omega (arith, publishing-weight (published (ending true run.local.own)) es))
lighter-meets P cases (Raise b) es n run = inr (refl, omega arith)
lighter-meets P cases (Asking (Question.Erase x)) es n run = lighter-erasing P cases x es n run
lighter-meets P cases (Asking q) es n run = lighter-ask cases (Asking q) es n (asked q) run

lighter-choose : (cases : List Case) (run : Supply) (ps : List Resolvent) (r : Result) → Lighter (record { mode = Back r; cases = Choice ps ∷ cases; run = run }) (choose cases run ps r)
unfolding weight
lighter-choose cases run (p ∷ ps) Fail = inr (refl, omega arith)
lighter-choose cases run [] Fail = inr (refl, omega arith)
lighter-choose cases run (p ∷ ps) r = inr (refl, omega arith)
lighter-choose cases run [] r = inr (refl, omega arith)

lighter-return : (cases : List Case) (run : Supply) (r : Result) (h : Handler) (p : Resolvent) (b : Return) → return_weight b ≤ place_weight p + 3 →
    Lighter (record { mode = Back r; cases = Handle h p ∷ cases; run = run }) (return cases run b)
unfolding weight
lighter-return cases run r h q (Keep r' w) le = inr (refl, omega arith)
lighter-return cases run r h q (Again p w) le = inr (refl, omega arith)
lighter-return cases run r h q (Anew p w) le = inr (refl, omega arith)

lighter-mark : (P : Program) (cases : List Case) (run : Supply) (r : Result) (l : ℕ) → Lighter (record { mode = Back r; cases = Mark l ∷ cases; run = run }) (backs r run (Mark l ∷ cases))
unfolding weight
lighter-mark P cases run r l = inr (refl, omega arith)

lighter-visits : (P : Program) (cases : List Case) (es : List Element) (n : ℕ) (run : Supply) →
    Lighter (at_goals (record { goals = es; variables = n }) cases run) (visits P cases es n run)
unfolding weight
lighter-visits P cases [] n run = inr (refl, omega arith)
lighter-visits P cases (e ∷ es) n run = lighter-meets P cases e es n run

-- a turn that is not the end makes the machine lighter, or takes a step or an answer
pub lighter-turn : (P : Program) (m : Machine) → ((r : Result) → m.mode ≡ Back r → m.cases ≡ [] → ⊥) → Lighter m (turn P m)
unfolding turn
lighter-turn P m over = go m.mode m.cases refl refl
  where
    go : (mode : Mode) (cases : List Case) → m.mode ≡ mode → m.cases ≡ cases → Lighter (record { mode = mode; cases = cases; run = m.run }) (turn_in P cases m.run mode)
    go (At p) cases is of = lighter-visits P cases p.goals p.variables m.run
    go (Back r) [] is of = absurd (over r is of)
    go (Back r) (Choice ps ∷ cases) is of = lighter-choose cases m.run ps r
    go (Back r) (Mark l ∷ cases) is of = lighter-mark P cases m.run r l
    go (Back r) (Handle h p ∷ cases) is of = lighter-return cases m.run r h p (resume h p (deeper cases 0) r m.run.local) (resume-weight h p (deeper cases 0) r m.run.local)

pub ruleset laws = (lighter-turn)
