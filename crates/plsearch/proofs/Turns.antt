-- Each turn of the machine keeps the rest of the search.
use Rattle.std.proofs.Common.{◌≡◌, ℕ, zero, suc, List, [], ◌∷◌, ◌++◌, refl, sym, ap, ◌∙◌}
use Rattle.plevent.specs.Search.{Answer}
use Rattle.plevent.specs.declared.update.Update.{Update}
use Rattle.plprogram.specs.Program.{Program}
use Rattle.plsearch.specs.Types.{Result, Fail, Element, Resolvent, Case, Choice, Mark, Handle, Local, Move, Give, Go, Meeting, Select, Asks, End, Pass, Marked, Return, Keep, Again, Anew, Supply}
use Rattle.plsearch.specs.Rows.{select, meet}
use Rattle.plsearch.specs.Moves.{publishing}
use Rattle.plsearch.specs.Replies.{answered, founded}
use Rattle.plsearch.specs.Handlers.{resume}
use Rattle.plsearch.specs.Engine.{Ended, Visitor, deeper, choice, returned, out, outs, moved, stepped, asks, publishes, met, walk, Visit}
use Rattle.plsearch.specs.Machines.Machine.{Mode, At, Back, Machine, Rest, move, step, ask, meets, visits, choose, return, backs, turn_in, turn}
use Rattle.plsearch.proofs.Fuel.{Visit-walk}

deeper-append : (cs cases : List Case) → deeper (cs ++ cases) 0 ≡ deeper cs (deeper cases 0)
deeper-append [] cases = refl
deeper-append (c ∷ cs) cases = ap suc (deeper-append cs cases)

outs-append : (V : Visitor) (cs cases : List Case) (e : Ended) → outs V 0 (cs ++ cases) e ≡ outs V 0 cases (outs V (deeper cases 0) cs e)
unfolding outs
outs-append V [] cases e = refl
outs-append V (c ∷ cs) cases e = ap (λ d. outs V 0 (cs ++ cases) (out V d c e)) (deeper-append cs cases) ∙ outs-append V cs cases (out V (deeper cs (deeper cases 0)) c e)

Rest-move : (P : Program) (cases : List Case) (run : Supply) (m : Move) →
    outs (Visit P) 0 cases (moved (Visit P) (deeper cases 0) m run) ≡ Rest P (move cases run m)
unfolding Rest moved
Rest-move P cases run (Give r w) = refl
Rest-move P cases run (Go cs p w) = rw (deeper-append, outs-append) refl

Rest-choose : (P : Program) (cases : List Case) (run : Supply) (ps : List Resolvent) (r : Result) →
    outs (Visit P) 0 cases (choice (Visit P) (deeper cases 0) ps r run) ≡ Rest P (choose cases run ps r)
unfolding Rest outs out choice
Rest-choose P cases run (p ∷ ps) Fail = refl
Rest-choose P cases run [] Fail = refl
Rest-choose P cases run ps r = refl

Rest-return : (P : Program) (cases : List Case) (run : Supply) (b : Return) →
    outs (Visit P) 0 cases (returned (Visit P) (deeper cases 0) b run) ≡ Rest P (return cases run b)
unfolding Rest outs out
Rest-return P cases run (Keep r w) = refl
Rest-return P cases run (Again p w) = refl
Rest-return P cases run (Anew p w) = refl

Rest-backs : (P : Program) (r : Result) (run : Supply) (cases : List Case) →
    outs (Visit P) 0 cases (r, run) ≡ Rest P (backs r run cases)
unfolding Rest outs out
Rest-backs P r run [] = refl
Rest-backs P r run (Choice ps ∷ cases) = Rest-choose P cases run ps r
Rest-backs P r run (Mark l ∷ cases) = refl
Rest-backs P r run (Handle h p ∷ cases) = Rest-return P cases run (resume h p (deeper cases 0) r run.local)

-- what is published is the first of a list
publishes-first : (P : Program) (es : List Element) (n : ℕ) (us : List Update) (d : ℕ) (run : Supply) →
    publishes (Visit P) (walk P (Visit P) es n) es n us d run ≡ Visit P d (record { goals = publishing us es; variables = n }) run
unfolding walk meet
publishes-first P es n [] d run = sym (Visit-walk P d (record { goals = es; variables = n }) run)
publishes-first P es n (u ∷ us) d run = sym (Visit-walk P d (record { goals = publishing (u ∷ us) es; variables = n }) run)

Rest-meets : (P : Program) (cases : List Case) (e : Element) (es : List Element) (n : ℕ) (run : Supply) (m : Meeting) →
    outs (Visit P) 0 cases (met P (Visit P) (walk P (Visit P) es n) e es n (deeper cases 0) run m) ≡ Rest P (meets P cases e es n run m)
unfolding Rest outs
Rest-meets P cases e es n run (Select k t) = step_keeps (select P run.below k t (deeper cases 0) es n) run.steps
  where
    step_keeps : (row : Local → Move) (n : ℕ) →
        outs (Visit P) 0 cases (stepped (Visit P) row (deeper cases 0) run n) ≡ Rest P (step cases row run n)
    step_keeps row zero = refl
    step_keeps row (suc n) = Rest-move P cases (record run { steps = n }) (row run.local)
Rest-meets P cases e es n run (Asks q) = ask_keeps run.answers
  where
    ask_keeps : (xs : List Answer) → outs (Visit P) 0 cases (asks (Visit P) e es n q (deeper cases 0) run xs) ≡ Rest P (ask cases e es n q run xs)
    ask_keeps [] = refl
    ask_keeps (a ∷ more) = Rest-move P cases (record run { answers = more; below = founded e a run.below }) (answered e a (deeper cases 0) es n run.local)
Rest-meets P cases e es n run (End r w) = refl
Rest-meets P cases e es n run (Pass w) = ap (outs (Visit P) 0 cases) (sym (Visit-walk P (deeper cases 0) (record { goals = es; variables = n }) (record run { local = w })))
Rest-meets P cases e es n run (Marked l us w) = ap (λ e. outs (Visit P) 0 cases (out (Visit P) (deeper cases 0) (Mark l) e)) (publishes-first P es n us (suc (deeper cases 0)) (record run { local = w }))

Rest-visits : (P : Program) (cases : List Case) (es : List Element) (n : ℕ) (run : Supply) →
    outs (Visit P) 0 cases (walk P (Visit P) es n (deeper cases 0) run) ≡ Rest P (visits P cases es n run)
unfolding Rest walk
Rest-visits P cases [] n run = refl
Rest-visits P cases (e ∷ es) n run = Rest-meets P cases e es n run (meet e es run.local)

-- each turn keeps the rest
pub Rest-turn : (P : Program) (m : Machine) → Rest P m ≡ Rest P (turn P m)
unfolding Rest turn
Rest-turn P m = go m.mode
  where
    go : (mode : Mode) → Rest P (record { mode = mode; cases = m.cases; run = m.run }) ≡ Rest P (turn_in P m.cases m.run mode)
    go (At p) = ap (outs (Visit P) 0 m.cases) (Visit-walk P (deeper m.cases 0) p m.run) ∙ Rest-visits P m.cases p.goals p.variables m.run
    go (Back r) = Rest-backs P r m.run m.cases

pub ruleset laws = (Rest-turn)
