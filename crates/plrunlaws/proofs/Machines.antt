-- The machine of the search with fewer answers, and with a result that is carried to the outside.
use Rattle.std.proofs.Common.{◌≡◌, ℕ, zero, suc, ◌+◌, List, [], ◌∷◌, ◌++◌, Option, Some, None, refl, sym, ap, ◌∙◌, subst, arith}
use Rattle.plevent.specs.Search.{Item, Answer}
use Rattle.plprogram.specs.Program.{Program}
use Rattle.plsearch.specs.Types.{Result, Fail, Halted, Awaits, Stopped, Unfit, Element, Resolvent, Case, Choice, Mark, Handle, Catch, Gather, Undo, Move, Give, Go, Meeting, Select, Asks, End, Pass, Marked, Return, Keep, Again, Anew, Supply}
use Rattle.plsearch.specs.Rows.{select, meet}
use Rattle.plsearch.specs.Replies.{answered, founded}
use Rattle.plsearch.specs.Handlers.{resume}
use Rattle.plsearch.specs.Engine.{deeper, outs}
use Rattle.plsearch.specs.Machines.Machine.{Mode, At, Back, Machine, Rest, move, step, ask, meets, visits, choose, return, backs, turn_in, turn}
use Rattle.pltransactions.specs.Laws.{turns, asked_by, asked_first, asked_in, wanted, left_of}
use Rattle.plsearch.proofs.Turns.{Rest-turn}
use Rattle.pltransactions.proofs.Transactions.{takes-what-it-asks}
use Rattle.plrunlaws.proofs.Items.{none-some}

-- turns, one more
pub turns-next : (P : Program) (k : ℕ) (m : Machine) → turns P (suc k) m ≡ turn P (turns P k m)
turns-next P zero m = refl
turns-next P (suc k) m = turns-next P k (turn P m)

pub turns-both : (P : Program) (k n : ℕ) (m : Machine) → turns P (k + n) m ≡ turns P n (turns P k m)
turns-both P zero n m = let same : 0 + n ≡ n = omega arith in ap (λ i. turns P i m) same
turns-both P (suc k) n m = let same : suc k + n ≡ suc (k + n) = omega arith in ap (λ i. turns P i m) same ∙ turns-both P k n (turn P m)

-- other answers in the place of those that are left
abbrev pub with_answers : List Answer → Machine → Machine
with_answers xs m = record m { run = record m.run { answers = xs } }

some-none : {A : Type 0} (q : Item) → ◌≡◌ {A = Option Item} (Some q) None → A
some-none q is = none-some q (sym is)

move-with : (cases : List Case) (run : Supply) (xs : List Answer) (m : Move) → move cases (record run { answers = xs }) m ≡ with_answers xs (move cases run m)
move-with cases run xs (Give r w) = refl
move-with cases run xs (Go cs p w) = refl

-- a turn that asks nothing
meets-with : (P : Program) (cases : List Case) (e : Element) (es : List Element) (n : ℕ) (run : Supply) (xs : List Answer) (m : Meeting) → asked_by m ≡ None →
    meets P cases e es n (record run { answers = xs }) m ≡ with_answers xs (meets P cases e es n run m)
meets-with P cases e es n run xs (Select k t) is = go run.steps
  where
    go : (s : ℕ) → step cases (select P run.below k t (deeper cases 0) es n) (record run { answers = xs }) s ≡ with_answers xs (step cases (select P run.below k t (deeper cases 0) es n) run s)
    go zero = refl
    go (suc s) = move-with cases (record run { steps = s }) xs (select P run.below k t (deeper cases 0) es n run.local)
meets-with P cases e es n run xs (Asks q) is = some-none q is
meets-with P cases e es n run xs (End r w) is = refl
meets-with P cases e es n run xs (Pass w) is = refl
meets-with P cases e es n run xs (Marked l us w) is = refl

visits-with : (P : Program) (cases : List Case) (es : List Element) (n : ℕ) (run : Supply) (xs : List Answer) → asked_first es run.local ≡ None →
    visits P cases es n (record run { answers = xs }) ≡ with_answers xs (visits P cases es n run)
visits-with P cases [] n run xs is = refl
visits-with P cases (e ∷ es) n run xs is = meets-with P cases e es n run xs (meet e es run.local) is

choose-with : (cases : List Case) (run : Supply) (xs : List Answer) (ps : List Resolvent) (r : Result) → choose cases (record run { answers = xs }) ps r ≡ with_answers xs (choose cases run ps r)
choose-with cases run xs (p ∷ ps) Fail = refl
choose-with cases run xs [] Fail = refl
choose-with cases run xs (p ∷ ps) r = refl
choose-with cases run xs [] r = refl

return-with : (cases : List Case) (run : Supply) (xs : List Answer) (b : Return) → return cases (record run { answers = xs }) b ≡ with_answers xs (return cases run b)
return-with cases run xs (Keep r w) = refl
return-with cases run xs (Again p w) = refl
return-with cases run xs (Anew p w) = refl

backs-with : (r : Result) (run : Supply) (xs : List Answer) (cases : List Case) → backs r (record run { answers = xs }) cases ≡ with_answers xs (backs r run cases)
backs-with r run xs [] = refl
backs-with r run xs (Choice ps ∷ cases) = choose-with cases run xs ps r
backs-with r run xs (Mark l ∷ cases) = refl
backs-with r run xs (Handle h p ∷ cases) = return-with cases run xs (resume h p (deeper cases 0) r run.local)

silent-with : (P : Program) (m : Machine) (xs : List Answer) → wanted m ≡ None → turn P (with_answers xs m) ≡ with_answers xs (turn P m)
unfolding turn
silent-with P m xs is = go m.mode is
  where
    go : (mode : Mode) → asked_in mode m.run.local ≡ None → turn_in P m.cases (record m.run { answers = xs }) mode ≡ with_answers xs (turn_in P m.cases m.run mode)
    go (At p) is = visits-with P m.cases p.goals p.variables m.run xs is
    go (Back r) is = backs-with r m.run xs m.cases

-- a turn that takes an answer
meets-taking : (P : Program) (cases : List Case) (e : Element) (es : List Element) (n : ℕ) (run : Supply) (a : Answer) (more xs : List Answer) (q : Item) (m : Meeting) → asked_by m ≡ Some q →
    run.answers ≡ a ∷ more → meets P cases e es n (record run { answers = a ∷ xs }) m ≡ with_answers xs (meets P cases e es n run m)
meets-taking P cases e es n run a more xs q (Asks x) is some =
    subst (λ l. ask cases e es n x (record run { answers = a ∷ xs }) (a ∷ xs) ≡ with_answers xs (ask cases e es n x run l)) (sym some)
    (go (answered e a (deeper cases 0) es n run.local))
  where
    go : (m : Move) → move cases (record run { answers = xs; below = founded e a run.below }) m ≡ with_answers xs (move cases (record run { answers = more; below = founded e a run.below }) m)
    go (Give r w) = refl
    go (Go cs p w) = refl
meets-taking P cases e es n run a more xs q (Select k t) is some = none-some q is
meets-taking P cases e es n run a more xs q (End r w) is some = none-some q is
meets-taking P cases e es n run a more xs q (Pass w) is some = none-some q is
meets-taking P cases e es n run a more xs q (Marked l us w) is some = none-some q is

taking-with : (P : Program) (m : Machine) (q : Item) (a : Answer) (more xs : List Answer) → wanted m ≡ Some q → m.run.answers ≡ a ∷ more → turn P (with_answers (a ∷ xs) m) ≡ with_answers xs (turn P m)
unfolding turn
taking-with P m q a more xs is some = go m.mode is
  where
    first : (es : List Element) (n : ℕ) → asked_first es m.run.local ≡ Some q → visits P m.cases es n (record m.run { answers = a ∷ xs }) ≡ with_answers xs (visits P m.cases es n m.run)
    first [] n is = none-some q is
    first (e ∷ es) n is = meets-taking P m.cases e es n m.run a more xs q (meet e es m.run.local) is some

    go : (mode : Mode) → asked_in mode m.run.local ≡ Some q → turn_in P m.cases (record m.run { answers = a ∷ xs }) mode ≡ with_answers xs (turn_in P m.cases m.run mode)
    go (At p) is = first p.goals p.variables is
    go (Back r) is = none-some q is

-- with the answers that it takes, and no further one, it comes to the same, with none left
pub record Short (P : Program) (k : ℕ) (m : Machine) : Type 0 where
  pub used : List Answer
  pub all : m.run.answers ≡ used ++ (turns P k m).run.answers
  pub comes : turns P k (with_answers used m) ≡ with_answers [] (turns P k m)

pub short : (P : Program) (k : ℕ) (m : Machine) → Short P k m
short P zero m = record { used = []; all = refl; comes = refl }
short P (suc k) m = go (wanted m) refl m.run.answers refl (short P k (turn P m))
  where
    go : (o : Option Item) → wanted m ≡ o → (xs : List Answer) → m.run.answers ≡ xs → Short P k (turn P m) → Short P (suc k) m
    go None is xs left more = record {
      used = more.used;
      all = sym (takes-what-it-asks P m ∙ ap (λ o. left_of o m.run.answers) is) ∙ more.all;
      comes = ap (turns P k) (silent-with P m more.used is) ∙ more.comes;
    }
    go (Some q) is (a ∷ xs) left more = record {
      used = a ∷ more.used;
      all = left ∙ ap (λ l. a ∷ l) (sym (takes-what-it-asks P m ∙ ap (λ o. left_of o m.run.answers) is ∙ ap (left_of (Some q)) left) ∙ more.all);
      comes = ap (turns P k) (taking-with P m q a xs more.used is left) ∙ more.comes;
    }
    go (Some q) is [] left more =
        let none : (turn P m).run.answers ≡ [] = takes-what-it-asks P m ∙ ap (λ o. left_of o m.run.answers) is ∙ ap (left_of (Some q)) left in
        let used : more.used ≡ [] = first-none more.used (turns P k (turn P m)).run.answers (sym none ∙ more.all) in
        let still : with_answers [] m ≡ m = ap (λ l. with_answers l m) (sym left) in
        let turned : with_answers [] (turn P m) ≡ turn P m = ap (λ l. with_answers l (turn P m)) (sym none) in record {
          used = [];
          all = left ∙ sym none ∙ more.all ∙ ap (λ l. l ++ (turns P k (turn P m)).run.answers) used;
          comes = ap (turns P (suc k)) still ∙ ap (turns P k) (sym turned) ∙ ap (λ l. turns P k (with_answers l (turn P m))) (sym used) ∙ more.comes;
        }
      where
        first-none : (xs ys : List Answer) → [] ≡ xs ++ ys → xs ≡ []
        first-none [] ys is = refl
        first-none (x ∷ xs) ys is = absurd (never is)
          where
            never : ◌≡◌ {A = List Answer} [] (x ∷ (xs ++ ys)) → ⊥
            never is = cc

-- results of which no case makes anything
abbrev pub IsFinal : Result → Type 0
IsFinal (Halted n) = Unit {0}
IsFinal (Awaits q) = Unit {0}
IsFinal Stopped = Unit {0}
IsFinal Unfit = Unit {0}
IsFinal r = ⊥

final-backs : (r : Result) (c : Case) (cases : List Case) (run : Supply) → IsFinal r → backs r run (c ∷ cases) ≡ record { mode = Back r; cases = cases; run = run }
unfolding resume
final-backs (Halted n) (Choice []) cases run is = refl
final-backs (Halted n) (Choice (p ∷ ps)) cases run is = refl
final-backs (Halted n) (Mark l) cases run is = refl
final-backs (Halted n) (Handle (Catch c r) p) cases run is = refl
final-backs (Halted n) (Handle (Gather l) p) cases run is = refl
final-backs (Halted n) (Handle Undo p) cases run is = refl
final-backs (Awaits q) (Choice []) cases run is = refl
final-backs (Awaits q) (Choice (p ∷ ps)) cases run is = refl
final-backs (Awaits q) (Mark l) cases run is = refl
final-backs (Awaits q) (Handle (Catch c r) p) cases run is = refl
final-backs (Awaits q) (Handle (Gather l) p) cases run is = refl
final-backs (Awaits q) (Handle Undo p) cases run is = refl
final-backs Stopped (Choice []) cases run is = refl
final-backs Stopped (Choice (p ∷ ps)) cases run is = refl
final-backs Stopped (Mark l) cases run is = refl
final-backs Stopped (Handle (Catch c r) p) cases run is = refl
final-backs Stopped (Handle (Gather l) p) cases run is = refl
final-backs Stopped (Handle Undo p) cases run is = refl
final-backs Unfit (Choice []) cases run is = refl
final-backs Unfit (Choice (p ∷ ps)) cases run is = refl
final-backs Unfit (Mark l) cases run is = refl
final-backs Unfit (Handle (Catch c r) p) cases run is = refl
final-backs Unfit (Handle (Gather l) p) cases run is = refl
final-backs Unfit (Handle Undo p) cases run is = refl
final-backs r c cases run is = absurd is

-- it is what all comes to
pub final-rest : (P : Program) (r : Result) (cases : List Case) (run : Supply) → IsFinal r → Rest P (record { mode = Back r; cases = cases; run = run }) ≡ (r, run)
unfolding Rest outs turn
final-rest P r [] run is = refl
final-rest P r (c ∷ cases) run is = Rest-turn P (record { mode = Back r; cases = c ∷ cases; run = run }) ∙ ap (Rest P) (final-backs r c cases run is) ∙ final-rest P r cases run is

-- and nothing changes
pub final-stays : (P : Program) (k : ℕ) (r : Result) (cases : List Case) (run : Supply) → IsFinal r → (turns P k (record { mode = Back r; cases = cases; run = run })).run ≡ run
unfolding turn
final-stays P zero r cases run is = refl
final-stays P (suc k) r [] run is = final-stays P k r [] run is
final-stays P (suc k) r (c ∷ cases) run is = ap (λ m. (turns P k m).run) (final-backs r c cases run is) ∙ final-stays P k r cases run is
