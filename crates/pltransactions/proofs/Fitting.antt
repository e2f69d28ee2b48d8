-- A machine whose lists fit its cases, and where as many transactions and snapshots are open as its cases say.
use Rattle.std.proofs.Common.{◌≡◌, ℕ, suc, Bool, true, false, List, [], ◌∷◌, ◌++◌, length, refl, ap, ◌∙◌, arith}
use Rattle.plevent.specs.Alive.{change_if}
use Rattle.plevent.specs.declared.update.Update.{Update}
use Rattle.plevent.specs.declared.update.Update.TheVariants.{First as FirstUpdate, Last as LastUpdate, Erase, EraseOwn, Declare}
use Rattle.pltx.specs.declared.level.Isolation.{Isolation}
use Rattle.pltx.specs.declared.level.Level.{Level}
use Rattle.pltx.specs.declared.target.Target.{Target}
use Rattle.pltx.specs.declared.target.Target.TheVariants.{Own}
use Rattle.pltx.specs.Own.{State, some_open, any_open, begun_at, begun, added, erased_in, erasing, target_at, made, all_made, ended_at, ended}
use Rattle.plsearch.specs.Types.{Result, Stop, Fail, CutTo, Throw, Halted, Spent, Awaits, Stopped, Unfit, Element, Resolvent, Case, Choice, Mark, Handle, Move, Give, Go}
use Rattle.plsearch.specs.Engine.{deeper}
use Rattle.plsearch.specs.Machines.Machine.{Mode, At, Back, Machine}
use Rattle.pltransactions.proofs.Contexts.{Choosing, Entry, entry, upto, around, undos, Fits, FitsFirst, Stands}
use Rattle.pltransactions.proofs.Balls.{named, HandlersFit}

abbrev pub PlacesFit : List Entry → List Resolvent → Type 0
PlacesFit Γ [] = Unit {0}
PlacesFit Γ (p ∷ ps) = Fits Γ p.goals × PlacesFit Γ ps

-- the case at a level is a choice
abbrev pub HasChoice : List Case → ℕ → Type 0
HasChoice cs l = (Δ : List Entry) × (upto l (around cs) ≡ entry l Choosing ∷ Δ)

-- what cases hold fits those outside of them
unfoldable pub CasesFit : List Case → Type 0
CasesFit [] = Unit {0}
CasesFit (Choice ps ∷ cs) = PlacesFit (entry (deeper cs 0) Choosing ∷ around cs) ps × CasesFit cs
CasesFit (Mark l ∷ cs) = HasChoice cs l × CasesFit cs
CasesFit (Handle h p ∷ cs) = Fits (around cs) p.goals × CasesFit cs

-- a list at which the machine is, and what is open there
pub record PlaceFits (cs : List Case) (x : State) (es : List Element) : Type 0 where
  pub list : FitsFirst (around cs) x es
  pub open_here : Stands x (undos (around cs))

pub record CutFits (cs : List Case) (x : State) (l : ℕ) : Type 0 where
  pub choice : HasChoice cs l
  pub open_here : Stands x (undos (upto l (around cs)))

pub record BallFits (cs : List Case) (x : State) (ls : List ℕ) : Type 0 where
  pub each : HandlersFit cs ls
  pub open_here : Stands x (named cs ls)

-- a result that is carried outward through cases
unfoldable pub ResultFits : List Case → State → Result → Type 0
ResultFits cs x Stop = Stands x 0
ResultFits cs x Fail = Stands x (undos (around cs))
ResultFits cs x (CutTo l) = CutFits cs x l
ResultFits cs x (Throw b ls) = BallFits cs x ls
ResultFits cs x (Halted n) = Unit {0}
ResultFits cs x Spent = Unit {0}
ResultFits cs x (Awaits q) = Unit {0}
ResultFits cs x Stopped = Unit {0}
ResultFits cs x Unfit = Unit {0}

abbrev pub ModeFits : List Case → State → Mode → Type 0
ModeFits cs x (At p) = PlaceFits cs x p.goals
ModeFits cs x (Back r) = ResultFits cs x r

pub record Fitting (m : Machine) : Type 0 where
  pub outside : CasesFit m.cases
  pub here : ModeFits m.cases m.run.local.own m.mode

-- a move fits the cases in which it is made
unfoldable pub MoveFits : List Case → Move → Type 0
MoveFits cs (Give r w) = ResultFits cs w.own r
MoveFits cs (Go new p w) = CasesFit (new ++ cs) × PlaceFits (new ++ cs) w.own p.goals

-- what begins and ends
pub stands-begun : (i : Isolation) (b : ℕ) (x : State) (n : ℕ) → Stands x n → Stands (begun i b x) (suc n)
stands-begun i b x n h = go x.levels refl
  where
    never : suc n ≡ 0 → ⊥
    never is = omega (arith, is)

    go : (ls : List Level) → x.levels ≡ ls → Stands (begun_at i b x ls) (suc n)
    go [] is = let count = h.count in let same = ap length is in record { count = omega (arith, count, same); none = λ is. absurd (never is) }
    go (l ∷ ls) is = let count = h.count in let same = ap length is in record { count = omega (arith, count, same); none = λ is. absurd (never is) }

pub stands-ended : (success : Bool) (x : State) (n : ℕ) → Stands x (suc n) → Stands (ended success x) n
stands-ended success x n h = go x.levels refl
  where
    go : (ls : List Level) → x.levels ≡ ls → Stands (ended_at success x ls) n
    go [] is = absurd (never h.count (ap length is))
      where
        never : length x.levels ≡ suc n → length x.levels ≡ 0 → ⊥
        never count same = omega (arith, count, same)
    go (l ∷ []) is = let count = h.count in let same = ap length is in record { count = omega (arith, count, same); none = λ is. refl }
    go (l ∷ m ∷ ls) is = let count = h.count in let same = ap length is in record { count = omega (arith, count, same); none = λ at. absurd (never count same at) }
      where
        never : length x.levels ≡ suc n → length x.levels ≡ suc (suc (length ls)) → n ≡ 0 → ⊥
        never count same at = omega (arith, count, same, at)

-- updates change nothing of what is open
made-levels : (u : Update) (x : State) → (made u x).levels ≡ x.levels
made-levels u x = go u
  where
    once : (t : Target) (b : Bool) → (change_if b x (added (erasing t) x)).levels ≡ x.levels
    once t true = refl
    once t false = refl

    go : (u : Update) → (made u x).levels ≡ x.levels
    go (FirstUpdate c) = refl
    go (LastUpdate c) = refl
    go (Erase y) = once (target_at x.base y) (erased_in (target_at x.base y) x.updates)
    go (EraseOwn k) = once (Own k) (erased_in (Own k) x.updates)
    go (Declare q) = refl

pub all-made-levels : (us : List Update) (x : State) → (all_made us x).levels ≡ x.levels
all-made-levels [] x = refl
all-made-levels (u ∷ us) x = all-made-levels us (made u x) ∙ made-levels u x

-- where something is open
open-some : (ls : List Level) → some_open ls ≡ true → length ls ≡ 0 → ⊥
open-some [] h is = absurd (never h)
  where
    never : false ≡ true → ⊥
    never h = cc
open-some (l ∷ ls) h is = omega (arith, is)

pub stands-made : (us : List Update) (x : State) (n : ℕ) → any_open x ≡ true → Stands x n → Stands (all_made us x) n
stands-made us x n open_now h = record {
  count = ap length (all-made-levels us x) ∙ h.count;
  none = λ is. absurd (open-some x.levels open_now (h.count ∙ is));
}
