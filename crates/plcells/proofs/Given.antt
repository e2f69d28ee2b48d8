-- Values alone among arguments.
use Rattle.std.proofs.Common.{◌≡◌, ℕ, zero, suc, ◌+◌, ◌<◌, List, [], ◌∷◌, ◌++◌, length, get_or, take, drop, map, refl, sym, ap, ap₂, ◌∙◌, subst, arith}
use Rattle.std.proofs.lemmas.List.{take_more}
use Rattle.plcells.specs.declared.cell.Cell.{Cell}
use Rattle.plcells.specs.declared.cell.Argument.{Argument}
use Rattle.plcells.specs.declared.cell.Argument.TheVariants.{Value, Variable}
use Rattle.plcells.specs.Store.{Store, IsValue, IsSolid, AreValues, Preserves}
use Rattle.plcells.specs.Blocks.{numbers_of, stands_for, AreParts, AreSolid}
use Rattle.plcells.specs.Putting.{AreGiven}

pub given-in : (h : Store) (xs : List Argument) (i : ℕ) (d a : Argument) → AreGiven h xs → i < length xs → get_or xs i d ≡ a → AreGiven h (a ∷ [])
given-in h [] i d a are lt e = absurd (omega arith)
given-in h (Value v ∷ xs) zero d a are lt e = let g : AreGiven h (Value v ∷ []) = (are.0, tt) in subst (λ b. AreGiven h (b ∷ [])) e g
given-in h (Value v ∷ xs) (suc i) d a are lt e = given-in h xs i d a are.1 (omega arith) e
given-in h (Variable x ∷ xs) i d a are lt e = absurd are

pub solid-in : (h : Store) (xs : List Argument) (i : ℕ) (d : Argument) (v : Cell) → AreSolid h xs → i < length xs → get_or xs i d ≡ Value v → IsSolid h.cells v
solid-in h [] i d v are lt e = absurd (omega arith)
solid-in h (Value u ∷ xs) zero d v are lt e = let same : u ≡ v = cc in subst (IsSolid h.cells) same are.0
solid-in h (Value u ∷ xs) (suc i) d v are lt e = solid-in h xs i d v are.1 (omega arith) e
solid-in h (Variable x ∷ xs) i d v are lt e = absurd are

solid-append : (h : Store) (xs ys : List Argument) → AreSolid h xs → AreSolid h ys → AreSolid h (xs ++ ys)
solid-append h [] ys p q = q
solid-append h (Value v ∷ xs) ys p q = (p.0, solid-append h xs ys p.1 q)
solid-append h (Variable x ∷ xs) ys p q = absurd p

pub solid-more : (h : Store) (xs : List Argument) (i : ℕ) (d : Argument) (v : Cell) → AreSolid h (take i xs) → i < length xs → get_or xs i d ≡ Value v → IsSolid h.cells v → AreSolid h (take (i + 1) xs)
solid-more h xs i d v are lt e solid =
    let one : AreSolid h (Value v ∷ []) = (solid, tt) in
    subst (AreSolid h) (sym (take_more xs i d lt ∙ ap (λ a. take i xs ++ a ∷ []) e)) (solid-append h (take i xs) (Value v ∷ []) are one)

pub given-parts : (h : Store) (xs : List Argument) → AreGiven h xs → AreParts h xs
given-parts h [] are = tt
given-parts h (Value v ∷ xs) are = (are.0, given-parts h xs are.1)
given-parts h (Variable x ∷ xs) are = absurd are

pub given-numbers : (h : Store) (xs : List Argument) → AreGiven h xs → numbers_of xs ≡ []
given-numbers h [] are = refl
given-numbers h (Value v ∷ xs) are = given-numbers h xs are.1
given-numbers h (Variable x ∷ xs) are = absurd are

pub given-take : (h : Store) (k : ℕ) (xs : List Argument) → AreGiven h xs → AreGiven h (take k xs)
given-take h zero xs are = tt
given-take h (suc k) [] are = tt
given-take h (suc k) (Value v ∷ xs) are = (are.0, given-take h k xs are.1)
given-take h (suc k) (Variable x ∷ xs) are = absurd are

pub given-drop : (h : Store) (k : ℕ) (xs : List Argument) → AreGiven h xs → AreGiven h (drop k xs)
given-drop h zero xs are = are
given-drop h (suc k) [] are = tt
given-drop h (suc k) (Value v ∷ xs) are = given-drop h k xs are.1
given-drop h (suc k) (Variable x ∷ xs) are = absurd are

-- values stay values, and stand for what they did
pub given-stay : (old new : Store) (xs : List Argument) → Preserves old new → AreGiven old xs → AreGiven new xs × (map (stands_for new) xs ≡ map (stands_for old) xs)
given-stay old new [] p are = (tt, refl)
given-stay old new (Value v ∷ xs) p are =
    let r = p.values v are.0 in
    let s = given-stay old new xs p are.1 in
    ((r.0, s.0), ap₂ (λ t ts. t ∷ ts) r.1 s.1)
given-stay old new (Variable x ∷ xs) p are = absurd are

pub value-in : (h : Store) (vs : List Cell) (i : ℕ) (d v : Cell) → AreValues h vs → i < length vs → get_or vs i d ≡ v → IsValue h v
value-in h [] i d v are lt e = absurd (omega arith)
value-in h (u ∷ vs) zero d v are lt e = subst (IsValue h) e are.0
value-in h (u ∷ vs) (suc i) d v are lt e = value-in h vs i d v are.1 (omega arith) e
