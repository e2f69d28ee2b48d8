-- Rows taken from the top of a stack.
use Rattle.std.proofs.Common.{◌≡◌, ℕ, zero, suc, ◌+◌, ◌<◌, ◌≤◌, List, [], ◌∷◌, ◌++◌, length, take, drop, fold, get_or, ap, ◌∙◌, add-one, arith, ◌-◌, reverse, sym, length-append, length-take, length-drop}
use Rattle.std.proofs.lemmas.List.{nil_from_length, take-append-drop, reverse-append, reverse-reverse, length-reverse, take_at, drop_at, get_or-drop}
use Rattle.std.proofs.Math.Seq.{take-suc}
use Rattle.std.proofs.lemmas.Grind.{fold-append}

take_suc : {A : Type 0} (i : ℕ) (s r : List A) (x : A) → drop i s ≡ x ∷ r → take (suc i) s ≡ take i s ++ x ∷ []
take_suc zero [] r x h = cc
take_suc zero (a ∷ s) r x h = let e : a ≡ x = cc in ap (λ y. y ∷ []) e
take_suc (suc i) [] r x h = cc
take_suc {A} (suc i) (a ∷ s) r x h = ap (λ (ys : List A). a ∷ ys) (take_suc i s r x h)

drop_suc : {A : Type 0} (i : ℕ) (s r : List A) (x : A) → drop i s ≡ x ∷ r → drop (suc i) s ≡ r
drop_suc zero [] r x h = cc
drop_suc zero (a ∷ s) r x h = cc
drop_suc (suc i) [] r x h = cc
drop_suc (suc i) (a ∷ s) r x h = drop_suc i s r x h

-- the topmost of what is left goes behind what was taken
pub take-next : {A : Type 0} (i : ℕ) (s r : List A) (x : A) → drop i s ≡ x ∷ r → take (i + 1) s ≡ take i s ++ x ∷ []
take-next {A} i s r x h = ap (λ k. take k s) (add-one i) ∙ take_suc i s r x h

pub drop-next : {A : Type 0} (i : ℕ) (s r : List A) (x : A) → drop i s ≡ x ∷ r → drop (i + 1) s ≡ r
drop-next {A} i s r x h = ap (λ k. drop k s) (add-one i) ∙ drop_suc i s r x h

pub fold-next : {A B : Type 0} (f : B → A → B) (b : B) (i : ℕ) (s r : List A) (x : A) → drop i s ≡ x ∷ r → fold f b (take (i + 1) s) ≡ f (fold f b (take i s)) x
fold-next f b i s r x h = ap (fold f b) (take-next i s r x h) ∙ fold-append f b (take i s) (x ∷ [])

-- a stack that gave nothing was empty
pub popped_none : {A : Type 0} (old new : List A) (n : ℕ) → old ≡ new ++ [] → new ≡ take (n - 1) old → n ≡ length old → old ≡ []
popped_none {A} old new n same rest len =
    nil_from_length old (omega (arith, ap length same, length-append new [], ap length rest, length-take (n - 1) old))

-- the topmost of a stack, as they stand in it
module _ {A : Type 0} (s : List A) (count from : ℕ) (is : from ≡ length s - count) (room : count ≤ length s) where
  stood : reverse s ≡ reverse (drop from s) ++ reverse (take from s)
  stood = ap reverse (sym (take-append-drop from s)) ∙ reverse-append (take from s) (drop from s)

  so_many : length (reverse (drop from s)) ≡ count
  so_many = omega (arith, length-reverse (drop from s), length-drop from s)

  pub topmost : reverse (take count (reverse s)) ≡ drop from s
  topmost = ap (λ (xs : List A). reverse (take count xs)) stood ∙ ap reverse (take_at (reverse (drop from s)) (reverse (take from s)) count so_many) ∙ reverse-reverse (drop from s)

  pub below_topmost : reverse (take from s) ≡ drop count (reverse s)
  below_topmost = sym (ap (drop count) stood ∙ drop_at (reverse (drop from s)) (reverse (take from s)) count so_many)

pub take-from : {A : Type 0} (from place : ℕ) (s : List A) (x : A) → from ≤ place → place < length s → get_or s place x ≡ x
    → take (place + 1 - from) (drop from s) ≡ take (place - from) (drop from s) ++ x ∷ []
take-from {A} from place s x le lt is =
    let e : place + 1 - from ≡ suc (place - from) = omega arith in
    let m : from + (place - from) ≡ place = omega arith in
    ap (λ (k : ℕ). take k (drop from s)) e
    ∙ take-suc (drop from s) (place - from) x (omega (arith, length-drop from s))
    ∙ ap (λ (y : A). take (place - from) (drop from s) ++ y ∷ []) (get_or-drop from s (place - from) x ∙ ap (λ (k : ℕ). get_or s k x) m ∙ is)
