-- Whether a character past ASCII stands at a place.
use Rattle.std.proofs.Common.{◌≡◌, ℕ, suc, ◌<◌, ◌≤◌, ◌+◌, ◌-◌, Bool, true, false, cond, ltb, leb, ◌&&◌, List, [], ◌∷◌, length, take, drop, get_or, Some, None, refl, sym, ap, subst, ◌∙◌, arith, add-one}
use Rattle.std.specs.Str.{is_utf8, IsUtf8}
use Rattle.std.proofs.lemmas.Bool.{le-leb, lt-leb, ltb-true, cond_both, and_parts}
use Rattle.std.proofs.lemmas.Str.{is_utf8-from_IsUtf8, IsUtf8-from_is_utf8, IsUtf8-from_ascii}
use Rattle.std.proofs.lemmas.Str.Ascii.{IsAscii-cons, IsAscii-nil}
use Rattle.pllex.specs.Characters.{width, is_character, rest_of_character}
use Rattle.pllex.proofs.RunEnds.{drop_here}

and : (a b x y : Bool) → a ≡ x → b ≡ y → (x && y) ≡ (a && b)
and a b x y e f = sym (ap (λ t. t && b) e ∙ ap (λ t. x && t) f)

not_utf8 : (b : Bool) (bytes : List ℕ) → b ≡ is_utf8 bytes → ¬ (IsUtf8 bytes) → b ≡ false
not_utf8 true bytes e h = absurd (h (IsUtf8-from_is_utf8 bytes (sym e)))
not_utf8 false bytes e h = refl

too_few : (b : ℕ) (bytes : List ℕ) → length (b ∷ bytes) < width b → false ≡ is_character b bytes
too_few b bytes h = sym (ap (λ t. t && is_utf8 (take (width b) (b ∷ bytes))) (lt-leb (width b) (length (b ∷ bytes)) h))

well : (b : ℕ) (bytes : List ℕ) → width b ≤ length (b ∷ bytes) → IsUtf8 (take (width b) (b ∷ bytes)) → true ≡ is_character b bytes
well b bytes h utf8 = and _ _ true true (le-leb (width b) (length (b ∷ bytes)) h) (is_utf8-from_IsUtf8 (take (width b) (b ∷ bytes)) utf8)

ill : (b : ℕ) (bytes : List ℕ) → width b ≤ length (b ∷ bytes) → ¬ (IsUtf8 (take (width b) (b ∷ bytes))) → false ≡ is_character b bytes
ill b bytes h bad = and _ _ true false (le-leb (width b) (length (b ∷ bytes)) h) (not_utf8 (is_utf8 (take (width b) (b ∷ bytes))) (take (width b) (b ∷ bytes)) refl bad)

-- the same at a place of a text
pub short_at : (text : List ℕ) (place : ℕ) → place < length text → length (drop place text) < width (get_or text place 0) → false ≡ is_character (get_or text place 0) (drop (place + 1) text)
short_at text place h few = too_few (get_or text place 0) (drop (place + 1) text) (subst (λ bytes. length bytes < width (get_or text place 0)) (drop_here text place h) few)

pub well_at : (text : List ℕ) (place n : ℕ) → place < length text → n ≡ width (get_or text place 0) → n ≤ length (drop place text) → IsUtf8 (take n (drop place text)) → true ≡ is_character (get_or text place 0) (drop (place + 1) text)
well_at text place n h e all utf8 =
    well (get_or text place 0) (drop (place + 1) text) (subst (λ bytes. width (get_or text place 0) ≤ length bytes) (drop_here text place h) (subst (λ k. k ≤ length (drop place text)) e all))
    (subst (λ bytes. IsUtf8 (take (width (get_or text place 0)) bytes)) (drop_here text place h) (subst (λ k. IsUtf8 (take k (drop place text))) e utf8))

pub ill_at : (text : List ℕ) (place n : ℕ) → place < length text → n ≡ width (get_or text place 0) → n ≤ length (drop place text) → ¬ (IsUtf8 (take n (drop place text))) → false ≡ is_character (get_or text place 0) (drop (place + 1) text)
ill_at text place n h e all bad =
    ill (get_or text place 0) (drop (place + 1) text) (subst (λ bytes. width (get_or text place 0) ≤ length bytes) (drop_here text place h) (subst (λ k. k ≤ length (drop place text)) e all))
    (subst (λ bytes. ¬ (IsUtf8 (take (width (get_or text place 0)) bytes))) (drop_here text place h) (subst (λ k. ¬ (IsUtf8 (take k (drop place text)))) e bad))

kept_utf8 : (b : ℕ) (bytes : List ℕ) (rest : ℕ) → rest_of_character b bytes ≡ Some rest → is_utf8 (take (suc rest) (b ∷ bytes)) ≡ true
kept_utf8 b bytes rest =
    cond_both (ltb b 128) (Some 0) (cond (is_character b bytes) (Some (width b - 1)) None) (λ o. o ≡ Some rest → is_utf8 (take (suc rest) (b ∷ bytes)) ≡ true)
    (λ t e. let none : 0 ≡ rest = cc in subst (λ n. is_utf8 (take (suc n) (b ∷ bytes)) ≡ true) none (is_utf8-from_IsUtf8 (b ∷ []) (IsUtf8-from_ascii (b ∷ []) (IsAscii-cons b [] (ltb-true b 128 t) IsAscii-nil))))
    (λ _. cond_both (is_character b bytes) (Some (width b - 1)) None (λ o. o ≡ Some rest → is_utf8 (take (suc rest) (b ∷ bytes)) ≡ true)
    (λ t e.
    let n : width b - 1 ≡ rest = cc in
    let wide = width_some b in
    let same : width b ≡ suc rest = omega arith in
    subst (λ k. is_utf8 (take k (b ∷ bytes)) ≡ true) same (and_parts (leb (width b) (length (b ∷ bytes))) (is_utf8 (take (width b) (b ∷ bytes))) t).1)
    (λ _ e. absurd cc))
  where
    width_some : (b : ℕ) → 1 ≤ width b
    width_some b = cond_both (ltb b 224) 2 (cond (ltb b 240) 3 4) (λ n. 1 ≤ n) (λ _. omega arith) (λ _. cond_both (ltb b 240) 3 4 (λ n. 1 ≤ n) (λ _. omega arith) (λ _. omega arith))

-- the bytes of a character are text
pub kept_text : (b : ℕ) (bytes : List ℕ) (rest : ℕ) → rest_of_character b bytes ≡ Some rest → IsUtf8 (take (suc rest) (b ∷ bytes))
kept_text b bytes rest e = IsUtf8-from_is_utf8 (take (suc rest) (b ∷ bytes)) (kept_utf8 b bytes rest e)

pub kept_at : (text : List ℕ) (place rest : ℕ) → place < length text → rest_of_character (get_or text place 0) (drop (place + 1) text) ≡ Some rest → is_utf8 (take (rest + 1) (drop place text)) ≡ true
kept_at text place rest h e =
    subst (λ n. is_utf8 (take n (drop place text)) ≡ true) (sym (add-one rest))
    (subst (λ l. is_utf8 (take (suc rest) l) ≡ true) (sym (drop_here text place h)) (kept_utf8 (get_or text place 0) (drop (place + 1) text) rest e))
