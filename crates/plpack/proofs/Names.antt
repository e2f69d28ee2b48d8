-- Names at the front of bytes.
use Rattle.std.proofs.Common.{◌≡◌, ℕ, ◌^◌, ◌<◌, ◌≤◌, List, ◌++◌, length, take, drop, refl, sym, ap, ◌∙◌, arith}
use Rattle.std.specs.Int.{w16, to_be_bytes}
use Rattle.std.specs.Str.{IsUtf8}
use Rattle.std.proofs.lemmas.List.{append_assoc, take_at, drop_at, take-append-drop, length-append, length-take-le}
use Rattle.std.proofs.lemmas.Str.{is_utf8-from_IsUtf8, IsUtf8-from_is_utf8}
use Rattle.plterm.specs.Reading.{IsName}
use Rattle.plpack.specs.Packing.{name_item}
use Rattle.plpack.specs.Items.{IsNumberAt, IsNameAt, NoName}
use Rattle.plpack.proofs.Widths.{wide16, same_number}

pub no_length : (bytes : List ℕ) → length bytes < 2 → NoName bytes
unfolding NoName
no_length bytes short s rest h = omega (arith, ap length h.parts)

-- behind the length of the name at the front stands the name
module _ (bytes rest : List ℕ) (count : ℕ) (at : IsNumberAt w16 bytes count rest) where
  length_of_name : (s more : List ℕ) → IsNameAt bytes s more → (count ≡ length s) × (rest ≡ s ++ more)
  length_of_name s more h =
      same_number w16 (2 ^ 16) wide16 count (length s) rest (s ++ more) (omega (arith, at.fits)) (omega (arith, h.name.0)) (sym at.parts ∙ h.parts ∙ append_assoc (to_be_bytes w16 (length s)) s more)

  pub name_cut_off : length rest < count → NoName bytes
  unfolding NoName
  name_cut_off short s more h = let n = length_of_name s more h in omega (arith, n.0, ap length n.1, length-append s more)

  pub name_no_text : (front : List ℕ) → front ≡ take count rest → ¬ (IsUtf8 front) → NoName bytes
  unfolding NoName
  name_no_text front is bad s more h =
      let n = length_of_name s more h in
      let same : front ≡ s = is ∙ ap (take count) n.1 ∙ take_at s more count (sym n.0) in
      bad (rw same (IsUtf8-from_is_utf8 s h.name.1))

  pub name_is_at : (front after text : List ℕ) → count ≤ length rest → front ≡ take count rest → after ≡ drop count rest → text ≡ front → IsUtf8 front → IsNameAt bytes text after
  name_is_at front after text long is_front is_after is utf8 =
      let len : length text ≡ count = ap length (is ∙ is_front) ∙ length-take-le count rest long in
      record {
        name = (omega (arith, at.fits, len), rw is (is_utf8-from_IsUtf8 front utf8));
        parts = at.parts
            ∙ ap (λ (k : ℕ). to_be_bytes w16 k ++ rest) (sym len)
            ∙ ap (λ (x : List ℕ). to_be_bytes w16 (length text) ++ x) (sym (take-append-drop count rest) ∙ ap (λ (x : List ℕ). x ++ drop count rest) (sym (is ∙ is_front)) ∙ ap (λ (x : List ℕ). text ++ x) (sym is_after))
            ∙ sym (append_assoc (to_be_bytes w16 (length text)) text after);
      }

-- at the front of the same bytes stands the same name
pub same_name : (s t r q : List ℕ) → IsName s → IsName t → name_item s ++ r ≡ name_item t ++ q → (s ≡ t) × (r ≡ q)
same_name s t r q h k e =
    let n = same_number w16 (2 ^ 16) wide16 (length s) (length t) (s ++ r) (t ++ q) (omega (arith, h.0)) (omega (arith, k.0))
    (sym (append_assoc (to_be_bytes w16 (length s)) s r) ∙ e ∙ append_assoc (to_be_bytes w16 (length t)) t q) in (
      sym (take_at s r (length s) refl) ∙ ap (take (length s)) n.1 ∙ take_at t q (length s) (sym n.0),
      sym (drop_at s r (length s) refl) ∙ ap (drop (length s)) n.1 ∙ drop_at t q (length s) (sym n.0),
    )
