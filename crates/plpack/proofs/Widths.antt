-- Numbers of two and of eight bytes.
use Rattle.std.proofs.Common.{◌≡◌, ℕ, ◌^◌, ◌<◌, ◌≤◌, List, ◌++◌, length, get_or, take, drop, refl, sym, ap, ◌∙◌, arith, inl, inr}
use Rattle.std.specs.Int.{Width, w16, w64, byte_len, from_be_bytes, to_be_bytes}
use Rattle.std.proofs.lemmas.Bool.{cases_lt}
use Rattle.std.proofs.lemmas.List.{take_at, drop_at, take-append-drop, length-take, get_or-take, get_or_past}
use Rattle.std.proofs.lemmas.Nat.{be_bytes_2, be_bytes_8, from_be_bytes-to_be_bytes_2, from_be_bytes-to_be_bytes_8}
use Rattle.plpack.specs.Items.{IsNumberAt}

abbrev pub IsBytes : List ℕ → Type 0
IsBytes bytes = (i : ℕ) → get_or bytes i 0 < 256

IsBytes-take : (n : ℕ) (bytes : List ℕ) → IsBytes bytes → IsBytes (take n bytes)
IsBytes-take n bytes h i =
    elim (cases_lt i n) [
      | inl lt ↦ rw (get_or-take n bytes i 0 lt) (h i)
      | inr le ↦ rw (get_or_past (take n bytes) i 0 (omega (arith, length-take n bytes))) (omega arith)
    ]

-- the numbers below the limit are those of so many bytes
pub record IsWide (w : Width) (limit : ℕ) : Type 0 where
  pub len : (n : ℕ) → length (to_be_bytes w n) ≡ byte_len w
  pub back : (bytes : List ℕ) → length bytes ≡ byte_len w → IsBytes bytes → to_be_bytes w (from_be_bytes w bytes) ≡ bytes
  pub again : (n : ℕ) → n < limit → from_be_bytes w (to_be_bytes w n) ≡ n

pub wide16 : IsWide w16 (2 ^ 16)
wide16 = record {
  len = λ n. refl;
  back = λ bytes len fits. be_bytes_2 bytes _ len fits refl;
  again = λ n lt. from_be_bytes-to_be_bytes_2 n lt;
}

pub wide64 : IsWide w64 (2 ^ 64)
wide64 = record {
  len = λ n. refl;
  back = λ bytes len fits. be_bytes_8 bytes _ len fits refl;
  again = λ n lt. from_be_bytes-to_be_bytes_8 n lt;
}

-- the number of the first bytes stands there
pub number_at_front : (w : Width) (limit : ℕ) (wide : IsWide w limit) (bytes front after : List ℕ) (n : ℕ) → IsBytes bytes → byte_len w ≤ length bytes
    → front ≡ take (byte_len w) bytes → after ≡ drop (byte_len w) bytes → n < 256 ^ byte_len w → n ≡ from_be_bytes w front → IsNumberAt w bytes n after
number_at_front w limit wide bytes front after n fits long is_front is_after small is =
    record {
      fits = small;
      parts = rw (is, is_after, is_front)
          (sym (ap (λ (x : List ℕ). x ++ drop (byte_len w) bytes) (wide.back (take (byte_len w) bytes) (omega (arith, length-take (byte_len w) bytes)) (IsBytes-take (byte_len w) bytes fits)) ∙ take-append-drop (byte_len w) bytes));
    }

-- at the front of the same bytes stands the same number
pub same_number : (w : Width) (limit : ℕ) (wide : IsWide w limit) (m n : ℕ) (r s : List ℕ) → m < limit → n < limit
    → to_be_bytes w m ++ r ≡ to_be_bytes w n ++ s → (m ≡ n) × (r ≡ s)
same_number w limit wide m n r s small small' e =
    let front : to_be_bytes w m ≡ to_be_bytes w n =
    sym (take_at (to_be_bytes w m) r (byte_len w) (wide.len m)) ∙ ap (take (byte_len w)) e ∙ take_at (to_be_bytes w n) s (byte_len w) (wide.len n) in (
      sym (wide.again m small) ∙ ap (from_be_bytes w) front ∙ wide.again n small',
      sym (drop_at (to_be_bytes w m) r (byte_len w) (wide.len m)) ∙ ap (drop (byte_len w)) e ∙ drop_at (to_be_bytes w n) s (byte_len w) (wide.len n),
    )
