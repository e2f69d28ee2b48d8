-- Texts divided at a number of characters.
use Rattle.std.proofs.Common.{◌≡◌, ℕ, zero, suc, ◌+◌, ◌<◌, ◌≤◌, true, Option, Some, None, List, [], ◌∷◌, ◌++◌, length, take, drop, refl, sym, ap, ◌∙◌, arith, subst}
use Rattle.std.specs.Option.{MatchOption}
use Rattle.std.specs.Char.{encode_utf8}
use Rattle.std.specs.Str.{chars, encode_utf8_all, all_scalars, IsUtf8, IsCharBoundary}
use Rattle.std.proofs.lemmas.Bool.{and_parts}
use Rattle.std.proofs.lemmas.Str.{chars-encodes, encodes-append, encodes-chars, scalars-chars, encodes_same, cons_from_encodes, length-le-encodes, chars-append, IsCharBoundary-at_seam}
use Rattle.std.proofs.lemmas.List.{take-append-drop, take_at, drop_at, drop-drop, length-append, length-drop, length-take-le}

-- each character is a byte or more
pub chars-le : (bs : List ℕ) → IsUtf8 bs → length (chars bs) ≤ length bs
chars-le bs u = subst (λ ds. length (chars bs) ≤ length ds) (encodes-chars bs u) (length-le-encodes (chars bs))

scalars-drop : (k : ℕ) (cs : List ℕ) → all_scalars cs ≡ true → all_scalars (drop k cs) ≡ true
scalars-drop zero cs all = all
scalars-drop (suc k) [] all = refl
scalars-drop (suc k) (c ∷ cs) all = scalars-drop k cs (and_parts _ _ all).1

-- the characters behind a place
pub chars-behind : (bs : List ℕ) (k : ℕ) → IsUtf8 bs → chars (encode_utf8_all (drop k (chars bs))) ≡ drop k (chars bs)
chars-behind bs k u = chars-encodes (drop k (chars bs)) (scalars-drop k (chars bs) (scalars-chars bs u))

-- the bytes of the first characters, and of the others
pub both_parts : (bs : List ℕ) (k : ℕ) → IsUtf8 bs → bs ≡ encode_utf8_all (take k (chars bs)) ++ encode_utf8_all (drop k (chars bs))
both_parts bs k u = sym (encodes-chars bs u) ∙ sym (ap encode_utf8_all (take-append-drop k (chars bs))) ∙ encodes-append (take k (chars bs)) (drop k (chars bs))

module _ (bs : List ℕ) (k : ℕ) (u : IsUtf8 bs) where
  pub lengths-are : length (encode_utf8_all (take k (chars bs))) + length (encode_utf8_all (drop k (chars bs))) ≡ length bs
  lengths-are = sym (ap length (both_parts bs k u) ∙ length-append (encode_utf8_all (take k (chars bs))) (encode_utf8_all (drop k (chars bs))))

module _ (bs : List ℕ) (k n : ℕ) (u : IsUtf8 bs) (e : length (encode_utf8_all (take k (chars bs))) ≡ n) where
  pub front-is : take n bs ≡ encode_utf8_all (take k (chars bs))
  front-is = ap (take n) (both_parts bs k u) ∙ take_at (encode_utf8_all (take k (chars bs))) (encode_utf8_all (drop k (chars bs))) n e

  pub back-is : drop n bs ≡ encode_utf8_all (drop k (chars bs))
  back-is = ap (drop n) (both_parts bs k u) ∙ drop_at (encode_utf8_all (take k (chars bs))) (encode_utf8_all (drop k (chars bs))) n e

  pub boundary : IsCharBoundary bs n
  boundary =
      subst (IsCharBoundary bs) e
      (IsCharBoundary-at_seam bs (encode_utf8_all (take k (chars bs))) (encode_utf8_all (drop k (chars bs))) (both_parts bs k u) (drop k (chars bs), (scalars-drop k (chars bs) (scalars-chars bs u), refl)))

-- one more character is passed
pub passed-one : (cs a b : List ℕ) (k : ℕ) (r : Option ℕ) (P : Type 0) → k < length cs → encode_utf8_all (drop k cs) ≡ a → MatchOption r ((length a ≡ 0) × P) (λ c. a ≡ encode_utf8 c ++ b) → encode_utf8_all (drop (k + 1) cs) ≡ b
passed-one cs a b k None P lt is m = absurd (omega (arith, lt, ap length is, m.0, length-le-encodes (drop k cs), length-drop k cs))
passed-one cs a b k (Some c) P lt is m =
    let found = cons_from_encodes (drop k cs) b c (is ∙ m) in
    let rest : drop (k + 1) cs ≡ found.0 = sym (drop-drop 1 k cs) ∙ ap (drop 1) found.1 in
    ap encode_utf8_all rest ∙ found.2

-- a text that is a front and a back
module _ (bs fs rest : List ℕ) (u : IsUtf8 fs) (is : bs ≡ fs ++ rest) where
  both : chars bs ≡ chars fs ++ chars rest
  both = ap chars is ∙ chars-append fs rest u

  pub counts : length (chars fs) + length (chars rest) ≡ length (chars bs)
  counts = sym (ap length both ∙ length-append (chars fs) (chars rest))

  module _ (m : ℕ) (e : length (chars fs) ≡ m) where
    pub front-taken : encode_utf8_all (take m (chars bs)) ≡ fs
    front-taken = ap encode_utf8_all (ap (take m) both ∙ take_at (chars fs) (chars rest) m e) ∙ encodes-chars fs u

    pub back-left : IsUtf8 rest → encode_utf8_all (drop m (chars bs)) ≡ rest
    back-left v = ap encode_utf8_all (ap (drop m) both ∙ drop_at (chars fs) (chars rest) m e) ∙ encodes-chars rest v

-- a front or a back tells where it ends or begins
module _ (cs ds : List ℕ) (a b : ℕ) (first : a ≤ length cs) (second : b ≤ length cs) where
  pub same-front : encode_utf8_all (take a cs) ≡ ds → encode_utf8_all (take b cs) ≡ ds → a ≡ b
  same-front e f = sym (length-take-le a cs first) ∙ ap length (encodes_same (take a cs) (take b cs) (e ∙ sym f)) ∙ length-take-le b cs second

  pub same-back : encode_utf8_all (drop a cs) ≡ ds → encode_utf8_all (drop b cs) ≡ ds → a ≡ b
  same-back e f =
      let same : length (drop a cs) ≡ length (drop b cs) = ap length (encodes_same (drop a cs) (drop b cs) (e ∙ sym f)) in
      omega (arith, same, length-drop a cs, length-drop b cs, first, second)
