-- The numbers of variables after one more.
use Rattle.std.proofs.Common.{◌≡◌, ℕ, Bool, true, false, cond, List, [], ◌∷◌, ◌++◌, length, Option, Some, refl, sym, ap, ◌∙◌}
use Rattle.std.specs.List.{position, position_or_len}
use Rattle.std.specs.Str.{bytes_eq}
use Rattle.std.proofs.lemmas.Bool.{eq-eqb}
use Rattle.std.proofs.lemmas.Bool.Decides.{same_from_decides, Decides-like}
use Rattle.std.proofs.lemmas.Slice.Eq.{bytes_eq-Decides}
use Rattle.plterm.proofs.Places.{position-push}
use Rattle.plops.proofs.Names.{named_itself}
use Rattle.plread.specs.Spelling.{anonymous, number_of, seen_with}

bytes_eq_comm : (a b : List ℕ) → bytes_eq a b ≡ bytes_eq b a
bytes_eq_comm a b = same_from_decides (bytes_eq a b) (bytes_eq b a) (bytes_eq-Decides a b) (Decides-like (bytes_eq b a) sym sym (bytes_eq-Decides b a))

either_number : (b : Bool) (k n : ℕ) → k ≡ n → cond b n k ≡ n
either_number true k n e = refl
either_number false k n e = e

pub number_of_new : (name : List ℕ) (seen : List (List ℕ)) → position_or_len (bytes_eq name) seen ≡ length seen → number_of seen name ≡ length seen
number_of_new name seen e = either_number (bytes_eq name anonymous) (position_or_len (bytes_eq name) seen) (length seen) e

pub seen_with_new : (name : List ℕ) (seen : List (List ℕ)) → number_of seen name ≡ length seen → seen_with seen name ≡ seen ++ name ∷ []
seen_with_new name seen e = ap (λ (b : Bool). cond b (seen ++ name ∷ []) seen) (eq-eqb (number_of seen name) (length seen) e)

-- the table with one more name, which is new
pub table_more : (seen : List (List ℕ)) (name q : List ℕ) (next : ℕ) (old : Option ℕ) → position_or_len (bytes_eq name) seen ≡ length seen → next ≡ length seen → old ≡ position (bytes_eq q) seen → cond (bytes_eq name q) (Some next) old ≡ position (bytes_eq q) (seen ++ name ∷ [])
table_more seen name q next old new e o =
    ap (λ (n : ℕ). cond (bytes_eq name q) (Some n) old) e
    ∙ ap (λ (x : Option ℕ). cond (bytes_eq name q) (Some (length seen)) x) o
    ∙ ap (λ (b : Bool). cond b (Some (length seen)) (position (bytes_eq q) seen)) (bytes_eq_comm name q)
    ∙ sym (position-push (bytes_eq q) name seen (λ t. ap (λ x. position_or_len (bytes_eq x) seen) (named_itself q name t) ∙ new))

-- an anonymous variable is found under no name
pub table_skips : (seen : List (List ℕ)) (name q : List ℕ) → name ≡ anonymous → bytes_eq q anonymous ≡ false → position (bytes_eq q) seen ≡ position (bytes_eq q) (seen ++ name ∷ [])
table_skips seen name q e other =
    let no : bytes_eq q name ≡ false = ap (bytes_eq q) e ∙ other in
    sym (position-push (bytes_eq q) name seen (λ t. absurd (false_true (sym no ∙ t))) ∙ ap (λ (b : Bool). cond b (Some (length seen)) (position (bytes_eq q) seen)) no) where
      false_true : false ≡ true → ⊥
      false_true h = cc
