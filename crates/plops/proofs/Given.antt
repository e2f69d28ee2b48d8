-- The table that is given.
use Rattle.std.proofs.Common.{◌≡◌, ◌<◌, ◌+◌, ℕ, zero, suc, Bool, true, false, ◌||◌, List, [], ◌∷◌, map, take, length, get_or, Bor, Some, None, refl, ap, ◌∙◌, arith, add-one, codes}
use Rattle.std.proofs.lemmas.Bool.{false≢true}
use Rattle.std.specs.Str.{bytes_eq}
use Rattle.plops.specs.declared.operator.Kind.{Kind}
use Rattle.plops.specs.declared.table.Entry.{Entry}
use Rattle.plops.specs.Tables.{find, infix_of}
use Rattle.plops.specs.Sane.{comma, comma_op, is_reserved}
use Rattle.plops.specs.Changes.{added}
use Rattle.plops.specs.Checks.{IsTable}
use Rattle.plops.specs.Given.{with_names, iso_table}
use Rattle.plops.proofs.Names.{named_itself}

with_one : (p : ℕ) (k : Kind) (names : List (Bor (List ℕ))) (i : ℕ) (d : Bor (List ℕ)) (t : List Entry) → i < length names → with_names p k (map (λ n. n.now) (take (suc i) names)) t ≡ added p k (get_or names i d).now (with_names p k (map (λ n. n.now) (take i names)) t)
with_one p k [] i d t h = absurd (omega arith)
with_one p k (n ∷ names) zero d t h = refl
with_one p k (n ∷ names) (suc i) d t h = with_one p k names i d (added p k n.now t) (omega arith)

-- one name more
pub with_more : (p : ℕ) (k : Kind) (names : List (Bor (List ℕ))) (i : ℕ) (d : Bor (List ℕ)) (t : List Entry) → i < length names → with_names p k (map (λ n. n.now) (take (i + 1) names)) t ≡ added p k (get_or names i d).now (with_names p k (map (λ n. n.now) (take i names)) t)
with_more p k names i d t h = ap (λ j. with_names p k (map (λ n. n.now) (take j names)) t) (add-one i) ∙ with_one p k names i d t h

iso_comma : infix_of iso_table comma ≡ Some comma_op
unfolding infix_of iso_table
iso_comma = refl

iso_reserved : (n : List ℕ) → is_reserved n ≡ true → find iso_table n ≡ None
unfolding iso_table
iso_reserved n = by (bytes_eq n (codes "|")) (bytes_eq n (codes "[]")) (bytes_eq n (codes "{}")) refl refl refl
  where
    missing : (m : List ℕ) → bytes_eq n m ≡ true → find iso_table m ≡ None → find iso_table n ≡ None
    missing m e h = ap (find iso_table) (named_itself n m e) ∙ h

    by : (a b c : Bool) → bytes_eq n (codes "|") ≡ a → bytes_eq n (codes "[]") ≡ b → bytes_eq n (codes "{}") ≡ c → (a || (b || c)) ≡ true → find iso_table n ≡ None
    by true b c e f g h = missing (codes "|") e refl
    by false true c e f g h = missing (codes "[]") f refl
    by false false true e f g h = missing (codes "{}") g refl
    by false false false e f g h = absurd (false≢true h)

pub iso_is_table : IsTable iso_table
unfolding iso_table
iso_is_table = record { rising = refl; good = refl; comma_stands = iso_comma; none_reserved = iso_reserved }
