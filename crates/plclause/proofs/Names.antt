-- Names that the code writes.
use Rattle.std.proofs.Common.{ℕ, zero, suc, ◌<◌, ◌≤◌, List, [], ◌∷◌, length, codes, arith, lit<}
use Rattle.std.specs.Str.{IsAscii}
use Rattle.std.proofs.lemmas.Str.{is_utf8-from_IsUtf8, IsUtf8-from_ascii}
use Rattle.plterm.specs.Reading.{IsName}

abbrev AreSmall : List ℕ → Type 0
AreSmall [] = Unit {0}
AreSmall (b ∷ bs) = (b < 128) × AreSmall bs

ascii : (bs : List ℕ) → AreSmall bs → IsAscii bs
ascii [] h zero = lit< tt
ascii [] h (suc i) = lit< tt
ascii (b ∷ bs) h zero = h.0
ascii (b ∷ bs) h (suc i) = ascii bs h.1 i

small_name : (bs : List ℕ) → AreSmall bs → length bs ≤ 65535 → IsName bs
small_name bs h le = (le, is_utf8-from_IsUtf8 bs (IsUtf8-from_ascii bs (ascii bs h)))

pub IsName-call : IsName (codes "call")
IsName-call = small_name (codes "call") (lit< tt, (lit< tt, (lit< tt, (lit< tt, tt)))) (omega arith)

pub IsName-true : IsName (codes "true")
IsName-true = small_name (codes "true") (lit< tt, (lit< tt, (lit< tt, (lit< tt, tt)))) (omega arith)
