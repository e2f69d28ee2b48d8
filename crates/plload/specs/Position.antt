-- Places in a text as lines and columns.
use Rattle.std.specs.Prelude.{ℕ, ◌+◌, ◌==◌, List, take, fold, count_by, if◌then◌else◌}

-- the line of a place: one more than the newlines before it
abbrev pub line_of : List ℕ → ℕ → ℕ
line_of text place = 1 + count_by (λ b. b == 10) (take place text)

-- the column of a place: one more than the bytes before it in its line
abbrev pub column_of : List ℕ → ℕ → ℕ
column_of text place = fold (λ column b. if b == 10 then 1 else column + 1) 1 (take place text)
