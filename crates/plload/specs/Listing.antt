-- The listing of a text: each clause and directive under the operators by which it was read.
use Rattle.std.specs.Prelude.{ℕ, List, [], ◌++◌}
use Rattle.plterm.specs.Tree.{Tree}
use Rattle.plwrite.specs.Writing.{clause_text}
use Rattle.plprogram.specs.declared.settings.Settings.{Settings}
use Rattle.plload.specs.Loading.{Outcome, Comes}

abbrev pub with_line : List ℕ → Settings → Tree → List ℕ
with_line bytes s t = bytes ++ clause_text s.operators t

abbrev pub whole_listing : Settings → List ℕ → List ℕ
whole_listing s bytes = bytes

-- what listing a text comes to
abbrev pub Lists : List ℕ → Outcome (List ℕ) → Type 0
Lists text outcome = Comes with_line [] whole_listing text outcome
