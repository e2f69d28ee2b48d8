-- The words of a clause: its names, and the values of its double-quoted items.
use Rattle.std.specs.Prelude.{◌≡◌, ◌≤◌, ℕ, List, [], ◌++◌, length, slice_index_or}
use Rattle.plops.specs.Sane.{comma}
use Rattle.plread.specs.Texts.{dot, nil, curly}

pub record Lexicon : Type 0 where
  pub names : List (List ℕ)
  pub texts : List (List ℕ)

-- the name at a place, and past the last one the empty name
abbrev pub name_at : Lexicon → ℕ → List ℕ
name_at words place = slice_index_or words.names place []

abbrev pub text_at : Lexicon → ℕ → List ℕ
text_at words place = slice_index_or words.texts place []

-- the first are the names that are written by punctuation, and each has at most 65,535 bytes
pub record AreWords (words : Lexicon) : Type 0 where
  pub comma_first : name_at words 0 ≡ comma
  pub then_dot : name_at words 1 ≡ dot
  pub then_nil : name_at words 2 ≡ nil
  pub then_curly : name_at words 3 ≡ curly
  pub short : (place : ℕ) → length (name_at words place) ≤ 65535

-- words with more behind them
abbrev pub wider : Lexicon → Lexicon → Lexicon
wider words more = record { names = words.names ++ more.names; texts = words.texts ++ more.texts }

-- the words begin with those of old
abbrev pub StartsWith : Lexicon → Lexicon → Type 0
StartsWith old words = (more : Lexicon) × (words ≡ wider old more)
