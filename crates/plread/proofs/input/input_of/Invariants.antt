use Rattle.std.proofs.Common.{◌≡◌, ◌++◌, drop}
use Rattle.plread.specs.Spelling.{signs_behind, signs_of, seen_behind, variable_names}
use Rattle.plread.specs.Words.{Lexicon, wider}
use Rattle.plread.specs.Looks.{view}
use Rattle.plread.proofs.input.input_of.Given as goal

abbrev pub invariant-tokens : goal.invariant-tokens
invariant-tokens l = record {
  signs : (more : Lexicon) → view (wider l.words more) l.made.items ++ signs_behind l.quotes l.text l.variables l.last (drop l.token-index l.tokens) ≡ signs_of l.quotes l.text l.tokens;
  names : seen_behind l.text l.variables (drop l.token-index l.tokens) ≡ variable_names l.text l.tokens;
}
