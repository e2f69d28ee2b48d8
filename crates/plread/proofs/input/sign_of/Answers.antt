use Rattle.std.proofs.Common.{refl, sym, ◌∙◌}
use Rattle.pllex.specs.Named.{bytes_of, value_of}
use Rattle.plread.specs.Words.{wider}
use Rattle.plread.proofs.Inputs.{the_same, says_mark}
use Rattle.plread.proofs.input.sign_of.Goals as goal

pub returns-in_ok-number-in-Variable-clause-words :
    goal.returns-in_ok-number-in-Variable-clause-words
returns-in_ok-number-in-Variable-clause-words c = the_same c.args.words.now c.args.words.now refl

pub returns-in-Integer-clause-words : goal.returns-in-Integer-clause-words
returns-in-Integer-clause-words c = the_same c.args.words.now c.args.words.now refl

pub returns-in-Open : goal.returns-in-Open
returns-in-Open c =
    let told = says_mark c.args.quotes (bytes_of c.args.text.now c.args.token) (value_of c.args.text.now c.args.token) c.args.variables.now c.args.joined c.args.token.kind c.in-Open.is in
    record {
      sign = λ more. c.mark_of.ensures (wider c.args.words.now more) ∙ sym told.0;
      words = the_same c.args.words.now c.args.words.now refl;
      seen = sym told.1;
    }
