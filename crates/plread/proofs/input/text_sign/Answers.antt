use Rattle.std.proofs.Common.{refl}
use Rattle.plread.proofs.Inputs.{with_name, with_text, the_same}
use Rattle.plread.proofs.input.text_sign.Goals as goal

pub returns-then-len-gt65535-clause-words : goal.returns-then-len-gt65535-clause-words
returns-then-len-gt65535-clause-words c = the_same c.args.words.now c.args.words.now refl

pub returns-in_ok-push_text-in-Codes-clause-words :
    goal.returns-in_ok-push_text-in-Codes-clause-words
returns-in_ok-push_text-in-Codes-clause-words c = with_text c.args.words.now c.push_text.new.self _ c.in_ok-push_text-in-Codes.ensures.ok

pub returns-in_ok-push_text-in-Chars-clause-words :
    goal.returns-in_ok-push_text-in-Chars-clause-words
returns-in_ok-push_text-in-Chars-clause-words c = with_text c.args.words.now c.push_text-in-Chars.new.self _ c.in_ok-push_text-in-Chars.ensures.ok

pub returns-in_ok-push-in-Atom-clause-words : goal.returns-in_ok-push-in-Atom-clause-words
returns-in_ok-push-in-Atom-clause-words c = with_name c.args.words.now c.push.new.self _ c.in_ok-push-in-Atom.ensures.ok
