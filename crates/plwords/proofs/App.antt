-- The command is one of which `clap` tells the matches and the faults exactly.
use Rattle.std.proofs.Common.{◌≡◌, refl, true, List, [], codes}
use Rattle.clap.specs.Words.{Text, fault_of, is_simple, is_simple_and_free, new_rule, with_rule}
use Rattle.plwords.specs.Arguments.{prolog_app, bare_app, steps_rule, goal_rule, IsTaken}

pub app_is : prolog_app ≡ with_rule (with_rule (with_rule (with_rule bare_app steps_rule) goal_rule) (new_rule (codes "form"))) (new_rule (codes "program"))
unfolding prolog_app
app_is = refl

pub simple : is_simple prolog_app ≡ true
unfolding prolog_app bare_app
simple = refl

pub free : is_simple_and_free prolog_app ≡ true
unfolding prolog_app bare_app
free = refl

pub taken_is : (words : List Text) → fault_of prolog_app words ≡ [] → IsTaken words
unfolding IsTaken
taken_is words e = e

pub is_taken : (words : List Text) → IsTaken words → fault_of prolog_app words ≡ []
unfolding IsTaken
is_taken words e = e
