use Rattle.std.proofs.Common.{rules}
use Rattle.platoms.specs.Evaluable.{unary_of, binary_of}
use Rattle.platoms.proofs.evaluable.Operation.of.Goals as goal

pub returns-in_err-of_name-in-1 : goal.returns-in_err-of_name-in-1
unfolding unary_of
returns-in_err-of_name-in-1 c = rw c.in-1.is (search rules)

pub returns-in_err-of_name-in-2 : goal.returns-in_err-of_name-in-2
unfolding binary_of
returns-in_err-of_name-in-2 c = rw c.in-2.is (search rules)

pub returns-in_ok-of_name-in-1 : goal.returns-in_ok-of_name-in-1
unfolding unary_of
returns-in_ok-of_name-in-1 c = rw c.in-1.is (search rules)

pub returns-in_ok-of_name-in-2 : goal.returns-in_ok-of_name-in-2
unfolding binary_of
returns-in_ok-of_name-in-2 c = rw c.in-2.is (search rules)
