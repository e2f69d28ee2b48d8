-- What the head of a clause may be.
use Rattle.plterm.specs.Tree.{Tree, var, int, atom, compound}
use Rattle.plclause.specs.declared.form.Head.{Head}
use Rattle.plclause.specs.declared.form.Head.TheVariants.{Variable, Number, Callable}

abbrev pub head_of : Tree → Head
head_of (var v) = Variable
head_of (int i) = Number
head_of (atom s) = Callable
head_of (compound s ts) = Callable
