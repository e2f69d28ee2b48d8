-- What an expression comes to (ISO/IEC 13211-1 7.9).
use Rattle.std.specs.Prelude.{ℕ, List, [], ◌∷◌, length, Option, Some, None, Ok, Err}
use Rattle.plterm.specs.Tree.{Tree, var, int, atom, compound, Trees, none, more}
use Rattle.platoms.specs.declared.evaluable.Unary.{Unary}
use Rattle.platoms.specs.declared.evaluable.Binary.{Binary}
use Rattle.plarith.specs.declared.error.ArithError.TheVariants.{Unbound, NotEvaluable}
use Rattle.platoms.specs.Evaluable.{unary_of, binary_of}
use Rattle.plarith.specs.Errors.{Evaluated}
use Rattle.plarith.specs.Operations.{unary, binary}

abbrev pub not_evaluable : List ℕ → ℕ → Evaluated
not_evaluable name arity = Err (NotEvaluable (record { name = name; arity = arity }))

-- an error of an argument is that of the whole, and the left one comes first
abbrev pub with_one : Unary → Evaluated → Evaluated
with_one f (Ok x) = unary f x
with_one f (Err e) = Err e

abbrev pub with_two : Binary → Evaluated → Evaluated → Evaluated
with_two f (Ok x) (Ok y) = binary f x y
with_two f (Ok x) (Err e) = Err e
with_two f (Err e) r = Err e

-- a functor that is not evaluable is found before its arguments' errors are
abbrev pub by_one : Option Unary → List ℕ → Evaluated → Evaluated
by_one None name r = not_evaluable name 1
by_one (Some f) name r = with_one f r

abbrev pub by_two : Option Binary → List ℕ → Evaluated → Evaluated → Evaluated
by_two None name r s = not_evaluable name 2
by_two (Some f) name r s = with_two f r s

-- a compound of this name, by what its arguments come to
abbrev pub combined : List ℕ → List Evaluated → Evaluated
combined name [] = not_evaluable name 0
combined name (r ∷ []) = by_one (unary_of name) name r
combined name (r ∷ s ∷ []) = by_two (binary_of name) name r s
combined name (r ∷ s ∷ t ∷ rest) = not_evaluable name (length (r ∷ s ∷ t ∷ rest))

unfoldable mutual
  pub eval : Tree → Evaluated
  eval (var n) = Err Unbound
  eval (int i) = Ok i
  eval (atom name) = not_evaluable name 0
  eval (compound name ts) = combined name (eval_all ts)

  pub eval_all : Trees → List Evaluated
  eval_all none = []
  eval_all (more t ts) = eval t ∷ eval_all ts
