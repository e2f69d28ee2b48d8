-- Slots: numbers under which the clauses of a procedure are found whose first arguments have a key. Others may share them.
use Rattle.std.specs.Prelude.{ℕ, List, ◌++◌, fold, nat_eq}
use Rattle.std.specs.Hash as fed
use Rattle.std.specs.Hash.FoldHasher as folding
use Rattle.std.specs.declared.hash.FoldHasher.{FoldHasher}
use Rattle.plterm.specs.declared.indicator.Indicator.{Indicator}
use Rattle.plclause.specs.Clause.{Clause}
use Rattle.plclause.specs.Indicators.{indicator}
use Rattle.plevent.specs.declared.key.Key.{Key}
use Rattle.plevent.specs.declared.key.Key.TheVariants.{Any, Int, Atom, Functor}
use Rattle.plevent.specs.Keys.{first_key}
use Rattle.plrecords.specs.Links.{Class, class_at}

-- what of a procedure and of a key is hashed
abbrev pub pred_input : Indicator → List (List ℕ)
pred_input p = fed.str p.name ++ fed.u16 p.arity

abbrev pub key_input : Key → List (List ℕ)
key_input Any = fed.u8 0
key_input (Int i) = fed.u8 1 ++ fed.i64 i
key_input (Atom s) = fed.u8 2 ++ fed.str s
key_input (Functor s n) = fed.u8 3 ++ (fed.str s ++ fed.usize n)

abbrev pub pred_hash : Indicator → FoldHasher
pred_hash p = fold folding.write folding.initial (pred_input p)

abbrev pub slot_behind : FoldHasher → Key → ℕ
slot_behind h k = folding.finish (fold folding.write h (key_input k))

-- the slot of a procedure and a key
unfoldable pub slot : Indicator → Key → ℕ
slot p k = slot_behind (pred_hash p) k

-- the slot of a clause
abbrev pub slot_of : Clause → ℕ
slot_of c = slot (indicator c.head) (first_key c.head)

abbrev pub in_slot : ℕ → Class
in_slot n = class_at nat_eq slot_of n
