-- Queries of the database at a time, and the clauses of a procedure under their names.
use Rattle.std.specs.Prelude.{◌≡◌, ℕ, true, false, List, [], ◌∷◌, Option, Some, None}
use Rattle.plclause.specs.Clause.{Clause}
use Rattle.plevent.specs.declared.update.ClauseName.{ClauseName}
use Rattle.plevent.specs.declared.update.Living.{Living}
use Rattle.plevent.specs.Alive.{Stamped, same_name, change_if, living, names_of, exists, is_alive, clause_named}
use Rattle.plstore.specs.declared.query.Query.{Query}
use Rattle.plstore.specs.declared.query.Found.{Found}
use Rattle.plrecords.specs.Kept.{Kept, walk, here, is_there, clause_of, next_of}
use Rattle.plstore.specs.Like.{next_like_of}

-- the updates of the batches below each place of a journal
abbrev pub Views : Type 0
Views = ℕ → List Stamped

-- the clause of a name, where it is alive
abbrev pub clause_alive : ClauseName → List Stamped → Option Clause
clause_alive x us = change_if (is_alive x us) (clause_named x us) None

-- what a query finds after some updates
abbrev pub found : List Stamped → Query → Found
found us (Query.NextLike p k c) = Found.Next (next_like_of k c (living us p))
found us (Query.Next p c) = Found.Next (next_of c (names_of (living us p)))
found us (Query.Clause x) = Found.Clause (clause_alive x us)
found us (Query.Alive x) = Found.Alive (is_alive x us)
found us (Query.Exists p) = Found.Exists (exists us p)

-- the clause of a name, where it is seen at g
abbrev pub clause_seen : ℕ → ClauseName → Kept → Option Clause
clause_seen g x k = change_if (here g x k) (clause_of x k) None

-- what a query finds at g in what a store keeps
abbrev pub found_in : ℕ → Query → Kept → Found
found_in g (Query.NextLike p k c) s = Found.Next (next_like_of k c (walk g p s.records))
found_in g (Query.Next p c) s = Found.Next (next_of c (names_of (walk g p s.records)))
found_in g (Query.Clause x) s = Found.Clause (clause_seen g x s)
found_in g (Query.Alive x) s = Found.Alive (here g x s)
found_in g (Query.Exists p) s = Found.Exists (is_there g p s)

-- no clause of a list has the name
abbrev pub NoneNamed : ClauseName → List Living → Type 0
NoneNamed x [] = Unit {0}
NoneNamed x (y ∷ ys) = (same_name x y.name ≡ false) × NoneNamed x ys

-- no two clauses of a list have one name
abbrev pub Apart : List Living → Type 0
Apart [] = Unit {0}
Apart (y ∷ ys) = NoneNamed y.name ys × Apart ys

-- the clause that the list has under a name, if any, is this one
abbrev pub Tells : ClauseName → Option Clause → List Living → Type 0
Tells x o [] = Unit {0}
Tells x o (y ∷ ys) = (same_name x y.name ≡ true → o ≡ Some y.clause) × Tells x o ys
