-- The clause that a term spells.
use Rattle.std.specs.Prelude.{ℕ, if◌then◌else◌, List, codes, Option, Some, None}
use Rattle.std.specs.Str.{bytes_eq}
use Rattle.plterm.specs.Tree.{Tree, var, int, atom, compound, Trees, none, more}
use Rattle.plclause.specs.declared.form.ClauseForm.{ClauseForm}
use Rattle.plclause.specs.declared.form.ClauseForm.TheVariants.{NoHead, BadHead, BadBody, IsClause}
use Rattle.plclause.specs.Conversion.{converted}
use Rattle.plclause.specs.Soundness.{clause_from}

-- what a term is as a clause
abbrev pub Clausal : Type 0
Clausal = ClauseForm

-- the head and the body of a term `:-(Head, Body)`
abbrev pub neck_of : List ℕ → Trees → Option (Tree × Tree)
neck_of s none = None
neck_of s (more h none) = None
neck_of s (more h (more b none)) = if bytes_eq s (codes ":-") then Some (h, b) else None
neck_of s (more h (more b (more t ts))) = None

abbrev pub neck_parts : Tree → Option (Tree × Tree)
neck_parts (var v) = None
neck_parts (int i) = None
neck_parts (atom s) = None
neck_parts (compound s ts) = neck_of s ts

abbrev pub with_goal : Tree → Tree → Option Tree → Clausal
with_goal head body None = BadBody body
with_goal head body (Some goal) = IsClause (clause_from head goal)

-- the clause of a head and a body: a head that is no atom or compound is told first, then a body that is no goal
abbrev pub clause_parts : Tree → Tree → Clausal
clause_parts (var v) body = NoHead
clause_parts (int i) body = BadHead (int i)
clause_parts (atom s) body = with_goal (atom s) body (converted body)
clause_parts (compound s ts) body = with_goal (compound s ts) body (converted body)

abbrev pub clausal_from : Tree → Option (Tree × Tree) → Clausal
clausal_from t None = clause_parts t (atom (codes "true"))
clausal_from t (Some p) = clause_parts p.0 p.1

-- a term is its own head with the body `true`, unless it is `:-(Head, Body)`
abbrev pub clausal : Tree → Clausal
clausal t = clausal_from t (neck_parts t)
