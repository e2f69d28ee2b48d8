-- A call of a static procedure whose clauses are to be tried.
use Rattle.std.specs.Prelude.{◌≡◌, ℕ, List, map}
use Rattle.platoms.specs.Names.{Extends as ExtendsNames}
use Rattle.plclause.specs.Clause.{Clause}
use Rattle.plcells.specs.declared.cell.Cell.{Cell}
use Rattle.plcells.specs.Store.{AreValues, value}
use Rattle.plcode.specs.declared.key.Key.{Key}
use Rattle.plcode.specs.declared.clause.ClauseCode.{ClauseCode}
use Rattle.plcode.specs.declared.node.Node.{Node}
use Rattle.plcode.specs.Keys.{IsFirstKey}
use Rattle.plcode.specs.Laying.{IsLaid}
use Rattle.plcode.specs.Steps.{Text}
use Rattle.plenv.specs.Env.{Env}
use Rattle.plstack.specs.Fits.{IsOwn, AreOwn}

-- a goal of a name and of values, and clauses for the name with their code
pub record IsAttempt (c : Text) (e : Env) (name : List ℕ) (values : List Cell) (key : Key) (nodes : List Node) (ks : List ClauseCode) (xs : List Clause) : Type 0 where
  pub laid : IsLaid c.names c.nodes
  pub nodes_are : nodes ≡ c.nodes
  pub names : ExtendsNames c.names e.heap.names
  pub fit : AreValues e.heap values
  pub key_is : IsFirstKey e.heap.names key (map (value e.heap) values)
  pub own : AreOwn c name ks xs

-- a clause of it that is tried
pub record IsTried (c : Text) (e : Env) (name : List ℕ) (values : List Cell) (nodes : List Node) (k : ClauseCode) (x : Clause) : Type 0 where
  pub laid : IsLaid c.names c.nodes
  pub nodes_are : nodes ≡ c.nodes
  pub names : ExtendsNames c.names e.heap.names
  pub fit : AreValues e.heap values
  pub own : IsOwn c name k x
