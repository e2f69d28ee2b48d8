use Rattle.std.proofs.Common.{◌∷◌, [], length, reverse}
use Rattle.plterm.specs.Tree.{Tree}
use Rattle.plcode.specs.Steps.{text, Extended}
use Rattle.plcode.specs.Bodies.{IsCode, Leads}
use Rattle.plcode.proofs.body.put_body.Given as goal
use Rattle.plcode.proofs.Folds.{Folding}

abbrev pub invariant-pieces : goal.invariant-pieces
invariant-pieces l = record {
  code : IsCode (text l.code);
  extended : Extended (text l.initial.code) (text l.code);
  folds : (g : Tree) → Leads (text l.initial.code) l.fn.pieces.items (g ∷ []) [] → Folding (text l.code) g l.pieces.items (reverse l.parts.items) (reverse l.made.items);
}

abbrev pub decreases-pieces : goal.decreases-pieces
decreases-pieces l = length l.pieces.items
