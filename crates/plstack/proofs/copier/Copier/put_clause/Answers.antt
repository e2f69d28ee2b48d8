use Rattle.std.proofs.Common.{◌∷◌, [], map, subst, List, ℕ}
use Rattle.std.specs.Prelude.{IfOk}
use Rattle.plterm.specs.Tree.{compound, trees}
use Rattle.plcells.specs.Store.{value}
use Rattle.plenv.specs.Changes.{Puts}
use Rattle.plstack.proofs.Pairing.{neck_name}
use Rattle.plstack.proofs.copier.Copier.put_clause.Goals as goal

pub put_named-requires-clause-name : goal.put_named-requires-clause-name
put_named-requires-clause-name c = rw c.args.self.now.is_neck neck_name

pub returns-clause-ok : goal.returns-clause-ok
returns-clause-ok c =
    let h = c.args.env.now.heap in
    subst (λ (s : List ℕ). IfOk c.put_named.result (λ v. Puts c.args.env.now c.put_named.new.self v (compound s (trees (map (value h) (c.args.head ∷ c.args.body ∷ []))))))
    c.args.self.now.is_neck c.put_named.ensures.ok
