use Rattle.std.proofs.Common.{subst, List, ℕ}
use Rattle.std.specs.Prelude.{IfOk}
use Rattle.plterm.specs.Tree.{atom}
use Rattle.plclause.proofs.Names.{IsName-true}
use Rattle.plenv.specs.Changes.{Puts}
use Rattle.plstack.proofs.copier.Copier.put_true.Goals as goal

pub put_atom-requires : goal.put_atom-requires
put_atom-requires c = rw c.args.self.now.is_yes IsName-true

pub returns-clause-ok : goal.returns-clause-ok
returns-clause-ok c =
    subst (λ (s : List ℕ). IfOk c.put_atom.result (λ v. Puts c.args.env.now c.put_atom.new.self v (atom s))) c.args.self.now.is_yes c.put_atom.ensures.ok
