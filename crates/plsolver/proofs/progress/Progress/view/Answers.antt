use Rattle.std.proofs.Common.{◌≡◌, ℕ, inl, inr}
use Rattle.plstore.specs.declared.query.Query.{Query}
use Rattle.plsolver.specs.Fetching.{Fetches}
use Rattle.plsolver.proofs.Seeking.{finds-none}
use Rattle.plsolver.proofs.progress.Progress.view.Goals as goal

pub returns-in-Visit-clause-is : goal.returns-in-Visit-clause-is
returns-in-Visit-clause-is c = go
  where
    go : (g : ℕ) (q : Query) → Fetches c.args.self.now g q → c.walk_view.result ≡ g
    go g q (inl f) = absurd (finds-none c.args.self.now.machine.mode f.0 f.1 c.in-Visit.is)
    go g q (inr w) = c.walk_view.ensures.is g q w
