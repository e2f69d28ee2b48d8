use Rattle.std.proofs.Common.{refl, inl, inr}
use Rattle.plsolver.specs.Says.{Says}
use Rattle.plsolver.specs.Fetching.{find_view}
use Rattle.plsolver.proofs.progress.Progress.wanted.Goals.{in-Find+in_ok-query-in-Find, in-Visit+in_ok-query-in-Visit}
use Rattle.plsolver.proofs.progress.Progress.wanted.Goals as goal

pub returns-clause-says : goal.returns-clause-says
unfolding Says
returns-clause-says c P b =
    elim c.match-self.branch [
      | in-Find+in_ok-query-in-Find w ↦ rw w.query-is ((find_view w.in-Find.find).place, inl (w.in-Find.find, w.in-Find.is, refl, w.in_ok-query-in-Find.ensures))
      | in-Visit+in_ok-query-in-Visit w ↦ rw w.query-is (let o = w.in_ok-query-in-Visit.ensures in (o.0, inr o.1))
    ]
