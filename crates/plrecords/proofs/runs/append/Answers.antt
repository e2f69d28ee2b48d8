use Rattle.std.proofs.Common.{subst, sym, refl, ◌++◌, ◌∷◌, [], None}
use Rattle.plrecords.specs.Runs.{HasRuns}
use Rattle.plrecords.proofs.Passing.{runs-push}
use Rattle.plrecords.proofs.runs.append.Goals as goal

pub returns-clause-runs : goal.returns-clause-runs
returns-clause-runs c = λ p rs r runs.
    subst (HasRuns p (rs ++ r ∷ [])) (sym c.in-Ok.ensures.items) (runs-push p rs r c.args.places.now.items (record { run = None; from = c.short.result; group = c.alone.result; leap = c.args.leap }) refl runs)
