use Rattle.std.proofs.Common.{◌∙◌, sym, ap, subst, length}
use Rattle.plrecords.specs.Runs.{HasRuns}
use Rattle.plrecords.proofs.Passing.{written}
use Rattle.plrecords.proofs.runs.bury.Goals as goal

pub returns-clause-runs : goal.returns-clause-runs
returns-clause-runs c = λ p rs links gone runs.
    subst (HasRuns p rs) (sym (written _ _ _ (c.args.places.now.ok.0 ∙ sym (c.bury_in.ensures.len ∙ ap length c.as_mut_slice.ensures.value))))
    (c.bury_in.ensures.runs p rs links gone (subst (HasRuns p rs) (sym c.as_mut_slice.ensures.value) runs))
