use Rattle.std.proofs.Common.{◌∙◌, sym, ap, subst, length, ◌++◌, ◌∷◌, []}
use Rattle.plrecords.specs.Runs.{HasRuns}
use Rattle.plrecords.proofs.Passing.{runs-same, written}
use Rattle.plrecords.proofs.runs.add_place.Goals as goal

pub returns-in-Some-clause-runs : goal.returns-in-Some-clause-runs
returns-in-Some-clause-runs c = λ p rs r runs.
    subst (HasRuns p (rs ++ r ∷ [])) (sym (written _ _ _ (c.append-2.new.places.ok.0 ∙ sym (c.set_from.ensures.same.count ∙ ap length c.as_mut_slice.ensures.value))))
    (runs-same p (rs ++ r ∷ []) _ c.set_from.new.places c.set_from.ensures.same
    (subst (HasRuns p (rs ++ r ∷ [])) (sym c.as_mut_slice.ensures.value) (c.append-2.ensures.runs p rs r runs)))
