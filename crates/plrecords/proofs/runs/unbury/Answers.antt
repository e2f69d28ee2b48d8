use Rattle.std.proofs.Common.{◌∙◌, sym, ap, subst, length}
use Rattle.plrecords.specs.Runs.{SameRuns}
use Rattle.plrecords.specs.Undone.{HadRuns}
use Rattle.plrecords.proofs.Passing.{written}
use Rattle.plrecords.proofs.runs.unbury.Goals as goal

pub returns : goal.returns
returns c = record {
  back = λ xs h. subst (SameRuns xs) (sym (written _ _ _ (c.args.places.now.ok.0 ∙ sym (c.unbury_in.ensures.len ∙ ap length c.as_mut_slice.ensures.value))))
      (c.unbury_in.ensures.back xs (subst (HadRuns c.args.buried.now xs) (sym c.as_mut_slice.ensures.value) h));
}
