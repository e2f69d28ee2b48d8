use Rattle.std.proofs.Common.{◌∙◌, sym, ap, subst, reverse}
use Rattle.plstore.specs.Cut.{cut}
use Rattle.plstore.specs.Tables.{kept_in}
use Rattle.plstore.specs.Trail.{WasBefore}
use Rattle.plstore.proofs.Cutting.{cut-lower}
use Rattle.plstore.proofs.Tracing.{all-below, kept-same, leads-last, leads-same, stored-same}
use Rattle.plstore.proofs.trail.Traced.cut.Goals as goal

pub loop-step-preserved : goal.loop-step-preserved
loop-step-preserved c =
    let s = c.in-Some.step in
    let t = c.loop-step.self in
    let left = c.last_from.new.self.trail.items in
    let u = c.take_back.new.tables in
    let back = leads-last s left t.trail.items t.tables c.in-Some.ensures.last.1 c.loop-step.invariant.traced.back in
    let same = c.take_back.ensures.back back.0 (subst (WasBefore s.change back.0) (sym c.last_from.ensures.tables) back.1.change) in
    record {
      kept = ap (cut c.args.place) (kept-same back.0 u same ∙ back.1.kept) ∙ cut-lower c.args.place s.place (kept_in t.tables) c.in-Some.ensures.last.0 ∙ c.loop-step.invariant.kept;
      traced = record { stored = stored-same back.0 u same back.1.stored; back = leads-same (reverse left) back.0 u same back.2 };
    }

pub returns-clause-kept : goal.returns-clause-kept
returns-clause-kept c =
    let t = c.loop-step.self in
    ap kept_in c.last_from.ensures.tables ∙ sym (all-below c.args.place (reverse t.trail.items) t.tables c.in_default.ensures.below.0 c.loop-step.invariant.traced.back) ∙ c.loop-step.invariant.kept
