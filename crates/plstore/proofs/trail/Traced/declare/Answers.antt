use Rattle.std.proofs.Common.{◌∙◌, sym, ap, ap₂}
use Rattle.plevent.specs.declared.update.Update.TheVariants.{Declare}
use Rattle.plstore.specs.declared.trail.Change.{Change}
use Rattle.plstore.specs.Cut.{cut}
use Rattle.plstore.specs.Trail.{WasDeclared}
use Rattle.plstore.proofs.Tracing.{traced-note}
use Rattle.plstore.proofs.trail.Traced.declare.Goals as goal

pub returns-clause-traced : goal.returns-clause-traced
returns-clause-traced c =
    let t = c.reserve.new.self in
    let kept = c.reserve.ensures.kept in
    let d = c.declare-ends in
    let was = Rattle.std.proofs.Common.subst (λ k. WasDeclared k d.result t.tables d.new.tables) (sym c.in_ok-noted.ensures) d.ensures.was in
    traced-note c.args.place (Change.Declared c.in_ok-noted.noted d.result) (Declare c.args.pred) t c.note.new.self d.new.tables c.reserve.ensures.traced (ap (cut c.args.place) kept ∙ c.requires.above ∙ sym kept) was d.ensures.chained
    (ap₂ (λ rs ds. record { records = rs; declared = ds }) (ap (λ v. v.items) d.ensures.records) d.ensures.made) c.note.ensures.tables c.note.ensures.trail
