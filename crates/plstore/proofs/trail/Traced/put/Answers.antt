use Rattle.std.proofs.Common.{◌∙◌, sym, ap, subst}
use Rattle.plevent.specs.Alive.{named}
use Rattle.plstore.specs.declared.trail.Change.{Change}
use Rattle.plstore.specs.Cut.{cut}
use Rattle.plstore.specs.Plan.{put_update}
use Rattle.plstore.specs.Trail.{WasPut}
use Rattle.plstore.proofs.Since.{put-kept}
use Rattle.plstore.proofs.Tracing.{traced-note}
use Rattle.plstore.proofs.trail.Traced.put.Goals as goal

pub returns-clause-traced : goal.returns-clause-traced
returns-clause-traced c =
    let t = c.reserve.new.self in
    let kept = c.reserve.ensures.kept in
    let d = c.put-linked in
    let was = subst (λ k. WasPut k d.result t.tables d.new.tables) (sym c.in_ok-key.ensures) d.ensures.was in
    traced-note c.args.place (Change.Put c.in_ok-key.key d.result) (put_update c.args.front c.args.clause) t c.note.new.self d.new.tables c.reserve.ensures.traced (ap (cut c.args.place) kept ∙ c.requires.above ∙ sym kept) was d.ensures.chained
    (ap (λ v. record { records = d.new.tables.records.items; declared = v.items }) d.ensures.declared
    ∙ put-kept c.args.front (named c.args.place 0) c.args.clause t.tables.records.items t.tables.declared.items d.new.tables.records.items d.ensures.made) c.note.ensures.tables c.note.ensures.trail
