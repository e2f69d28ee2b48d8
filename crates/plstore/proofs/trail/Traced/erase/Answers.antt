use Rattle.std.proofs.Common.{◌∙◌, refl, sym, ap, ap₂}
use Rattle.plevent.specs.declared.update.Update.TheVariants.{Erase}
use Rattle.plstore.specs.declared.trail.Change.{Change}
use Rattle.plstore.specs.Cut.{cut}
use Rattle.plstore.proofs.Tracing.{traced-note, traced-same}
use Rattle.plstore.proofs.trail.Traced.erase.Goals as goal

pub returns-in-None-clause-traced : goal.returns-in-None-clause-traced
returns-in-None-clause-traced c = traced-same c.reserve.new.self _ c.in-None.ensures.was refl c.reserve.ensures.traced

pub returns-in-Some-clause-traced : goal.returns-in-Some-clause-traced
returns-in-Some-clause-traced c =
    let t = c.reserve.new.self in
    let kept = c.reserve.ensures.kept in
    let d = c.erase in
    traced-note c.args.place (Change.Erased c.in-Some.erasure) (Erase c.args.of) t c.note.new.self d.new.tables c.reserve.ensures.traced (ap (cut c.args.place) kept ∙ c.requires.above ∙ sym kept) c.in-Some.ensures.was d.ensures.chained
    (ap₂ (λ rs ds. record { records = rs; declared = ds }) d.ensures.erased (ap (λ v. v.items) d.ensures.declared)) c.note.ensures.tables c.note.ensures.trail
