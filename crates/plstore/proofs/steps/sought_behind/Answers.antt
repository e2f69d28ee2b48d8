use Rattle.std.proofs.Common.{◌∙◌, false, refl, sym, ap, get_or}
use Rattle.plstore.proofs.Merging.{found-behind}
use Rattle.plstore.proofs.Visible.{not-shown}
use Rattle.plstore.proofs.steps.sought_behind.Goals as goal

pub returns-then-not-is_shown : goal.returns-then-not-is_shown
returns-then-not-is_shown c = λ x one.
    let q = c.args.sought.now in
    let r = c.record_at-one.result.now in
    not-shown q.g q.pred.now q.key.now x c.args.tables.now.records.items c.args.number r one
    (c.record_at-one.ensures ∙ ap (λ rs. get_or rs c.args.number r) c.as_slice.ensures.value) (sym c.is_shown.ensures ∙ c.if-not-is_shown.true)

pub returns-then-matches : goal.returns-then-matches
returns-then-matches c = λ x one.
    let q = c.args.sought.now in
    let r = c.record_at-one.result.now in
    found-behind false q.g q.pred.now q.key.now x c.args.tables.now.records.items c.args.number r c.any_behind.result one
    (c.record_at-one.ensures ∙ ap (λ rs. get_or rs c.args.number r) c.as_slice.ensures.value) (sym c.is_shown.ensures ∙ c.if-not-is_shown.false) c.if-not-one.true c.any_behind.ensures

pub returns : goal.returns
returns c = λ x one.
    let q = c.args.sought.now in
    let r = c.record_at-one.result.now in
    found-behind r.front q.g q.pred.now q.key.now x c.args.tables.now.records.items c.args.number r c.sought_from.result one
    (c.record_at-one.ensures ∙ ap (λ rs. get_or rs c.args.number r) c.as_slice.ensures.value) (sym c.is_shown.ensures ∙ c.if-not-is_shown.false) refl c.sought_from.ensures
