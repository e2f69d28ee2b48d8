use Rattle.std.proofs.Common.{◌≡◌, true, false, Err, sym, ap, ◌∙◌}
use Rattle.plcells.specs.Store.{value}
use Rattle.plbuiltin.specs.Lists.{Elements, Other, elements_of, is_partial}
use Rattle.planswers.specs.Lists.{tail_as}
use Rattle.planswers.proofs.Spelled.{text_amiss, text_other, text_partial}
use Rattle.planswers.proofs.text.text_error.Goals as goal

pub returns-then-is_partial : goal.returns-then-is_partial
returns-then-is_partial c =
    let t = value c.args.heap.now c.args.v in
    let partial : is_partial (elements_of t) ≡ true = ap is_partial c.in_ok-list.ensures.is ∙ sym c.is_partial.ensures ∙ c.if-is_partial.true in
    λ k e. text_partial k t partial ∙ ap Err (sym c.in_ok-instantiation_error.ensures)

pub returns-in_default : goal.returns-in_default
returns-in_default c =
    let t = value c.args.heap.now c.args.v in
    let whole : is_partial (elements_of t) ≡ false = ap is_partial c.in_ok-list.ensures.is ∙ sym c.is_partial.ensures ∙ c.if-is_partial.false in
    λ k e. text_amiss k t c.in_ok-list.list.tail c.args.error whole (ap (λ (es : Elements). es.tail) c.in_ok-list.ensures.is) c.in_default.not-Other e

pub returns : goal.returns
returns c =
    let t = value c.args.heap.now c.args.v in
    let whole : is_partial (elements_of t) ≡ false = ap is_partial c.in_ok-list.ensures.is ∙ sym c.is_partial.ensures ∙ c.if-is_partial.false in
    λ k e. text_other k t whole (ap (λ (es : Elements). es.tail) c.in_ok-list.ensures.is ∙ ap tail_as c.in-Other.is) ∙ ap Err (sym c.in_ok-type_error.ensures)
