use Rattle.std.proofs.Common.{◌≡◌, ◌∷◌, [], length, sym, ap, ◌∙◌, arith}
use Rattle.std.proofs.lemmas.Result.{IfOk-weaker}
use Rattle.plread.specs.Texts.{listed}
use Rattle.plread.proofs.Joined.{onto}
use Rattle.plbuiltin.specs.Parts.{variables_from}
use Rattle.planswers.proofs.Numbered.{one_more, so_many, closed}
use Rattle.planswers.proofs.build.list_of_variables.Goals as goal

pub loop-i-preserved : goal.loop-i-preserved
loop-i-preserved c = one_more c.args.from c.loop-i.i c.new-terms.result c.loop-i.terms c.push.new.self c.loop-i.invariant c.in_ok-push.ensures.ok

pub close-requires : goal.close-requires
close-requires c =
    let done : c.loop-i.i ≡ c.args.count = omega (arith, c.loop-i-test.false, c.loop-i.auto.i-end) in
    so_many c.args.from c.args.count c.loop-i.terms (c.loop-i.invariant ∙ ap (λ k. onto (variables_from c.args.from k) c.new-terms.result) done ∙ ap (onto (variables_from c.args.from c.args.count)) c.new-terms.ensures)

pub finish-requires : goal.finish-requires
finish-requires c =
    let done : c.loop-i.i ≡ c.args.count = omega (arith, c.loop-i-test.false, c.loop-i.auto.i-end) in
    let all = c.loop-i.invariant ∙ ap (λ k. onto (variables_from c.args.from k) c.new-terms.result) done ∙ ap (onto (variables_from c.args.from c.args.count)) c.new-terms.ensures in
    ap length (c.in_ok-close.ensures ∙ closed c.args.from c.args.count c.loop-i.terms all)

pub returns : goal.returns
returns c =
    let done : c.loop-i.i ≡ c.args.count = omega (arith, c.loop-i-test.false, c.loop-i.auto.i-end) in
    let all = c.loop-i.invariant ∙ ap (λ k. onto (variables_from c.args.from k) c.new-terms.result) done ∙ ap (onto (variables_from c.args.from c.args.count)) c.new-terms.ensures in
    let made : c.close.new.terms ≡ listed (variables_from c.args.from c.args.count) ∷ [] = c.in_ok-close.ensures ∙ closed c.args.from c.args.count c.loop-i.terms all in
    IfOk-weaker c.finish.result (λ t. c.close.new.terms ≡ t ∷ []) (λ t. t ≡ listed (variables_from c.args.from c.args.count)) (λ t is. cc (sym is ∙ made)) c.finish.ensures
