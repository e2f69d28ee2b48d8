use Rattle.std.proofs.Common.{◌≡◌, ◌+◌, ◌∷◌, [], length, sym, ap, ◌∙◌, arith}
use Rattle.std.proofs.lemmas.Result.{IfOk-weaker}
use Rattle.plterm.specs.Tree.{var, compound, trees}
use Rattle.plread.proofs.Joined.{onto}
use Rattle.plbuiltin.specs.Parts.{variables_from}
use Rattle.planswers.proofs.Numbered.{one_more, so_many, one_compound}
use Rattle.planswers.proofs.build.compound_of_variables.Goals as goal

pub loop-i-preserved : goal.loop-i-preserved
loop-i-preserved c = one_more c.args.from c.loop-i.i c.new-terms.result c.loop-i.terms c.push.new.self c.loop-i.invariant (c.in_ok-push.ensures.ok ∙ ap (λ x. var (c.args.from + x) ∷ c.loop-i.terms) c.from.ensures)

pub push-requires-2-clause-room : goal.push-requires-2-clause-room
push-requires-2-clause-room c =
    let done : c.loop-i.i ≡ c.args.count = omega (arith, c.loop-i-test.false, c.loop-i.auto.i-end) in
    so_many c.args.from c.args.count c.loop-i.terms (c.loop-i.invariant ∙ ap (λ k. onto (variables_from c.args.from k) c.new-terms.result) done ∙ ap (onto (variables_from c.args.from c.args.count)) c.new-terms.ensures)

pub finish-requires : goal.finish-requires
finish-requires c =
    let done : c.loop-i.i ≡ c.args.count = omega (arith, c.loop-i-test.false, c.loop-i.auto.i-end) in
    let all = c.loop-i.invariant ∙ ap (λ k. onto (variables_from c.args.from k) c.new-terms.result) done ∙ ap (onto (variables_from c.args.from c.args.count)) c.new-terms.ensures in
    ap length (c.in_ok-push-2.ensures.ok ∙ one_compound c.args.name c.args.from c.args.count c.loop-i.terms all)

pub returns : goal.returns
returns c =
    let done : c.loop-i.i ≡ c.args.count = omega (arith, c.loop-i-test.false, c.loop-i.auto.i-end) in
    let all = c.loop-i.invariant ∙ ap (λ k. onto (variables_from c.args.from k) c.new-terms.result) done ∙ ap (onto (variables_from c.args.from c.args.count)) c.new-terms.ensures in
    let made : c.push-2.new.self ≡ compound c.args.name (trees (variables_from c.args.from c.args.count)) ∷ [] = c.in_ok-push-2.ensures.ok ∙ one_compound c.args.name c.args.from c.args.count c.loop-i.terms all in
    IfOk-weaker c.finish.result (λ t. c.push-2.new.self ≡ t ∷ []) (λ t. t ≡ compound c.args.name (trees (variables_from c.args.from c.args.count))) (λ t is. cc (sym is ∙ made)) c.finish.ensures
