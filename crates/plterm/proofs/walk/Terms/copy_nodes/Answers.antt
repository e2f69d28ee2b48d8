use Rattle.std.proofs.Common.{◌≡◌, ◌<◌, ◌+◌, ◌-◌, ◌∷◌, ◌++◌, [], length, ap, arith, ◌∙◌}
use Rattle.plterm.specs.Reading.{arity, read}
use Rattle.plterm.proofs.Forests.{length-read}
use Rattle.plterm.proofs.Steps.{copies_step}
use Rattle.plterm.proofs.walk.Terms.copy_nodes.Goals as goal

pub terms-preserved : goal.terms-preserved
terms-preserved c =
    let n = c.in-Some.node.now in
    let e = c.in-Some.ensures in
    let some : c.len.result - c.args.count < length c.terms.self = omega (arith, c.terms-test.true, c.len-in-terms.ensures) in
    let grown : length (read n c.enter.new.self) + arity n ≡ length c.enter.new.self + 1 = length-read n c.enter.new.self e.room in
    let same : length c.terms.self ≡ length (read n c.enter.new.self) = ap length e.before in
    let push : c.push.new.self.items ≡ c.terms.made.items ++ n ∷ [] = c.in_ok-push-in-Some.ensures.items ∙ ap (λ m. c.terms.made.items ++ m ∷ []) c.in_ok-copied-in-Some.ensures in
    record {
      room = omega arith;
      copies = copies_step _ _ _ (length c.terms.self - (c.len.result - c.args.count)) _ _ _ _ _ n c.terms.invariant.copies (omega arith) e (omega arith) push;
    }
