use Rattle.std.proofs.Common.{◌++◌, ◌∷◌, [], ap, arith, ◌∙◌}
use Rattle.std.proofs.lemmas.List.Elements.{All-same, All-push, All-head, All-tail}
use Rattle.plarith.specs.Frames.{waiting}
use Rattle.plarith.proofs.Going.{goes_known, goes_one, goes_two, waiting-one, waiting-left}
use Rattle.plarith.proofs.evaluate.go_in.Goals as goal

pub returns-in-Known-clause-goes : goal.returns-in-Known-clause-goes
returns-in-Known-clause-goes g c =
    let is = rw c.in-Known.is at c.in_ok-found.ensures.is in
    let lighter = rw c.in-Known.is at c.in_ok-found.ensures.lighter in
    rw c.after.ensures (goes_known _ _ c.args.operand _ is lighter)

pub returns-in_ok-push-in-One-clause-goes : goal.returns-in_ok-push-in-One-clause-goes
returns-in_ok-push-in-One-clause-goes g c =
    let is = rw c.in-One.is at c.in_ok-found.ensures.is in
    let lighter = rw c.in-One.is at c.in_ok-found.ensures.lighter in
    rw c.in_ok-push-in-One.ensures.items (goes_one _ _ c.args.operand c.in-One.argument c.in-One.f is (omega (arith, lighter)))

pub returns-in_ok-push-in-One-clause-there : goal.returns-in_ok-push-in-One-clause-there
returns-in_ok-push-in-One-clause-there g c =
    let P = g.S.Operands.is_operand c.args.source.now in
    let fs = c.args.frames.now.items in
    let argument = c.in-One.argument in
    let there = rw c.in-One.is at c.in_ok-found.ensures.there in
    All-same P (waiting c.push.new.self.items ++ argument ∷ []) (waiting fs ++ argument ∷ []) (ap (λ ps. ps ++ argument ∷ []) (ap waiting c.in_ok-push-in-One.ensures.items ∙ waiting-one fs c.in-One.f))
    (All-push P (waiting fs) argument c.requires.waiting (All-head P argument [] there))

pub returns-in_ok-push-in-Two-clause-goes : goal.returns-in_ok-push-in-Two-clause-goes
returns-in_ok-push-in-Two-clause-goes g c =
    let is = rw c.in-Two.is at c.in_ok-found.ensures.is in
    let lighter = rw c.in-Two.is at c.in_ok-found.ensures.lighter in
    rw c.in_ok-push-in-Two.ensures.items (goes_two _ _ c.args.operand c.in-Two.left c.in-Two.right c.in-Two.f is (omega (arith, lighter)))

pub returns-in_ok-push-in-Two-clause-there : goal.returns-in_ok-push-in-Two-clause-there
returns-in_ok-push-in-Two-clause-there g c =
    let P = g.S.Operands.is_operand c.args.source.now in
    let fs = c.args.frames.now.items in
    let left = c.in-Two.left in
    let right = c.in-Two.right in
    let there = rw c.in-Two.is at c.in_ok-found.ensures.there in
    let waits = All-push P (waiting fs) right c.requires.waiting (All-head P right [] (All-tail P left (right ∷ []) there)) in
    All-same P (waiting c.push-in-Two.new.self.items ++ left ∷ []) ((waiting fs ++ right ∷ []) ++ left ∷ []) (ap (λ ps. ps ++ left ∷ []) (ap waiting c.in_ok-push-in-Two.ensures.items ∙ waiting-left fs c.in-Two.f right))
    (All-push P (waiting fs ++ right ∷ []) left waits (All-head P left (right ∷ []) there))
