use Rattle.std.proofs.Common.{◌∙◌, sym, refl, w64, FitsSigned, rules}
use Rattle.std.proofs.lemmas.Int.{to_z-of_z}
use Rattle.plarith.proofs.Going.{back_one, back_left, back_right, waiting-one, waiting-left, waiting-right, ahead-follows}
use Rattle.plarith.proofs.evaluate.go_back.Goals as goal

pub returns-in-Some-One-clause-goes : goal.returns-in-Some-One-clause-goes
returns-in-Some-One-clause-goes c =
    λ w.
    let a = rw (to_z-of_z w64 c.args.x c.ranges.x) at c.apply.ensures in
    rw (c.in-Some-One.ensures.items, c.in-Some-One.field-0-is, c.after.ensures, a) (back_one w _ _ c.args.x)

pub returns-in-Some-One-clause-there : goal.returns-in-Some-One-clause-there
returns-in-Some-One-clause-there c = rw (c.in-Some-One.ensures.items, c.in-Some-One.field-0-is, c.after.ensures) (ahead-follows c.pop.new.self.items c.apply.result ∙ sym (waiting-one c.pop.new.self.items c.in-Some-One.f))

pub returns-in_ok-push-in-Some-Left-clause-goes : goal.returns-in_ok-push-in-Some-Left-clause-goes
returns-in_ok-push-in-Some-Left-clause-goes c =
    λ w.
    let items = rw (to_z-of_z w64 c.args.x c.ranges.x) at c.in_ok-push-in-Some-Left.ensures.items in
    rw (c.in-Some-Left.ensures.items, c.in-Some-Left.field-0-is, items) (back_left w _ _ _ c.args.x)

pub returns-in_ok-push-in-Some-Left-clause-there :
    goal.returns-in_ok-push-in-Some-Left-clause-there
returns-in_ok-push-in-Some-Left-clause-there c =
    rw (c.in-Some-Left.ensures.items, c.in-Some-Left.field-0-is, c.in_ok-push-in-Some-Left.ensures.items, waiting-right, waiting-left) refl

pub returns-in-Some-Right-clause-goes : goal.returns-in-Some-Right-clause-goes
returns-in-Some-Right-clause-goes c =
    λ w.
    let fits : FitsSigned w64 c.in-Some-Right.left = search rules in
    let a = rw (to_z-of_z w64 c.in-Some-Right.left fits, to_z-of_z w64 c.args.x c.ranges.x) at c.apply-in-Some-Right.ensures in
    rw (c.in-Some-Right.ensures.items, c.in-Some-Right.field-0-is, c.after-in-Some-Right.ensures, a) (back_right w _ _ c.in-Some-Right.left c.args.x)

pub returns-in-Some-Right-clause-there : goal.returns-in-Some-Right-clause-there
returns-in-Some-Right-clause-there c =
    rw (c.in-Some-Right.ensures.items, c.in-Some-Right.field-0-is, c.after-in-Some-Right.ensures) (ahead-follows c.pop.new.self.items c.apply-in-Some-Right.result ∙ sym (waiting-right c.pop.new.self.items c.in-Some-Right.f c.in-Some-Right.left))
