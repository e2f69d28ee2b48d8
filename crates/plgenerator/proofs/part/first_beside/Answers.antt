use Rattle.std.proofs.Common.{◌≡◌, ◌+◌, arith, sym, ap, ◌∙◌, rules}
use Rattle.plgenerator.specs.Fitting.{fitting}
use Rattle.plbuiltin.specs.Pieces.{parts_at}
use Rattle.plgenerator.proofs.Beside.{one-beside, none-beside, too-far, not-ending}
use Rattle.plgenerator.proofs.part.first_beside.Goals as goal

pub returns-in-None-clause-none : goal.returns-in-None-clause-none
returns-in-None-clause-none c = λ us w cs is.
    let p = c.args.part in
    let room : c.from.result + c.from-2.result ≡ p.length + p.after = omega (arith, c.from.ensures, c.from-2.ensures) in
    none-beside cs us p.offset.characters p.length p.after _ room (c.in-None.ensures us w cs p.offset.characters (omega (arith, room, is.all)))

pub returns-in_default-clause-none : goal.returns-in_default-clause-none
returns-in_default-clause-none c = λ us w cs is.
    let p = c.args.part in
    let room : c.from.result + c.from-2.result ≡ p.length + p.after = omega (arith, c.from.ensures, c.from-2.ensures) in
    too-far cs us p.offset.characters p.length p.after _ room c.in-One.length (c.in-One.ensures us w cs p.offset.characters (omega (arith, room, is.all))) (search rules)

pub returns-then-may_end-clause-fits : goal.returns-then-may_end-clause-fits
returns-then-may_end-clause-fits c = λ us w cs is.
    let p = c.args.part in
    let q = c.in-Some.found in
    let room : c.from.result + c.from-2.result ≡ p.length + p.after = omega (arith, c.from.ensures, c.from-2.ensures) in
    let allowed = c.in-One.ensures us w cs p.offset.characters (omega (arith, room, is.all)) in
    let length : c.in-One.length ≡ q.length = sym c.in-Some.ensures.some.0 in
    one-beside cs us p.offset.characters p.length p.after _ room q.length q.after c.in-Some.ensures.same.1 (omega (arith, length, c.in-Some.ensures.some.1)) (rw length at allowed)
    ∙ ap (λ o. fitting (parts_at cs us o.characters q.length q.after)) (sym c.in-Some.ensures.same.0)

pub returns-else-may_end-clause-none : goal.returns-else-may_end-clause-none
returns-else-may_end-clause-none c = λ us w cs is.
    let p = c.args.part in
    let q = c.in-Some.found in
    let room : c.from.result + c.from-2.result ≡ p.length + p.after = omega (arith, c.from.ensures, c.from-2.ensures) in
    let allowed = c.in-One.ensures us w cs p.offset.characters (omega (arith, room, is.all)) in
    let length : c.in-One.length ≡ q.length = sym c.in-Some.ensures.some.0 in
    let miss = c.may_end.ensures c.if-may_end.false us w cs in
    not-ending cs us p.offset.characters p.length p.after _ room q.length q.after c.in-Some.ensures.same.1 (rw length at allowed) (rw c.in-Some.ensures.same.0 at miss)
