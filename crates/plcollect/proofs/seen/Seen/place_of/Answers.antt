use Rattle.std.proofs.Common.{◌≡◌, ◌++◌, length, ap, sym, ◌∙◌, arith}
use Rattle.plterm.specs.Variables.{place}
use Rattle.plcollect.proofs.Numbering.{place-low}
use Rattle.plcollect.proofs.Seeing.{added-back, added-front, added-last, place-back, place-front}
use Rattle.plcollect.proofs.seen.Seen.place_of.Goals as goal

pub returns-then-place-len-clause-place : goal.returns-then-place-len-clause-place
returns-then-place-len-clause-place c =
    let few = c.self.inside.few in
    let x = c.args.number in
    let here : c.place_in-place.result ≡ place x few.items = c.place_in-place.ensures ∙ ap (place x) c.deref.ensures.value in
    rw (← c.self.view_is) (here ∙ sym (place-front x few.items c.self.inside.more (omega (arith, here, c.if-place-len.true, c.len.ensures, few.ok.0))))

pub returns-then-place-len-clause-ok : goal.returns-then-place-len-clause-ok
returns-then-place-len-clause-ok c =
    let few = c.self.inside.few in
    let x = c.args.number in
    let here : c.place_in-place.result ≡ place x few.items = c.place_in-place.ensures ∙ ap (place x) c.deref.ensures.value in
    rw (← c.self.view_is) (sym (added-front x few.items c.self.inside.more (omega (arith, here, c.if-place-len.true, c.len.ensures, few.ok.0))))

pub returns-then-place-lt-FEW-clause-ok : goal.returns-then-place-lt-FEW-clause-ok
returns-then-place-lt-FEW-clause-ok c =
    let few = c.self.inside.few in
    let more = c.self.inside.more in
    let x = c.args.number in
    let here : c.place_in-place.result ≡ place x few.items = c.place_in-place.ensures ∙ ap (place x) c.deref.ensures.value in
    let behind : place x few.items ≡ length few.items = omega (arith, here, c.if-place-len.false, c.len.ensures, few.ok.0, place-low x few.items) in
    let none = c.self.invariant (omega (arith, behind, here, c.if-place-lt-FEW.true)) in
    rw (← c.self.view_is) (ap (λ l. l ++ more) c.in_ok-push.ensures.items ∙ sym (added-last x few.items more behind none))

pub invariant_of-self-2 : goal.invariant_of-self-2
invariant_of-self-2 c =
    let few = c.self.inside.few in
    let x = c.args.number in
    let here : c.place_in-place.result ≡ place x few.items = c.place_in-place.ensures ∙ ap (place x) c.deref.ensures.value in
    λ low. absurd (omega (arith, low, here, c.if-place-len.false, c.len.ensures, few.ok.0, place-low x few.items, c.if-place-lt-FEW.false))

pub returns-clause-place : goal.returns-clause-place
returns-clause-place c =
    let few = c.self.inside.few in
    let more = c.self.inside.more in
    let x = c.args.number in
    let here : c.place_in-place.result ≡ place x few.items = c.place_in-place.ensures ∙ ap (place x) c.deref.ensures.value in
    let behind : place x few.items ≡ length few.items = omega (arith, here, c.if-place-len.false, c.len.ensures, few.ok.0, place-low x few.items) in
    rw (← c.self.view_is) (omega (arith, c.in-Some.ensures, c.in_ok-behind.ensures.place, here, behind, place-back x few.items more behind))

pub returns-clause-ok : goal.returns-clause-ok
returns-clause-ok c =
    let few = c.self.inside.few in
    let more = c.self.inside.more in
    let x = c.args.number in
    let here : c.place_in-place.result ≡ place x few.items = c.place_in-place.ensures ∙ ap (place x) c.deref.ensures.value in
    let behind : place x few.items ≡ length few.items = omega (arith, here, c.if-place-len.false, c.len.ensures, few.ok.0, place-low x few.items) in
    rw (← c.self.view_is) (ap (λ l. few.items ++ l) c.in_ok-behind.ensures.ok ∙ sym (added-back x few.items more behind))
