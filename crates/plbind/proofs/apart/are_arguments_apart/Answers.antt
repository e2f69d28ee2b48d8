use Rattle.std.proofs.Common.{◌≡◌, suc, ◌+◌, ◌-◌, sym, ap, ◌∙◌, subst, arith}
use Rattle.plcells.specs.Store.{term, terms, value}
use Rattle.plbind.specs.Apart.{AreApart, ListsApart}
use Rattle.plbind.proofs.Clashing.{first-apart, rest-apart}
use Rattle.plbind.proofs.apart.are_arguments_apart.Goals as goal

pub returns-then-is_root_apart : goal.returns-then-is_root_apart
returns-then-is_root_apart c h =
    let heap = c.args.heap.now in
    let at = c.args.p + 1 + c.loop-i.i in
    let n = c.args.count - suc c.loop-i.i in
    let all : suc n + c.loop-i.i ≡ c.args.count = omega arith in
    let is : c.after.result ≡ at = omega (arith, c.after.ensures, c.arg.ensures, c.from.ensures) in
    let here : value heap c.root-root.result ≡ term heap at = c.root-root.ensures.same ∙ c.argument.ensures.same ∙ ap (term heap) is in
    let apart = subst (λ t. AreApart t c.in-Some.arg) here (c.is_root_apart.ensures c.if-is_root_apart.true) in
    c.loop-i.invariant (suc n) all (subst (ListsApart (terms heap at (suc n))) (sym c.in-Some.ensures) (first-apart (term heap at) c.in-Some.arg (terms heap (suc at) n) c.next_term.new.self apart))

pub loop-i-preserved : goal.loop-i-preserved
loop-i-preserved c k all apart =
    let heap = c.args.heap.now in
    let at = c.args.p + 1 + c.loop-i.i in
    let next : c.args.p + 1 + (c.loop-i.i + 1) ≡ suc at = omega arith in
    let more : suc k + c.loop-i.i ≡ c.args.count = omega (arith, all) in
    let rest = subst (λ j. ListsApart (terms heap j k) c.next_term.new.self) next apart in
    c.loop-i.invariant (suc k) more (subst (ListsApart (terms heap at (suc k))) (sym c.in-Some.ensures) (rest-apart (term heap at) c.in-Some.arg (terms heap (suc at) k) c.next_term.new.self rest))
