use Rattle.std.proofs.Common.{◌≡◌, ◌∙◌, [], List, ap, sym, arith}
use Rattle.plcode.specs.declared.callee.Callee.{Callee}
use Rattle.plcode.specs.declared.callee.Entry.{Entry}
use Rattle.plcode.specs.Callees.{callee_at, found}
use Rattle.plcode.proofs.Callees.{callees_none, found_last}
use Rattle.plcode.proofs.Rows.{popped_none}
use Rattle.plcode.proofs.callee.Callees.of.Goals as goal

pub entries-init : goal.entries-init
entries-init c = λ n.
    ap (λ (o : Callee). found o c.args.entries.items n) (callees_none (record { atoms = c.new.result; functors = c.new-2.result }) c.new.ensures.items c.new-2.ensures.items n)

pub entries-preserved : goal.entries-preserved
entries-preserved c = λ n.
    let left = c.pop.new.self.items in
    let e = c.in-Some.entry in
    let d = callee_at c.entries.callees n in
    ap (λ (o : Callee). found o left n) (c.in_ok-set.ensures n)
    ∙ sym (found_last d left e n)
    ∙ sym (ap (λ (es : List Entry). found d es n) c.in-Some.ensures.items)
    ∙ c.entries.invariant n

pub returns : goal.returns
returns c = λ n.
    let none : c.entries.entries.items ≡ [] = popped_none c.entries.entries.items c.pop.new.self.items _ c.in_default.ensures.items c.in_default.ensures.rest (omega (arith, c.entries.entries.ok.0)) in
    sym (ap (λ (es : List Entry). found (callee_at c.entries.callees n) es n) none) ∙ c.entries.invariant n
