use Rattle.std.proofs.Common.{◌≡◌, ◌-◌, length, refl, arith}
use Rattle.plpack.specs.Unpacking.{IsFault}
use Rattle.plpack.proofs.Following.{fault_none}
use Rattle.plcells.proofs.Kept.{Keeps-trans}
use Rattle.plpacked.proofs.Steps.{putting-start, putting-close, putting-fault, putting-add, putting-end}
use Rattle.plpacked.proofs.putting.put_all.Goals as goal
use Rattle.plpacked.proofs.putting.put_all.Goals.{After-drop-term-in_default-3}

pub steps-init : goal.steps-init
steps-init c = let e = c.new-term.ensures in putting-start c.args.bytes.now c.args.heap.now c.args.number c.new-term.result e.0 e.1 e.2 e.3

pub returns-in_err-close-in-Full-clause-keeps : goal.returns-in_err-close-in-Full-clause-keeps
returns-in_err-close-in-Full-clause-keeps c = Keeps-trans c.args.heap.now c.steps.heap c.close.new.heap c.steps.invariant.adds.preserves.keeps c.in_err-close-in-Full.ensures.keeps

no_next : (c : After-drop-term-in_default-3) → IsFault c.args.bytes.now (length c.args.bytes.now - length c.steps.rest.now)
no_next c =
    let w = c.steps.term in
    let none = rw c.in_default.is at c.in_ok-next-in-Waiting.ensures in
    let seen : c.len-seen.result ≡ length w.variables.items = omega (arith, c.len-seen.ensures, w.variables.ok.0) in
    putting-fault c.args.bytes.now c.steps.rest.now c.args.heap.now c.steps.heap c.args.number w c.steps.invariant c.in-Waiting.ensures (rw seen at none)

pub returns-in_default-clause-fault : goal.returns-in_default-clause-fault
returns-in_default-clause-fault c = no_next c

pub returns-in_default-clause-none : goal.returns-in_default-clause-none
returns-in_default-clause-none c = fault_none _ _ (no_next c) (omega arith)

pub steps-preserved : goal.steps-preserved
steps-preserved c =
    let w = c.steps.term in
    let next = rw c.in-Some.is at c.in_ok-next-in-Waiting.ensures in
    let seen : c.len-seen.result ≡ length w.variables.items = omega (arith, c.len-seen.ensures, w.variables.ok.0) in
    putting-add c.args.bytes.now c.steps.rest.now c.args.heap.now c.steps.heap c.args.number w c.steps.invariant c.add.new.heap c.add.new.self _ _ c.in-Waiting.ensures next.item (rw seen at next.numbered) c.in_ok-add-in-Waiting.ensures.ok

pub returns-in_err-add-in-Waiting-clause-keeps : goal.returns-in_err-add-in-Waiting-clause-keeps
returns-in_err-add-in-Waiting-clause-keeps c = Keeps-trans c.args.heap.now c.steps.heap c.add.new.heap c.steps.invariant.adds.preserves.keeps c.in_err-add-in-Waiting.ensures.keeps

pub returns-in-Whole-clause-ok : goal.returns-in-Whole-clause-ok
returns-in-Whole-clause-ok c =
    let w = c.steps.term in
    putting-end c.args.bytes.now c.steps.rest.now c.args.heap.now c.steps.heap c.args.number w c.steps.invariant c.in-Whole.value c.in-Whole.ensures.0 c.in-Whole.ensures.1 _ refl refl (omega (arith, c.len.ensures, w.variables.ok.0)) (omega arith)

pub steps-preserved-in-Full : goal.steps-preserved-in-Full
steps-preserved-in-Full c =
    putting-close c.args.bytes.now c.steps.rest.now c.args.heap.now c.steps.heap c.args.number c.steps.term c.steps.invariant c.close.new.heap c.close.new.self c.in_ok-close-in-Full.ensures.ok
