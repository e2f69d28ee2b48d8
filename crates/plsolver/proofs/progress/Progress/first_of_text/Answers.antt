use Rattle.std.proofs.Common.{◌+◌, suc, refl, sym, ap, ◌∙◌, arith, drop, ◌∷◌}
use Rattle.plcells.specs.Store.{value}
use Rattle.plstack.specs.declared.frame.Spot.TheVariants as spots
use Rattle.plstack.specs.StaticCalls.{database_of}
use Rattle.plmachine.proofs.Moves.{on_err, on_err_map}
use Rattle.plsolver.specs.declared.progress.Progress.{Progress}
use Rattle.plsolver.proofs.Texts.{drop-at, text-next, whole-now}
use Rattle.plsolver.proofs.Trying.{if_none_map, if_some_map, retries-same}
use Rattle.plsolver.proofs.Ending.{text-on}
use Rattle.plsolver.proofs.progress.Progress.first_of_text.Goals as goal

pub clauses-init : goal.clauses-init
clauses-init c = record { at = c.requires.at; text = c.requires.text; uses = refl; goal = refl; cases = λ P v own whole. refl; basis = refl; walks = refl; frame = refl }

pub returns-in_err-next-clause-err : goal.returns-in_err-next-clause-err
returns-in_err-next-clause-err c = on_err c.from_residual.result c.clauses.invariant.cases

pub returns-in_err-next-clause-basis : goal.returns-in_err-next-clause-basis
returns-in_err-next-clause-basis c = c.clauses.invariant.basis

pub returns-in_err-next-clause-frame : goal.returns-in_err-next-clause-frame
returns-in_err-next-clause-frame c = c.clauses.invariant.frame

pub try_walk-requires : goal.try_walk-requires
try_walk-requires c = record { at = (c.clauses.at.point, c.clauses.at.walk, c.clauses.invariant.at); seen = tt }

pub returns-in_err-entered-clause-err : goal.returns-in_err-entered-clause-err
returns-in_err-entered-clause-err c = on_err c.from_residual-in_err-entered.result (λ P v own whole. c.in_err-entered.ensures.err (database_of P v own) ∙ c.clauses.invariant.cases P v own whole)

pub returns-in_err-entered-clause-basis : goal.returns-in_err-entered-clause-basis
returns-in_err-entered-clause-basis c = c.try_walk.ensures.basis ∙ c.clauses.invariant.basis

pub returns-in_err-entered-clause-frame : goal.returns-in_err-entered-clause-frame
returns-in_err-entered-clause-frame c = ap (λ (x : Progress). record x { machine = record x.machine { stack = c.try_walk.new.self } }) c.clauses.invariant.frame

pub returns-in-Some-clause-some : goal.returns-in-Some-clause-some
returns-in-Some-clause-some c = λ P v own whole.
    let s = c.clauses.self.machine.stack in
    let k = c.clauses.number in
    let i = c.clauses.invariant in
    let w = c.clauses.at.walk in
    let all = whole-now P c.args.self.now c.clauses.self c.args.at.now c.clauses.at k c.args.clauses.now i whole in
    retries-same (database_of P v own) c.args.self.now.machine.stack s c.try_walk.new.self c.in-Some.entered.erased (i.cases P v own whole)
    ((rw c.in-Some.is at c.in_ok-entered.ensures.some) c.clauses.at.point c.clauses.at.walk c.clauses.invariant.at (database_of P v own)
    (text-next P v own w (value s.env.heap w.goal) k c.args.clauses.now c.index-clauses-number.result c.in_ok-next.next i.text all
    (drop-at c.args.clauses.now k _ (omega (arith, c.clauses-test.true)) ∙ ap (λ x. x ∷ drop (suc k) c.args.clauses.now) (sym c.index-clauses-number.is)) c.in_ok-next.ensures))

pub returns-in-Some-clause-basis : goal.returns-in-Some-clause-basis
returns-in-Some-clause-basis c = c.try_walk.ensures.basis ∙ c.clauses.invariant.basis

pub returns-in-Some-clause-frame : goal.returns-in-Some-clause-frame
returns-in-Some-clause-frame c = ap (λ (x : Progress). record x { machine = record x.machine { stack = c.try_walk.new.self } }) c.clauses.invariant.frame

pub clauses-preserved : goal.clauses-preserved
clauses-preserved c =
    let s = c.clauses.self.machine.stack in
    let k = c.clauses.number in
    let i = c.clauses.invariant in
    let w = c.clauses.at.walk in
    let spot = spots.Text (k + 1) in
    let none = rw c.in_default.is at c.in_ok-entered.ensures.none in
    let there = ((rw c.in_default.is at c.in_ok-entered.ensures.at_next) c.clauses.at.point c.clauses.at.walk c.clauses.invariant.at) spot refl in
    let values = ((rw c.in_default.is at c.in_ok-entered.ensures.values) c.clauses.at.point c.clauses.at.walk c.clauses.invariant.at) spot refl in
    record {
      at = there;
      text = refl;
      uses = i.uses;
      goal = values ∙ i.goal;
      cases = λ P v own whole.
          let all = whole-now P c.args.self.now c.clauses.self c.args.at.now c.clauses.at k c.args.clauses.now i whole in
          none c.clauses.at.point c.clauses.at.walk c.clauses.invariant.at (database_of P v own)
          (text-next P v own w (value s.env.heap w.goal) k c.args.clauses.now c.index-clauses-number.result c.in_ok-next.next i.text all
          (drop-at c.args.clauses.now k _ (omega (arith, c.clauses-test.true)) ∙ ap (λ x. x ∷ drop (suc k) c.args.clauses.now) (sym c.index-clauses-number.is)) c.in_ok-next.ensures)
          ∙ i.cases P v own whole;
      basis = c.try_walk.ensures.basis ∙ i.basis;
      walks = text-on s c.try_walk.new.self w k i.text (k + 1) (c.in_ok-entered.ensures.moves c.clauses.at.point c.clauses.at.walk c.clauses.invariant.at) ∙ i.walks;
      frame = ap (λ (x : Progress). record x { machine = record x.machine { stack = c.try_walk.new.self } }) i.frame;
    }

pub last_of_text-requires-clause-at : goal.last_of_text-requires-clause-at
last_of_text-requires-clause-at c = c.clauses.invariant.at

pub last_of_text-requires-clause-text : goal.last_of_text-requires-clause-text
last_of_text-requires-clause-text c = c.clauses.invariant.text

pub returns-clause-some : goal.returns-clause-some
returns-clause-some c =
    let i = c.clauses.invariant in
    if_some_map c.last_of_text.result c.last_of_text.ensures.some
    (λ e f P v own whole.
    retries-same (database_of P v own) c.args.self.now.machine.stack c.clauses.self.machine.stack c.last_of_text.new.self.machine.stack e.erased (i.cases P v own whole)
    (f P v own (whole-now P c.args.self.now c.clauses.self c.args.at.now c.clauses.at c.clauses.number c.args.clauses.now i whole)))

pub returns-clause-none : goal.returns-clause-none
returns-clause-none c =
    let i = c.clauses.invariant in
    if_none_map c.last_of_text.result c.last_of_text.ensures.none
    (λ f P v own whole.
    let x = f P v own (whole-now P c.args.self.now c.clauses.self c.args.at.now c.clauses.at c.clauses.number c.args.clauses.now i whole) in
    (x.0, sym (i.cases P v own whole) ∙ x.1, x.2))

pub returns-clause-err : goal.returns-clause-err
returns-clause-err c = on_err_map c.last_of_text.result (λ f P v own whole. f P v own ∙ c.clauses.invariant.cases P v own whole) c.last_of_text.ensures.err

pub returns-clause-basis : goal.returns-clause-basis
returns-clause-basis c = c.last_of_text.ensures.basis ∙ c.clauses.invariant.basis

pub returns-clause-frame : goal.returns-clause-frame
returns-clause-frame c =
    c.last_of_text.ensures.frame ∙ ap (λ (x : Progress). record x { machine = record x.machine { stack = c.last_of_text.new.self.machine.stack } }) c.clauses.invariant.frame

pub returns-in_err-next-clause-walks : goal.returns-in_err-next-clause-walks
returns-in_err-next-clause-walks c = c.clauses.invariant.walks

pub returns-in_err-entered-clause-walks : goal.returns-in_err-entered-clause-walks
returns-in_err-entered-clause-walks c = c.in_err-entered.ensures.err_walks ∙ c.clauses.invariant.walks

pub returns-in-Some-clause-walks : goal.returns-in-Some-clause-walks
returns-in-Some-clause-walks c = text-on c.clauses.self.machine.stack c.try_walk.new.self c.clauses.at.walk c.clauses.number c.clauses.invariant.text (c.clauses.number + 1) (c.in_ok-entered.ensures.moves c.clauses.at.point c.clauses.at.walk c.clauses.invariant.at) ∙ c.clauses.invariant.walks

pub returns-clause-walks : goal.returns-clause-walks
returns-clause-walks c = c.last_of_text.ensures.walks ∙ c.clauses.invariant.walks
