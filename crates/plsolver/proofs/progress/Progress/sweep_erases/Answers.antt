use Rattle.std.proofs.Common.{◌++◌, ap, sym, ◌∙◌}
use Rattle.plmachine.specs.declared.machine.Find.TheVariants as finds
use Rattle.plmachine.specs.declared.machine.Mode.TheVariants as modes
use Rattle.plmachine.specs.declared.machine.Sweep.{Sweep}
use Rattle.plmachine.proofs.Moves.{on_err_map, on_ok_map}
use Rattle.plsolver.specs.Fetching.{erased_if}
use Rattle.plsolver.proofs.Sweeping.{same-sweep}
use Rattle.plsolver.proofs.progress.Progress.sweep_erases.Goals as goal

pub returns-clause-ok : goal.returns-clause-ok
returns-clause-ok c =
    let s = c.args.self.now in
    let i = c.in-Find-Sweep in
    let now = record i.sweep { updates = c.add_erasure-outcome.new.updates } in
    on_ok_map c.add_erasure-outcome.result
    (λ e head w at.
    let same = same-sweep head i.head w i.sweep (sym at ∙ sym c.replace-mode.ensures.value ∙ i.is ∙ ap modes.Find i.field-0-is) in
    (now, ap (λ b. record s { machine = record s.machine { mode = modes.Find (finds.Sweep b now) } }) (sym same.0), ap (λ (x : Sweep). x.view) (sym same.1), ap (λ (x : Sweep). x.spot) (sym same.1), e ∙ ap (λ (x : Sweep). x.updates.items ++ erased_if c.args.has c.args.name) (sym same.1)))
    c.add_erasure-outcome.ensures.ok

pub returns-clause-err : goal.returns-clause-err
returns-clause-err c =
    let s = c.args.self.now in
    let i = c.in-Find-Sweep in
    let now = record i.sweep { updates = c.add_erasure-outcome.new.updates } in
    on_err_map c.add_erasure-outcome.result
    (λ e head w at.
    let same = same-sweep head i.head w i.sweep (sym at ∙ sym c.replace-mode.ensures.value ∙ i.is ∙ ap modes.Find i.field-0-is) in
    (now, ap (λ b. record s { machine = record s.machine { mode = modes.Find (finds.Sweep b now) } }) (sym same.0), ap (λ (x : Sweep). x.view) (sym same.1), ap (λ (x : Sweep). x.spot) (sym same.1), e ∙ ap (λ (x : Sweep). x.updates.items) (sym same.1)))
    c.add_erasure-outcome.ensures.err
