use Rattle.std.proofs.Common.{◌≡◌, ℕ, ap, inl, refl, subst, sym, ◌∙◌}
use Rattle.plcells.specs.Store.{value}
use Rattle.plstore.specs.declared.query.Query.{Query}
use Rattle.plstore.specs.Looking.{found}
use Rattle.plviews.specs.declared.view.View.{View}
use Rattle.plviews.specs.Views.{sight_in}
use Rattle.plviews.proofs.Naming.{base-stays}
use Rattle.plmachine.specs.declared.machine.Find.TheVariants as finds
use Rattle.plmachine.specs.declared.machine.SweepSpot.TheVariants as sweeps
use Rattle.plmachine.proofs.Moves.{on_err_map, on_ok_map}
use Rattle.plsolver.specs.Fetching.{like}
use Rattle.plsolver.proofs.Asked.{asked-find, seeks-of, sweep-past}
use Rattle.plsolver.proofs.Seeking.{clause-told, next-told, sweep-base, sweep-clause}
use Rattle.plsolver.proofs.progress.Progress.fetched_sweep.Goals as goal

pub swept_behind-requires-clause-sweeps : goal.swept_behind-requires-clause-sweeps
swept_behind-requires-clause-sweeps c =
    let s = c.args.self.now.machine in
    let a = c.sweeping-at.ensures in
    let head = c.sweeping-at.result.head in
    let fits = c.requires.fits in
    let k = seeks-of s fits.0 fits.1 (finds.Sweep head a.0) a.1 (inl fits.2) in
    let b = sweep-base s.layer.own.updates s.stack.env.heap (finds.Sweep head a.0) head a.0 c.in-Seek.field-0 fits.1 refl (a.3 ∙ c.in-Seek.is) k.1 in
    (head, c.sweeping-at.result.view, b.0, (a.0, a.1, a.2, a.3 ∙ c.in-Seek.is ∙ ap sweeps.Seek b.1))

pub returns-in-Seek-clause-ok : goal.returns-in-Seek-clause-ok
returns-in-Seek-clause-ok c P b =
    let s = c.args.self.now.machine in
    let a = c.sweeping-at.ensures in
    let head = c.sweeping-at.result.head in
    let view = c.sweeping-at.result.view in
    on_ok_map c.swept_behind.result
    (λ keeps v ordered g q seeks told.
    let k = seeks-of s g q (finds.Sweep head a.0) a.1 (inl seeks) in
    let b = sweep-base s.layer.own.updates s.stack.env.heap (finds.Sweep head a.0) head a.0 c.in-Seek.field-0 q refl (a.3 ∙ c.in-Seek.is) k.1 in
    keeps v head view b.0 ordered (a.0, a.1, a.2, a.3 ∙ c.in-Seek.is ∙ ap sweeps.Seek b.1)
    (next-told v view.place q (value s.stack.env.heap head) b.0 c.args.found c.next_in.result b.2 (subst (λ (j : ℕ). c.args.found ≡ found (v j) q) (k.0 ∙ ap (λ (j : View). j.place) a.2) told) c.next_in.ensures))
    (c.swept_behind.ensures.ok P b)

pub returns-in-Seek-clause-asked : goal.returns-in-Seek-clause-asked
returns-in-Seek-clause-asked c =
    let s = c.args.self.now.machine in
    let a = c.sweeping-at.ensures in
    let head = c.sweeping-at.result.head in
    on_ok_map c.swept_behind.result
    (λ asked v ordered g q seeks told.
    let k = seeks-of s g q (finds.Sweep head a.0) a.1 (inl seeks) in
    let b = sweep-base s.layer.own.updates s.stack.env.heap (finds.Sweep head a.0) head a.0 c.in-Seek.field-0 q refl (a.3 ∙ c.in-Seek.is) k.1 in
    asked-find v s c.swept_behind.new.self.machine (finds.Sweep head a.0) q (like (value s.stack.env.heap head) b.0) a.1 b.2
    (asked v head a.0 b.0 ordered a.1 (a.3 ∙ c.in-Seek.is ∙ ap sweeps.Seek b.1)
    (next-told v a.0.view.place q (value s.stack.env.heap head) b.0 c.args.found c.next_in.result b.2 (subst (λ (j : ℕ). c.args.found ≡ found (v j) q) k.0 told) c.next_in.ensures)))
    c.swept_behind.ensures.asked

pub sweep_past-requires-clause-sweeps : goal.sweep_past-requires-clause-sweeps
sweep_past-requires-clause-sweeps c = let a = c.sweeping-at.ensures in (c.sweeping-at.result.head, c.sweeping-at.result.view, (a.0, a.1, a.2, a.3 ∙ c.in-At.is))

pub returns-in-At-clause-ok : goal.returns-in-At-clause-ok
returns-in-At-clause-ok c P b =
    let s = c.args.self.now.machine in
    on_ok_map c.sweep_past.result
    (λ past v ordered g q seeks told.
    let own = s.layer.own.updates in
    let k = seeks-of s g q (finds.Sweep past.head past.was) past.mode_was (inl seeks) in
    let b = sweep-clause own s.stack.env.heap (finds.Sweep past.head past.was) past.head past.was c.in-At.name c.in-At.reach q refl past.spot_was k.1 in
    past.keeps P v ordered
    (clause-told v past.was.view.place q c.in-At.name c.args.found c.clause_in.result b.1 (subst (λ (j : ℕ). c.args.found ≡ found (v j) q) k.0 told) c.clause_in.ensures
    ∙ sym (base-stays (sight_in v own past.was.view) c.in-At.name b.0.0 b.0.1)))
    c.sweep_past.ensures.ok

pub returns-in-At-clause-err : goal.returns-in-At-clause-err
returns-in-At-clause-err c P b = on_err_map c.sweep_past.result (λ stays. stays P) c.sweep_past.ensures.err

pub returns-in-At-clause-asked : goal.returns-in-At-clause-asked
returns-in-At-clause-asked c =
    let s = c.args.self.now.machine in
    on_ok_map c.sweep_past.result
    (λ past v ordered g q seeks told.
    let k = seeks-of s g q (finds.Sweep past.head past.was) past.mode_was (inl seeks) in
    let b = sweep-clause s.layer.own.updates s.stack.env.heap (finds.Sweep past.head past.was) past.head past.was c.in-At.name c.in-At.reach q refl past.spot_was k.1 in
    asked-find v s c.sweep_past.new.self.machine (finds.Sweep past.head past.was) q (Query.Clause c.in-At.name) past.mode_was b.1
    (sweep-past v past.head past.was s c.sweep_past.new.self.machine c.in-At.name c.in-At.reach past.now past.spot_was b.0.0 past.view past.spot_now past.mode_now past.same c.sweep_past.ensures.walks))
    c.sweep_past.ensures.ok
