use Rattle.std.proofs.Common.{◌≡◌, true, false, suc, ◌∷◌, [], ◌∙◌, ap, ap₂, sym, subst, if◌then◌else◌}
use Rattle.plcells.specs.Store.{value}
use Rattle.pltx.specs.Own.{any_open, begun, ended, some_open}
use Rattle.pltx.specs.Own.{State as Own}
use Rattle.plviews.specs.Layers.{Layered}
use Rattle.plsearch.specs.Types.{Asking, Begin, Choice, Go, Handle, Marker, Transact, Undo}
use Rattle.plsearch.specs.Moves.{beginner, first_of, go_on, opened}
use Rattle.plsearch.specs.Running.{runnable}
use Rattle.plstack.specs.Levels.{FitsIn}
use Rattle.plstack.specs.State.{beginning, goals_of, kinds_in, Opens}
use Rattle.plmachine.specs.declared.machine.Machine.{Machine as Reached}
use Rattle.plmachine.specs.Machine.{depth_of, local_of, IsTied, Stays}
use Rattle.plmachine.specs.Within.{entered}
use Rattle.plmachine.proofs.Beginning.{begins-inside, begun-ended, begun-inner, entered-as, entry-fit, transaction_cases}
use Rattle.plmachine.proofs.Levels.{depth-kinds, same-kinds, transact-fits, transact-goal}
use Rattle.plmachine.proofs.Moves.{grown-depth, grown-stays, moved-grown, on_err, tied-as, moved-as}
use Rattle.plmachine.proofs.machine.Machine.within.Goals as goal

pub returns-in_err-entry-clause-err : goal.returns-in_err-entry-clause-err
returns-in_err-entry-clause-err c P = on_err _ (grown-stays P c.args.self.now c.entry.new.self c.entry.ensures.grown c.entry.ensures.frame)

pub returns-in_err-enter-clause-err : goal.returns-in_err-enter-clause-err
returns-in_err-enter-clause-err c P =
    let s = c.args.self.now in
    let t = c.entry.new.self in
    on_err _ (subst (λ (x : Layered). Stays P s (record t { layer = x })) (sym c.in_err-enter.ensures.refused) (grown-stays P s t c.entry.ensures.grown c.entry.ensures.frame))

pub start-requires : goal.start-requires
start-requires c =
    let s = c.args.self.now in
    let t = c.entry.new.self in
    let g = c.entry.ensures.grown in
    let d = depth_of s in
    let es = goals_of s.stack c.args.rest in
    entry-fit t.stack c.open_transaction.new.self c.view-view.result c.args.rest c.in-Ok.ensures.ok (runnable (value s.stack.env.heap c.args.goal)) (beginner c.args.kind) (suc (suc d)) (Marker (Transact d) (suc d) ∷ es) c.in_ok-entry.entry c.in_ok-entry.ensures.ok
    (transact-goal (kinds_in t.stack) d (sym (grown-depth s t g) ∙ sym (depth-kinds t.stack)) es (subst (λ ks. FitsIn ks es) (sym (same-kinds s.stack t.stack g.extends)) c.requires.fits))

pub end-requires : goal.end-requires
end-requires c =
    let t = c.entry.new.self in
    let some : any_open t.layer.own ≡ true = ap (λ (x : Reached). any_open x.layer.own) c.entry.ensures.frame ∙ sym c.is_open.ensures ∙ c.if-not-is_open.false in
    ap (λ (x : Layered). any_open x.own) c.in_ok-enter.ensures.begun ∙ ap some_open (begun-inner c.args.kind t.layer.own.base t.layer.own some).0

pub returns-in-Ok-clause-ok : goal.returns-in-Ok-clause-ok
returns-in-Ok-clause-ok c P =
    let s = c.args.self.now in
    let t = c.entry.new.self in
    let st = c.open_transaction.new.self in
    let g = c.entry.ensures.grown in
    let d = depth_of s in
    let es = goals_of s.stack c.args.rest in
    let n = s.stack.env.count in
    let e = c.in_ok-entry.entry in
    let r = runnable (value s.stack.env.heap c.args.goal) in
    let p = beginner c.args.kind in
    let frame = c.entry.ensures.frame in
    let here : any_open s.layer.own ≡ true = sym c.is_open.ensures ∙ c.if-not-is_open.false in
    let some : any_open t.layer.own ≡ true = ap (λ (x : Reached). any_open x.layer.own) frame ∙ here in
    let tied : IsTied t = tied-as s t g.extends.basis (ap (λ (x : Reached). x.layer) frame) c.requires.tied in
    let fits = transact-fits (kinds_in t.stack) d (sym (grown-depth s t g) ∙ sym (depth-kinds t.stack)) es (subst (λ ks. FitsIn ks es) (sym (same-kinds s.stack t.stack g.extends)) c.requires.fits) in
    let opens = subst (λ v. Opens (beginning v t.stack) st (transaction_cases t.stack c.args.rest)) c.view-view.ensures.is c.in-Ok.ensures.ok in
    let is : c.start.new.self ≡ entered (record t { layer = record { own = begun c.args.kind t.layer.own.base t.layer.own; place = t.layer.place } }) st e =
    c.start.ensures ∙ entered-as (record t { layer = c.enter.new.self }) st st e ∙ ap (λ (x : Layered). entered (record t { layer = x }) st e) c.in_ok-enter.ensures.begun in
    let list = g.extends.lists c.args.rest c.requires.rest in
    moved-grown P s t c.start.new.self _ _ g frame
    (ap₂ (λ gs k. Go (Choice [] ∷ Handle Undo (record { goals = gs; variables = k }) ∷ Choice [] ∷ []) (record { goals = first_of r p (suc (suc d)) ∷ Marker (Transact d) (suc d) ∷ es; variables = k }) (record (local_of t) { own = begun c.args.kind t.layer.own.base t.layer.own })) list.1 g.count
    ∙ ap (λ (x : Reached). opened c.args.kind x.layer.own.base (value s.stack.env.heap c.args.goal) d es n (local_of x)) frame
    ∙ ap (λ b. if b then opened c.args.kind s.layer.own.base (value s.stack.env.heap c.args.goal) d es n (local_of s) else go_on (Asking (Begin c.args.kind (value s.stack.env.heap c.args.goal)) ∷ es) n (local_of s)) (sym here))
    (begins-inside P t c.args.rest st c.start.new.self e r p (suc (suc d)) (Marker (Transact d) (suc d) ∷ es) c.in_ok-entry.ensures.ok fits c.args.kind tied some opens is)

pub returns-in-Err-clause-err : goal.returns-in-Err-clause-err
returns-in-Err-clause-err c P =
    let s = c.args.self.now in
    let t = c.entry.new.self in
    let some : any_open t.layer.own ≡ true = ap (λ (x : Reached). any_open x.layer.own) c.entry.ensures.frame ∙ sym c.is_open.ensures ∙ c.if-not-is_open.false in
    let back : c.end.new.self ≡ t.layer =
    c.end.ensures.ended ∙ ap (λ (x : Layered). record { own = ended false x.own; place = x.place }) c.in_ok-enter.ensures.begun
    ∙ ap (λ (o : Own). record { own = o; place = t.layer.place }) (begun-ended c.args.kind t.layer.own.base t.layer.own some) in
    subst (λ (x : Layered). Stays P s (record t { stack = c.open_transaction.new.self; layer = x })) (sym back)
    (subst (λ st. Stays P s (record t { stack = st })) (sym c.in-Err.ensures.err) (grown-stays P s t c.entry.ensures.grown c.entry.ensures.frame))

pub returns-then-not-is_open-clause-ok : goal.returns-then-not-is_open-clause-ok
returns-then-not-is_open-clause-ok c P =
    let s = c.args.self.now in
    moved-as P s c.ask.new.self _ _
    (ap (λ b. if b then opened c.args.kind s.layer.own.base (value s.stack.env.heap c.args.goal) (depth_of s) (goals_of s.stack c.args.rest) s.stack.env.count (local_of s) else go_on (Asking (Begin c.args.kind (value s.stack.env.heap c.args.goal)) ∷ goals_of s.stack c.args.rest) s.stack.env.count (local_of s)) (sym (sym c.is_open.ensures ∙ c.if-not-is_open.true)))
    (c.ask.ensures P)
