use Rattle.std.proofs.Common.{◌≡◌, false, Some, suc, ◌∷◌, [], ◌∙◌, ap, ap₂, sym, subst}
use Rattle.plcells.specs.Store.{value}
use Rattle.pltx.specs.Own.{any_open, begun}
use Rattle.pltx.specs.Own.{State as Own}
use Rattle.plviews.specs.Layers.{Layered}
use Rattle.plsearch.specs.Types.{Choice, Go, Handle, Marker, Transact, Undo}
use Rattle.plsearch.specs.Moves.{beginner, first_of, opened}
use Rattle.plsearch.specs.Running.{runnable}
use Rattle.pllinks.specs.declared.link.Continuation.{Continuation}
use Rattle.plstack.specs.Levels.{FitsIn}
use Rattle.plstack.specs.State.{goals_of, kinds_in, IsFit}
use Rattle.plmachine.specs.declared.machine.Machine.{Machine as Reached}
use Rattle.plmachine.specs.Machine.{depth_of, local_of, IsTied, Stays}
use Rattle.plmachine.specs.Within.{entered}
use Rattle.plmachine.proofs.Beginning.{begins-from, begins-outside, begun-outer, entered-as, entry-fit}
use Rattle.plmachine.proofs.Levels.{depth-kinds, same-kinds, transact-fits, transact-goal}
use Rattle.plmachine.proofs.Moves.{grown-depth, grown-stays, on_err, tied-as}
use Rattle.plmachine.proofs.machine.Machine.begin_at.Goals as goal

pub returns-in_err-entry-clause-err : goal.returns-in_err-entry-clause-err
returns-in_err-entry-clause-err c P = on_err _ (grown-stays P c.args.self.now c.entry.new.self c.entry.ensures.grown c.entry.ensures.frame)

pub returns-in_err-begin-clause-err : goal.returns-in_err-begin-clause-err
returns-in_err-begin-clause-err c P =
    let s = c.args.self.now in
    let t = c.entry.new.self in
    on_err _ (subst (λ (x : Layered). Stays P s (record t { layer = x })) (sym c.in_err-begin.ensures.refused) (grown-stays P s t c.entry.ensures.grown c.entry.ensures.frame))

pub start-requires : goal.start-requires
start-requires c =
    let s = c.args.self.now in
    let t = c.entry.new.self in
    let g = c.entry.ensures.grown in
    let d = depth_of s in
    let l = c.visited-rest.result in
    let es = goals_of s.stack l in
    let fits = subst (IsFit s.stack) (sym c.visited-rest.ensures.is) c.requires.fits in
    entry-fit t.stack c.open_transaction.new.self _ l c.in-Ok.ensures.ok (runnable (value s.stack.env.heap c.args.goal)) (beginner c.args.kind) (suc (suc d)) (Marker (Transact d) (suc d) ∷ es) c.in_ok-entry.entry c.in_ok-entry.ensures.ok
    (transact-goal (kinds_in t.stack) d (sym (grown-depth s t g) ∙ sym (depth-kinds t.stack)) es (subst (λ ks. FitsIn ks es) (sym (same-kinds s.stack t.stack g.extends)) fits))

pub cancel-requires : goal.cancel-requires
cancel-requires c =
    let t = c.entry.new.self in
    let none : any_open t.layer.own ≡ false = ap (λ (x : Reached). any_open x.layer.own) c.entry.ensures.frame ∙ c.requires.closed in
    let begins : c.begin.new.self ≡ record { own = begun c.args.kind c.args.place t.layer.own; place = Some c.args.place } = c.in_ok-begin.ensures.begun in
    (_, ap (λ (x : Layered). x.own.levels) begins ∙ ap (λ (o : Own). o.levels) (begun-outer c.args.kind c.args.place t.layer.own none))

pub returns-in-Ok-clause-ok : goal.returns-in-Ok-clause-ok
returns-in-Ok-clause-ok c P =
    let s = c.args.self.now in
    let t = c.entry.new.self in
    let st = c.open_transaction.new.self in
    let g = c.entry.ensures.grown in
    let d = depth_of s in
    let l = c.visited-rest.result in
    let es = goals_of s.stack l in
    let e = c.in_ok-entry.entry in
    let r = runnable (value s.stack.env.heap c.args.goal) in
    let p = beginner c.args.kind in
    let frame = c.entry.ensures.frame in
    let none : any_open t.layer.own ≡ false = ap (λ (x : Reached). any_open x.layer.own) frame ∙ c.requires.closed in
    let tied : IsTied t = tied-as s t g.extends.basis (ap (λ (x : Reached). x.layer) frame) c.requires.tied in
    let fitting = subst (IsFit s.stack) (sym c.visited-rest.ensures.is) c.requires.fits in
    let fits = transact-fits (kinds_in t.stack) d (sym (grown-depth s t g) ∙ sym (depth-kinds t.stack)) es (subst (λ ks. FitsIn ks es) (sym (same-kinds s.stack t.stack g.extends)) fitting) in
    let is : c.start.new.self ≡ entered (record t { layer = record { own = begun c.args.kind c.args.place t.layer.own; place = Some c.args.place } }) st e =
    c.start.ensures ∙ entered-as (record t { layer = c.begin.new.self }) st st e ∙ ap (λ (x : Layered). entered (record t { layer = x }) st e) c.in_ok-begin.ensures.begun in
    let list = g.extends.lists l c.visited-rest.ensures.there in
    begins-from P s t c.start.new.self c.args.place _ _ (grown-stays P s t g frame)
    (ap₂ (λ gs k. Go (Choice [] ∷ Handle Undo (record { goals = gs; variables = k }) ∷ Choice [] ∷ []) (record { goals = first_of r p (suc (suc d)) ∷ Marker (Transact d) (suc d) ∷ es; variables = k }) (record (local_of t) { own = begun c.args.kind c.args.place t.layer.own })) list.1 g.count
    ∙ ap (λ (x : Reached). opened c.args.kind c.args.place (value s.stack.env.heap c.args.goal) d es s.stack.env.count (local_of x)) frame
    ∙ ap (λ (l : Continuation). opened c.args.kind c.args.place (value s.stack.env.heap c.args.goal) d (goals_of s.stack l) s.stack.env.count (local_of s)) c.visited-rest.ensures.is)
    (begins-outside P t l st c.start.new.self e r p (suc (suc d)) (Marker (Transact d) (suc d) ∷ es) c.in_ok-entry.ensures.ok fits c.args.kind tied none c.args.place (c.place-before.ensures.closed none) (rw c.get.ensures.is at c.in-Ok.ensures.ok) is)

pub returns-in-Err-clause-err : goal.returns-in-Err-clause-err
returns-in-Err-clause-err c P =
    let s = c.args.self.now in
    let t = c.entry.new.self in
    let none : any_open t.layer.own ≡ false = ap (λ (x : Reached). any_open x.layer.own) c.entry.ensures.frame ∙ c.requires.closed in
    let back : c.cancel.new.self ≡ t.layer = c.cancel.ensures ∙ ap₂ (λ o p. record { own = o; place = p }) (sym (c.place-before.ensures.closed none)) c.place-before.ensures.is in
    subst (λ (x : Layered). Stays P s (record t { stack = c.open_transaction.new.self; layer = x })) (sym back)
    (subst (λ st. Stays P s (record t { stack = st })) (sym c.in-Err.ensures.err) (grown-stays P s t c.entry.ensures.grown c.entry.ensures.frame))
