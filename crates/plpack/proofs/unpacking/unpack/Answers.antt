use Rattle.std.proofs.Common.{◌≡◌, ◌-◌, Option, Some, None, Result, Ok, Err, length, refl, arith}
use Rattle.std.specs.Option.{ok_or}
use Rattle.std.specs.Result.{IfErr, IsErrAnd}
use Rattle.plpack.specs.declared.unpacking.UnpackError.{UnpackError}
use Rattle.plpack.specs.declared.unpacking.UnpackError.TheVariants.{BadPack}
use Rattle.plpack.specs.Faults.{Tells, TellsNone}
use Rattle.plpack.specs.Unpacking.{IsFault}
use Rattle.plpack.proofs.Following.{fault_none}
use Rattle.plpack.proofs.Wholes.{unpacks_step, unpacks_fault, unpacks_term, unpacks_bytes, unpacks_numbered, unpacks_limits}
use Rattle.plpack.proofs.unpacking.unpack.Goals as goal
use Rattle.plpack.proofs.unpacking.unpack.Goals.{After-drop-nodes-in_err-next}

refused : {T : Type 0} (o : Option T) (bad e : UnpackError) → Err e ≡ ok_or o bad → (o ≡ None) × (e ≡ bad)
refused None bad e h = (refl, cc)
refused (Some x) bad e h = absurd cc

taken : {T : Type 0} (o : Option T) (bad : UnpackError) (x : T) → Ok x ≡ ok_or o bad → o ≡ Some x
taken None bad x h = absurd cc
taken (Some y) bad x h = cc

passed_on : {T : Type 0} (r : Result T UnpackError) (P : UnpackError → Type 0) (e : UnpackError) → IsErrAnd r (λ x. x ≡ e) → P e → IfErr r P
passed_on (Ok x) P e h p = tt
passed_on (Err x) P e h p = rw h p

no_next : (c : After-drop-nodes-in_err-next) → (c.in_err-next.field-0.0 ≡ BadPack (length c.args.bytes.now - length c.items.rest.now)) × IsFault c.args.bytes.now (length c.args.bytes.now - length c.items.rest.now)
no_next c =
    let r = refused _ _ _ c.in_err-next.ensures.value in
    let none = rw r.0 at c.in_ok-next_item.ensures in
    (r.1, unpacks_fault _ _ _ _ _ c.items.invariant c.items-test.true none)

pub returns-in_err-next-clause-fault : goal.returns-in_err-next-clause-fault
returns-in_err-next-clause-fault c =
    let n = no_next c in
    passed_on _ (Tells c.args.bytes.now) _ c.from_residual-in_err-next.ensures.1 (rw n.0 n.1)

pub returns-in_err-next-clause-none : goal.returns-in_err-next-clause-none
returns-in_err-next-clause-none c =
    let n = no_next c in
    passed_on _ (TellsNone c.args.bytes.now) _ c.from_residual-in_err-next.ensures.1 (rw n.0 (fault_none _ _ n.1 (omega arith)))

pub items-preserved : goal.items-preserved
items-preserved c =
    let d = taken _ _ _ c.in_ok-next.ensures.value in
    let n = rw d at c.in_ok-next_item.ensures in
    unpacks_step _ _ _ _ _ _ _ _ _ _ c.items.invariant c.items-test.true n.item n.numbered c.in_ok-push.ensures.items (omega (arith, c.arity.ensures)) n.seen

pub from_prefix-requires : goal.from_prefix-requires
from_prefix-requires c = unpacks_term _ _ _ _ _ c.items.invariant (omega arith)

pub returns-clause-bytes : goal.returns-clause-bytes
returns-clause-bytes c = rw c.from_prefix.ensures (unpacks_bytes _ _ _ _ _ c.items.invariant (omega arith))

pub returns-clause-limits : goal.returns-clause-limits
returns-clause-limits c = rw c.from_prefix.ensures (unpacks_limits _ _ _ _ _ c.items.invariant (omega arith) (omega arith))

pub returns-clause-numbered : goal.returns-clause-numbered
returns-clause-numbered c = rw c.from_prefix.ensures (unpacks_numbered _ _ _ _ _ c.items.invariant (omega arith))
