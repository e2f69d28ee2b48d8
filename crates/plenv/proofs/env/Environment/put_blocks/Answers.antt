use Rattle.std.proofs.Common.{◌≡◌, ◌∙◌, ◌+◌, ◌-◌, ◌<◌, suc, length, refl, ap, subst, sym, arith}
use Rattle.plsubst.specs.Subst.{bind}
use Rattle.plcells.specs.declared.cell.Cell.TheVariants.{Str}
use Rattle.plcode.specs.Packed.{Packed}
use Rattle.plenv.specs.declared.block.BlocksAt.{BlocksAt}
use Rattle.plenv.specs.Env.{Env, over}
use Rattle.plenv.specs.Changes.{Puts}
use Rattle.plenv.specs.Blocks.{block_at, AreBuilt, Stand, PutsBlock}
use Rattle.plenv.proofs.Putting.{Stays-refl, Stays-trans}
use Rattle.plenv.proofs.Packing.{packed-block, packed-most, packed-next, block-most, built-start, stand-none, free-wider, hold-after, puts-all}
use Rattle.plenv.proofs.env.Environment.put_blocks.Goals as goal

pub loop-arity-init : goal.loop-arity-init
loop-arity-init c =
    let now : Env = c.args.self.now in
    let r : BlocksAt = record { from = c.args.from; start = c.next-start.result; base = c.args.base } in
    let all : length now.heap.cells ≡ c.next-start.result = ap (λ (e : Env). length e.heap.cells) (sym c.self.view_is) ∙ sym c.next-start.ensures.is in
    record {
      packed = c.requires.packed;
      built = built-start now.heap c.args.nodes.now r all;
      stand = λ σ width hold. stand-none now.heap σ width c.args.nodes.now r;
      stays = Stays-refl now;
      names = refl;
      freed = λ i n lt at. at;
    }

pub put_block-requires-clause-block : goal.put_block-requires-clause-block
put_block-requires-clause-block c = packed-block c.args.nodes.now c.args.from c.args.root c.loop-arity.place c.loop-arity.invariant.packed

pub returns-in_err-arity-clause-stays : goal.returns-in_err-arity-clause-stays
returns-in_err-arity-clause-stays c = Stays-trans c.args.self.now c.loop-arity.self c.put_block.new.self c.loop-arity.invariant.stays c.in_err-arity.ensures.stays

pub returns-in_default-clause-stays : goal.returns-in_default-clause-stays
returns-in_default-clause-stays c = Stays-trans c.args.self.now c.loop-arity.self c.put_block.new.self c.loop-arity.invariant.stays c.in_ok-arity.ensures.stays

pub returns-then-place-root-clause-stays : goal.returns-then-place-root-clause-stays
returns-then-place-root-clause-stays c = Stays-trans c.args.self.now c.loop-arity.self c.put_block.new.self c.loop-arity.invariant.stays c.in_ok-arity.ensures.stays

pub returns-in_default-clause-none : goal.returns-in_default-clause-none
returns-in_default-clause-none c = λ none f k is.
    let l = c.loop-arity in
    let nodes = c.args.nodes.now in
    let b = packed-block nodes c.args.from c.args.root l.place l.invariant.packed in
    free-wider c.args.self.now l.self c.args.base nodes l.place (suc (l.place + b.1.0)) c.args.from (suc (c.args.root + k)) l.invariant.stays l.invariant.freed l.invariant.built.from
    (block-most nodes c.args.from c.args.root l.place b.0 b.1.0 f k l.invariant.packed b.1.1 is)
    (c.in_ok-arity.ensures.none c.in_default.is b.0 b.1.0 b.1.1)

pub after-requires : goal.after-requires
after-requires c = omega (arith, c.in_ok-arity.ensures.few, c.loop-arity.invariant.built.length, c.if-place-root.true)

pub returns-then-place-root-clause-some : goal.returns-then-place-root-clause-some
returns-then-place-root-clause-some c = λ v some.
    let l = c.loop-arity in
    let now : Env = c.args.self.now in
    let mid : Env = l.self in
    let new : Env = c.put_block.new.self in
    let nodes = c.args.nodes.now in
    let root = c.args.root in
    let r : BlocksAt = record { from = c.args.from; start = c.next-start.result; base = c.args.base } in
    let all : length now.heap.cells ≡ c.next-start.result = ap (λ (e : Env). length e.heap.cells) (sym c.self.view_is) ∙ sym c.next-start.ensures.is in
    let at : l.place ≡ root = c.if-place-root.true in
    let place = c.after.ensures in
    let same : Str (c.next-start.result + (root - c.args.from)) ≡ v = (cc) in
    let made = subst (λ p. PutsBlock mid new nodes r p c.in-Some.arity) at (c.in_ok-arity.ensures.some c.in-Some.arity c.in-Some.is) in
    subst (λ w. Puts now new w (bind (over now c.args.base) (block_at now.heap.names nodes root))) same
    (puts-all now mid new nodes r root (built-start now.heap nodes r all) c.requires.covers l.invariant.stays l.invariant.names
    (λ σ width hold. subst (λ p. Stand mid.heap σ width nodes r p) at (l.invariant.stand σ width hold))
    c.in-Some.arity made c.in_ok-arity.ensures.stays c.in_ok-arity.ensures.names (packed-most nodes c.args.from root c.args.from c.requires.packed))

pub overflow_add-place-in-loop-arity : goal.overflow_add-place-in-loop-arity
overflow_add-place-in-loop-arity c =
    let l = c.loop-arity in
    let nodes = c.args.nodes.now in
    let made = c.in_ok-arity.ensures.some c.in-Some.arity c.in-Some.is in
    let more = packed-next nodes c.args.from c.args.root l.place made.functor c.in-Some.arity l.invariant.packed made.head c.if-place-root.false in
    omega (arith, packed-most nodes c.args.from c.args.root (suc (l.place + c.in-Some.arity)) more, c.from.ensures, c.ranges.root)

pub loop-arity-smaller : goal.loop-arity-smaller
loop-arity-smaller c =
    let l = c.loop-arity in
    let le = packed-most c.args.nodes.now c.args.from c.args.root l.place l.invariant.packed in
    let lt : suc c.args.root - (l.place + (1 + c.from.result)) < suc c.args.root - l.place = omega (arith, le) in
    lt

pub loop-arity-preserved : goal.loop-arity-preserved
loop-arity-preserved c =
    let l = c.loop-arity in
    let now : Env = c.args.self.now in
    let mid : Env = l.self in
    let new : Env = c.put_block.new.self in
    let nodes = c.args.nodes.now in
    let r : BlocksAt = record { from = c.args.from; start = c.next-start.result; base = c.args.base } in
    let made = c.in_ok-arity.ensures.some c.in-Some.arity c.in-Some.is in
    let kept = c.in_ok-arity.ensures.stays in
    let next : suc (l.place + c.in-Some.arity) ≡ l.place + (1 + c.from.result) = omega (arith, c.from.ensures) in
    record {
      packed = subst (λ p. Packed nodes c.args.from c.args.root p) next (packed-next nodes c.args.from c.args.root l.place made.functor c.in-Some.arity l.invariant.packed made.head c.if-place-root.false);
      built = subst (λ p. AreBuilt new.heap nodes r p) next made.built;
      stand = λ σ width hold. subst (λ p. Stand new.heap σ width nodes r p) next (made.stand σ width (hold-after now mid c.args.base σ width l.invariant.stays hold) (l.invariant.stand σ width hold));
      stays = Stays-trans now mid new l.invariant.stays kept;
      names = c.in_ok-arity.ensures.names ∙ l.invariant.names;
      freed = λ i n lt at. l.invariant.freed i n (omega (arith, lt, kept.slots)) (c.in_ok-arity.ensures.freer i n lt at);
    }
