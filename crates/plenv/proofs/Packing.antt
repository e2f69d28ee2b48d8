-- The blocks of a compound, one after the other.
use Rattle.std.proofs.Common.{◌≡◌, ℕ, suc, ◌+◌, ◌-◌, ◌<◌, ◌≤◌, List, length, take, drop, refl, sym, ap, ◌∙◌, subst, arith, inl, inr}
use Rattle.std.proofs.lemmas.Bool.{cases_eq}
use Rattle.plsubst.specs.Subst.{bind}
use Rattle.plterm.specs.Tree.{Tree}
use Rattle.plterm.specs.Variables.{AllBelow}
use Rattle.plcells.specs.declared.cell.Cell.TheVariants.{Str}
use Rattle.plcells.specs.Store.{Store}
use Rattle.plcells.proofs.Nodes.{bind-agree}
use Rattle.plcode.specs.declared.node.Node.{Node}
use Rattle.plcode.specs.declared.node.Node.TheVariants.{Fun, Var}
use Rattle.plcode.specs.Packed.{node_at, IsBlockAt, Packed, last, next}
use Rattle.plenv.specs.declared.slot.Slot.{Slot}
use Rattle.plenv.specs.declared.slot.Slot.TheVariants.{Free}
use Rattle.plenv.specs.declared.block.BlocksAt.{BlocksAt}
use Rattle.plenv.specs.Env.{Env, slot_at, over, Covers}
use Rattle.plenv.specs.Changes.{Puts, Stays, NoneFreed}
use Rattle.plenv.specs.Blocks.{cell_of, AreBuilt, block_at, Stand, Hold, HasFree, PutsBlock}
use Rattle.plenv.proofs.Putting.{Stays-trans}
use Rattle.plenv.proofs.Parts.{row-node, row-length}

pub packed-block : (nodes : List Node) (from root place : ℕ) → Packed nodes from root place → (f : ℕ) × ((k : ℕ) × IsBlockAt nodes from place f k)
packed-block nodes from root place (last f k b) = (f, (k, b))
packed-block nodes from root place (next p f k b more) = (f, (k, b))

pub packed-most : (nodes : List Node) (from root place : ℕ) → Packed nodes from root place → place ≤ root
packed-most nodes from root place (last f k b) = omega arith
packed-most nodes from root place (next p f k b more) = omega (arith, packed-most nodes from root (suc (p + k)) more)

pub arity-same : (nodes : List Node) (from place f k g m : ℕ) → IsBlockAt nodes from place f k → node_at nodes place ≡ Fun g m → k ≡ m
arity-same nodes from place f k g m b is = let heads : Fun f k ≡ Fun g m = sym b.head ∙ is in (cc)

pub packed-next : (nodes : List Node) (from root place f k : ℕ) → Packed nodes from root place → node_at nodes place ≡ Fun f k → (place ≡ root → ⊥) → Packed nodes from root (suc (place + k))
packed-next nodes from root place f k (last g m b) is ne = absurd (ne refl)
packed-next nodes from root place f k (next p g m b more) is ne = subst (λ j. Packed nodes from root (suc (p + j))) (arity-same nodes from p g m f k b is) more

-- ---- variables whose slots are free
pub free-wider : (old new : Env) (base : ℕ) (nodes : List Node) (low high from end : ℕ) → Stays old new → NoneFreed old new → from ≤ low → high ≤ end → HasFree new.slots base nodes low high → HasFree old.slots base nodes from end
free-wider old new base nodes low high from end stays freed le most f = record {
  place = f.place;
  variable = f.variable;
  number = f.number;
  behind = let b = f.behind in omega (arith, b, le);
  before = let b = f.before in omega (arith, b, most);
  is = f.is;
  within = let w = f.within in omega (arith, w, stays.slots);
  free = freed (base + f.variable) f.number f.within f.free;
}

pub block-most : (nodes : List Node) (from root place f k g m : ℕ) → Packed nodes from root place → IsBlockAt nodes from place f k → node_at nodes root ≡ Fun g m → suc (place + k) ≤ suc (root + m)
block-most nodes from root place f k g m packed b is = elim (cases_eq place root) [
  | inl same ↦ let e = arity-same nodes from place f k g m b (ap (node_at nodes) same ∙ is) in omega (arith, e, same)
  | inr ne ↦ let le = packed-most nodes from root (suc (place + k)) (packed-next nodes from root place f k packed b.head ne) in omega (arith, le)
]

-- ---- all blocks are put
pub hold-own : (e : Env) (base width : ℕ) → base + width ≤ length e.slots → Hold e base (over e base) width
hold-own e base width le = λ s lt. (omega (arith, le, lt), refl)

module _ (old mid new : Env) (nodes : List Node) (r : BlocksAt) (root : ℕ) (start : AreBuilt old.heap nodes r r.from) (covers : Covers old r.base (block_at old.heap.names nodes root)) (before : Stays old mid) (mid_names : mid.heap.names ≡ old.heap.names)
    (stand : (σ : ℕ → Tree) (width : ℕ) → Hold old r.base σ width → Stand mid.heap σ width nodes r root) (k : ℕ) (put_block : PutsBlock mid new nodes r root k) (stays : Stays mid new) (names : new.heap.names ≡ mid.heap.names) (le : r.from ≤ root) where
  hold_mid : (σ : ℕ → Tree) (width : ℕ) → Hold old r.base σ width → Hold mid r.base σ width
  hold_mid σ width hold = λ s lt. let h = hold s lt in (omega (arith, h.0, before.slots), before.extends.variables (r.base + s) h.0 ∙ h.1)

  same_names : new.heap.names ≡ old.heap.names
  same_names = names ∙ mid_names

  pub puts-all : Puts old new (Str (cell_of r root)) (bind (over old r.base) (block_at old.heap.names nodes root))
  puts-all =
      let hold = hold-own old r.base covers.width covers.within in
      let after = put_block.stand (over old r.base) covers.width (hold_mid (over old r.base) covers.width hold) (stand (over old r.base) covers.width hold) in
      let both = Stays-trans old mid new before stays in
      record {
        fits = put_block.built.heads root put_block.functor k le (omega arith) put_block.head;
        is = after root put_block.functor k le (omega arith) put_block.head (subst (λ t. AllBelow covers.width (block_at t nodes root)) (sym same_names) covers.below) ∙ ap (λ t. bind (over old r.base) (block_at t nodes root)) same_names;
        extends = both.extends;
        slots = both.slots;
        count = both.count;
      }

-- after more was put
pub hold-after : (old mid : Env) (base : ℕ) (σ : ℕ → Tree) (width : ℕ) → Stays old mid → Hold old base σ width → Hold mid base σ width
hold-after old mid base σ width before hold = λ s lt. let h = hold s lt in (omega (arith, h.0, before.slots), before.extends.variables (base + s) h.0 ∙ h.1)

pub covers-after : (old mid : Env) (base : ℕ) (t u : Tree) → Stays old mid → u ≡ t → Covers old base t → Covers mid base u
covers-after old mid base t u before same c = record { width = c.width; below = subst (AllBelow c.width) (sym same) c.below; within = omega (arith, c.within, before.slots) }

-- what is put for a term stays that when other slots came first
pub over-after : (old mid : Env) (base : ℕ) (t : Tree) → Stays old mid → Covers old base t → bind (over mid base) t ≡ bind (over old base) t
over-after old mid base t before c = bind-agree c.width (over mid base) (over old base) (λ s lt. before.extends.variables (base + s) (omega (arith, c.within, lt))) t c.below

pub packed-root : (nodes : List Node) (from root place : ℕ) → Packed nodes from root place → (f : ℕ) × ((k : ℕ) × IsBlockAt nodes from root f k)
packed-root nodes from root place (last f k b) = (f, (k, b))
packed-root nodes from root place (next p f k b more) = packed-root nodes from root (suc (p + k)) more

pub built-start : (h : Store) (nodes : List Node) (r : BlocksAt) → length h.cells ≡ r.start → AreBuilt h nodes r r.from
built-start h nodes r all = record { from = omega arith; length = omega (arith, all); heads = λ p f k le lt at. absurd (omega (arith, le, lt)) }

pub stand-none : (h : Store) (σ : ℕ → Tree) (width : ℕ) (nodes : List Node) (r : BlocksAt) → Stand h σ width nodes r r.from
stand-none h σ width nodes r p f k le lt at below = absurd (omega (arith, le, lt))

-- one node more
pub free-step : (slots : List Slot) (base : ℕ) (row : List Node) (i : ℕ) → (HasFree slots base row 0 i → ⊥) → ((s n : ℕ) → node_at row i ≡ Var s → base + s < length slots → slot_at slots (base + s) ≡ Free n → ⊥) → HasFree slots base row 0 (i + 1) → ⊥
free-step slots base row i none here f = elim (cases_eq f.place i) [
  | inl same ↦ here f.variable f.number (ap (node_at row) (sym same) ∙ f.is) f.within f.free
  | inr ne ↦ none (record { place = f.place; variable = f.variable; number = f.number; behind = omega arith; before = let b = f.before in omega (arith, b, ne); is = f.is; within = f.within; free = f.free })
]

pub free-in-row : (slots : List Slot) (base : ℕ) (nodes : List Node) (from end : ℕ) → end ≤ length nodes → from ≤ end → HasFree slots base nodes from end → HasFree slots base (take (end - from) (drop from nodes)) 0 (length (take (end - from) (drop from nodes)))
free-in-row slots base nodes from end most le f =
    let low = f.behind in
    let high = f.before in
    let few : f.place - from < end - from = omega (arith, low, high) in
    let sum : from + (f.place - from) ≡ f.place = omega (arith, low) in
    let room : from + (end - from) ≤ length nodes = omega (arith, most, le) in
    record {
      place = f.place - from;
      variable = f.variable;
      number = f.number;
      behind = omega arith;
      before = omega (arith, few, row-length nodes from (end - from) room);
      is = row-node nodes from (end - from) (f.place - from) few ∙ ap (node_at nodes) sum ∙ f.is;
      within = f.within;
      free = f.free;
    }
