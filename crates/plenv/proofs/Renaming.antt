-- An environment whose table of names has grown.
use Rattle.std.proofs.Common.{sym, subst}
use Rattle.platoms.specs.Names.{Table, IsTable, Extends}
use Rattle.plcells.proofs.Renaming.{IsHeap-renamed, Preserves-renamed}
use Rattle.plenv.specs.declared.slot.Slot.{Slot}
use Rattle.plenv.specs.declared.slot.Slot.TheVariants.{Free, Set}
use Rattle.plenv.specs.declared.slot.Mark.{Mark}
use Rattle.plenv.specs.Env.{Env, IsEnv, IsSlot, slot_at, cut, renamed, IsMark}
use Rattle.plenv.specs.Changes.{Keeps}
use Rattle.plenv.proofs.Cuts.{cut-names}

module _ (e : Env) (t : Table) (is : IsEnv e) (table : IsTable t) (more : Extends e.heap.names t) where
  slot-renamed : (s : Slot) → IsSlot e s → IsSlot (renamed e t) s
  slot-renamed (Free n) f = f
  slot-renamed (Set v) f = ((Preserves-renamed e.heap t is.heap table more).values v f).0

  pub IsEnv-renamed : IsEnv (renamed e t)
  IsEnv-renamed = record {
    heap = IsHeap-renamed e.heap t is.heap table more;
    slots = record {
      fit = λ i lt. slot-renamed (slot_at e.slots i) (is.slots.fit i lt);
      once = is.slots.once;
      low = is.slots.low;
      bounded = is.slots.bounded;
      few = is.slots.few;
    };
  }

-- a mark in use stays one
pub IsMark-kept : (m : Mark) (old new : Env) → Keeps old new → IsTable new.heap.names → IsMark m old → IsMark m new
IsMark-kept m old new k table is = record {
  within = k.within m is.within;
  env = subst IsEnv (sym (k.kept m is.within)) (IsEnv-renamed (cut m old) new.heap.names is.env table (subst (λ t. Extends t new.heap.names) (sym (cut-names m old)) k.names));
}
