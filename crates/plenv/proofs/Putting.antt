-- What is put behind the others leaves all that was there.
use Rattle.std.proofs.Common.{◌≡◌, ℕ, ◌≤◌, ◌<◌, nat_lt, length, set, refl, sym, ap, ◌∙◌, subst, arith}
use Rattle.std.proofs.lemmas.List.{length-set, set-get_or}
use Rattle.plterm.specs.Tree.{Tree, var}
use Rattle.plsubst.proofs.Unify.{bind-var}
use Rattle.plcells.specs.declared.cell.Cell.{Cell}
use Rattle.plcells.specs.declared.cell.Cell.TheVariants.{Ref}
use Rattle.plcells.specs.Store.{Store, IsValue, value, AddsVariable, AddsValue, Keeps as KeepsHeap}
use Rattle.plcells.proofs.Kept.{Keeps-refl as Keeps-refl-heap}
use Rattle.plenv.specs.declared.slot.Slot.TheVariants.{Free, Set}
use Rattle.plenv.specs.Env.{Env, slot_at, variable, noted_if, AreSlots}
use Rattle.plenv.specs.Changes.{Extends, Puts, Stays}
use Rattle.plenv.proofs.Keeping.{KeepsSlots, Keeps-refl, Keeps-trans, over_heap, with_slot, keeps-both, keeps-slot, same-slots}
use Rattle.plenv.proofs.Changing.{slots-over, slot-put, slots-set, variable-set}

pub Extends-refl : (e : Env) → Extends e e
Extends-refl e = record { values = λ v f. (f, refl); slots = omega arith; variables = λ i w. refl; count = omega arith; keeps = Keeps-refl e }

pub Stays-refl : (e : Env) → Stays e e
Stays-refl e = record { extends = Extends-refl e; slots = refl; count = refl }

pub Extends-trans : (a b c : Env) → Extends a b → Extends b c → Extends a c
Extends-trans a b c p q = record {
  values = λ v f. let r = p.values v f in let s = q.values v r.0 in (s.0, s.1 ∙ r.1);
  slots = omega (arith, p.slots, q.slots);
  variables = λ i lt. q.variables i (omega (arith, lt, p.slots)) ∙ p.variables i lt;
  count = omega (arith, p.count, q.count);
  keeps = Keeps-trans a b c p.keeps q.keeps;
}

pub Stays-trans : (a b c : Env) → Stays a b → Stays b c → Stays a c
Stays-trans a b c p q = record { extends = Extends-trans a b c p.extends q.extends; slots = q.slots ∙ p.slots; count = q.count ∙ p.count }

pub Puts-stays : (old new : Env) (v : Cell) (t : Tree) → Puts old new v t → Stays old new
Puts-stays old new v t p = record { extends = p.extends; slots = p.slots; count = p.count }

pub Puts-after : (a b c : Env) (v : Cell) (t : Tree) → Stays a b → Puts b c v t → Puts a c v t
Puts-after a b c v t p q = record { fits = q.fits; is = q.is; extends = Extends-trans a b c p.extends q.extends; slots = q.slots ∙ p.slots; count = q.count ∙ p.count }

-- a value that is there
pub Puts-there : (e : Env) (v : Cell) → IsValue e.heap v → Puts e e v (value e.heap v)
Puts-there e v f = record { fits = f; is = refl; extends = Extends-refl e; slots = refl; count = refl }

-- ---- a note for a slot that is free
abbrev pub noted_only : Env → ℕ → ℕ → Env
noted_only e i n = record { heap = e.heap; slots = e.slots; noted = noted_if (nat_lt i e.boundary) e.noted (record { slot = i; number = n }); boundary = e.boundary; count = e.count }

pub stays-noted : (e : Env) (i n : ℕ) → slot_at e.slots i ≡ Free n → Stays e (noted_only e i n)
stays-noted e i n free = record {
  extends = record {
    values = λ v f. (f, refl);
    slots = omega arith;
    variables = λ j lt. refl;
    count = omega arith;
    keeps = keeps-both e (noted_only e i n) (Keeps-refl-heap e.heap) (subst (λ xs. KeepsSlots e (record { heap = e.heap; slots = xs; noted = noted_if (nat_lt i e.boundary) e.noted (record { slot = i; number = n }); boundary = e.boundary; count = e.count })) same (keeps-slot e e.heap i n (Free n) free));
  };
  slots = refl;
  count = refl;
}
  where
    same : set e.slots i (Free n) ≡ e.slots
    same = ap (set e.slots i) (sym free) ∙ set-get_or e.slots i (Free 0)

-- ---- a heap that has grown
module _ (e : Env) (h : Store) (n : ℕ) (le : e.count ≤ n) (values : (v : Cell) → IsValue e.heap v → IsValue h v × (value h v ≡ value e.heap v)) (keeps : KeepsHeap e.heap h) (is : AreSlots e) where
  pub variable-grown : (i : ℕ) → i < length e.slots → variable (over_heap e h n) i ≡ variable e i
  variable-grown i lt = slot-put e h var (λ v f. (values v f).1 ∙ sym (bind-var (value e.heap v))) (λ m f. refl) (slot_at e.slots i) (is.fit i lt) ∙ bind-var (variable e i)

  pub extends-grown : Extends e (over_heap e h n)
  extends-grown = record {
    values = values;
    slots = omega arith;
    variables = variable-grown;
    count = le;
    keeps = keeps-both e (over_heap e h n) keeps (same-slots e h n);
  }

pub stays-grown : (e : Env) (h : Store) → ((v : Cell) → IsValue e.heap v → IsValue h v × (value h v ≡ value e.heap v)) → KeepsHeap e.heap h → AreSlots e → Stays e (over_heap e h e.count)
stays-grown e h values keeps is = record { extends = extends-grown e h e.count (omega arith) values keeps is; slots = refl; count = refl }

pub puts-value : (e : Env) (h : Store) (v : Cell) (t : Tree) → AreSlots e → AddsValue e.heap h v t → Puts e (over_heap e h e.count) v t
puts-value e h v t is adds =
    let s = stays-grown e h adds.grows.values adds.grows.keeps is in
    record { fits = adds.fits; is = adds.is; extends = s.extends; slots = s.slots; count = s.count }

pub slots-value : (e : Env) (h : Store) (v : Cell) (t : Tree) → AreSlots e → AddsValue e.heap h v t → AreSlots (over_heap e h e.count)
slots-value e h v t is adds = slots-over e h (λ w f. (adds.grows.values w f).0) adds.fresh is

-- ---- the variable of a free slot
module _ (e : Env) (h : Store) (i n c : ℕ) (is : AreSlots e) (within : i < length e.slots) (free : slot_at e.slots i ≡ Free n) (adds : AddsVariable e.heap h c n) where
  pub slots-variable : AreSlots (with_slot e h i n (Set (Ref c)))
  slots-variable = slots-set e h i n (Ref c) is within free (λ w f. (adds.grows.values w f).0) adds.fresh adds.fits

  pub puts-variable : Puts e (with_slot e h i n (Set (Ref c))) (Ref c) (var n)
  puts-variable = record {
    fits = adds.fits;
    is = adds.is;
    extends = record {
      values = adds.grows.values;
      slots = omega (arith, length-set e.slots i (Set (Ref c)));
      variables = λ j lt. variable-set e h i n (Ref c) is within free var (λ w f. (adds.grows.values w f).1 ∙ sym (bind-var (value e.heap w))) (λ m f ne. refl) adds.is j lt ∙ bind-var (variable e j);
      count = omega arith;
      keeps = keeps-both e (with_slot e h i n (Set (Ref c))) adds.grows.keeps (keeps-slot e h i n (Set (Ref c)) free);
    };
    slots = length-set e.slots i (Set (Ref c));
    count = refl;
  }
