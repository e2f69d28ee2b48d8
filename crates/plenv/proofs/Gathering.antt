-- Nodes as arguments.
use Rattle.std.proofs.Common.{◌≡◌, ℕ, zero, suc, ◌+◌, ◌<◌, pos, List, [], ◌∷◌, ◌++◌, length, length-append, take, get_or, Option, Some, None, true, false, refl, sym, ap, ◌∙◌, subst, arith, inl, inr}
use Rattle.std.proofs.lemmas.Bool.{cases_lt}
use Rattle.std.proofs.lemmas.List.{take_more, get_or_past, get_or_default, get_or_append_left, get_or_push}
use Rattle.std.specs.Prelude.{is_some}
use Rattle.plcells.specs.declared.cell.Cell.TheVariants.{Int as IntCell, Str}
use Rattle.plcells.specs.declared.cell.Argument.{Argument}
use Rattle.plcells.specs.declared.cell.Argument.TheVariants.{Value, Variable}
use Rattle.plcells.specs.Store.{Store, AreDistinct}
use Rattle.plcells.specs.Blocks.{numbers_of}
use Rattle.plcells.proofs.Kept.{Keeps-refl, Keeps-trans}
use Rattle.plcode.specs.declared.node.Node.{Node}
use Rattle.plcode.specs.declared.node.Node.TheVariants.{Var, Int, Atom, Fun, Sub}
use Rattle.plcode.specs.Packed.{node_at}
use Rattle.plenv.specs.declared.slot.Slot.{Slot}
use Rattle.plenv.specs.declared.slot.Slot.TheVariants.{Free, Set}
use Rattle.plenv.specs.declared.block.BlocksAt.{BlocksAt}
use Rattle.plenv.specs.Env.{slot_at}
use Rattle.plenv.specs.Blocks.{cell_of, part_of, part_at, IsPart, AreParts, IsReady, AreReady, AddsNoCell, HasFree, HasOne}

pub no-cell : (h : Store) → AddsNoCell h h
no-cell h = record { grows = record { longer = omega arith; terms = λ c lt. refl; values = λ v f. (f, refl); keeps = Keeps-refl h; names = refl }; cells = refl; fresh = λ m f. f }

pub no-cell-trans : (a b c : Store) → AddsNoCell a b → AddsNoCell b c → AddsNoCell a c
no-cell-trans a b c p q = record {
  grows = record {
    longer = omega (arith, p.grows.longer, q.grows.longer);
    terms = λ d lt. q.grows.terms d (omega (arith, lt, p.grows.longer)) ∙ p.grows.terms d lt;
    values = λ v f. let r = p.grows.values v f in let s = q.grows.values v r.0 in (s.0, s.1 ∙ r.1);
    keeps = Keeps-trans a b c p.grows.keeps q.grows.keeps;
    names = q.grows.names ∙ p.grows.names;
  };
  cells = q.cells ∙ p.cells;
  fresh = λ m f. q.fresh m (p.fresh m f);
}

module _ (old new : Store) (adds : AddsNoCell old new) (slots : List Slot) (r : BlocksAt) where
  part-still : (n : Node) (x : Argument) → IsPart old slots r n x → IsPart new slots r n x
  part-still (Var s) x p = p
  part-still (Int i) x p = let v = adds.grows.values p.0 p.2 in (p.0, p.1, v.0, v.1 ∙ p.3)
  part-still (Atom a) x p = p
  part-still (Fun f k) x p = p
  part-still (Sub first root) x p = p

  pub parts-still : (ns : List Node) (xs : List Argument) → AreParts old slots r ns xs → AreParts new slots r ns xs
  parts-still [] [] p = tt
  parts-still [] (x ∷ xs) p = absurd p
  parts-still (n ∷ ns) [] p = absurd p
  parts-still (n ∷ ns) (x ∷ xs) p = (part-still n x p.0, parts-still ns xs p.1)

  pub ready-still : (n : Node) → IsReady old r n → IsReady new r n
  ready-still (Var s) f = tt
  ready-still (Int i) f = tt
  ready-still (Atom a) f = omega (arith, f, ap (λ t. length t.atoms) adds.grows.names)
  ready-still (Fun g k) f = f
  ready-still (Sub first root) f = (f.0, f.1, (adds.grows.values (Str (cell_of r root)) f.2).0)

pub ready-all : (old new : Store) → AddsNoCell old new → (r : BlocksAt) (ns : List Node) → AreReady old r ns → AreReady new r ns
ready-all old new adds r [] f = tt
ready-all old new adds r (n ∷ ns) f = (ready-still old new adds [] r n f.0, ready-all old new adds r ns f.1)

pub ready-at : (h : Store) (r : BlocksAt) (ns : List Node) (i : ℕ) (d : Node) → AreReady h r ns → i < length ns → IsReady h r (get_or ns i d)
ready-at h r [] i d are lt = absurd (omega arith)
ready-at h r (n ∷ ns) zero d are lt = are.0
ready-at h r (n ∷ ns) (suc i) d are lt = ready-at h r ns i d are.1 (omega arith)

pub parts-push : (h : Store) (slots : List Slot) (r : BlocksAt) (ns : List Node) (xs : List Argument) (n : Node) (x : Argument) → AreParts h slots r ns xs → IsPart h slots r n x → AreParts h slots r (ns ++ n ∷ []) (xs ++ x ∷ [])
parts-push h slots r [] [] n x p q = (q, tt)
parts-push h slots r [] (y ∷ ys) n x p q = absurd p
parts-push h slots r (m ∷ ns) [] n x p q = absurd p
parts-push h slots r (m ∷ ns) (y ∷ ys) n x p q = (p.0, parts-push h slots r ns ys n x p.1 q)

-- the next node
pub parts-next : (old new : Store) (slots : List Slot) (r : BlocksAt) (row : List Node) (i : ℕ) (xs : List Argument) (n : Node) (x : Argument)
    → i < length row → n ≡ get_or row i n → AddsNoCell old new → AreParts old slots r (take i row) xs → IsPart new slots r n x → AreParts new slots r (take (i + 1) row) (xs ++ x ∷ [])
parts-next old new slots r row i xs n x lt is adds are part =
    subst (λ ns. AreParts new slots r ns (xs ++ x ∷ [])) (ap (λ m. take i row ++ m ∷ []) is ∙ sym (take_more row i n lt))
    (parts-push new slots r (take i row) xs n x (parts-still old new adds slots r (take i row) xs are) part)

-- a slot that is an argument of its own is free
slot-of : (s : Slot) (n : ℕ) → part_of s ≡ Variable n → s ≡ Free n
slot-of (Free m) n e = let same : m ≡ n = (cc) in ap Free same
slot-of (Set v) n e = (cc)

pub free-slot : (slots : List Slot) (i n : ℕ) → part_at slots i ≡ Variable n → (i < length slots) × (slot_at slots i ≡ Free n)
free-slot slots i n e = elim (cases_lt i (length slots)) [
  | inl lt ↦ (lt, get_or_default slots i (Free 0) (Set (IntCell (pos 0))) lt ∙ slot-of (get_or slots i (Set (IntCell (pos 0)))) n e)
  | inr le ↦ absurd (let none = get_or_past slots i (Set (IntCell (pos 0))) le in let no : Value (IntCell (pos 0)) ≡ Variable n = sym (ap part_of none) ∙ e in (cc))
]

pub has-free : (h : Store) (slots : List Slot) (r : BlocksAt) (row : List Node) (i : ℕ) (n : Node) (k : ℕ) → i < length row → node_at row i ≡ n → IsPart h slots r n (Variable k) → HasFree slots r.base row 0 (length row)
has-free h slots r row i (Var s) k lt is p = let f = free-slot slots (r.base + s) k (sym p) in record { place = i; variable = s; number = k; behind = omega arith; before = lt; is = is; within = f.0; free = f.1 }
has-free h slots r row i (Int j) k lt is p = let no : Variable k ≡ Value p.0 = p.1 in (cc)
has-free h slots r row i (Atom a) k lt is p = (cc)
has-free h slots r row i (Fun f m) k lt is p = absurd p
has-free h slots r row i (Sub first root) k lt is p = (cc)

-- ---- one new variable
numbers-more : (xs : List Argument) (n : ℕ) → numbers_of (xs ++ Variable n ∷ []) ≡ numbers_of xs ++ n ∷ []
numbers-more [] n = refl
numbers-more (Value v ∷ xs) n = numbers-more xs n
numbers-more (Variable m ∷ xs) n = ap (λ ns. m ∷ ns) (numbers-more xs n)

numbers-same : (xs : List Argument) (x : Argument) → ((n : ℕ) → x ≡ Variable n → ⊥) → numbers_of (xs ++ x ∷ []) ≡ numbers_of xs
numbers-same [] (Value v) none = refl
numbers-same [] (Variable n) none = absurd (none n refl)
numbers-same (Value v ∷ xs) x none = numbers-same xs x none
numbers-same (Variable n ∷ xs) x none = ap (λ ns. n ∷ ns) (numbers-same xs x none)

pub one-still : (xs : List Argument) (x : Argument) (o : Option (ℕ × ℕ)) → ((n : ℕ) → x ≡ Variable n → ⊥) → HasOne xs o → HasOne (xs ++ x ∷ []) o
one-still xs x None none h = numbers-same xs x none ∙ h
one-still xs x (Some p) none h = (
  numbers-same xs x none ∙ h.0,
  omega (arith, h.1, length-append xs (x ∷ [])),
  get_or_append_left xs (x ∷ []) (Value (IntCell (pos 0))) p.0 h.1 ∙ h.2,
)

pub one-first : (xs : List Argument) (x : Argument) (o : Option (ℕ × ℕ)) (i n : ℕ) → o ≡ None → x ≡ Variable n → length xs ≡ i → HasOne xs o → HasOne (xs ++ x ∷ []) (Some (i, n))
one-first xs x o i n none is len h =
    let empty : numbers_of xs ≡ [] = subst (HasOne xs) none h in
    subst (λ y. HasOne (xs ++ y ∷ []) (Some (i, n))) (sym is) (
      numbers-more xs n ∙ ap (λ ns. ns ++ n ∷ []) empty,
      omega (arith, len, length-append xs (Variable n ∷ [])),
      get_or_push xs (Variable n) (Value (IntCell (pos 0))) i len,
    )

-- the argument of a node
pub part-of-node : (h : Store) (slots : List Slot) (r : BlocksAt) (ns : List Node) (xs : List Argument) (i : ℕ) (d : Argument) → AreParts h slots r ns xs → i < length xs → IsPart h slots r (node_at ns i) (get_or xs i d)
part-of-node h slots r [] [] i d p lt = absurd (omega arith)
part-of-node h slots r [] (x ∷ xs) i d p lt = absurd p
part-of-node h slots r (n ∷ ns) [] i d p lt = absurd p
part-of-node h slots r (n ∷ ns) (x ∷ xs) zero d p lt = p.0
part-of-node h slots r (n ∷ ns) (x ∷ xs) (suc i) d p lt = part-of-node h slots r ns xs i d p.1 (omega arith)

pub variable-node : (h : Store) (slots : List Slot) (r : BlocksAt) (n : Node) (k : ℕ) → IsPart h slots r n (Variable k) → (s : ℕ) × (n ≡ Var s)
variable-node h slots r (Var s) k p = (s, refl)
variable-node h slots r (Int j) k p = let no : Variable k ≡ Value p.0 = p.1 in (cc)
variable-node h slots r (Atom a) k p = (cc)
variable-node h slots r (Fun f m) k p = absurd p
variable-node h slots r (Sub first root) k p = (cc)

pub none-of : (o : Option (ℕ × ℕ)) → is_some o ≡ false → o ≡ None
none-of None e = refl
none-of (Some p) e = absurd (let no : true ≡ false = e in (cc))

-- its number alone is taken
pub one-distinct : (ns : List ℕ) (n : ℕ) → ns ≡ n ∷ [] → AreDistinct ns
one-distinct ns n e = λ j k jl kl same. let few = ap length e in let one : length (n ∷ []) ≡ 1 = refl in omega (arith, few, one, jl, kl)

pub one-other : (ns : List ℕ) (n m : ℕ) → ns ≡ n ∷ [] → (m ≡ n → ⊥) → (k : ℕ) → k < length ns → get_or ns k 0 ≡ m → ⊥
one-other ns n m e ne k lt at =
    let few = ap length e in
    let one : length (n ∷ []) ≡ 1 = refl in
    let zero_th : k ≡ 0 = omega (arith, few, one, lt) in
    ne (sym at ∙ ap (λ i. get_or ns i 0) zero_th ∙ ap (λ xs. get_or xs 0 0) e)
