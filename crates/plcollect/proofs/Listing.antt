-- The list of copies that are put from the last one on.
use Rattle.std.specs.List.{All, sum_by}
use Rattle.std.proofs.Common.{◌≡◌, ℕ, zero, suc, ◌+◌, ◌-◌, ◌<◌, ◌≤◌, List, [], ◌∷◌, length, map, take, drop, reverse, get_or, length-drop, refl, sym, ap, ap₂, ◌∙◌, subst, arith}
use Rattle.std.proofs.lemmas.List.{drop-map, get_or-drop, get_or-take, length-take}
use Rattle.std.proofs.lemmas.List.Sums.{sum_by-cons}
use Rattle.std.proofs.Math.Seq.{drop-cons}
use Rattle.plterm.specs.declared.node.Node.{Node}
use Rattle.plterm.specs.Tree.{Tree, var, atom, compound, none, more}
use Rattle.plterm.specs.Reading.{tree_of, IsTerm}
use Rattle.plterm.specs.Variables.{copied, variables, AllBelow}
use Rattle.plterm.proofs.Belows.{AllBelow-copied_0}
use Rattle.plsubst.specs.Subst.{bind, shift}
use Rattle.plcells.specs.declared.cell.Cell.{Cell}
use Rattle.plcells.specs.declared.cell.Cell.TheVariants.{Atom as AtomCell}
use Rattle.plcells.specs.Store.{Store, at, value, AreValues, IsValue}
use Rattle.plcells.specs.Putting.{standing}
use Rattle.plcells.proofs.Nodes.{bind-agree}
use Rattle.plread.specs.Texts.{dot, listed, nil}
use Rattle.plsearch.specs.Collecting.{count_new, renumbered}
use Rattle.plenv.specs.Env.{Env}
use Rattle.plenv.specs.Changes.{Puts, PutsTerm, PutsVariables}
use Rattle.plenv.proofs.Putting.{Puts-stays, Stays-trans}
use Rattle.plenv.proofs.Terms.{variables-stay}
use Rattle.plcollect.specs.declared.collection.Held.{Held}
use Rattle.plcollect.specs.Copies.{copy_of, copies_of, nodes_of, IsCopy}
use Rattle.plcollect.proofs.Copying.{shift-copied}

-- ---- counts
pub count-held : (nodes : List Node) (hs : List Held) → All (IsCopy nodes) hs → sum_by (λ (h : Held). h.variables) hs ≡ count_new (copies_of nodes hs)
count-held nodes [] all = refl
count-held nodes (h ∷ hs) all = sum_by-cons (λ (x : Held). x.variables) h hs ∙ ap₂ (λ a b. a + b) (all 0 h (omega arith)).many (count-held nodes hs (λ i d lt. all (suc i) d (omega arith)))

count-drop : (i : ℕ) (ts : List Tree) → count_new (drop i ts) ≤ count_new ts
count-drop zero ts = omega arith
count-drop (suc i) [] = omega arith
count-drop (suc i) (t ∷ ts) = omega (arith, count-drop i ts)

copy-below : (t : Tree) (k : ℕ) → copied 0 t ≡ t → k ≡ length (variables t) → AllBelow k t
copy-below t k again many = subst (AllBelow k) again (subst (λ j. AllBelow j (copied 0 t)) (sym many) (AllBelow-copied_0 t))

-- a copy that is put over its variables
copy-put : (e : Env) (vs : List Cell) (n m before k : ℕ) (t : Tree) → ((x : ℕ) → x < m → value e.heap (at vs x) ≡ var (n + x)) → before + k ≤ m → copied 0 t ≡ t → k ≡ length (variables t) →
    bind (standing e.heap (take k (drop before vs))) t ≡ copied (n + before) t
copy-put e vs n m before k t are room again many =
    bind-agree k (standing e.heap (take k (drop before vs))) (λ x. var ((n + before) + x))
    (λ x lt.
    let place : n + (before + x) ≡ (n + before) + x = omega arith in
    ap (value e.heap) (get_or-take k (drop before vs) x (AtomCell 0) lt ∙ get_or-drop before vs x (AtomCell 0)) ∙ are (before + x) (omega (arith, lt, room)) ∙ ap var place)
    t (copy-below t k again many)
    ∙ ap (shift (n + before)) (sym again) ∙ shift-copied (n + before) t

-- the list of the copies from a place on, whose variables stand behind those of the ones before
pub record IsPart (old env : Env) (vs : List Cell) (list : Cell) (ts : List Tree) (from before : ℕ) : Type 0 where
  pub has : PutsVariables old env vs (count_new ts)
  pub room : before + count_new (drop from ts) ≡ count_new ts
  pub fits : IsValue env.heap list
  pub is : value env.heap list ≡ listed (renumbered (old.count + before) (drop from ts))

pub part-none : (old mid env : Env) (vs : List Cell) (list : Cell) (ts : List Tree) (from before : ℕ) → PutsVariables old mid vs (count_new ts) → Puts mid env list (atom nil) → drop from ts ≡ [] → before ≡ count_new ts → IsPart old env vs list ts from before
part-none old mid env vs list ts from before has puts ended whole = record {
  has = variables-stay old mid env vs (count_new ts) has (Puts-stays mid env list (atom nil) puts);
  room = omega (arith, whole, ap count_new ended);
  fits = puts.fits;
  is = puts.is ∙ ap (λ us. listed (renumbered (old.count + before) us)) (sym ended);
}

-- the copy at a place, and those behind it
pub copy-at : (nodes : List Node) (hs : List Held) (i : ℕ) (h d : Held) → i < length hs → h ≡ get_or hs i d → drop i (copies_of nodes hs) ≡ copy_of nodes h ∷ drop (suc i) (copies_of nodes hs)
copy-at nodes hs i h d within is =
    drop-map (copy_of nodes) i hs ∙ ap (map (copy_of nodes)) (drop-cons hs i d within) ∙ ap₂ (λ x us. copy_of nodes x ∷ us) (sym is) (sym (drop-map (copy_of nodes) (suc i) hs))

module _ (old env : Env) (vs : List Cell) (list : Cell) (ts : List Tree) (i end k : ℕ) (one : Tree) (p : IsPart old env vs list ts (suc i) end) (parts : drop i ts ≡ one ∷ drop (suc i) ts) (again : copied 0 one ≡ one) (many : k ≡ length (variables one)) where
  -- the copy's variables are among them
  pub room-more : k ≤ end
  room-more = omega (arith, p.room, ap count_new parts, count-drop i ts, many)

  pub below : AllBelow k one
  below = copy-below one k again many

  pub within : end ≤ length vs
  within = omega (arith, p.room, p.has.many)

  module _ (mid new : Env) (v made : Cell) (put : Puts env mid v (bind (standing env.heap (take k (drop (end - k) vs))) one)) (pair : Puts mid new made (compound dot (more (value mid.heap v) (more (value mid.heap list) none)))) where
    pub part-more : IsPart old new vs made ts i (end - k)
    part-more =
        let before : ℕ = end - k in
        let next : (old.count + before) + length (variables one) ≡ old.count + end = omega (arith, room-more, many) in
        let head : value mid.heap v ≡ copied (old.count + before) one = put.is ∙ copy-put env vs old.count (count_new ts) before k one p.has.are (omega (arith, room-more, p.room)) again many in
        let tail : value mid.heap list ≡ listed (renumbered ((old.count + before) + length (variables one)) (drop (suc i) ts)) =
        (put.extends.values list p.fits).1 ∙ p.is ∙ ap (λ n. listed (renumbered n (drop (suc i) ts))) (sym next) in
        record {
          has = variables-stay old env new vs (count_new ts) p.has (Stays-trans env mid new (Puts-stays env mid v _ put) (Puts-stays mid new made _ pair));
          room = omega (arith, p.room, room-more, ap count_new parts, many);
          fits = pair.fits;
          is =
              pair.is ∙ ap₂ (λ t u. compound dot (more t (more u none))) head tail
              ∙ ap (λ us. listed (renumbered (old.count + before) us)) (sym parts);
        }

pub part-all : (old env : Env) (vs : List Cell) (list : Cell) (ts : List Tree) (before : ℕ) → IsPart old env vs list ts 0 before → PutsTerm old env list (listed (renumbered old.count ts)) (count_new ts)
part-all old env vs list ts before p =
    let first : old.count + before ≡ old.count = omega (arith, p.room) in
    record {
      fits = p.fits;
      is = p.is ∙ ap (λ n. listed (renumbered n ts)) first;
      extends = p.has.extends;
      slots = p.has.slots;
      count = p.has.count;
    }

values-drop : (s : Store) (n : ℕ) (vs : List Cell) → AreValues s vs → AreValues s (drop n vs)
values-drop s zero vs are = are
values-drop s (suc n) [] are = tt
values-drop s (suc n) (v ∷ vs) are = values-drop s n vs are.1

values-take : (s : Store) (n : ℕ) (vs : List Cell) → AreValues s vs → AreValues s (take n vs)
values-take s zero vs are = tt
values-take s (suc n) [] are = tt
values-take s (suc n) (v ∷ vs) are = (are.0, values-take s n vs are.1)

-- the copy before a place is put, over the variables before `end`
module _ (old env : Env) (vs ws : List Cell) (list : Cell) (nodes : List Node) (hs : List Held) (place end : ℕ) (h : Held) (all : All (IsCopy nodes) hs) (some : 0 < place) (le : place ≤ length hs) (is : h ≡ get_or hs (place - 1) h)
    (p : IsPart old env vs list (copies_of nodes hs) place end) (same : ws ≡ vs) where
  abbrev i : ℕ
  i = place - 1

  abbrev own : List Cell
  own = take (end - (end - h.variables)) (drop (end - h.variables) ws)

  abbrev spelled : List Node
  spelled = take ((h.from + h.count) - h.from) (drop h.from nodes)

  next : place ≡ suc i
  next = omega (arith, some)

  part : IsPart old env vs list (copies_of nodes hs) (suc i) end
  part = subst (λ n. IsPart old env vs list (copies_of nodes hs) n end) next p

  pub copy : IsCopy nodes h
  copy = subst (IsCopy nodes) (sym is) (all i h (omega (arith, some, le)))

  parts : drop i (copies_of nodes hs) ≡ copy_of nodes h ∷ drop (suc i) (copies_of nodes hs)
  parts = copy-at nodes hs i h h (omega (arith, some, le)) is

  pub step-room : h.variables ≤ end
  step-room = room-more old env vs list (copies_of nodes hs) i end h.variables (copy_of nodes h) part parts copy.numbered copy.many

  width : end - (end - h.variables) ≡ h.variables
  width = omega (arith, step-room)

  own-is : own ≡ take h.variables (drop (end - h.variables) vs)
  own-is = ap₂ (λ n us. take n (drop (end - h.variables) us)) width same

  spelled-is : spelled ≡ nodes_of nodes h
  spelled-is = let count : (h.from + h.count) - h.from ≡ h.count = omega arith in ap (λ n. take n (drop h.from nodes)) count

  own-length : length own ≡ h.variables
  own-length =
      ap length own-is
      ∙ omega (arith, length-take h.variables (drop (end - h.variables) vs), length-drop (end - h.variables) vs, step-room, within old env vs list (copies_of nodes hs) i end h.variables (copy_of nodes h) part parts copy.numbered copy.many)

  pub step-below : AllBelow (length own) (tree_of (reverse spelled))
  step-below =
      subst (λ n. AllBelow n (tree_of (reverse spelled))) (sym own-length)
      (subst (λ ns. AllBelow h.variables (tree_of (reverse ns))) (sym spelled-is) (below old env vs list (copies_of nodes hs) i end h.variables (copy_of nodes h) part parts copy.numbered copy.many))

  pub step-values : AreValues env.heap own
  step-values = subst (AreValues env.heap) (sym own-is) (values-take env.heap h.variables (drop (end - h.variables) vs) (values-drop env.heap (end - h.variables) vs p.has.fit))

  pub step-term : IsTerm (reverse spelled)
  step-term = subst (λ ns. IsTerm (reverse ns)) (sym spelled-is) copy.term

  pub step-more : (mid new : Env) (v made : Cell) → Puts env mid v (bind (standing env.heap own) (tree_of (reverse spelled))) → Puts mid new made (compound dot (more (value mid.heap v) (more (value mid.heap list) none))) →
      IsPart old new vs made (copies_of nodes hs) i (end - h.variables)
  step-more mid new v made put pair =
      let over = subst (λ us. Puts env mid v (bind (standing env.heap us) (tree_of (reverse spelled)))) own-is put in
      let its = subst (λ ns. Puts env mid v (bind (standing env.heap (take h.variables (drop (end - h.variables) vs))) (tree_of (reverse ns)))) spelled-is over in
      part-more old env vs list (copies_of nodes hs) i end h.variables (copy_of nodes h) part parts copy.numbered copy.many mid new v made its pair
