-- A copy is a copy of itself: its variables are numbered already.
use Rattle.std.proofs.Common.{◌≡◌, ℕ, zero, suc, ◌+◌, ◌<◌, ◌≤◌, ◌==◌, eqb, max, min, cond, List, [], ◌∷◌, ◌++◌, length, length-append, map, reverse, take, drop, set, get_or, refl, sym, ap, ◌∙◌, subst, arith, append_assoc, append-nil}
use Rattle.std.proofs.lemmas.Bool.{cond_both, eqb-true, eqb-false}
use Rattle.std.proofs.lemmas.Bool.Decides.{nat_tests}
use Rattle.std.proofs.lemmas.List.{drop_all, drop_more, reverse-reverse, drop-set-lt, length-set, take_all}
use Rattle.std.proofs.lemmas.Grind.{take-set_at}
use Rattle.std.proofs.lemmas.List.Folds.{position_or_len_push}
use Rattle.std.proofs.lemmas.List.Sums.{prefix_len-le-length}
use Rattle.plterm.specs.declared.node.Node.{Node}
use Rattle.plterm.specs.declared.node.Node.TheVariants.{Var, Int, Atom, Compound}
use Rattle.plterm.specs.Tree.{Tree}
use Rattle.plterm.specs.Reading.{spelling, tree_of, tree_of-spelling, AllFit, IsTerm}
use Rattle.plterm.specs.Variables.{place, added, with_node, seen_after, variables, rename, numbered, copied}
use Rattle.plterm.proofs.Copies.{copied_from, IsTerm-copied, tree_of-copied}
use Rattle.plterm.proofs.Forests.{IsTerm-spelling}
use Rattle.plcollect.specs.Copies.{IsCopyOf}
use Rattle.plterm.proofs.Spellings.{spelling-renamed, numbering, numbering_is, numbered_after}

-- the numbers below one
abbrev below : ℕ → List ℕ
below zero = []
below (suc m) = below m ++ m ∷ []

length-below : (m : ℕ) → length (below m) ≡ m
length-below zero = refl
length-below (suc m) = let h = length-below m in omega (arith, length-append (below m) (m ∷ []))

next-place : (v m : ℕ) → cond (eqb (min v m) m) (m + cond (eqb m v) 0 1) (min v m) ≡ min v (suc m)
next-place v m = grind (arith, nat_tests)

place-below : (v m : ℕ) → place v (below m) ≡ min v m
place-below v zero = omega arith
place-below v (suc m) =
    position_or_len_push (λ x. x == v) (below m) m ∙ ap (λ q. cond (eqb q (length (below m))) (length (below m) + cond (eqb m v) 0 1) q) (place-below v m)
    ∙ ap (λ l. cond (eqb (min v m) l) (l + cond (eqb m v) 0 1) (min v m)) (length-below m) ∙ next-place v m

-- a number that is no higher than the next one
added-below : (v m : ℕ) → v ≤ m → added (below m) v ≡ below (max m (v + 1))
added-below v m h =
    let least : min v m ≡ v = omega arith in
    ap (λ q. cond (eqb q (length (below m))) (below m ++ v ∷ []) (below m)) (place-below v m ∙ least) ∙ ap (λ l. cond (eqb v l) (below m ++ v ∷ []) (below m)) (length-below m)
    ∙ cond_both (eqb v m) (below m ++ v ∷ []) (below m) (λ l. l ≡ below (max m (v + 1)))
    (λ b.
    let e : v ≡ m = eqb-true v m b in
    let next : suc m ≡ max m (v + 1) = omega arith in
    ap (λ w. below m ++ w ∷ []) e ∙ ap below next)
    (λ b.
    let e = eqb-false v m b in
    let here : m ≡ max m (v + 1) = omega arith in
    ap below here)

pub place-low : (v : ℕ) (seen : List ℕ) → place v seen ≤ length seen
place-low v seen = prefix_len-le-length _ seen

length-added : (v : ℕ) (seen : List ℕ) → length (added seen v) ≡ max (length seen) (place v seen + 1)
length-added v seen =
    let low = place-low v seen in
    cond_both (eqb (place v seen) (length seen)) (seen ++ v ∷ []) seen (λ l. length l ≡ max (length seen) (place v seen + 1))
    (λ b. let e = eqb-true (place v seen) (length seen) b in omega (arith, length-append seen (v ∷ [])))
    (λ b. let e = eqb-false (place v seen) (length seen) b in omega arith)

-- each node with the place of its variable among all
abbrev placed : List ℕ → List Node → List Node
placed all ns = map (rename (λ v. place v all)) ns

record IsAgain (m : ℕ) (all : List ℕ) (ns : List Node) : Type 0 where
  pub same : numbering (below m) ns ≡ ns
  pub seen : seen_after (below m) ns ≡ below (length all)

again : (ns : List Node) (seen all : List ℕ) → all ≡ seen_after seen ns → IsAgain (length seen) all (placed all ns)
again [] seen all e = record { same = refl; seen = ap (λ s. below (length s)) (sym e) }
again (Var v ∷ ns) seen all e =
    let p : ℕ = place v all in
    let here : Var p ≡ Var (place v seen) = ap (λ s. Var (place v s)) e ∙ numbered_after (Var v) ns seen in
    let first : p ≡ place v seen = cc in
    let low : p ≤ length seen = omega (arith, first, place-low v seen) in
    let least : min p (length seen) ≡ p = omega arith in
    let next : max (length seen) (p + 1) ≡ length (added seen v) = omega (arith, first, length-added v seen) in
    let more : added (below (length seen)) p ≡ below (length (added seen v)) = added-below p (length seen) low ∙ ap below next in
    let rest = again ns (added seen v) all e in
    record {
      same =
          ap (λ w. Var w ∷ numbering (added (below (length seen)) p) (placed all ns)) (place-below p (length seen) ∙ least)
          ∙ ap (λ s. Var p ∷ numbering s (placed all ns)) more
          ∙ ap (λ l. Var p ∷ l) rest.same;
      seen = ap (λ s. seen_after s (placed all ns)) more ∙ rest.seen;
    }
again (Int i ∷ ns) seen all e = let rest = again ns seen all e in record { same = ap (λ l. Int i ∷ l) rest.same; seen = rest.seen }
again (Atom s ∷ ns) seen all e = let rest = again ns seen all e in record { same = ap (λ l. Atom s ∷ l) rest.same; seen = rest.seen }
again (Compound s k ∷ ns) seen all e = let rest = again ns seen all e in record { same = ap (λ l. Compound s k ∷ l) rest.same; seen = rest.seen }

zero-more : (n : ℕ) → 0 + n ≡ n
zero-more n = omega arith

rename-zero : (f : ℕ → ℕ) (ns : List Node) → map (rename (λ v. 0 + f v)) ns ≡ map (rename f) ns
rename-zero f [] = refl
rename-zero f (Var v ∷ ns) = ap (λ w. Var w ∷ map (rename (λ x. 0 + f x)) ns) (zero-more (f v)) ∙ ap (λ l. Var (f v) ∷ l) (rename-zero f ns)
rename-zero f (Int i ∷ ns) = ap (λ l. Int i ∷ l) (rename-zero f ns)
rename-zero f (Atom s ∷ ns) = ap (λ l. Atom s ∷ l) (rename-zero f ns)
rename-zero f (Compound s k ∷ ns) = ap (λ l. Compound s k ∷ l) (rename-zero f ns)

spelling-copied : (t : Tree) → spelling (copied 0 t) ≡ placed (variables t) (spelling t)
spelling-copied t = spelling-renamed (λ v. 0 + place v (variables t)) t ∙ rename-zero (λ v. place v (variables t)) (spelling t)

pub variables-copied : (t : Tree) → length (variables (copied 0 t)) ≡ length (variables t)
variables-copied t = ap (λ ns. length (seen_after [] ns)) (spelling-copied t) ∙ ap length (again (spelling t) [] (variables t) refl).seen ∙ length-below (length (variables t))

same-tree : (t u : Tree) → spelling t ≡ spelling u → t ≡ u
same-tree t u e = sym (tree_of-spelling t) ∙ ap tree_of e ∙ tree_of-spelling u

pub copied-again : (t : Tree) → copied 0 (copied 0 t) ≡ copied 0 t
copied-again t =
    let u : Tree = copied 0 t in
    let kept : numbering [] (spelling u) ≡ spelling u = ap (numbering []) (spelling-copied t) ∙ (again (spelling t) [] (variables t) refl).same ∙ sym (spelling-copied t) in
    same-tree (copied 0 u) u (spelling-copied u ∙ sym (numbering_is (spelling u) []) ∙ kept)

-- ---- a node at a time
pub numbering-copied : (ns : List Node) (seen : List ℕ) → numbering seen ns ≡ copied_from 0 seen ns
numbering-copied [] seen = refl
numbering-copied (Var v ∷ ns) seen = ap (λ w. Var w ∷ numbering (added seen v) ns) (sym (zero-more (place v seen))) ∙ ap (λ l. Var (0 + place v seen) ∷ l) (numbering-copied ns (added seen v))
numbering-copied (Int i ∷ ns) seen = ap (λ l. Int i ∷ l) (numbering-copied ns seen)
numbering-copied (Atom s ∷ ns) seen = ap (λ l. Atom s ∷ l) (numbering-copied ns seen)
numbering-copied (Compound s k ∷ ns) seen = ap (λ l. Compound s k ∷ l) (numbering-copied ns seen)

pub record IsNumbered (old : List Node) (i : ℕ) (seen : List ℕ) (nodes : List Node) : Type 0 where
  pub long : length nodes ≡ length old
  pub made : take i nodes ++ numbering seen (drop i nodes) ≡ numbering [] old
  pub again : seen_after seen (drop i nodes) ≡ seen_after [] old

pub numbered-none : (old : List Node) (seen : List ℕ) → seen ≡ [] → IsNumbered old 0 seen old
numbered-none old seen none = subst (λ s. IsNumbered old 0 s old) (sym none) (record { long = refl; made = refl; again = refl })

pub numbered-more : (old nodes new : List Node) (i : ℕ) (seen next : List ℕ) (m n : Node) → IsNumbered old i seen nodes → i < length nodes → m ≡ get_or nodes i m → n ≡ numbered seen m → next ≡ with_node seen m → new ≡ set nodes i n →
    IsNumbered old (i + 1) next new
numbered-more old nodes new i seen next m n is within m_is n_is next_is new_is =
    let parts : drop i nodes ≡ m ∷ drop (i + 1) nodes = drop_more nodes i m within ∙ ap (λ x. x ∷ drop (i + 1) nodes) (sym m_is) in
    let behind : drop (i + 1) new ≡ drop (i + 1) nodes = ap (drop (i + 1)) new_is ∙ drop-set-lt (i + 1) nodes i n (omega arith) in
    let front : take (i + 1) new ≡ take i nodes ++ n ∷ [] = ap (take (i + 1)) new_is ∙ take-set_at nodes i (i + 1) n refl within in
    record {
      long = ap length new_is ∙ length-set nodes i n ∙ is.long;
      made =
          rw (front, behind, n_is, next_is) (append_assoc (take i nodes) (numbered seen m ∷ []) (numbering (with_node seen m) (drop (i + 1) nodes))
          ∙ ap (λ ns. take i nodes ++ numbering seen ns) (sym parts) ∙ is.made);
      again = rw (behind, next_is) (ap (seen_after seen) (sym parts) ∙ is.again);
    }

-- at the end all are numbered
pub numbered-all : (old nodes : List Node) (i : ℕ) (seen : List ℕ) → IsNumbered old i seen nodes → length nodes ≤ i → (nodes ≡ map (numbered (seen_after [] old)) old) × (seen ≡ seen_after [] old)
numbered-all old nodes i seen is le =
    let rest : drop i nodes ≡ [] = drop_all i nodes le in
    let front : take i nodes ≡ nodes = take_all i nodes le in (
      sym (append-nil nodes) ∙ subst (λ xs. xs ++ [] ≡ numbering [] old) front (subst (λ xs. take i nodes ++ numbering seen xs ≡ numbering [] old) rest is.made) ∙ numbering_is old [],
      subst (λ xs. seen_after seen xs ≡ seen_after [] old) rest is.again,
    )

-- the nodes of a term that were numbered and turned round
pub copy-made : (t : Tree) (nodes placed_nodes made : List Node) (n : ℕ) → nodes ≡ spelling t → AllFit (spelling t) → placed_nodes ≡ map (numbered (seen_after [] nodes)) nodes → made ≡ reverse placed_nodes → n ≡ length (seen_after [] nodes) →
    IsCopyOf made n t
copy-made t nodes placed_nodes made n is fit numbers turned many =
    let term : IsTerm (spelling t) = IsTerm-spelling t fit in
    let back : reverse made ≡ placed_nodes = ap reverse turned ∙ reverse-reverse placed_nodes in
    let all : reverse made ≡ copied_from 0 [] (spelling t) = back ∙ numbers ∙ sym (numbering_is nodes []) ∙ ap (numbering []) is ∙ numbering-copied (spelling t) [] in
    record {
      term = IsTerm-copied 0 (spelling t) (reverse made) term all;
      is = tree_of-copied 0 (spelling t) (reverse made) term all ∙ ap (copied 0) (tree_of-spelling t);
      many = many ∙ ap (λ ns. length (seen_after [] ns)) is;
    }
