-- Copies that come and go behind others.
use Rattle.std.specs.Prelude.{nat_le}
use Rattle.std.specs.List.{All, filter}
use Rattle.std.proofs.Common.{◌≡◌, ℕ, zero, suc, ◌+◌, ◌-◌, ◌<◌, ◌≤◌, Bool, true, false, cond, List, [], ◌∷◌, ◌++◌, length, length-append, map, take, drop, reverse, get_or, refl, sym, ap, ap₂, ◌∙◌, subst, arith}
use Rattle.std.proofs.lemmas.Bool.Decides.{nat_tests}
use Rattle.std.proofs.lemmas.List.{take_all, take_at, drop_at, drop-take, length-take, map-append}
use Rattle.std.proofs.lemmas.List.Elements.{All-filter, All-push, filter_passes}
use Rattle.std.proofs.lemmas.List.Kept.{IsNonDecreasingBy-filter}
use Rattle.std.proofs.lemmas.List.Sorted.{IsNonDecreasingBy-push}
use Rattle.plterm.specs.declared.node.Node.{Node}
use Rattle.plterm.specs.Tree.{Tree}
use Rattle.plterm.specs.Reading.{tree_of, IsTerm}
use Rattle.plterm.specs.Variables.{copied, variables}
use Rattle.plsearch.specs.Types.{Kept}
use Rattle.plsearch.specs.Collecting.{with_copy}
use Rattle.plcollect.specs.declared.collection.Held.{Held}
use Rattle.plcollect.specs.Copies.{nodes_of, end_of, copy_of, copies_of, kept_of, AreCopies, IsCopy, IsCopyOf}
use Rattle.plcollect.proofs.Numbering.{copied-again, variables-copied}

-- what is kept of those that pass a test of the level
module _ (q : ℕ → Bool) (nodes : List Node) where
  picked : (b : Bool) (h : Held) (hs : List Held) → kept_of nodes (cond b (h ∷ hs) hs) ≡ cond b (record { level = h.level; copy = copy_of nodes h } ∷ kept_of nodes hs) (kept_of nodes hs)
  picked true h hs = refl
  picked false h hs = refl

  pub kept-filter : (hs : List Held) → kept_of nodes (filter (λ (h : Held). q h.level) hs) ≡ filter (λ (k : Kept). q k.level) (kept_of nodes hs)
  kept-filter [] = refl
  kept-filter (h ∷ hs) =
      picked (q h.level) h (filter (λ (x : Held). q x.level) hs)
      ∙ ap (λ ks. cond (q h.level) (record { level = h.level; copy = copy_of nodes h } ∷ ks) ks) (kept-filter hs)

  pub copies-filter : (hs : List Held) → AreCopies nodes hs → AreCopies nodes (filter (λ (h : Held). q h.level) hs)
  copies-filter hs are = record {
    each = All-filter (λ (h : Held). q h.level) (IsCopy nodes) hs are.each;
    ends = IsNonDecreasingBy-filter end_of (λ (h : Held). q h.level) hs are.ends;
    levels = IsNonDecreasingBy-filter (λ (h : Held). h.level) (λ (h : Held). q h.level) hs are.levels;
  }

pub copies-kept : (nodes : List Node) (hs : List Held) → map (λ (k : Kept). k.copy) (kept_of nodes hs) ≡ copies_of nodes hs
copies-kept nodes [] = refl
copies-kept nodes (h ∷ hs) = ap (λ ts. copy_of nodes h ∷ ts) (copies-kept nodes hs)

-- other nodes, of which those of some copies are the same
module _ (old new : List Node) where
  abbrev Same : Held → Type 0
  Same h = (nodes_of new h ≡ nodes_of old h) × (end_of h ≤ length new)

  pub kept-same : (hs : List Held) → All Same hs → kept_of new hs ≡ kept_of old hs
  kept-same [] all = refl
  kept-same (h ∷ hs) all =
      ap₂ (λ ns ks. record { level = h.level; copy = tree_of (reverse ns) } ∷ ks) (all 0 h (omega arith)).0 (kept-same hs (λ i d lt. all (suc i) d (omega arith)))

  copy-same : (h : Held) → Same h → IsCopy old h → IsCopy new h
  copy-same h same is = record {
    within = same.1;
    term = subst (λ ns. IsTerm (reverse ns)) (sym same.0) is.term;
    numbered = subst (λ ns. copied 0 (tree_of (reverse ns)) ≡ tree_of (reverse ns)) (sym same.0) is.numbered;
    many = subst (λ ns. h.variables ≡ length (variables (tree_of (reverse ns)))) (sym same.0) is.many;
  }

  pub copies-same : (hs : List Held) → All Same hs → AreCopies old hs → AreCopies new hs
  copies-same hs all are = record {
    each = λ i d lt. copy-same (get_or hs i d) (all i d lt) (are.each i d lt);
    ends = are.ends;
    levels = are.levels;
  }

get_or-any : {A : Type 0} (xs : List A) (i : ℕ) (d e : A) → i < length xs → get_or xs i d ≡ get_or xs i e
get_or-any [] i d e lt = absurd (omega (arith, lt))
get_or-any (x ∷ xs) zero d e lt = refl
get_or-any (x ∷ xs) (suc i) d e lt = get_or-any xs i d e (omega (arith, lt))

take-twice : {A : Type 0} (n m : ℕ) (xs : List A) → n ≤ m → take n (take m xs) ≡ take n xs
take-twice zero m xs le = refl
take-twice (suc n) zero xs le = absurd (omega arith)
take-twice (suc n) (suc m) [] le = refl
take-twice (suc n) (suc m) (x ∷ xs) le = ap (λ ys. x ∷ ys) (take-twice n m xs (omega arith))

-- the first nodes have the copies that end among them
taken : (nodes : List Node) (end : ℕ) (h : Held) → end_of h ≤ end → nodes_of (take end nodes) h ≡ nodes_of nodes h
taken nodes end h le =
    let parts : end ≡ h.from + (end - h.from) = omega (arith, le) in
    ap (λ e. take h.count (drop h.from (take e nodes))) parts
    ∙ ap (take h.count) (drop-take h.from (end - h.from) nodes)
    ∙ take-twice h.count (end - h.from) (drop h.from nodes) (omega (arith, le))

trimmed : (nodes : List Node) (end : ℕ) (hs : List Held) → end ≤ length nodes → All (λ h. end_of h ≤ end) hs → All (Same nodes (take end nodes)) hs
trimmed nodes end hs room all i d lt =
    (taken nodes end (get_or hs i d) (all i d lt), omega (arith, all i d lt, room, length-take end nodes))

-- without the nodes behind those of the last copy
module _ (nodes : List Node) (hs : List Held) (last : Held) (are : AreCopies nodes hs) (some : length hs ≡ 0 → ⊥) (is : last ≡ get_or hs (length hs - 1) last) where
  abbrev front : List Node
  front = take (end_of last) nodes

  room : end_of last ≤ length nodes
  room = (subst (IsCopy nodes) (sym is) (are.each (length hs - 1) last (omega (arith, some)))).within

  low : All (λ (h : Held). end_of h ≤ end_of last) hs
  low i d lt = let e = ap end_of is in omega (arith, are.ends i (length hs - 1) last (omega (arith, lt)) (omega (arith, lt)), e, reads i d lt)
    where
      reads : (i : ℕ) (d : Held) → i < length hs → end_of (get_or hs i d) ≡ end_of (get_or hs i last)
      reads i d lt = ap end_of (get_or-any hs i d last lt)

  pub trim-copies : AreCopies front hs
  trim-copies = copies-same nodes front hs (trimmed nodes (end_of last) hs room low) are

  pub trim-kept : kept_of front hs ≡ kept_of nodes hs
  trim-kept = kept-same nodes front hs (trimmed nodes (end_of last) hs room low)

-- one more copy
module _ (nodes made : List Node) (hs : List Held) (one : Held) (t : Tree) (are : AreCopies nodes hs) (is : IsCopyOf made one.variables t) (from : one.from ≡ length nodes) (count : one.count ≡ length made) where
  abbrev outer : List Held
  outer = filter (λ (h : Held). nat_le h.level one.level) hs

  outer-are : AreCopies nodes outer
  outer-are = copies-filter (λ l. nat_le l one.level) nodes hs are

  before : All (Same nodes (nodes ++ made)) outer
  before i d lt =
      let h : Held = get_or outer i d in
      let within = (outer-are.each i d lt).within in
      let front : take (length nodes) (nodes ++ made) ≡ nodes = take_at nodes made (length nodes) refl in
      (sym (taken (nodes ++ made) (length nodes) h within) ∙ ap (λ ns. nodes_of ns h) front, omega (arith, within, length-append nodes made))

  own : nodes_of (nodes ++ made) one ≡ made
  own = ap (take one.count) (drop_at nodes made one.from (sym from)) ∙ take_all one.count made (omega (arith, count))

  copy-own : copy_of (nodes ++ made) one ≡ copied 0 t
  copy-own = ap (λ ns. tree_of (reverse ns)) own ∙ is.is

  is-copy : IsCopy (nodes ++ made) one
  is-copy = record {
    within = omega (arith, from, count, length-append nodes made);
    term = subst (λ ns. IsTerm (reverse ns)) (sym own) is.term;
    numbered = ap (copied 0) copy-own ∙ copied-again t ∙ sym copy-own;
    many = is.many ∙ sym (variables-copied t) ∙ ap (λ u. length (variables u)) (sym copy-own);
  }

  pub kept-more : kept_of (nodes ++ made) (outer ++ one ∷ []) ≡ with_copy one.level t (kept_of nodes hs)
  kept-more =
      map-append (λ (h : Held). record { level = h.level; copy = copy_of (nodes ++ made) h }) outer (one ∷ [])
      ∙ ap₂ (λ ks u. ks ++ record { level = one.level; copy = u } ∷ []) (kept-same nodes (nodes ++ made) outer before ∙ kept-filter (λ l. nat_le l one.level) nodes hs) copy-own

  no-higher : (l : ℕ) → nat_le l one.level ≡ true → l ≤ one.level
  no-higher l h = grind (arith, nat_tests)

  pub copies-more : AreCopies (nodes ++ made) (outer ++ one ∷ [])
  copies-more =
      let all = copies-same nodes (nodes ++ made) outer before outer-are in
      record {
        each = All-push (IsCopy (nodes ++ made)) outer one all.each is-copy;
        ends = IsNonDecreasingBy-push end_of outer one all.ends (λ d some. omega (arith, (outer-are.each (length outer - 1) d (omega (arith, some))).within, from));
        levels = IsNonDecreasingBy-push (λ (h : Held). h.level) outer one all.levels
            (λ d some. no-higher (get_or outer (length outer - 1) d).level (filter_passes (λ (h : Held). nat_le h.level one.level) hs (length outer - 1) d (omega (arith, some))));
      }
