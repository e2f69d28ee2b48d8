-- The levels of a list's markers, link by link.
use Rattle.std.proofs.Common.{◌≡◌, ℕ, suc, ◌-◌, ◌<◌, ◌≤◌, List, [], ◌∷◌, ◌++◌, length, map, refl, sym, ap, ◌∙◌, subst, arith, append-nil, append_assoc}
use Rattle.plterm.specs.Tree.{Tree}
use Rattle.plsearch.specs.Types.{Element}
use Rattle.plsearch.specs.Lists.{levels}
use Rattle.plenv.specs.Env.{Env}
use Rattle.pllinks.specs.declared.item.ClauseGoals.{ClauseGoals}
use Rattle.pllinks.specs.declared.item.Portion.{Portion}
use Rattle.pllinks.specs.declared.item.Portion.TheVariants as items
use Rattle.pllinks.specs.declared.link.Link.{Link}
use Rattle.pllinks.specs.declared.link.Continuation.{Continuation}
use Rattle.pllinks.specs.Lists.{Goals, goal_of, run_goals, elements, all_elements}
use Rattle.pllinks.specs.Links.{list_at, link_at, items_of, IsChain}
use Rattle.pllinks.proofs.Arena.{list_at-first, list_at-none}
use Rattle.plstack.specs.Levels.{levels_of}

module _ (code : Goals) (e : Env) where
  levels-run : (r : ClauseGoals) (ts : List Tree) (es : List Element) → levels (map (goal_of e r) ts ++ es) ≡ levels es
  levels-run r [] es = refl
  levels-run r (t ∷ ts) es = levels-run r ts es

  levels-item : (x : Portion) (es : List Element) → levels (elements code e x ++ es) ≡ levels_of x ++ levels es
  levels-item (items.Clause r) es = levels-run r (run_goals code r) es
  levels-item (items.Goal k v) es = refl
  levels-item (items.Marker m l) es = refl

  -- those of a list
  abbrev pub levels_at : List Portion → List ℕ
  levels_at xs = levels (all_elements code e xs)

  levels-first : (x : Portion) (xs : List Portion) → levels_at (x ∷ xs) ≡ levels_of x ++ levels_at xs
  unfolding all_elements
  levels-first x xs = levels-item x (all_elements code e xs)

  levels-list : (links : List Link) (l : Continuation) → levels_at (items_of links l) ≡ levels_at (list_at links l.rest)
  levels-list links l = levels-first (items.Clause l.run) (list_at links l.rest)

  pub levels-start : (links : List Link) (l : Continuation) (found : List ℕ) → found ≡ [] → found ++ levels_at (list_at links l.rest) ≡ levels_at (items_of links l)
  levels-start links l found none = ap (λ xs. xs ++ levels_at (list_at links l.rest)) none ∙ sym (levels-list links l)

  -- one link further
  module _ (links : List Link) (chain : IsChain links) (i : ℕ) (l : Link) (some : i ≡ 0 → ⊥) (there : i ≤ length links) (link-is : l ≡ link_at links (i - 1)) where
    lt : i - 1 < length links
    lt = omega (arith, some, there)

    pub next-there : l.next ≤ i - 1
    next-there = subst (λ (x : Link). x.next ≤ i - 1) (sym link-is) (chain (i - 1) lt).next

    pub here : list_at links i ≡ l.item ∷ list_at links l.next
    here =
        let next : i ≡ suc (i - 1) = omega (arith, some) in
        ap (list_at links) next
        ∙ list_at-first links (i - 1) chain lt ∙ ap (λ (x : Link). x.item ∷ list_at links x.next) (sym link-is)

    pub found-next : (found more all : List ℕ) → more ≡ found ++ levels_of l.item → found ++ levels_at (list_at links i) ≡ all → more ++ levels_at (list_at links l.next) ≡ all
    found-next found more all is so =
        ap (λ ls. ls ++ levels_at (list_at links l.next)) is
        ∙ append_assoc found (levels_of l.item) (levels_at (list_at links l.next))
        ∙ ap (λ ls. found ++ ls) (sym (ap levels_at here ∙ levels-first l.item (list_at links l.next))) ∙ so

  pub found-all : (links : List Link) (found all : List ℕ) (i : ℕ) → i ≡ 0 → found ++ levels_at (list_at links i) ≡ all → found ≡ all
  unfolding all_elements
  found-all links found all i none so =
      sym (append-nil found) ∙ ap (λ xs. found ++ levels_at xs) (sym (ap (list_at links) none ∙ list_at-none links)) ∙ so
