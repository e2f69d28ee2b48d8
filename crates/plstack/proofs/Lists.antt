-- New goal lists of a stack.
use Rattle.std.proofs.Common.{◌≡◌, ℕ, ◌+◌, ◌≤◌, List, [], ◌∷◌, ◌++◌, length, length-append, map, take, refl, sym, ap, ap₂, ◌∙◌, subst, arith, append_assoc, le_refl, inl, inr, ◌⊎◌}
use Rattle.std.proofs.lemmas.List.{take-append-le, take_all}
use Rattle.plsearch.specs.Types.{Element}
use Rattle.plcode.specs.Converted.{AreConverted}
use Rattle.plenv.specs.Env.{Env}
use Rattle.plenv.specs.Rows.{AllBelowEach}
use Rattle.plenv.proofs.Putting.{Stays-refl}
use Rattle.pllinks.specs.declared.item.ClauseGoals.{ClauseGoals}
use Rattle.pllinks.specs.declared.item.Portion.{Portion}
use Rattle.pllinks.specs.declared.item.Portion.TheVariants as items
use Rattle.pllinks.specs.declared.link.Link.{Link}
use Rattle.pllinks.specs.declared.link.Continuation.{Continuation}
use Rattle.pllinks.specs.Lists.{Goals, goal_of, elements, all_elements, AreItems, IsItem}
use Rattle.pllinks.specs.Links.{done, alone, list_at, items_of, link_to, IsChain, IsDone, Numbers, IsList as IsListIn}
use Rattle.pllinks.proofs.Arena.{list_at-more, list_at-new, list_at-none, chain-push}
use Rattle.plstack.specs.State.{State, goals_in, goals_of, IsList, IsState, AddsList}
use Rattle.plstack.proofs.Growing.{state-grown, extends-grown}

-- no goals
pub empty-list : (code : Goals) → code 0 0 ≡ [] → (e : Env) (links : List Link) → IsListIn code e links (alone 0)
empty-list code none e links = record {
  there = omega arith;
  items = ((record { width = 0; below = subst (AllBelowEach 0) (sym none) tt; within = le_refl _; converted = subst AreConverted (sym none) tt }, omega arith), subst (AreItems code e.heap (length e.slots)) (sym (list_at-none links)) tt);
}

pub no-elements : (code : Goals) → code 0 0 ≡ [] → (e : Env) (links : List Link) → all_elements code e (items_of links (alone 0)) ≡ []
unfolding all_elements
no-elements code none e links = ap₂ (λ ts xs. map (goal_of e done) ts ++ all_elements code e xs) none (list_at-none links)

module _ (s : State) (is : IsState s) where
  -- a run of no goals
  pub done-item : (n : ℕ) → IsItem (goals_in s) s.env.heap n (items.Clause done)
  done-item n = (record { width = 0; below = subst (AllBelowEach 0) (sym is.none) tt; within = le_refl _; converted = subst AreConverted (sym is.none) tt }, omega arith)

  none-elements : (r : ClauseGoals) → IsDone r → elements (goals_in s) s.env (items.Clause r) ≡ []
  none-elements r i = ap₂ (λ p o. map (goal_of s.env r) (goals_in s p o)) i.0 i.1 ∙ ap (map (goal_of s.env r)) is.none

  pub done-elements : (r : ClauseGoals) → IsDone r → (xs : List Portion) → all_elements (goals_in s) s.env (items.Clause r ∷ xs) ≡ all_elements (goals_in s) s.env xs
  unfolding all_elements
  done-elements r i xs = ap (λ es. es ++ all_elements (goals_in s) s.env xs) (none-elements r i)

pub first-elements : (s : State) (x : Portion) (xs : List Portion) → all_elements (goals_in s) s.env (x ∷ xs) ≡ elements (goals_in s) s.env x ++ all_elements (goals_in s) s.env xs
unfolding all_elements
first-elements s x xs = refl

-- more links, and a list among them
module _ (s : State) (is : IsState s) (ls more : List Link) (links : ls ≡ s.links ++ more) (chain : IsChain ls) where
  abbrev pub linked : State
  linked = record { basis = s.basis; env = s.env; links = ls; saved = s.saved; frames = s.frames; goals = s.goals }

  pub state-linked : IsState linked
  state-linked = state-grown s s.env ls more links (Stays-refl s.env).extends is.env is chain

  pub adds-list : (l : Continuation) (es : List Element) → IsList linked l → goals_of linked l ≡ es → AddsList s linked l es
  adds-list l es there same = record {
    there = there;
    is = same;
    stays = extends-grown s s.env ls more links (Stays-refl s.env).extends is.env is;
    env = refl;
    saved = refl;
  }

  -- by its number
  pub list-alone : (n : ℕ) → n ≤ length ls → AreItems (goals_in s) s.env.heap (length s.env.slots) (list_at ls n) → IsList linked (alone n)
  list-alone n le items = record { there = le; items = (done-item s is (length s.env.slots), items) }

  pub goals-alone : (n : ℕ) → goals_of linked (alone n) ≡ all_elements (goals_in s) s.env (list_at ls n)
  goals-alone n = done-elements s is done (refl, refl) (list_at ls n)

-- the number of a list
module _ (s : State) (is : IsState s) (ls : List Link) (l : Continuation) (n : ℕ) (i : IsList s l) (number : Numbers s.links ls l n) where
  chain-now : IsChain ls
  chain-now = number.chain is.chain

  old-list : l.rest ≤ length ls
  old-list = rw number.is (omega (arith, i.there, length-append s.links number.more))

  pub record Stands : Type 0 where
    pub items : AreItems (goals_in s) s.env.heap (length s.env.slots) (list_at ls n)
    pub goals : all_elements (goals_in s) s.env (list_at ls n) ≡ goals_of s l

  pub stands : Stands
  stands = go number.items
    where
      go : (list_at ls n ≡ items_of s.links l) ⊎ (IsDone l.run × (n ≡ l.rest)) → Stands
      go (inl e) = record { items = subst (AreItems (goals_in s) s.env.heap (length s.env.slots)) (sym e) i.items; goals = ap (all_elements (goals_in s) s.env) e }
      go (inr e) =
          let same : list_at ls n ≡ list_at s.links l.rest = ap₂ list_at number.is e.1 ∙ list_at-more s.links number.more l.rest i.there in
          record {
            items = subst (AreItems (goals_in s) s.env.heap (length s.env.slots)) (sym same) i.items.1;
            goals = ap (all_elements (goals_in s) s.env) same ∙ sym (done-elements s is l.run e.0 (list_at s.links l.rest));
          }

  pub numbered : AddsList s (record s { links = ls }) (alone n) (goals_of s l)
  numbered = adds-list s is ls number.more number.is chain-now (alone n) (goals_of s l)
      (list-alone s is ls number.more number.is chain-now n number.there stands.items) (goals-alone s is ls number.more number.is chain-now n ∙ stands.goals)

  pub numbered-state : IsState (record s { links = ls })
  numbered-state = state-linked s is ls number.more number.is chain-now

  -- a run before it
  pub run-before : (r : ClauseGoals) → IsItem (goals_in s) s.env.heap (length s.env.slots) (items.Clause r) →
      AddsList s (record s { links = ls }) (record { run = r; rest = n }) (elements (goals_in s) s.env (items.Clause r) ++ goals_of s l)
  run-before r fits = adds-list s is ls number.more number.is chain-now (record { run = r; rest = n }) (elements (goals_in s) s.env (items.Clause r) ++ goals_of s l)
      (record { there = number.there; items = (fits, stands.items) })
      (first-elements s (items.Clause r) (list_at ls n) ∙ ap (λ es. elements (goals_in s) s.env (items.Clause r) ++ es) stands.goals)

  -- an item before it
  module _ (x : Portion) (fits : IsItem (goals_in s) s.env.heap (length s.env.slots) x) (new : List Link) (m : ℕ) (pushed : new ≡ ls ++ link_to ls x n ∷ []) (place : m ≡ length ls + 1) where
    more-links : new ≡ s.links ++ (number.more ++ link_to ls x n ∷ [])
    more-links = pushed ∙ ap (λ ks. ks ++ link_to ls x n ∷ []) number.is ∙ append_assoc s.links number.more (link_to ls x n ∷ [])

    chain-then : IsChain new
    chain-then = subst IsChain (sym pushed) (chain-push ls x n chain-now number.there)

    at-new : list_at new m ≡ x ∷ list_at ls n
    at-new = ap (λ ks. list_at ks m) pushed ∙ list_at-new ls (link_to ls x n) m (omega (arith, place))

    pub linked-state : IsState (record s { links = new })
    linked-state = state-linked s is new (number.more ++ link_to ls x n ∷ []) more-links chain-then

    pub item-before : AddsList s (record s { links = new }) (alone m) (elements (goals_in s) s.env x ++ goals_of s l)
    item-before = adds-list s is new (number.more ++ link_to ls x n ∷ []) more-links chain-then (alone m) (elements (goals_in s) s.env x ++ goals_of s l)
        (list-alone s is new (number.more ++ link_to ls x n ∷ []) more-links chain-then m (rw pushed (omega (arith, place, length-append ls (link_to ls x n ∷ []))))
        (subst (AreItems (goals_in s) s.env.heap (length s.env.slots)) (sym at-new) (fits, stands.items)))
        (goals-alone s is new (number.more ++ link_to ls x n ∷ []) more-links chain-then m
        ∙ ap (all_elements (goals_in s) s.env) at-new ∙ first-elements s x (list_at ls n) ∙ ap (λ es. elements (goals_in s) s.env x ++ es) stands.goals)

-- what was put behind the links is taken off again
pub taken-off : (links ls : List Link) (l : Continuation) (n : ℕ) → Numbers links ls l n → take (length links) ls ≡ links
taken-off links ls l n number = ap (take (length links)) number.is ∙ take-append-le (length links) links number.more (le_refl _) ∙ take_all (length links) links (le_refl _)
