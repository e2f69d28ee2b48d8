-- What stays of goal lists where values and slots change.
use Rattle.std.proofs.Common.{◌≡◌, ℕ, ◌+◌, ◌<◌, ◌≤◌, List, [], ◌∷◌, ◌++◌, length, refl, sym, ap, ap₂, ◌∙◌, subst, arith, map, le_trans}
use Rattle.plterm.specs.Tree.{Tree, Trees, var, int, atom, compound, none, more}
use Rattle.plterm.specs.Variables.{AllBelow, EachBelow}
use Rattle.plsubst.specs.Subst.{bind, bind_all}
use Rattle.plsubst.proofs.Unify.{bind-bind}
use Rattle.plsearch.specs.Types.{Collect, Goal, Marker}
use Rattle.plsearch.specs.Lists.{bind_kind, bind_element, bind_goals}
use Rattle.plcells.specs.declared.cell.Cell.{Cell}
use Rattle.plcells.specs.Store.{IsValue, value}
use Rattle.plenv.specs.Env.{Env, over, variable}
use Rattle.plenv.specs.Changes.{Substitutes}
use Rattle.plenv.specs.Rows.{AllBelowEach}
use Rattle.pllinks.specs.declared.item.ClauseGoals.{ClauseGoals}
use Rattle.pllinks.specs.declared.item.MarkerKind.{MarkerKind}
use Rattle.pllinks.specs.declared.item.MarkerKind.TheVariants as markers
use Rattle.pllinks.specs.declared.item.Portion.{Portion}
use Rattle.pllinks.specs.declared.item.Portion.TheVariants as items
use Rattle.pllinks.specs.Lists.{Goals, goal_of, run_goals, marker_of, elements, all_elements, IsMarker, IsItem, AreItems}
use Rattle.pllinks.specs.Changing.{Agrees, ListsAgree, ListsSubstitute}

-- substitutions that agree on the variables of a term
mutual
  unfolding bind

  pub bind-agree : (σ τ : ℕ → Tree) (n : ℕ) (t : Tree) → ((x : ℕ) → x < n → σ x ≡ τ x) → AllBelow n t → bind σ t ≡ bind τ t
  bind-agree σ τ n (var x) e b = e x b
  bind-agree σ τ n (int i) e b = refl
  bind-agree σ τ n (atom f) e b = refl
  bind-agree σ τ n (compound f ts) e b = ap (compound f) (bind_all-agree σ τ n ts e b)

  bind_all-agree : (σ τ : ℕ → Tree) (n : ℕ) (ts : Trees) → ((x : ℕ) → x < n → σ x ≡ τ x) → EachBelow n ts → bind_all σ ts ≡ bind_all τ ts
  bind_all-agree σ τ n none e b = refl
  bind_all-agree σ τ n (more t ts) e b = ap₂ more (bind-agree σ τ n t e b.0) (bind_all-agree σ τ n ts e b.1)

-- items ask for no fewer slots than these
pub items-more : (code : Goals) (e : Env) (n m : ℕ) (xs : List Portion) → n ≤ m → AreItems code e.heap n xs → AreItems code e.heap m xs
items-more code e n m [] le a = tt
items-more code e n m (items.Clause r ∷ xs) le a = ((a.0.0, le_trans a.0.1 le), items-more code e n m xs le a.1)
items-more code e n m (items.Goal k v ∷ xs) le a = (a.0, items-more code e n m xs le a.1)
items-more code e n m (items.Marker k l ∷ xs) le a = (a.0, items-more code e n m xs le a.1)

module _ (code : Goals) (n : ℕ) (old new : Env) (same : Agrees n old new) where
  run-agrees : (r : ClauseGoals) (width : ℕ) (ts : List Tree) → AllBelowEach width ts → r.base + width ≤ n → map (goal_of new r) ts ≡ map (goal_of old r) ts
  run-agrees r width [] b le = refl
  run-agrees r width (t ∷ ts) b le =
      ap₂ (λ x xs. Goal r.level x ∷ xs)
      (bind-agree (over new r.base) (over old r.base) width t (λ x lt. same.variables (r.base + x) (omega (arith, lt, le))) b.0)
      (run-agrees r width ts b.1 le)

  marker-agrees : (k : MarkerKind) → IsMarker old.heap k → marker_of new.heap k ≡ marker_of old.heap k
  marker-agrees markers.Commit i = refl
  marker-agrees markers.Never i = refl
  marker-agrees markers.Until i = refl
  marker-agrees (markers.Collect v) i = ap Collect (same.values v i).1
  marker-agrees (markers.Transact d) i = refl

  marker-stays : (k : MarkerKind) → IsMarker old.heap k → IsMarker new.heap k
  marker-stays markers.Commit i = tt
  marker-stays markers.Never i = tt
  marker-stays markers.Until i = tt
  marker-stays (markers.Collect v) i = (same.values v i).0
  marker-stays (markers.Transact d) i = tt

  item-agrees : (x : Portion) → IsItem code old.heap n x → elements code new x ≡ elements code old x
  item-agrees (items.Clause r) i = run-agrees r i.0.width (run_goals code r) i.0.below (le_trans i.0.within i.1)
  item-agrees (items.Goal k v) i = ap (λ t. Goal k t ∷ []) (same.values v i).1
  item-agrees (items.Marker k l) i = ap (λ m. Marker m l ∷ []) (marker-agrees k i)

  item-stays : (x : Portion) → IsItem code old.heap n x → IsItem code new.heap n x
  item-stays (items.Clause r) i = i
  item-stays (items.Goal k v) i = (same.values v i).0
  item-stays (items.Marker k l) i = marker-stays k i

  pub items-agree : (xs : List Portion) → AreItems code old.heap n xs → AreItems code new.heap n xs × (all_elements code new xs ≡ all_elements code old xs)
  unfolding all_elements
  items-agree [] a = (tt, refl)
  items-agree (x ∷ xs) a =
      let r = items-agree xs a.1 in
      ((item-stays x a.0, r.0), ap₂ (λ p q. p ++ q) (item-agrees x a.0) r.1)

pub lists_agree : ListsAgree
lists_agree code n old new xs same a = items-agree code n old new same xs a

map-append : {A B : Type 0} (f : A → B) (xs ys : List A) → map f (xs ++ ys) ≡ map f xs ++ map f ys
map-append f [] ys = refl
map-append f (x ∷ xs) ys = ap (λ zs. f x ∷ zs) (map-append f xs ys)

-- what is put for variables, in each value and in the first n slots
pub record Bound (n : ℕ) (old new : Env) (σ : ℕ → Tree) : Type 0 where
  pub values : (v : Cell) → IsValue old.heap v → IsValue new.heap v × (value new.heap v ≡ bind σ (value old.heap v))
  pub variables : (i : ℕ) → i < n → variable new i ≡ bind σ (variable old i)

module _ (code : Goals) (n : ℕ) (old new : Env) (σ : ℕ → Tree) (made : Bound n old new σ) where
  goal-bound : (r : ClauseGoals) (width : ℕ) (t : Tree) → AllBelow width t → r.base + width ≤ n → bind (over new r.base) t ≡ bind σ (bind (over old r.base) t)
  goal-bound r width t b le =
      bind-agree (over new r.base) (λ x. bind σ (over old r.base x)) width t (λ x lt. made.variables (r.base + x) (omega (arith, lt, le))) b
      ∙ sym (bind-bind σ (over old r.base) t)

  run-bound : (r : ClauseGoals) (width : ℕ) (ts : List Tree) → AllBelowEach width ts → r.base + width ≤ n → map (goal_of new r) ts ≡ map (bind_element σ) (map (goal_of old r) ts)
  run-bound r width [] b le = refl
  run-bound r width (t ∷ ts) b le = ap₂ (λ x xs. Goal r.level x ∷ xs) (goal-bound r width t b.0 le) (run-bound r width ts b.1 le)

  marker-bound : (k : MarkerKind) → IsMarker old.heap k → marker_of new.heap k ≡ bind_kind σ (marker_of old.heap k)
  marker-bound markers.Commit i = refl
  marker-bound markers.Never i = refl
  marker-bound markers.Until i = refl
  marker-bound (markers.Collect v) i = ap Collect (made.values v i).1
  marker-bound (markers.Transact d) i = refl

  marker-kept : (k : MarkerKind) → IsMarker old.heap k → IsMarker new.heap k
  marker-kept markers.Commit i = tt
  marker-kept markers.Never i = tt
  marker-kept markers.Until i = tt
  marker-kept (markers.Collect v) i = (made.values v i).0
  marker-kept (markers.Transact d) i = tt

  item-bound : (x : Portion) → IsItem code old.heap n x → elements code new x ≡ map (bind_element σ) (elements code old x)
  item-bound (items.Clause r) i = run-bound r i.0.width (run_goals code r) i.0.below (le_trans i.0.within i.1)
  item-bound (items.Goal k v) i = ap (λ t. Goal k t ∷ []) (made.values v i).1
  item-bound (items.Marker k l) i = ap (λ m. Marker m l ∷ []) (marker-bound k i)

  item-kept : (x : Portion) → IsItem code old.heap n x → IsItem code new.heap n x
  item-kept (items.Clause r) i = i
  item-kept (items.Goal k v) i = (made.values v i).0
  item-kept (items.Marker k l) i = marker-kept k i

  pub items-put : (xs : List Portion) → AreItems code old.heap n xs → AreItems code new.heap n xs × (all_elements code new xs ≡ bind_goals σ (all_elements code old xs))
  unfolding all_elements
  items-put [] a = (tt, refl)
  items-put (x ∷ xs) a =
      let r = items-put xs a.1 in (
        (item-kept x a.0, r.0),
        ap₂ (λ p q. p ++ q) (item-bound x a.0) r.1 ∙ sym (map-append (bind_element σ) (elements code old x) (all_elements code old xs)),
      )

pub items-bound : (code : Goals) (old new : Env) (σ : ℕ → Tree) → Substitutes old new σ → (xs : List Portion) → AreItems code old.heap (length old.slots) xs
    → AreItems code new.heap (length new.slots) xs × (all_elements code new xs ≡ bind_goals σ (all_elements code old xs))
items-bound code old new σ made xs a =
    let r = items-put code (length old.slots) old new σ (record { values = made.values; variables = made.variables }) xs a in
    (subst (λ n. AreItems code new.heap n xs) (sym made.slots) r.0, r.1)

pub lists_substitute : ListsSubstitute
lists_substitute code old new σ xs made a = items-bound code old new σ made xs a
