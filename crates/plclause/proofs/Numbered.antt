-- A clause numbered anew stays as it is.
use Rattle.std.proofs.Common.{◌≡◌, ◌==◌, ℕ, suc, ◌+◌, ◌<◌, Bool, true, false, cond, not, List, [], ◌∷◌, ◌++◌, length, map, Some, refl, sym, ap, subst, ◌∙◌, arith, append_assoc}
use Rattle.std.proofs.lemmas.Bool.{eqb-true, eq-eqb}
use Rattle.std.proofs.lemmas.List.{map-append, length-map}
use Rattle.plterm.specs.declared.node.Node.{Node}
use Rattle.plterm.specs.declared.node.Node.TheVariants.{Var, Int, Atom, Compound}
use Rattle.plterm.specs.Tree.{Tree}
use Rattle.plterm.specs.Reading.{spelling, tree_of, tree_of-spelling}
use Rattle.plterm.specs.Variables.{place, added, seen_after, variables, renamed, rename}
use Rattle.plterm.proofs.Spellings.{spelling-renamed}
use Rattle.plclause.specs.Clause.{Clause}
use Rattle.plclause.specs.Conversion.{converted}
use Rattle.plclause.specs.Soundness.{IsCallable, IsSound, both_variables, clause_from}
use Rattle.plclause.proofs.Seen.{AllSeen, AllSeen-after, AllSeen-more, renamed_below, callable_renamed}
use Rattle.plclause.proofs.Conversions.{goal_renamed}

-- ---- places tell variables apart

apart_step : (b c : Bool) (p q n : ℕ) (P : Type 0) → cond (not b) (1 + p) 0 < suc n → cond (not b) (1 + p) 0 ≡ cond (not c) (1 + q) 0 → (b ≡ true → c ≡ true → P) → (p < n → p ≡ q → P) → P
apart_step true true p q n P h e here there = here refl refl
apart_step true false p q n P h e here there = absurd (omega arith)
apart_step false true p q n P h e here there = absurd (omega arith)
apart_step false false p q n P h e here there = there (omega arith) (omega arith)

same_place : (vs : List ℕ) (v w : ℕ) → place v vs < length vs → place v vs ≡ place w vs → v ≡ w
same_place [] v w h e = absurd (omega arith)
same_place (y ∷ ys) v w h e =
    apart_step (y == v) (y == w) (place v ys) (place w ys) (length ys) (v ≡ w) h e (λ f g. sym (eqb-true y v f) ∙ eqb-true y w g) (same_place ys v w)

one_test : (s t : Bool) → (s ≡ true → t ≡ true) → (t ≡ true → s ≡ true) → s ≡ t
one_test true true h k = refl
one_test true false h k = sym (h refl)
one_test false true h k = k refl
one_test false false h k = refl

same_test : (vs : List ℕ) (x v : ℕ) → place x vs < length vs → (place x vs == place v vs) ≡ (x == v)
same_test vs x v h =
    one_test (place x vs == place v vs) (x == v)
    (λ e. eq-eqb x v (same_place vs x v h (eqb-true (place x vs) (place v vs) e)))
    (λ e. eq-eqb (place x vs) (place v vs) (ap (λ (y : ℕ). place y vs) (eqb-true x v e)))

-- each of the variables was seen
abbrev AllKnown : List ℕ → List ℕ → Type 0
AllKnown vs [] = Unit {0}
AllKnown vs (x ∷ xs) = (place x vs < length vs) × AllKnown vs xs

place-map : (vs xs : List ℕ) (v : ℕ) → AllKnown vs xs → place (place v vs) (map (λ x. place x vs) xs) ≡ place v xs
place-map vs [] v h = refl
place-map vs (x ∷ xs) v h =
    ap (λ (b : Bool). cond (not b) (1 + place (place v vs) (map (λ y. place y vs) xs)) 0) (same_test vs x v h.0)
    ∙ ap (λ (n : ℕ). cond (not (x == v)) (1 + n) 0) (place-map vs xs v h.1)

-- ---- variables of renamed nodes

chosen-map : (f : ℕ → ℕ) (b : Bool) (xs : List ℕ) (v : ℕ) → cond b (map f xs ++ f v ∷ []) (map f xs) ≡ map f (cond b (xs ++ v ∷ []) xs)
chosen-map f true xs v = sym (map-append f xs (v ∷ []))
chosen-map f false xs v = refl

added-map : (vs xs : List ℕ) (v : ℕ) → AllKnown vs xs → added (map (λ x. place x vs) xs) (place v vs) ≡ map (λ x. place x vs) (added xs v)
added-map vs xs v h =
    let f : ℕ → ℕ = λ x. place x vs in
    ap (λ (n : ℕ). cond (n == length (map f xs)) (map f xs ++ f v ∷ []) (map f xs)) (place-map vs xs v h)
    ∙ ap (λ (n : ℕ). cond (place v xs == n) (map f xs ++ f v ∷ []) (map f xs)) (length-map xs f)
    ∙ chosen-map f (place v xs == length xs) xs v

known_push : (vs xs : List ℕ) (v : ℕ) → AllKnown vs xs → place v vs < length vs → AllKnown vs (xs ++ v ∷ [])
known_push vs [] v h k = (k, tt)
known_push vs (x ∷ xs) v h k = (h.0, known_push vs xs v h.1 k)

known_chosen : (b : Bool) (vs xs : List ℕ) (v : ℕ) → AllKnown vs xs → place v vs < length vs → AllKnown vs (cond b (xs ++ v ∷ []) xs)
known_chosen true vs xs v h k = known_push vs xs v h k
known_chosen false vs xs v h k = h

known_added : (vs xs : List ℕ) (v : ℕ) → AllKnown vs xs → place v vs < length vs → AllKnown vs (added xs v)
known_added vs xs v h k = known_chosen (place v xs == length xs) vs xs v h k

known_after : (vs : List ℕ) (ns : List Node) (xs : List ℕ) → AllSeen vs ns → AllKnown vs xs → AllKnown vs (seen_after xs ns)
known_after vs [] xs h k = k
known_after vs (Var v ∷ ns) xs h k = known_after vs ns (added xs v) h.1 (known_added vs xs v k h.0)
known_after vs (Int i ∷ ns) xs h k = known_after vs ns xs h k
known_after vs (Atom s ∷ ns) xs h k = known_after vs ns xs h k
known_after vs (Compound s j ∷ ns) xs h k = known_after vs ns xs h k

seen_after-map : (vs : List ℕ) (ns : List Node) (xs : List ℕ) → AllSeen vs ns → AllKnown vs xs → seen_after (map (λ x. place x vs) xs) (map (rename (λ x. place x vs)) ns) ≡ map (λ x. place x vs) (seen_after xs ns)
seen_after-map vs [] xs h k = refl
seen_after-map vs (Var v ∷ ns) xs h k =
    ap (λ (seen : List ℕ). seen_after seen (map (rename (λ x. place x vs)) ns)) (added-map vs xs v k)
    ∙ seen_after-map vs ns (added xs v) h.1 (known_added vs xs v k h.0)
seen_after-map vs (Int i ∷ ns) xs h k = seen_after-map vs ns xs h k
seen_after-map vs (Atom s ∷ ns) xs h k = seen_after-map vs ns xs h k
seen_after-map vs (Compound s j ∷ ns) xs h k = seen_after-map vs ns xs h k

-- ---- the numbers stay

place_there : (front back : List ℕ) (x : ℕ) → place x (front ++ x ∷ back) < length (front ++ x ∷ back)
place_there [] back x = ap_less (eq-eqb x x refl) where
  ap_less : {b : Bool} → b ≡ true → cond (not b) (1 + place x back) 0 < suc (length back)
  ap_less e = rw e (omega arith)
place_there (y ∷ front) back x = less (y == x) (place x (front ++ x ∷ back)) (length (front ++ x ∷ back)) (place_there front back x) where
  less : (b : Bool) (p n : ℕ) → p < n → cond (not b) (1 + p) 0 < suc n
  less true p n h = omega arith
  less false p n h = omega arith

known_rest : (front back : List ℕ) → AllKnown (front ++ back) back
known_rest front [] = tt
known_rest front (x ∷ back) =
    (place_there front back x, subst (λ vs. AllKnown vs back) (append_assoc front (x ∷ []) back) (known_rest (front ++ x ∷ []) back))

known_self : (vs : List ℕ) → AllKnown vs vs
known_self vs = known_rest [] vs

nodes_again : (vs : List ℕ) (ns : List Node) → AllSeen vs ns
    → map (rename (λ w. place w (map (λ x. place x vs) vs))) (map (rename (λ x. place x vs)) ns) ≡ map (rename (λ x. place x vs)) ns
nodes_again vs [] h = refl
nodes_again vs (Var v ∷ ns) h =
    ap (λ (k : ℕ). Var k ∷ map (rename (λ w. place w (map (λ x. place x vs) vs))) (map (rename (λ x. place x vs)) ns)) (place-map vs vs v (known_self vs))
    ∙ ap (λ (ms : List Node). Var (place v vs) ∷ ms) (nodes_again vs ns h.1)
nodes_again vs (Int i ∷ ns) h = ap (λ (ms : List Node). Int i ∷ ms) (nodes_again vs ns h)
nodes_again vs (Atom s ∷ ns) h = ap (λ (ms : List Node). Atom s ∷ ms) (nodes_again vs ns h)
nodes_again vs (Compound s k ∷ ns) h = ap (λ (ms : List Node). Compound s k ∷ ms) (nodes_again vs ns h)

tree_again : (vs : List ℕ) (t : Tree) → AllSeen vs (spelling t)
    → renamed (λ w. place w (map (λ x. place x vs) vs)) (renamed (λ x. place x vs) t) ≡ renamed (λ x. place x vs) t
tree_again vs t h =
    let f : ℕ → ℕ = λ x. place x vs in
    let g : ℕ → ℕ = λ w. place w (map f vs) in
    sym (tree_of-spelling (renamed g (renamed f t)))
    ∙ ap tree_of (
    spelling-renamed g (renamed f t)
    ∙ ap (map (rename g)) (spelling-renamed f t)
    ∙ nodes_again vs (spelling t) h
    ∙ sym (spelling-renamed f t)
    )
    ∙ tree_of-spelling (renamed f t)

pub clause_again : (head goal : Tree) → clause_from (clause_from head goal).head (clause_from head goal).body ≡ clause_from head goal
clause_again head goal =
    let vs = both_variables head goal in
    let f : ℕ → ℕ = λ x. place x vs in
    let in_head : AllSeen vs (spelling head) = AllSeen-more (spelling goal) (spelling head) (variables head) (AllSeen-after (spelling head) []) in
    let in_goal : AllSeen vs (spelling goal) = AllSeen-after (spelling goal) (variables head) in
    let heads : variables (renamed f head) ≡ map f (variables head) =
    ap (seen_after []) (spelling-renamed f head) ∙ seen_after-map vs (spelling head) [] in_head tt in
    let all : both_variables (renamed f head) (renamed f goal) ≡ map f vs =
    ap (λ (seen : List ℕ). seen_after seen (spelling (renamed f goal))) heads
    ∙ ap (seen_after (map f (variables head))) (spelling-renamed f goal)
    ∙ seen_after-map vs (spelling goal) (variables head) in_goal (known_after vs (spelling head) [] in_head tt) in
    let made : List ℕ → Clause = λ us. record { head = renamed (λ v. place v us) (renamed f head); body = renamed (λ v. place v us) (renamed f goal); variables = length us } in
    let part : Tree → Tree → ℕ → Clause = λ x y k. record { head = x; body = y; variables = k } in
    ap made all
    ∙ ap (λ (x : Tree). part x (renamed (λ v. place v (map f vs)) (renamed f goal)) (length (map f vs))) (tree_again vs head in_head)
    ∙ ap (λ (y : Tree). part (renamed f head) y (length (map f vs))) (tree_again vs goal in_goal)
    ∙ ap (λ (k : ℕ). part (renamed f head) (renamed f goal) k) (length-map vs f)

-- a clause numbered anew is sound
pub clause_is_sound : (head goal : Tree) → IsCallable head → converted goal ≡ Some goal → IsSound (clause_from head goal)
clause_is_sound head goal callable is =
    let seen = both_variables head goal in
    record {
      callable = callable_renamed (λ v. place v seen) head callable;
      converted_body = goal_renamed (λ v. place v seen) goal is;
      head_below = renamed_below head seen (AllSeen-more (spelling goal) (spelling head) (variables head) (AllSeen-after (spelling head) []));
      body_below = renamed_below goal seen (AllSeen-after (spelling goal) (variables head));
      numbered = clause_again head goal;
    }
