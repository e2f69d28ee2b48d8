-- The nodes of goals, a node at a time.
use Rattle.std.proofs.Common.{◌≡◌, ℕ, zero, suc, ◌≤◌, Bool, true, false, ℤ, List, [], ◌∷◌, ◌++◌, length, take, drop, flat_map, Option, Some, None, option_map, option_and_then, IfSome, refl, sym, ap, ◌∙◌, arith, append_assoc, append-nil, length-append, if◌then◌else◌}
use Rattle.std.proofs.lemmas.List.{take-append-drop}
use Rattle.plterm.specs.declared.node.Node.{Node}
use Rattle.plterm.specs.declared.node.Node.TheVariants.{Compound}
use Rattle.plterm.specs.Tree.{Tree, int, compound, Trees, none, more, trees, list_of}
use Rattle.plterm.specs.Reading.{read, tree_of, spelling, spellings, Fits, AllFit, IsTerm}
use Rattle.plterm.proofs.Spellings.{spellings-trees, length-take_room, whole_nodes}
use Rattle.plterm.proofs.Forests.{AllFit-push, list_of-trees}
use Rattle.plclause.specs.Conversion.{is_control, converted, all_converted}
use Rattle.plclause.specs.Goals.{joined, goal_nodes}

-- ---- lists that are there

joined_cons : (n : Node) (a b : Option (List Node)) → joined (option_map (λ ns. n ∷ ns) a) b ≡ option_map (λ ns. n ∷ ns) (joined a b)
joined_cons n None b = refl
joined_cons n (Some ms) None = refl
joined_cons n (Some ms) (Some ns) = refl

joined_assoc : (a b c : Option (List Node)) → joined (joined a b) c ≡ joined a (joined b c)
joined_assoc None b c = refl
joined_assoc (Some x) None c = refl
joined_assoc (Some x) (Some y) None = refl
joined_assoc (Some x) (Some y) (Some z) = ap (λ (ns : List Node). Some ns) (append_assoc x y z)

joined_nil : (b : Option (List Node)) → b ≡ joined (Some []) b
joined_nil None = refl
joined_nil (Some ns) = refl

joined_none : (a : Option (List Node)) → joined a None ≡ None
joined_none None = refl
joined_none (Some x) = refl

put_one : (made : List Node) (n : Node) (b : Option (List Node)) → joined (Some (made ++ n ∷ [])) b ≡ joined (Some made) (option_map (λ ns. n ∷ ns) b)
put_one made n None = refl
put_one made n (Some ns) = ap (λ (xs : List Node). Some xs) (append_assoc made (n ∷ []) ns)

goal_nodes-append : (ts us : List Tree) → goal_nodes (ts ++ us) ≡ joined (goal_nodes ts) (goal_nodes us)
goal_nodes-append [] us = joined_nil (goal_nodes us)
goal_nodes-append (t ∷ ts) us =
    ap (joined (option_map spelling (converted t))) (goal_nodes-append ts us)
    ∙ sym (joined_assoc (option_map spelling (converted t)) (goal_nodes ts) (goal_nodes us))

-- ---- goals in control constructs

spelled_more : (x : Option Tree) (y : Option Trees) (ys : Option (List Node)) → option_map spellings y ≡ ys
    → option_map spellings (option_and_then (λ u. option_map (more u) y) x) ≡ joined (option_map spelling x) ys
spelled_more None y ys e = refl
spelled_more (Some u) None ys e = ap (option_map (λ ns. spelling u ++ ns)) e
spelled_more (Some u) (Some us) ys e = ap (option_map (λ ns. spelling u ++ ns)) e

all_spelled : (us : Trees) → option_map spellings (all_converted us) ≡ goal_nodes (list_of us)
all_spelled none = refl
all_spelled (more t ts) = spelled_more (converted t) (all_converted ts) (goal_nodes (list_of ts)) (all_spelled ts)

counted_more : (x : Option Tree) (y : Option Trees) (n : ℕ) → IfSome y (λ ws. length (list_of ws) ≡ n) → IfSome (option_and_then (λ u. option_map (more u) y) x) (λ ws. length (list_of ws) ≡ suc n)
counted_more None y n h = tt
counted_more (Some u) None n h = tt
counted_more (Some u) (Some us) n h = ap suc h

pub all_counted : (us : Trees) → IfSome (all_converted us) (λ ws. length (list_of ws) ≡ length (list_of us))
all_counted none = refl
all_counted (more t ts) = counted_more (converted t) (all_converted ts) (length (list_of ts)) (all_counted ts)

compound_nodes : (s : List ℕ) (y : Option Trees) (n : ℕ) → IfSome y (λ ws. length (list_of ws) ≡ n)
    → option_map spelling (option_map (compound s) y) ≡ option_map (λ ns. Compound s n ∷ ns) (option_map spellings y)
compound_nodes s None n h = refl
compound_nodes s (Some ws) n h = ap (λ (k : ℕ). Some (Compound s k ∷ spellings ws)) h

chosen : (b : Bool) (x y : Option Tree) → b ≡ true → (if b then x else y) ≡ x
chosen true x y e = refl
chosen false x y e = cc

passed : (b : Bool) (x y : Option Tree) → b ≡ false → (if b then x else y) ≡ y
passed true x y e = cc
passed false x y e = refl

control_nodes : (s : List ℕ) (us : Trees) → is_control s (length (list_of us)) ≡ true
    → option_map spelling (converted (compound s us)) ≡ option_map (λ ns. Compound s (length (list_of us)) ∷ ns) (goal_nodes (list_of us))
control_nodes s us e =
    ap (option_map spelling) (chosen (is_control s (length (list_of us))) _ _ e)
    ∙ compound_nodes s (all_converted us) (length (list_of us)) (all_counted us)
    ∙ ap (option_map (λ ns. Compound s (length (list_of us)) ∷ ns)) (all_spelled us)

pub control_same : (made : List Node) (s : List ℕ) (k : ℕ) (ts : List Tree) → k ≤ length ts → is_control s k ≡ true
    → joined (Some (made ++ Compound s k ∷ [])) (goal_nodes ts) ≡ joined (Some made) (goal_nodes (read (Compound s k) ts))
control_same made s k ts room e =
    let us = trees (take k ts) in
    let count : length (list_of us) ≡ k = length-take_room k ts room in
    let same : option_map spelling (converted (compound s us)) ≡ option_map (λ ns. Compound s k ∷ ns) (goal_nodes (take k ts)) =
    control_nodes s us (ap (is_control s) count ∙ e)
    ∙ ap (λ (j : ℕ). option_map (λ ns. Compound s j ∷ ns) (goal_nodes (list_of us))) count
    ∙ ap (λ (vs : List Tree). option_map (λ ns. Compound s k ∷ ns) (goal_nodes vs)) (list_of-trees (take k ts)) in
    put_one made (Compound s k) (goal_nodes ts)
    ∙ ap (λ (vs : List Tree). joined (Some made) (option_map (λ ns. Compound s k ∷ ns) (goal_nodes vs))) (sym (take-append-drop k ts))
    ∙ ap (λ (o : Option (List Node)). joined (Some made) (option_map (λ ns. Compound s k ∷ ns) o)) (goal_nodes-append (take k ts) (drop k ts))
    ∙ ap (joined (Some made)) (sym (joined_cons (Compound s k) (goal_nodes (take k ts)) (goal_nodes (drop k ts))))
    ∙ ap (λ (o : Option (List Node)). joined (Some made) (joined o (goal_nodes (drop k ts)))) (sym same)

-- ---- other goals

pub plain_same : (made nodes : List Node) (s : List ℕ) (k : ℕ) (ts rest : List Tree) → k ≤ length ts → is_control s k ≡ false
    → nodes ≡ (made ++ Compound s k ∷ []) ++ flat_map spelling (take k ts) → rest ≡ drop k ts
    → joined (Some nodes) (goal_nodes rest) ≡ joined (Some made) (goal_nodes (read (Compound s k) ts))
plain_same made nodes s k ts rest room e is after =
    let us = trees (take k ts) in
    let count : length (list_of us) ≡ k = length-take_room k ts room in
    let own : spelling (compound s us) ≡ Compound s k ∷ flat_map spelling (take k ts) =
    ap (λ (j : ℕ). Compound s j ∷ spellings us) count ∙ ap (λ (ns : List Node). Compound s k ∷ ns) (spellings-trees (take k ts)) in
    let goal : converted (compound s us) ≡ Some (compound s us) = passed (is_control s (length (list_of us))) _ _ (ap (is_control s) count ∙ e) in
    rw (is, after) (
    ap (λ (ns : List Node). joined (Some ns) (goal_nodes (drop k ts))) (append_assoc made (Compound s k ∷ []) (flat_map spelling (take k ts)))
    ∙ joined_assoc (Some made) (Some (Compound s k ∷ flat_map spelling (take k ts))) (goal_nodes (drop k ts))
    ∙ ap (λ (ns : List Node). joined (Some made) (joined (Some ns) (goal_nodes (drop k ts)))) (sym own)
    ∙ ap (λ (o : Option Tree). joined (Some made) (joined (option_map spelling o) (goal_nodes (drop k ts)))) (sym goal)
    )

pub no_goal : (made : List Node) (i : ℤ) (ts : List Tree) → joined (Some made) (goal_nodes (int i ∷ ts)) ≡ None
no_goal made i ts = refl

-- ---- the ends of the walk

pub goal_alone : (t : Tree) → goal_nodes (t ∷ []) ≡ option_map spelling (converted t)
goal_alone t = alone (option_map spelling (converted t)) where
  alone : (o : Option (List Node)) → joined o (Some []) ≡ o
  alone None = refl
  alone (Some ns) = ap (λ (xs : List Node). Some xs) (append-nil ns)

pub none_converted : (t : Tree) (o : Option (List Node)) → o ≡ goal_nodes (t ∷ []) → o ≡ None → converted t ≡ None
none_converted t o e f = only (converted t) (sym (e ∙ goal_alone t) ∙ f) where
  only : (x : Option Tree) → option_map spelling x ≡ None → x ≡ None
  only None h = refl
  only (Some u) h = cc

pub record Spells (nodes : List Node) (t : Tree) : Type 0 where
  pub goal : Tree
  pub is : converted t ≡ Some goal
  pub nodes_of : nodes ≡ spelling goal

spells_some : (nodes : List Node) (t : Tree) (x : Option Tree) → converted t ≡ x → Some nodes ≡ option_map spelling x → Spells nodes t
spells_some nodes t None e h = absurd cc
spells_some nodes t (Some u) e h = record { goal = u; is = e; nodes_of = cc }

pub all_goals : (nodes : List Node) (t : Tree) (rest : List Tree) → rest ≡ [] → joined (Some nodes) (goal_nodes rest) ≡ goal_nodes (t ∷ []) → Spells nodes t
all_goals nodes t rest e h =
    spells_some nodes t (converted t) refl (
    ap (λ (ns : List Node). Some ns) (sym (append-nil nodes))
    ∙ ap (λ (ts : List Tree). joined (Some nodes) (goal_nodes ts)) (sym e)
    ∙ h ∙ goal_alone t
    )

pub fewer_nodes : (k : ℕ) (ts : List Tree) → length (flat_map spelling (drop k ts)) ≤ length (flat_map spelling ts)
fewer_nodes zero ts = omega arith
fewer_nodes (suc k) [] = omega arith
fewer_nodes (suc k) (t ∷ ts) = omega (arith, fewer_nodes k ts, length-append (spelling t) (flat_map spelling ts))

pub pushed_fits : (made nodes : List Node) (n : Node) → nodes ≡ made ++ n ∷ [] → Fits n → AllFit made → AllFit nodes
pushed_fits made nodes n e f h = rw e (AllFit-push made n h f)

-- ---- the goal of a term of nodes that fit

pub record IsGoal (nodes : List Node) (t : Tree) : Type 0 where
  pub term : IsTerm nodes
  pub goal : Some (tree_of nodes) ≡ converted t

pub whole_goal : (nodes : List Node) (t : Tree) (rest : List Tree) → rest ≡ [] → joined (Some nodes) (goal_nodes rest) ≡ goal_nodes (t ∷ []) → AllFit nodes → IsGoal nodes t
whole_goal nodes t rest e h fits =
    let s = all_goals nodes t rest e h in
    let w = whole_nodes nodes s.goal s.nodes_of fits in
    record { term = w.term; goal = ap (λ (u : Tree). Some u) w.tree ∙ sym s.is }
