-- The walk over what holds goals: what is out and what is left, together.
use Rattle.std.proofs.Common.{◌≡◌, ℕ, zero, suc, ◌+◌, ◌<◌, ◌≤◌, true, List, [], ◌∷◌, ◌++◌, length, length-append, length-drop, take, drop, map, reverse, refl, sym, ap, ap₂, ◌∙◌, subst, arith, append_assoc, append-nil, Some, None, option_map}
use Rattle.std.specs.Prelude.{option_and_then}
use Rattle.std.proofs.lemmas.List.{reverse-append, take-map, drop-map, length-map}
use Rattle.plterm.specs.declared.node.Node.{Node}
use Rattle.plterm.specs.declared.node.Node.TheVariants.{Var, Compound}
use Rattle.plterm.specs.Tree.{Tree, Trees, compound, none, more, trees}
use Rattle.plterm.specs.Variables.{EachBelow}
use Rattle.plterm.specs.Reading.{reading, tree_of, IsName, IsForest, IsTerm}
use Rattle.plterm.proofs.Forests.{reading_term}
use Rattle.plclause.specs.Conversion.{converted, is_control}
use Rattle.plsubst.specs.Subst.{bind}
use Rattle.plcells.specs.declared.cell.Cell.{Cell}
use Rattle.plcells.specs.Store.{Store, at, term, value, IsValue, AreValues}
use Rattle.plcells.specs.Walking.{weight, weights}
use Rattle.plcells.specs.Putting.{standing}
use Rattle.plcells.proofs.Nodes.{bind-trees}
use Rattle.plcells.proofs.Taking.{Plants}
use Rattle.plcells.proofs.Searching.{weight-some}
use Rattle.plgoals.specs.Goals.{IsConstruct, Opens, Spells}
use Rattle.plgoals.proofs.Converting.{goals, both, parts, none_two, converted-control}

abbrev pub more_one : Tree → Trees
more_one t = more t none

-- the terms of the values on a stack, the topmost first
abbrev pub left_terms : Store → List Cell → List Tree
left_terms h stack = map (value h) (reverse stack)

pub left-popped : (h : Store) (stack rest : List Cell) (v : Cell) → stack ≡ rest ++ v ∷ [] → left_terms h stack ≡ value h v ∷ left_terms h rest
left-popped h stack rest v e = ap (left_terms h) e ∙ ap (map (value h)) (reverse-append rest (v ∷ []))

pub left-opened : (h : Store) (p : ℕ) (before after : List Cell) → Opens h p before after → left_terms h after ≡ term h (suc p) ∷ term h (suc (suc p)) ∷ left_terms h before
left-opened h p before after o =
    ap (left_terms h) o.stack
    ∙ ap (map (value h)) (reverse-append before (o.second ∷ o.first ∷ []))
    ∙ ap₂ (λ a b. a ∷ b ∷ left_terms h before) o.first_is o.second_is

pub values-append : (h : Store) (vs ws : List Cell) → AreValues h vs → AreValues h ws → AreValues h (vs ++ ws)
values-append h [] ws p q = q
values-append h (v ∷ vs) ws p q = (p.0, values-append h vs ws p.1 q)

pub values-pushed : (h : Store) (vs after : List Cell) (v : Cell) → AreValues h vs → IsValue h v → after ≡ vs ++ v ∷ [] → AreValues h after
values-pushed h vs after v p q e = subst (AreValues h) (sym e) (values-append h vs (v ∷ []) p (q, tt))

pub values-popped : (h : Store) (vs rest : List Cell) (v : Cell) → AreValues h vs → vs ≡ rest ++ v ∷ [] → AreValues h rest × IsValue h v
values-popped h vs rest v p e = go rest (subst (AreValues h) e p)
  where
    go : (rest : List Cell) → AreValues h (rest ++ v ∷ []) → AreValues h rest × IsValue h v
    go [] q = (tt, q.0)
    go (u ∷ us) q = let r = go us q.1 in ((q.0, r.0), r.1)

pub values-opened : (h : Store) (p : ℕ) (before after : List Cell) → AreValues h before → Opens h p before after → AreValues h after
values-opened h p before after are o = subst (AreValues h) (sym o.stack) (values-append h before (o.second ∷ o.first ∷ []) are (o.second_fits, (o.first_fits, tt)))

-- how many nodes the terms that are left have
abbrev pub weigh_left : Store → List Cell → ℕ
weigh_left h stack = weights (trees (left_terms h stack))

pub weigh-popped : (h : Store) (stack rest : List Cell) (v : Cell) → stack ≡ rest ++ v ∷ [] → weigh_left h stack ≡ weight (value h v) + weigh_left h rest
unfolding weight
weigh-popped h stack rest v e = ap (λ ts. weights (trees ts)) (left-popped h stack rest v e)

pub lighter-popped : (h : Store) (stack rest : List Cell) (v : Cell) → stack ≡ rest ++ v ∷ [] → weigh_left h rest < weigh_left h stack
lighter-popped h stack rest v e = omega (arith, weigh-popped h stack rest v e, weight-some (value h v))

pub lighter-opened : (h : Store) (stack rest after : List Cell) (v : Cell) (p : ℕ) → stack ≡ rest ++ v ∷ [] → value h v ≡ term h p → IsConstruct h p → Opens h p rest after → weigh_left h after < weigh_left h stack
unfolding weight
lighter-opened h stack rest after v p e is c o =
    let w : weight (value h v) ≡ suc (weight (term h (suc p)) + (weight (term h (suc (suc p))) + 0)) = ap weight (is ∙ c.is) in
    omega (arith, weigh-popped h stack rest v e, w, ap (λ ts. weights (trees ts)) (left-opened h p rest after o))

-- a term is its own goal if each that is left is its own
abbrev pub AllOwn : List Tree → Type 0
AllOwn [] = Unit {0}
AllOwn (t ∷ ts) = (converted t ≡ Some t) × AllOwn ts

pub own-opened : (h : Store) (p : ℕ) (ts : List Tree) → IsConstruct h p → AllOwn (term h (suc p) ∷ term h (suc (suc p)) ∷ ts) → converted (term h p) ≡ Some (term h p)
own-opened h p ts c own =
    ap converted c.is
    ∙ converted-control c.name (term h (suc p)) (term h (suc (suc p))) c.control
    ∙ ap₂ (λ x y. option_map (compound c.name) (both x y)) own.0 own.1.0
    ∙ ap Some (sym c.is)

-- what nodes come to, where each variable is a value by its place
abbrev pub spelled : Store → List Cell → List Node → List Tree
spelled h vs ns = map (bind (standing h vs)) (reading ns)

pub record Gives (h : Store) (vs : List Cell) (t : Tree) (ns : List Node) (behind : List Tree) : Type 0 where
  pub goal : Tree
  pub is : converted t ≡ Some goal
  pub spells : spelled h vs ns ≡ goal ∷ behind

-- whatever spells the goals of the terms that are left spells, behind what is out, the whole goal; and without them there is none
pub record Leads (h : Store) (vs : List Cell) (out : List Node) (left : List Tree) (t : Tree) : Type 0 where
  pub on : (extra : List Cell) (us : List Tree) → goals left ≡ Some us → (rest : List Node) (ts : List Tree) → spelled h (vs ++ extra) rest ≡ us ++ ts → Gives h (vs ++ extra) t (out ++ rest) ts
  pub off : goals left ≡ None → converted t ≡ None
  pub below : (n : ℕ) → length vs ≤ n → (rest : List Node) → EachBelow n (trees (reading rest)) → EachBelow n (trees (reading (out ++ rest)))

-- the first term that is left
module _ (h : Store) (vs : List Cell) (out : List Node) (d : Tree) (left : List Tree) (t : Tree) (l : Leads h vs out (d ∷ left) t) where
  -- is no goal
  pub leads-none : converted d ≡ None → converted t ≡ None
  leads-none fails = l.off (ap (option_and_then (λ u. option_map (λ us. u ∷ us) (goals left))) fails)

  -- has a goal that these nodes spell with one more value
  pub leads-leaf : (w : Cell) (g : Tree) (ns : List Node) → converted d ≡ Some g →
      ((extra : List Cell) (behind : List Node) → spelled h (vs ++ w ∷ extra) (ns ++ behind) ≡ g ∷ spelled h (vs ++ w ∷ extra) behind) →
      ((n : ℕ) → length vs < n → (behind : List Node) → EachBelow n (trees (reading behind)) → EachBelow n (trees (reading (ns ++ behind)))) →
      Leads h (vs ++ w ∷ []) (out ++ ns) left t
  leads-leaf w g ns is spells below = record {
    on = λ extra us f behind ts s.
        let same : (vs ++ w ∷ []) ++ extra ≡ vs ++ w ∷ extra = append_assoc vs (w ∷ []) extra in
        let first_too : goals (d ∷ left) ≡ Some (g ∷ us) = ap (option_and_then (λ u. option_map (λ us. u ∷ us) (goals left))) is ∙ ap (option_map (λ us. g ∷ us)) f in
        let behind_is : spelled h (vs ++ w ∷ extra) behind ≡ us ++ ts = ap (λ ws. spelled h ws behind) (sym same) ∙ s in
        subst (λ ws. Gives h ws t ((out ++ ns) ++ behind) ts) (sym same)
        (subst (λ ms. Gives h (vs ++ w ∷ extra) t ms ts) (sym (append_assoc out ns behind))
        (l.on (w ∷ extra) (g ∷ us) first_too (ns ++ behind) ts (spells extra behind ∙ ap (λ us. g ∷ us) behind_is)));
    off = λ f. l.off (ap (option_and_then (λ u. option_map (λ us. u ∷ us) (goals left))) is ∙ ap (option_map (λ us. g ∷ us)) f);
    below = λ n le behind b.
        let some : length vs < n = omega (arith, le, length-append vs (w ∷ [])) in
        subst (λ ms. EachBelow n (trees (reading ms))) (sym (append_assoc out ns behind)) (l.below n (omega arith) (ns ++ behind) (below n some behind b));
  }

-- the value of the next place
standing-next : (h : Store) (vs extra : List Cell) (w : Cell) → standing h (vs ++ w ∷ extra) (length vs) ≡ value h w
standing-next h vs extra w = ap (value h) (go vs)
  where
    go : (us : List Cell) → at (us ++ w ∷ extra) (length us) ≡ w
    go [] = refl
    go (u ∷ us) = go us

pub spells-value : (h : Store) (vs extra : List Cell) (w : Cell) (behind : List Node) → spelled h (vs ++ w ∷ extra) (Var (length vs) ∷ [] ++ behind) ≡ value h w ∷ spelled h (vs ++ w ∷ extra) behind
unfolding bind
spells-value h vs extra w behind = ap (λ t. t ∷ spelled h (vs ++ w ∷ extra) behind) (standing-next h vs extra w)

pub spells-call : (h : Store) (vs extra : List Cell) (w : Cell) (f : List ℕ) (behind : List Node) →
    spelled h (vs ++ w ∷ extra) ((Compound f 1 ∷ Var (length vs) ∷ []) ++ behind) ≡ compound f (more_one (value h w)) ∷ spelled h (vs ++ w ∷ extra) behind
unfolding bind
spells-call h vs extra w f behind = ap (λ t. compound f (more_one t) ∷ spelled h (vs ++ w ∷ extra) behind) (standing-next h vs extra w)

spells-compound : (h : Store) (vs : List Cell) (f : List ℕ) (k : ℕ) (behind : List Node) → spelled h vs (Compound f k ∷ behind) ≡ compound f (trees (take k (spelled h vs behind))) ∷ drop k (spelled h vs behind)
unfolding bind
spells-compound h vs f k behind =
    ap₂ (λ us ws. compound f us ∷ ws)
    (bind-trees (standing h vs) (take k (reading behind)) ∙ ap trees (sym (take-map (bind (standing h vs)) k (reading behind))))
    (sym (drop-map (bind (standing h vs)) k (reading behind)))

each-take : (v k : ℕ) (ts : List Tree) → EachBelow v (trees ts) → EachBelow v (trees (take k ts))
each-take v zero ts b = tt
each-take v (suc k) [] b = tt
each-take v (suc k) (t ∷ ts) b = (b.0, each-take v k ts b.1)

each-drop : (v k : ℕ) (ts : List Tree) → EachBelow v (trees ts) → EachBelow v (trees (drop k ts))
each-drop v zero ts b = b
each-drop v (suc k) [] b = tt
each-drop v (suc k) (t ∷ ts) b = each-drop v k ts b.1

-- a control construct, whose goals come first now
module _ (h : Store) (vs : List Cell) (out : List Node) (d a b : Tree) (left : List Tree) (t : Tree) (l : Leads h vs out (d ∷ left) t)
    (f : List ℕ) (is : d ≡ compound f (more a (more b none))) (control : is_control f 2 ≡ true) where
  opened : goals (d ∷ left) ≡ option_and_then (λ u. option_map (λ us. u ∷ us) (goals left)) (option_map (compound f) (both (converted a) (converted b)))
  opened = ap (option_and_then (λ u. option_map (λ us. u ∷ us) (goals left))) (ap converted is ∙ converted-control f a b control)

  pub leads-construct : Leads h vs (out ++ Compound f 2 ∷ []) (a ∷ b ∷ left) t
  leads-construct = record {
    on = λ extra us g behind ts s.
        let p = parts (converted a) (converted b) (goals left) us g in
        let there : goals (d ∷ left) ≡ Some (compound f (more p.u (more p.v none)) ∷ p.vs) =
        opened
        ∙ ap₂ (λ m n. option_and_then (λ u. option_map (λ us. u ∷ us) (goals left)) (option_map (compound f) (both m n))) p.x_is p.y_is
        ∙ ap (option_map (λ us. compound f (more p.u (more p.v none)) ∷ us)) p.r_is in
        let all : spelled h (vs ++ extra) behind ≡ p.u ∷ p.v ∷ (p.vs ++ ts) = s ∙ ap (λ us. us ++ ts) p.us_is in
        subst (λ ms. Gives h (vs ++ extra) t ms ts) (sym (append_assoc out (Compound f 2 ∷ []) behind))
        (l.on extra (compound f (more p.u (more p.v none)) ∷ p.vs) there (Compound f 2 ∷ behind) ts
        (spells-compound h (vs ++ extra) f 2 behind ∙ ap (λ us. compound f (trees (take 2 us)) ∷ drop 2 us) all));
    off = λ g. l.off (opened ∙ none_two f (converted a) (converted b) (goals left) g);
    below = λ n le behind b.
        subst (λ ms. EachBelow n (trees (reading ms))) (sym (append_assoc out (Compound f 2 ∷ []) behind))
        (l.below n le (Compound f 2 ∷ behind) (each-take n 2 (reading behind) b, each-drop n 2 (reading behind) b));
  }

-- forests behind what is out
pub plants-value : (out : List Node) (n i : ℕ) → Plants out (suc n) → Plants (out ++ Var i ∷ []) n
plants-value out n i p = λ rest forest le.
    subst IsForest (sym (append_assoc out (Var i ∷ []) rest)) (p (Var i ∷ rest) (tt, omega arith, forest) (omega (arith, le)))

pub plants-call : (out : List Node) (n i : ℕ) (f : List ℕ) → IsName f → Plants out (suc n) → Plants (out ++ Compound f 1 ∷ Var i ∷ []) n
plants-call out n i f name p = λ rest forest le.
    subst IsForest (sym (append_assoc out (Compound f 1 ∷ Var i ∷ []) rest))
    (p (Compound f 1 ∷ Var i ∷ rest) ((name, omega arith, omega arith), omega arith, (tt, omega arith, forest)) (omega (arith, le)))

pub plants-construct : (out : List Node) (n : ℕ) (f : List ℕ) → IsName f → Plants out (suc n) → Plants (out ++ Compound f 2 ∷ []) (suc (suc n))
plants-construct out n f name p = λ rest forest le.
    let room : 2 ≤ length (reading rest) = omega (arith, le) in
    subst IsForest (sym (append_assoc out (Compound f 2 ∷ []) rest))
    (p (Compound f 2 ∷ rest) ((name, omega arith, omega arith), room, forest) (omega (arith, le, length-drop 2 (reading rest))))

head_is : (t u : Tree) → t ∷ [] ≡ u ∷ [] → t ≡ u
head_is t u e = cc

-- nothing is left
pub spells-end : (h : Store) (v : Cell) (vs : List Cell) (out : List Node) → Leads h vs out [] (value h v) → Plants out 0 → AreValues h vs → Spells h v out vs
spells-end h v vs out l plants are =
    let same : vs ++ [] ≡ vs = append-nil vs in
    let g = l.on [] [] refl [] [] refl in
    let spells : spelled h vs out ≡ g.goal ∷ [] = ap₂ (spelled h) (sym same) (sym (append-nil out)) ∙ g.spells in
    let one : length (reading out) ≡ 1 = sym (length-map (reading out) (bind (standing h vs))) ∙ ap length spells in
    let forest : IsForest out = subst IsForest (append-nil out) (plants [] tt (omega arith)) in
    let whole : IsTerm out = record { forest = forest; one = one } in
    let tree : reading out ≡ tree_of out ∷ [] = reading_term out whole in
    record {
      is = g.is ∙ ap Some (sym (head_is (bind (standing h vs) (tree_of out)) g.goal (ap (map (bind (standing h vs))) (sym tree) ∙ spells)));
      term = whole;
      below = (subst (λ ts. EachBelow (length vs) (trees ts)) tree (subst (λ ms. EachBelow (length vs) (trees (reading ms))) (append-nil out) (l.below (length vs) (omega arith) [] tt))).0;
      values = are;
    }
