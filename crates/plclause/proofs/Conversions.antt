-- A converted goal is its own conversion, and stays one under other variables.
use Rattle.std.proofs.Common.{◌≡◌, ℕ, Bool, true, false, List, length, Option, Some, None, option_map, option_and_then, IfSome, refl, ap, ◌∙◌, subst, if◌then◌else◌}
use Rattle.plterm.specs.Tree.{Tree, var, int, atom, compound, Trees, none, more, list_of}
use Rattle.plterm.specs.Variables.{renamed, all_renamed}
use Rattle.plterm.proofs.Spellings.{length-all_renamed}
use Rattle.plclause.specs.Conversion.{is_control, converted, all_converted}
use Rattle.plclause.proofs.GoalNodes.{all_counted}

-- ---- a goal is its own conversion

stable_more : (x : Option Tree) (y : Option Trees) → IfSome x (λ u. converted u ≡ Some u) → IfSome y (λ us. all_converted us ≡ Some us)
    → IfSome (option_and_then (λ u. option_map (more u) y) x) (λ ws. all_converted ws ≡ Some ws)
stable_more None y h k = tt
stable_more (Some u) None h k = tt
stable_more (Some u) (Some us) h k =
    ap (λ (o : Option Tree). option_and_then (λ w. option_map (more w) (all_converted us)) o) h ∙ ap (option_map (more u)) k

stable_control : (s : List ℕ) (n : ℕ) (y : Option Trees) → is_control s n ≡ true → IfSome y (λ ws. length (list_of ws) ≡ n) → IfSome y (λ us. all_converted us ≡ Some us)
    → IfSome (option_map (compound s) y) (λ u. converted u ≡ Some u)
stable_control s n None e h k = tt
stable_control s n (Some ws) e h k =
    ap (λ (b : Bool). if b then option_map (compound s) (all_converted ws) else Some (compound s ws)) (ap (is_control s) h ∙ e)
    ∙ ap (option_map (compound s)) k

stable_compound : (b : Bool) (s : List ℕ) (us : Trees) → is_control s (length (list_of us)) ≡ b → IfSome (all_converted us) (λ ws. all_converted ws ≡ Some ws)
    → IfSome (if b then option_map (compound s) (all_converted us) else Some (compound s us)) (λ u. converted u ≡ Some u)
stable_compound true s us e h = stable_control s (length (list_of us)) (all_converted us) e (all_counted us) h
stable_compound false s us e h = ap (λ (b : Bool). if b then option_map (compound s) (all_converted us) else Some (compound s us)) e

mutual
  pub converted_stable : (t : Tree) → IfSome (converted t) (λ u. converted u ≡ Some u)
  converted_stable (var v) = refl
  converted_stable (int i) = tt
  converted_stable (atom s) = refl
  converted_stable (compound s ts) = stable_compound (is_control s (length (list_of ts))) s ts refl (all_stable ts)

  pub all_stable : (ts : Trees) → IfSome (all_converted ts) (λ us. all_converted us ≡ Some us)
  all_stable none = refl
  all_stable (more t ts) = stable_more (converted t) (all_converted ts) (converted_stable t) (all_stable ts)

pub converted_again : (t u : Tree) → converted t ≡ Some u → converted u ≡ Some u
converted_again t u e = subst (λ (o : Option Tree). IfSome o (λ w. converted w ≡ Some w)) e (converted_stable t)

-- ---- under other variables

renamed_more : (f : ℕ → ℕ) (x : Option Tree) (y : Option Trees)
    → option_and_then (λ u. option_map (more u) (option_map (all_renamed f) y)) (option_map (renamed f) x) ≡ option_map (all_renamed f) (option_and_then (λ u. option_map (more u) y) x)
renamed_more f None y = refl
renamed_more f (Some u) None = refl
renamed_more f (Some u) (Some us) = refl

renamed_compound : (f : ℕ → ℕ) (b : Bool) (s : List ℕ) (ts : Trees) (y : Option Trees)
    → (if b then option_map (compound s) (option_map (all_renamed f) y) else Some (compound s (all_renamed f ts))) ≡ option_map (renamed f) (if b then option_map (compound s) y else Some (compound s ts))
renamed_compound f true s ts None = refl
renamed_compound f true s ts (Some us) = refl
renamed_compound f false s ts y = refl

mutual
  pub converted-renamed : (f : ℕ → ℕ) (t : Tree) → converted (renamed f t) ≡ option_map (renamed f) (converted t)
  converted-renamed f (var v) = refl
  converted-renamed f (int i) = refl
  converted-renamed f (atom s) = refl
  converted-renamed f (compound s ts) =
      ap (λ (k : ℕ). if is_control s k then option_map (compound s) (all_converted (all_renamed f ts)) else Some (compound s (all_renamed f ts))) (length-all_renamed f ts)
      ∙ ap (λ (y : Option Trees). if is_control s (length (list_of ts)) then option_map (compound s) y else Some (compound s (all_renamed f ts))) (all_converted-renamed f ts)
      ∙ renamed_compound f (is_control s (length (list_of ts))) s ts (all_converted ts)

  pub all_converted-renamed : (f : ℕ → ℕ) (ts : Trees) → all_converted (all_renamed f ts) ≡ option_map (all_renamed f) (all_converted ts)
  all_converted-renamed f none = refl
  all_converted-renamed f (more t ts) =
      ap (λ (x : Option Tree). option_and_then (λ u. option_map (more u) (all_converted (all_renamed f ts))) x) (converted-renamed f t)
      ∙ ap (λ (y : Option Trees). option_and_then (λ u. option_map (more u) y) (option_map (renamed f) (converted t))) (all_converted-renamed f ts)
      ∙ renamed_more f (converted t) (all_converted ts)

pub goal_renamed : (f : ℕ → ℕ) (t : Tree) → converted t ≡ Some t → converted (renamed f t) ≡ Some (renamed f t)
goal_renamed f t e = converted-renamed f t ∙ ap (option_map (renamed f)) e
