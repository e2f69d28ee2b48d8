-- Terms over the terms of values and new variables.
use Rattle.std.proofs.Common.{◌≡◌, ℕ, zero, suc, ◌+◌, ◌<◌, ◌≤◌, List, [], ◌∷◌, length, map, refl, sym, ap, ap₂, ◌∙◌, arith}
use Rattle.std.specs.Prelude.{◌-◌, codes, if◌then◌else◌}
use Rattle.std.specs.Str.{chars}
use Rattle.std.proofs.lemmas.Bool.{lt-ltb, le-ltb}
use Rattle.plterm.specs.Tree.{Tree, Trees, var, int, atom, compound, none, more, trees}
use Rattle.plterm.specs.Variables.{place, variables, renamed, all_renamed, copied, AllBelow, EachBelow}
use Rattle.plsubst.specs.Subst.{bind, bind_all}
use Rattle.plcells.specs.declared.cell.Cell.{Cell}
use Rattle.plcells.specs.Store.{Store, at, value}
use Rattle.plcells.specs.Equations.{filled}
use Rattle.plcells.proofs.Nodes.{bind-trees}
use Rattle.plread.specs.Texts.{listed, char_tree, code_tree}
use Rattle.plnames.specs.declared.kind.Spelling.{Spelling}
use Rattle.plnames.specs.declared.kind.Spelling.TheVariants.{Characters, Codes}
use Rattle.plbuiltin.specs.Texts.{spelled}
use Rattle.plprogram.specs.declared.settings.Settings.{Settings}
use Rattle.plbuiltin.specs.Parts.{both, variables_from}
use Rattle.plbuiltin.specs.Solution.{Gives, together, unifies}
use Rattle.planswers.specs.Building.{solved_by}

-- a substitution goes through a list
bind-list_term : (σ : ℕ → Tree) (ts : List Tree) → bind σ (listed ts) ≡ listed (map (bind σ) ts)
unfolding bind
bind-list_term σ [] = refl
bind-list_term σ (t ∷ ts) = ap (λ u. compound (codes ".") (more (bind σ t) (more u none))) (bind-list_term σ ts)

bind-compound : (σ : ℕ → Tree) (f : List ℕ) (ts : List Tree) → bind σ (compound f (trees ts)) ≡ compound f (trees (map (bind σ) ts))
unfolding bind
bind-compound σ f ts = ap (compound f) (bind-trees σ ts)

-- variables that stand for the terms of values
bound-values : (σ : ℕ → Tree) (h : Store) (vs : List Cell) (k : ℕ) → ((i : ℕ) → i < length vs → σ (k + i) ≡ value h (at vs i)) → map (bind σ) (variables_from k (length vs)) ≡ map (value h) vs
unfolding bind
bound-values σ h [] k same = refl
bound-values σ h (v ∷ vs) k same =
    let here : k + 0 ≡ k = omega arith in
    let first : σ k ≡ value h v = ap σ (sym here) ∙ same 0 (omega arith) in
    ap₂ (λ t ts. t ∷ ts) first (bound-values σ h vs (suc k) (λ i lt. let e : suc k + i ≡ k + suc i = omega arith in ap σ e ∙ same (suc i) (omega arith)))

-- variables that stand for others
bound-new : (σ : ℕ → Tree) (n j k : ℕ) → ((i : ℕ) → σ (j + i) ≡ var (n + i)) → map (bind σ) (variables_from j k) ≡ variables_from n k
unfolding bind
bound-new σ n j zero same = refl
bound-new σ n j (suc k) same =
    let here : j + 0 ≡ j = omega arith in
    let there : n + 0 ≡ n = omega arith in
    let first : σ j ≡ var n = ap σ (sym here) ∙ same 0 ∙ ap var there in
    ap₂ (λ t ts. t ∷ ts) first (bound-new σ (suc n) (suc j) k (λ i. let e : suc j + i ≡ j + suc i = omega arith in let f : n + suc i ≡ suc n + i = omega arith in ap σ e ∙ same (suc i) ∙ ap var f))

module _ (h : Store) (v : Cell) (vs : List Cell) (n : ℕ) where
  pub bind-first : bind (filled h (v ∷ vs) n) (var 0) ≡ value h v
  unfolding bind
  bind-first = ap (λ b. if b then value h v else var (n + (0 - suc (length vs)))) (lt-ltb 0 (suc (length vs)) (omega arith))

  value_at : (x i : ℕ) → x ≡ suc i → i < length vs → filled h (v ∷ vs) n x ≡ value h (at vs i)
  value_at x i e lt =
      ap (λ b. if b then value h (at (v ∷ vs) x) else var (n + (x - suc (length vs)))) (lt-ltb x (suc (length vs)) (omega (arith, e, lt)))
      ∙ ap (λ y. value h (at (v ∷ vs) y)) e

  values_at : map (bind (filled h (v ∷ vs) n)) (variables_from 1 (length vs)) ≡ map (value h) vs
  values_at = bound-values (filled h (v ∷ vs) n) h vs 1 (λ i lt. value_at (1 + i) i (omega arith) lt)

  pub bind-listed : (k : ℕ) → k ≡ length vs → bind (filled h (v ∷ vs) n) (listed (variables_from 1 k)) ≡ listed (map (value h) vs)
  bind-listed k e = ap (λ j. bind (filled h (v ∷ vs) n) (listed (variables_from 1 j))) e ∙ bind-list_term (filled h (v ∷ vs) n) (variables_from 1 (length vs)) ∙ ap listed values_at

  pub bind-arguments : (f : List ℕ) (k : ℕ) → k ≡ length vs → bind (filled h (v ∷ vs) n) (compound f (trees (variables_from 1 k))) ≡ compound f (trees (map (value h) vs))
  bind-arguments f k e = ap (λ j. bind (filled h (v ∷ vs) n) (compound f (trees (variables_from 1 j)))) e ∙ bind-compound (filled h (v ∷ vs) n) f (variables_from 1 (length vs)) ∙ ap (λ ts. compound f (trees ts)) values_at

-- values at once
pub bind-together : (h : Store) (vs : List Cell) (n k : ℕ) → k ≡ length vs → bind (filled h vs n) (together (variables_from 0 k)) ≡ together (map (value h) vs)
bind-together h vs n k e =
    ap (λ j. bind (filled h vs n) (together (variables_from 0 j))) e
    ∙ bind-compound (filled h vs n) (codes "-") (variables_from 0 (length vs))
    ∙ ap together (bound-values (filled h vs n) h vs 0 (λ i lt. ap (filled h vs n) (omega arith) ∙ ap (λ b. if b then value h (at vs i) else var (n + (i - length vs))) (lt-ltb i (length vs) lt)))

-- no values but one: the rest are new
module _ (h : Store) (v : Cell) (n : ℕ) where
  new_at : (x i : ℕ) → x ≡ 1 + i → filled h (v ∷ []) n x ≡ var (n + i)
  new_at x i e =
      let place : x - 1 ≡ i = omega (arith, e) in
      ap (λ b. if b then value h (at (v ∷ []) x) else var (n + (x - 1))) (le-ltb x 1 (omega (arith, e))) ∙ ap (λ y. var (n + y)) place

  pub bind-new : (f : List ℕ) (k : ℕ) → bind (filled h (v ∷ []) n) (compound f (trees (variables_from 1 k))) ≡ compound f (trees (variables_from n k))
  bind-new f k = bind-compound (filled h (v ∷ []) n) f (variables_from 1 k) ∙ ap (λ ts. compound f (trees ts)) (bound-new (filled h (v ∷ []) n) n 1 k (λ i. new_at (1 + i) i refl))

  mutual
    unfolding bind

    bind-renamed : (f : ℕ → ℕ) (t : Tree) → bind (filled h (v ∷ []) n) (renamed (λ x. 1 + f x) t) ≡ renamed (λ x. n + f x) t
    bind-renamed f (var x) = new_at (1 + f x) (f x) refl
    bind-renamed f (int i) = refl
    bind-renamed f (atom s) = refl
    bind-renamed f (compound s ts) = ap (compound s) (bind-all_renamed f ts)

    bind-all_renamed : (f : ℕ → ℕ) (ts : Trees) → bind_all (filled h (v ∷ []) n) (all_renamed (λ x. 1 + f x) ts) ≡ all_renamed (λ x. n + f x) ts
    bind-all_renamed f none = refl
    bind-all_renamed f (more t ts) = ap₂ more (bind-renamed f t) (bind-all_renamed f ts)

  pub bind-copied : (t : Tree) → bind (filled h (v ∷ []) n) (copied 1 t) ≡ copied n t
  bind-copied t = bind-renamed (λ x. place x (variables t)) t

-- a term without variables
mutual
  unfolding bind

  pub bind-closed : (σ : ℕ → Tree) (t : Tree) → AllBelow 0 t → bind σ t ≡ t
  bind-closed σ (var x) lt = absurd (omega arith)
  bind-closed σ (int i) b = refl
  bind-closed σ (atom f) b = refl
  bind-closed σ (compound f ts) b = ap (compound f) (bind_all-closed σ ts b)

  bind_all-closed : (σ : ℕ → Tree) (ts : Trees) → EachBelow 0 ts → bind_all σ ts ≡ ts
  bind_all-closed σ none b = refl
  bind_all-closed σ (more t ts) b = ap₂ more (bind-closed σ t b.0) (bind_all-closed σ ts b.1)

mutual
  pub below-more : (m n : ℕ) → m ≤ n → (t : Tree) → AllBelow m t → AllBelow n t
  below-more m n le (var x) lt = omega (arith, lt)
  below-more m n le (int i) b = tt
  below-more m n le (atom f) b = tt
  below-more m n le (compound f ts) b = each-more m n le ts b

  each-more : (m n : ℕ) → m ≤ n → (ts : Trees) → EachBelow m ts → EachBelow n ts
  each-more m n le none b = tt
  each-more m n le (more t ts) b = (below-more m n le t b.0, each-more m n le ts b.1)

pub below-variables : (m j k : ℕ) → j + k ≤ m → EachBelow m (trees (variables_from j k))
below-variables m j zero le = tt
below-variables m j (suc k) le = (omega arith, below-variables m (suc j) k (omega arith))

pub below-listed : (m j k : ℕ) → j + k ≤ m → AllBelow m (listed (variables_from j k))
below-listed m j zero le = tt
below-listed m j (suc k) le = (omega arith, (below-listed m (suc j) k (omega arith), tt))

-- lists of terms without variables
pub below-items : (f : ℕ → Tree) (xs : List ℕ) → ((x : ℕ) → AllBelow 0 (f x)) → AllBelow 0 (listed (map f xs))
below-items f [] each = tt
below-items f (x ∷ xs) each = (each x, (below-items f xs each, tt))

-- the equation of a value with a term
pub solved-as : (h : Store) (s : Settings) (n : ℕ) (v : Cell) (vs : List Cell) (t u : Tree) (new : ℕ) → bind (filled h (v ∷ vs) n) t ≡ u →
    solved_by h s n v vs t new ≡ Gives (record { left = value h v; right = u; new = new } ∷ []) [] s
solved-as h s n v vs t u new e = ap (λ w. Gives (record { left = value h v; right = w; new = new } ∷ []) [] s) e

-- two values and two others
pub both-by : (h : Store) (s : Settings) (n : ℕ) (a b c d : Cell) (ws : List Cell) (l r : Tree) → ws ≡ a ∷ b ∷ c ∷ d ∷ [] → l ≡ both (var 0) (var 1) → r ≡ both (var 2) (var 3) →
    Gives (record { left = bind (filled h ws n) l; right = bind (filled h ws n) r; new = 0 } ∷ []) [] s ≡ unifies (both (value h a) (value h b)) (both (value h c) (value h d)) s
unfolding bind
both-by h s n a b c d ws l r values left right =
    ap₂ (λ us u. Gives (record { left = bind (filled h us n) u; right = bind (filled h us n) r; new = 0 } ∷ []) [] s) values left
    ∙ ap (λ u. Gives (record { left = both (value h a) (value h b); right = bind (filled h (a ∷ b ∷ c ∷ d ∷ []) n) u; new = 0 } ∷ []) [] s) right

-- the list that spells a text
pub below-spelled : (k : Spelling) (text : List ℕ) → AllBelow 0 (spelled k text)
below-spelled Characters text = below-items char_tree (chars text) (λ x. tt)
below-spelled Codes text = below-items code_tree (chars text) (λ x. tt)
