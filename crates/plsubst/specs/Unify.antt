-- The unifier of two terms (ISO/IEC 13211-1 7.3), with the occurs check.
use Rattle.std.specs.Prelude.{◌≡◌, ℕ, zero, suc, ◌+◌, ◌≤◌, Bool, true, false, Option, Some, None, option_map, nat_eq, nat_lt, bytes_eq}
use Rattle.std.specs.Ordering.{int_eq}
use Rattle.plterm.specs.Tree.{Tree, var, int, atom, compound, Trees, none, more}
use Rattle.plsubst.specs.Subst.{bind, occurs, put}

-- how often a variable stands in a term
unfoldable mutual
  pub places : Tree → ℕ
  places (var x) = 1
  places (int i) = 0
  places (atom f) = 0
  places (compound f ts) = places_in ts

  pub places_in : Trees → ℕ
  places_in none = 0
  places_in (more t ts) = places t + places_in ts

-- where two terms first differ, from the left: nowhere, for good, or at a variable that a term could stand for
pub data Difference : Type 0 where
  Same : Difference
  Clash : Difference
  Binds : ℕ → Tree → Difference

abbrev pub same_if : Bool → Difference
same_if true = Same
same_if false = Clash

-- of two variables the younger is bound
abbrev pub younger : Bool → Bool → ℕ → ℕ → Difference
younger true _ x y = Same
younger false true x y = Binds y (var x)
younger false false x y = Binds x (var y)

abbrev pub differ_var : ℕ → Tree → Difference
differ_var x (var y) = younger (nat_eq x y) (nat_lt x y) x y
differ_var x (int i) = Binds x (int i)
differ_var x (atom f) = Binds x (atom f)
differ_var x (compound f ts) = Binds x (compound f ts)

abbrev pub or_else : Difference → Difference → Difference
or_else Same d = d
or_else Clash d = Clash
or_else (Binds x t) d = Binds x t

unfoldable mutual
  pub differ : Tree → Tree → Difference
  differ (var x) b = differ_var x b
  differ (int i) (var y) = Binds y (int i)
  differ (int i) (int j) = same_if (int_eq i j)
  differ (int i) (atom g) = Clash
  differ (int i) (compound g us) = Clash
  differ (atom f) (var y) = Binds y (atom f)
  differ (atom f) (int j) = Clash
  differ (atom f) (atom g) = same_if (bytes_eq f g)
  differ (atom f) (compound g us) = Clash
  differ (compound f ts) (var y) = Binds y (compound f ts)
  differ (compound f ts) (int j) = Clash
  differ (compound f ts) (atom g) = Clash
  differ (compound f ts) (compound g us) = or_else (same_if (bytes_eq f g)) (differ_in ts us)

  pub differ_in : Trees → Trees → Difference
  differ_in none none = Same
  differ_in none (more u us) = Clash
  differ_in (more t ts) none = Clash
  differ_in (more t ts) (more u us) = or_else (differ t u) (differ_in ts us)

-- one round removes one variable from both terms, so there are no more rounds than variables
abbrev pub removed : (Tree → Tree → Option (ℕ → Tree)) → Bool → ℕ → Tree → Tree → Tree → Option (ℕ → Tree)
removed next true x t a b = None
removed next false x t a b = option_map (λ σ y. bind σ (put x t y)) (next (bind (put x t) a) (bind (put x t) b))

abbrev pub round : (Tree → Tree → Option (ℕ → Tree)) → Difference → Tree → Tree → Option (ℕ → Tree)
round next Same a b = Some var
round next Clash a b = None
round next (Binds x t) a b = removed next (occurs x t) x t a b

unfoldable pub unify_in : ℕ → Tree → Tree → Option (ℕ → Tree)
unify_in zero a b = None
unify_in (suc n) a b = round (unify_in n) (differ a b) a b

-- the most general unifier, if there is one: the younger of two variables stands for the older
unfoldable pub unify : Tree → Tree → Option (ℕ → Tree)
unfolding unify_in differ occurs bind places
unify a b = unify_in (suc (places a + places b)) a b

-- it makes the two equal, and every unifier is an instance of it
abbrev pub IsMostGeneral : Tree → Tree → (ℕ → Tree) → Type 0
IsMostGeneral a b σ = (bind σ a ≡ bind σ b) × ((τ : ℕ → Tree) → bind τ a ≡ bind τ b → (y : ℕ) → bind τ (σ y) ≡ τ y)

-- a variable that stands for another is the older of the two
abbrev pub BindsYounger : (ℕ → Tree) → Type 0
BindsYounger σ = (w z : ℕ) → σ w ≡ var z → z ≤ w
