-- The parts of terms, by what a value is.
use Rattle.std.proofs.Common.{◌≡◌, ◌<◌, true, false, pos, ℕ, zero, suc, List, [], ◌∷◌, length, take, refl, sym, ap, ◌∙◌, arith}
use Rattle.std.specs.Prelude.{codes}
use Rattle.std.specs.List.{list_any}
use Rattle.plterm.specs.Tree.{Tree, var, int, atom, compound, trees}
use Rattle.plterm.proofs.Forests.{list_of-trees}
use Rattle.plcells.specs.Store.{Store, term, terms, spread, IsBlock}
use Rattle.platoms.specs.Names.{functor_name}
use Rattle.plread.specs.Texts.{listed}
use Rattle.plorder.specs.Shapes.{IsOfShape}
use Rattle.plorder.specs.declared.shape.Block.{Block}
use Rattle.plorder.specs.declared.shape.Shape.{Shape}
use Rattle.plorder.specs.declared.shape.Shape.TheVariants.{Variable, Integer, Atom, Compound}
use Rattle.plprogram.specs.declared.settings.Settings.{Settings}
use Rattle.plerror.specs.Errors.{instantiation_error, type_error}
use Rattle.plbuiltin.specs.Lists.{Unbound, Other, is_variable}
use Rattle.plbuiltin.specs.Solution.{Raises, Gives, unifies}
use Rattle.plbuiltin.specs.Parts.{both, from_list, functor, made, univ, variables_from}

-- a value that is no compound and no variable
module _ (h : Store) (t name a : Tree) (s : Settings) (n : ℕ) where
  pub functor-atomic : (shape : Shape) → IsOfShape h t shape → ((x : ℕ) → shape ≡ Variable x → ⊥) → ((b : Block) → shape ≡ Compound b → ⊥) → functor t name a s n ≡ unifies (both name a) (both t (int (pos 0))) s
  functor-atomic (Variable x) is no_variable no_compound = absurd (no_variable x refl)
  functor-atomic (Integer i) is no_variable no_compound = ap (λ u. functor u name a s n) is ∙ sym (ap (λ u. unifies (both name a) (both u (int (pos 0))) s) is)
  functor-atomic (Atom x) is no_variable no_compound = ap (λ u. functor u name a s n) is.2 ∙ sym (ap (λ u. unifies (both name a) (both u (int (pos 0))) s) is.2)
  functor-atomic (Compound b) is no_variable no_compound = absurd (no_compound b refl)

  pub univ-atomic : (l : Tree) (shape : Shape) → IsOfShape h t shape → ((x : ℕ) → shape ≡ Variable x → ⊥) → ((b : Block) → shape ≡ Compound b → ⊥) → univ t l s ≡ unifies l (listed (t ∷ [])) s
  univ-atomic l (Variable x) is no_variable no_compound = absurd (no_variable x refl)
  univ-atomic l (Integer i) is no_variable no_compound = ap (λ u. univ u l s) is ∙ sym (ap (λ u. unifies l (listed (u ∷ [])) s) is)
  univ-atomic l (Atom x) is no_variable no_compound = ap (λ u. univ u l s) is.2 ∙ sym (ap (λ u. unifies l (listed (u ∷ [])) s) is.2)
  univ-atomic l (Compound b) is no_variable no_compound = absurd (no_compound b refl)

length-spread : (w : ℕ → Tree) (k c : ℕ) → length (spread w c k) ≡ k
length-spread w zero c = refl
length-spread w (suc k) c = ap suc (length-spread w k (suc c))

-- a compound
module _ (h : Store) (p f k : ℕ) (block : IsBlock h p f k) (t : Tree) (same : t ≡ term h p) (s : Settings) where
  is_compound : t ≡ compound (functor_name h.names f) (trees (terms h (suc p) k))
  is_compound = same ∙ block.is

  pub functor-compound : (name a : Tree) (n : ℕ) → functor t name a s n ≡ unifies (both name a) (both (atom (functor_name h.names f)) (int (pos k))) s
  functor-compound name a n =
      ap (λ u. functor u name a s n) is_compound
      ∙ ap (λ m. unifies (both name a) (both (atom (functor_name h.names f)) (int (pos m))) s) (ap length (list_of-trees (terms h (suc p) k)) ∙ length-spread (term h) k (suc p))

  pub univ-compound : (l : Tree) → univ t l s ≡ unifies l (listed (atom (functor_name h.names f) ∷ terms h (suc p) k)) s
  univ-compound l = ap (λ u. univ u l s) is_compound ∙ ap (λ ts. unifies l (listed (atom (functor_name h.names f) ∷ ts)) s) (list_of-trees (terms h (suc p) k))

pub made-some : (t : Tree) (f : List ℕ) (k : ℕ) (s : Settings) (n : ℕ) → 0 < k → made t (atom f) k s n ≡ Gives (record { left = t; right = compound f (trees (variables_from n k)); new = k } ∷ []) [] s
made-some t f zero s n some = absurd (omega arith)
made-some t f (suc k) s n some = refl

-- a list that ends in a variable, or in no list, with a variable as its head or not
module _ (t l : Tree) (s : Settings) where
  pub from-unbound : (ts : List Tree) → from_list t ts Unbound l s ≡ Raises instantiation_error
  from-unbound [] = refl
  from-unbound (var x ∷ ts) = refl
  from-unbound (int i ∷ ts) = refl
  from-unbound (atom f ∷ ts) = refl
  from-unbound (compound f us ∷ ts) = refl

  pub from-headless : (ts : List Tree) → list_any is_variable (take 1 ts) ≡ true → from_list t ts Other l s ≡ Raises instantiation_error
  from-headless [] e = cc
  from-headless (var x ∷ ts) e = refl
  from-headless (int i ∷ ts) e = cc
  from-headless (atom f ∷ ts) e = cc
  from-headless (compound f us ∷ ts) e = cc

  pub from-other : (ts : List Tree) → list_any is_variable (take 1 ts) ≡ false → from_list t ts Other l s ≡ Raises (type_error (codes "list") l)
  from-other [] e = refl
  from-other (var x ∷ ts) e = cc
  from-other (int i ∷ ts) e = refl
  from-other (atom f ∷ ts) e = refl
  from-other (compound f us ∷ ts) e = refl
