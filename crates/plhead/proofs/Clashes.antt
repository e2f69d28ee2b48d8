-- Nodes and values that never stand for one term.
use Rattle.std.proofs.Common.{◌≡◌, ℕ, ℤ, suc, ◌<◌, List, length, refl, sym, ap, ap₂, ◌∙◌, arith}
use Rattle.plterm.specs.Tree.{Tree, var, int, atom, compound, trees, list_of}
use Rattle.plterm.proofs.Forests.{list_of-trees}
use Rattle.plsubst.specs.Subst.{bind}
use Rattle.plsubst.proofs.Unify.{bind-bind, int≢atom, int≢compound}
use Rattle.plsubst.proofs.UnifyUnique.{int≢var, atom≢var, compound≢var}
use Rattle.platoms.specs.Names.{atom_at, functor_arity, functor_name}
use Rattle.plcells.specs.declared.cell.Cell.{Cell}
use Rattle.plcells.specs.declared.cell.Cell.TheVariants.{Free, Lone, Ref, Int, Wide, Atom, Str, Fun, Ground}
use Rattle.plcells.specs.Store.{Store, at, term, terms, value, wide_at, spread, shown, Fits, IsHeap, IsHead, IsValue, IsBlock}
use Rattle.plcells.proofs.Terms.{term-at}
use Rattle.plcode.specs.declared.node.Node.{Node}
use Rattle.plcode.specs.declared.node.Node.TheVariants as nodes_of
use Rattle.plcode.specs.Packed.{node_at}
use Rattle.plcode.specs.declared.key.Key.{Key}
use Rattle.plcode.specs.declared.key.Key.TheVariants as keys
use Rattle.plcode.specs.Keys.{Differ, IsCompound, IsKey}
use Rattle.plcode.proofs.Keys.{part}
use Rattle.plenv.specs.Rows.{tree_at}
use Rattle.plhead.specs.Fitting.{HasArgs, IsCompoundAt}
use Rattle.plhead.proofs.Trees.{length-spread}

functor_in : Cell → ℕ
functor_in (Free p) = 0
functor_in (Lone p) = 0
functor_in (Ref j) = 0
functor_in (Int n) = 0
functor_in (Wide p) = 0
functor_in (Atom a) = 0
functor_in (Str p) = 0
functor_in (Fun f) = f
functor_in (Ground f) = f

-- what is known of a value at once
key : Store → Cell → Key
key h (Free p) = keys.Any
key h (Lone p) = keys.Any
key h (Ref j) = keys.Any
key h (Int n) = keys.Int n
key h (Wide p) = keys.Int (wide_at h p)
key h (Atom a) = keys.Atom a
key h (Str p) = keys.Fun (functor_in (at h.cells p))
key h (Fun f) = keys.Any
key h (Ground f) = keys.Any

length-trees : (w : ℕ → Tree) (c k : ℕ) → length (list_of (trees (spread w c k))) ≡ k
length-trees w c k = ap length (list_of-trees (spread w c k)) ∙ length-spread w k c

module _ (h : Store) (is : IsHeap h) where
  compound-key : (p : ℕ) → IsValue h (Str p) → IsCompound h.names (functor_in (at h.cells p)) (term h p)
  unfolding functor_in
  compound-key p v = go (at h.cells p) refl (is.fits p v.0) v.1
    where
      go : (m : Cell) → at h.cells p ≡ m → Fits h p m → IsHead m → IsCompound h.names (functor_in m) (term h p)
      go (Free q) e f head = absurd head
      go (Lone q) e f head = absurd head
      go (Ref j) e f head = absurd head
      go (Int n) e f head = absurd head
      go (Wide q) e f head = absurd head
      go (Atom a) e f head = absurd head
      go (Str q) e f head = absurd head
      go (Fun g) e f head = record {
        within = f.functor;
        args = trees (spread (term h) (suc p) (functor_arity h.names g));
        is = term-at h p is v.0 ∙ ap (shown h p) e;
        arity = sym (length-trees (term h) (suc p) (functor_arity h.names g));
      }
      go (Ground g) e f head = record {
        within = f.arguments.functor;
        args = trees (spread (term h) (suc p) (functor_arity h.names g));
        is = term-at h p is v.0 ∙ ap (shown h p) e;
        arity = sym (length-trees (term h) (suc p) (functor_arity h.names g));
      }

  value-key : (v : Cell) → IsValue h v → IsKey h.names (key h v) (value h v)
  unfolding key
  value-key (Free p) f = tt
  value-key (Lone p) f = tt
  value-key (Ref j) f = tt
  value-key (Int n) f = refl
  value-key (Wide p) f = refl
  value-key (Atom a) f = record { within = f; is = refl }
  value-key (Str p) f = compound-key p f
  value-key (Fun g) f = tt
  value-key (Ground g) f = tt

  clash : (k : Key) (u : Tree) (v : Cell) → IsKey h.names k u → IsValue h v → Differ k (key h v) → (σ τ : ℕ → Tree) → bind τ (bind σ u) ≡ bind τ (value h v) → ⊥
  clash k u v i f d σ τ e = part h.names is.names k (key h v) u (value h v) i (value-key v f) d (λ x. bind τ (σ x)) τ (sym (bind-bind τ σ u) ∙ e)

  pub no-integer : (i : ℤ) (v : Cell) → IsValue h v → ((j : ℕ) → v ≡ Ref j → ⊥) → ((n : ℤ) → v ≡ Int n → ⊥) → ((p : ℕ) → v ≡ Wide p → ⊥) → value h v ≡ int i → ⊥
  no-integer i (Free p) f solid small wide e = absurd f
  no-integer i (Lone p) f solid small wide e = absurd f
  no-integer i (Ref j) f solid small wide e = absurd (solid j refl)
  no-integer i (Int n) f solid small wide e = small n refl
  no-integer i (Wide p) f solid small wide e = wide p refl
  no-integer i (Atom a) f solid small wide e = int≢atom (sym e)
  no-integer i (Str p) f solid small wide e = int≢compound (sym e ∙ (compound-key p f).is)
  no-integer i (Fun g) f solid small wide e = absurd f
  no-integer i (Ground g) f solid small wide e = absurd f

  pub solid-other : (v : Cell) → IsValue h v → ((j : ℕ) → v ≡ Ref j → ⊥) → (n : ℕ) → value h v ≡ var n → ⊥
  solid-other (Free p) f solid n e = absurd f
  solid-other (Lone p) f solid n e = absurd f
  solid-other (Ref j) f solid n e = absurd (solid j refl)
  solid-other (Int i) f solid n e = int≢var e
  solid-other (Wide p) f solid n e = int≢var e
  solid-other (Atom a) f solid n e = atom≢var e
  solid-other (Str p) f solid n e = compound≢var (sym (compound-key p f).is ∙ e)
  solid-other (Fun g) f solid n e = absurd f
  solid-other (Ground g) f solid n e = absurd f

  pub atom-clash : (a : ℕ) (v : Cell) → a < length h.names.atoms → IsValue h v → ((j : ℕ) → v ≡ Ref j → ⊥) → (v ≡ Atom a → ⊥) → (σ τ : ℕ → Tree) → bind τ (bind σ (atom (atom_at h.names a))) ≡ bind τ (value h v) → ⊥
  unfolding key
  atom-clash a v lt f solid other = clash (keys.Atom a) (atom (atom_at h.names a)) v (record { within = lt; is = refl }) f (differ v f solid other)
    where
      differ : (v : Cell) → IsValue h v → ((j : ℕ) → v ≡ Ref j → ⊥) → (v ≡ Atom a → ⊥) → Differ (keys.Atom a) (key h v)
      differ (Free p) f solid other = absurd f
      differ (Lone p) f solid other = absurd f
      differ (Ref j) f solid other = absurd (solid j refl)
      differ (Int n) f solid other = λ e. cc
      differ (Wide p) f solid other = λ e. cc
      differ (Atom b) f solid other = λ e. let same : a ≡ b = cc in other (ap Atom (sym same))
      differ (Str p) f solid other = λ e. cc
      differ (Fun g) f solid other = absurd f
      differ (Ground g) f solid other = absurd f

  pub int-clash : (i : ℤ) (v : Cell) → IsValue h v → ((j : ℕ) → v ≡ Ref j → ⊥) → (value h v ≡ int i → ⊥) → (σ τ : ℕ → Tree) → bind τ (bind σ (int i)) ≡ bind τ (value h v) → ⊥
  unfolding key
  int-clash i v f solid other = clash (keys.Int i) (int i) v refl f (differ v f solid other)
    where
      differ : (v : Cell) → IsValue h v → ((j : ℕ) → v ≡ Ref j → ⊥) → (value h v ≡ int i → ⊥) → Differ (keys.Int i) (key h v)
      differ (Free p) f solid other = absurd f
      differ (Lone p) f solid other = absurd f
      differ (Ref j) f solid other = absurd (solid j refl)
      differ (Int n) f solid other = λ e. let same : i ≡ n = cc in other (ap int (sym same))
      differ (Wide p) f solid other = λ e. let same : i ≡ wide_at h p = cc in other (ap int (sym same))
      differ (Atom b) f solid other = λ e. cc
      differ (Str p) f solid other = λ e. cc
      differ (Fun g) f solid other = absurd f
      differ (Ground g) f solid other = absurd f

  module _ (nodes : List Node) (root : ℕ) (u : Tree) (c : IsCompoundAt h.names nodes root u) where
    pub head-functor : (g j : ℕ) → node_at nodes root ≡ nodes_of.Fun g j → g ≡ c.functor
    head-functor g j e = let same : nodes_of.Fun g j ≡ nodes_of.Fun c.functor c.arity = sym e ∙ c.head in cc

    block-key : IsCompound h.names c.functor u
    block-key = record {
      within = c.known;
      args = trees (spread (tree_at h.names nodes) (suc root) c.arity);
      is = c.is;
      arity = c.arity_is ∙ sym (length-trees (tree_at h.names nodes) (suc root) c.arity);
    }

    pub compound-clash : (v : Cell) → IsValue h v → ((j : ℕ) → v ≡ Ref j → ⊥) → ((p : ℕ) → v ≡ Str p → ⊥) → (σ τ : ℕ → Tree) → bind τ (bind σ u) ≡ bind τ (value h v) → ⊥
    unfolding key
    compound-clash v f solid other = clash (keys.Fun c.functor) u v block-key f (differ v f solid other)
      where
        differ : (v : Cell) → IsValue h v → ((j : ℕ) → v ≡ Ref j → ⊥) → ((p : ℕ) → v ≡ Str p → ⊥) → Differ (keys.Fun c.functor) (key h v)
        differ (Free p) f solid other = absurd f
        differ (Lone p) f solid other = absurd f
        differ (Ref j) f solid other = absurd (solid j refl)
        differ (Int n) f solid other = λ e. cc
        differ (Wide p) f solid other = λ e. cc
        differ (Atom b) f solid other = λ e. cc
        differ (Str p) f solid other = absurd (other p refl)
        differ (Fun g) f solid other = absurd f
        differ (Ground g) f solid other = absurd f

    pub blocks-clash : (p f k : ℕ) → IsBlock h p f k → (f ≡ c.functor → ⊥) → (σ τ : ℕ → Tree) → bind τ (bind σ u) ≡ bind τ (term h p) → ⊥
    blocks-clash p f k b other σ τ e =
        let other_key : IsCompound h.names f (term h p) = record {
          within = b.functor;
          args = trees (terms h (suc p) k);
          is = b.is;
          arity = b.arity ∙ sym (length-trees (term h) (suc p) k);
        } in
        part h.names is.names (keys.Fun c.functor) (keys.Fun f) u (term h p) block-key other_key (λ d. let same : c.functor ≡ f = cc in other (sym same)) (λ x. bind τ (σ x)) τ (sym (bind-bind τ σ u) ∙ e)

    pub blocks-args : (p f k a d : ℕ) → IsBlock h p f k → f ≡ c.functor → a ≡ suc root → d ≡ suc p → HasArgs h nodes (tree_at h.names nodes) u (term h p) a d k
    blocks-args p f k a d b same ea ed =
        let count : c.arity ≡ k = sym c.arity_is ∙ ap (functor_arity h.names) (sym same) ∙ b.arity in
        record {
          name = functor_name h.names f;
          left_is = c.is ∙ ap₂ (λ g ts. compound (functor_name h.names g) (trees ts)) (sym same) (ap₂ (spread (tree_at h.names nodes)) (sym ea) count);
          right_is = b.is ∙ ap (λ x. compound (functor_name h.names f) (trees (terms h x k))) (sym ed);
          nodes_within = omega (arith, c.within, count, ea);
          whole = λ j low lt. c.whole j (omega (arith, low, ea)) (omega (arith, lt, ea, count));
          cells_within = omega (arith, b.within, ed);
          heap = is;
          plain = λ j low lt. b.plain j (omega (arith, low, ed)) (omega (arith, lt, ed));
        }
