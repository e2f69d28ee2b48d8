-- Terms whose keys do not fit do not unify.
use Rattle.std.proofs.Common.{◌≡◌, ◌⊎◌, inl, inr, refl, sym, ◌∙◌, ap, arith, ℕ, ◌+◌, Bool, true, false, length}
use Rattle.std.specs.Prelude.{◌&&◌, nat_eq, bytes_eq, None}
use Rattle.std.proofs.lemmas.Slice.Eq.{bytes_eq-Decides}
use Rattle.plterm.specs.Tree.{Tree, var, int, atom, compound, Trees, none, more, list_of}
use Rattle.plsubst.specs.Subst.{bind, bind_all, shift}
use Rattle.plsubst.specs.Unify.{unify}
use Rattle.plsubst.proofs.Unify.{bind-bind, compound-parts, more-head, int_same}
use Rattle.plsubst.proofs.UnifyUnique.{unify-none}
use Rattle.plevent.specs.declared.key.Key.{Key}
use Rattle.plevent.specs.declared.key.Key.TheVariants.{Any, Int, Atom, Functor}
use Rattle.plevent.specs.Keys.{first_key, key_of, key_of_first, may_fit}
use Rattle.plstore.proofs.Same.{nat-self}

pub any-left : (l : Key) → may_fit Any l ≡ true
any-left Any = refl
any-left (Int i) = refl
any-left (Atom s) = refl
any-left (Functor s n) = refl

both : (u v : Bool) → u ≡ true → v ≡ true → u && v ≡ true
both true v h k = k
both false v h k = absurd (cc)

fits-self : (k : Key) → may_fit k k ≡ true
fits-self Any = refl
fits-self (Int i) = int_same i i refl
fits-self (Atom s) = (bytes_eq-Decides s s).1 refl
fits-self (Functor s n) = both (bytes_eq s s) (nat_eq n n) ((bytes_eq-Decides s s).1 refl) (nat-self n)

length-bound : (σ : ℕ → Tree) (ts : Trees) → length (list_of (bind_all σ ts)) ≡ length (list_of ts)
unfolding bind
length-bound σ none = refl
length-bound σ (more t ts) = omega (arith, length-bound σ ts)

-- an instance has the key of the term, unless that is a variable
bound-key : (σ : ℕ → Tree) (u : Tree) → (key_of u ≡ Any) ⊎ (key_of (bind σ u) ≡ key_of u)
unfolding bind
bound-key σ (var x) = inl refl
bound-key σ (int i) = inr refl
bound-key σ (atom s) = inr refl
bound-key σ (compound s ts) = inr (ap (Functor s) (length-bound σ ts))

term-part : (σ τ : ℕ → Tree) (u v : Tree) → bind σ u ≡ bind τ v → may_fit (key_of u) (key_of v) ≡ true
term-part σ τ u v e = elim (bound-key σ u) [
  | inl a ↦ ap (λ k. may_fit k (key_of v)) a ∙ any-left (key_of v)
  | inr a ↦ elim (bound-key τ v) [
    | inl b ↦ ap (may_fit (key_of u)) b
    | inr b ↦ ap (may_fit (key_of u)) (sym b ∙ sym (ap key_of e) ∙ a) ∙ fits-self (key_of u)
  ]
]

args-part : (σ τ : ℕ → Tree) (us vs : Trees) → bind_all σ us ≡ bind_all τ vs → may_fit (key_of_first us) (key_of_first vs) ≡ true
unfolding bind
args-part σ τ none vs e = any-left (key_of_first vs)
args-part σ τ (more u us) none e = refl
args-part σ τ (more u us) (more v vs) e = term-part σ τ u v (more-head e)

heads-part : (σ τ : ℕ → Tree) (g h : Tree) → bind σ g ≡ bind τ h → may_fit (first_key g) (first_key h) ≡ true
unfolding bind
heads-part σ τ (var x) h e = any-left (first_key h)
heads-part σ τ (int i) h e = any-left (first_key h)
heads-part σ τ (atom s) h e = any-left (first_key h)
heads-part σ τ (compound s us) (var x) e = refl
heads-part σ τ (compound s us) (int i) e = refl
heads-part σ τ (compound s us) (atom r) e = refl
heads-part σ τ (compound s us) (compound r vs) e = args-part σ τ us vs (compound-parts e)

pub passed-over : (goal head : Tree) → may_fit (first_key goal) (first_key head) ≡ false → (n : ℕ) → unify goal (shift n head) ≡ None
passed-over goal head h n = unify-none goal (shift n head) (λ τ e.
    let fits = heads-part τ (λ x. bind τ (var (n + x))) goal head (e ∙ bind-bind τ (λ x. var (n + x)) head) in absurd (cc))
