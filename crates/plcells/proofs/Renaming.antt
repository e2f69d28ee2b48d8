-- A heap whose table of names has grown.
use Rattle.std.proofs.Common.{◌≡◌, ℕ, suc, ◌<◌, List, length, refl, sym, ap, ap₂, ◌∙◌, arith, le_refl}
use Rattle.plterm.specs.Tree.{Tree, atom, compound, trees}
use Rattle.platoms.specs.Names.{Table, IsTable, Extends, atom_at, functor_at, functor_name, functor_arity}
use Rattle.platoms.proofs.Extending.{atoms_more, functors_more, atom_same, functor_same}
use Rattle.plcells.specs.declared.cell.Cell.{Cell}
use Rattle.plcells.specs.declared.cell.Cell.TheVariants.{Free, Lone, Ref, Int, Wide, Atom, Str, Fun, Ground}
use Rattle.plcells.specs.Store.{Store, at, spread, shown_by, term, Refers, HasArguments, Fits, IsHeap, IsValue, value, cut, renamed, Keeps, Preserves}
use Rattle.plcells.specs.Skipping.{IsInside}
use Rattle.plcells.proofs.Terms.{Reads, term-solved, term-at, refers-within}

module _ (h : Store) (t : Table) (is : IsHeap h) (table : IsTable t) (more : Extends h.names t) where
  arity_same : (f : ℕ) → f < length h.names.functors → functor_arity t f ≡ functor_arity h.names f
  arity_same f lt = ap (λ k. k.arity) (functor_same h.names t more f lt)

  name_same : (f : ℕ) → f < length h.names.functors → functor_name t f ≡ functor_name h.names f
  name_same f lt =
      let k = is.names.functors f lt in
      ap (λ k. atom_at t k.name) (functor_same h.names t more f lt) ∙ atom_same h.names t more (functor_at h.names f).name k.name

  arguments-renamed : (i f : ℕ) → HasArguments h i f → HasArguments (renamed h t) i f
  arguments-renamed i f a =
      let e = arity_same f a.functor in
      record {
        functor = omega (arith, a.functor, functors_more h.names t more);
        within = omega (arith, a.within, e);
        plain = λ d lt le. a.plain d lt (omega (arith, le, e));
      }

  fits-renamed : (i : ℕ) (m : Cell) → Fits h i m → Fits (renamed h t) i m
  fits-renamed i (Free p) f = f
  fits-renamed i (Lone p) f = f
  fits-renamed i (Ref j) f = f
  fits-renamed i (Int n) f = f
  fits-renamed i (Wide p) f = f
  fits-renamed i (Atom a) f = omega (arith, f, atoms_more h.names t more)
  fits-renamed i (Str p) f = f
  fits-renamed i (Fun g) f = arguments-renamed i g f
  fits-renamed i (Ground g) f = record {
    arguments = arguments-renamed i g f.arguments;
    solid = λ d lt le. f.solid d lt (let e = arity_same g f.arguments.functor in omega (arith, le, e));
  }

  refers-renamed : (i d : ℕ) (m : Cell) → Fits h i m → Refers t i m d → Refers h.names i m d
  refers-renamed i d (Free p) f r = r
  refers-renamed i d (Lone p) f r = r
  refers-renamed i d (Ref j) f r = r
  refers-renamed i d (Int n) f r = r
  refers-renamed i d (Wide p) f r = r
  refers-renamed i d (Atom a) f r = r
  refers-renamed i d (Str p) f r = r
  refers-renamed i d (Fun g) f r = (r.0, omega (arith, r.1, arity_same g f.functor))
  refers-renamed i d (Ground g) f r = (r.0, omega (arith, r.1, arity_same g f.arguments.functor))

  block_shown : (w : ℕ → Tree) (i f : ℕ) → f < length h.names.functors →
      compound (functor_name h.names f) (trees (spread w (suc i) (functor_arity h.names f))) ≡ compound (functor_name t f) (trees (spread w (suc i) (functor_arity t f)))
  block_shown w i f lt = ap₂ (λ n k. compound n (trees (spread w (suc i) k))) (sym (name_same f lt)) (sym (arity_same f lt))

  shown-renamed : (w : ℕ → Tree) (i : ℕ) (m : Cell) → Fits h i m → shown_by h w i m ≡ shown_by (renamed h t) w i m
  shown-renamed w i (Free p) f = refl
  shown-renamed w i (Lone p) f = refl
  shown-renamed w i (Ref j) f = refl
  shown-renamed w i (Int n) f = refl
  shown-renamed w i (Wide p) f = refl
  shown-renamed w i (Atom a) f = ap atom (sym (atom_same h.names t more a f))
  shown-renamed w i (Str p) f = refl
  shown-renamed w i (Fun g) f = block_shown w i g f.functor
  shown-renamed w i (Ground g) f = block_shown w i g f.arguments.functor

  pub IsHeap-renamed : IsHeap (renamed h t)
  IsHeap-renamed = record {
    fits = λ i lt. fits-renamed i (at h.cells i) (is.fits i lt);
    rank = is.rank;
    ranked = λ i d lt r. is.ranked i d lt (refers-renamed i d (at h.cells i) (is.fits i lt) r);
    once = is.once;
    trailed = is.trailed;
    bounded = is.bounded;
    few = is.few;
    names = table;
  }

  reads : Reads (renamed h t) (length h.cells) is.rank
  reads = record {
    within = λ i d lt r. refers-within h i d (at h.cells i) (is.fits i lt) (refers-renamed i d (at h.cells i) (is.fits i lt) r);
    lower = λ i d lt r. is.ranked i d lt (refers-renamed i d (at h.cells i) (is.fits i lt) r);
  }

  pub term-renamed : (c : ℕ) → c < length h.cells → term (renamed h t) c ≡ term h c
  term-renamed = term-solved (renamed h t) (length h.cells) is.rank reads (le_refl _) (term h) (λ i lt. term-at h i is lt ∙ shown-renamed (term h) i (at h.cells i) (is.fits i lt))

  value-renamed : (m : Cell) → IsValue h m → IsValue (renamed h t) m × (value (renamed h t) m ≡ value h m)
  value-renamed (Free p) f = absurd f
  value-renamed (Lone p) f = absurd f
  value-renamed (Ref j) f = (f, term-renamed j f.0)
  value-renamed (Int n) f = (f, refl)
  value-renamed (Wide p) f = (f, refl)
  value-renamed (Atom a) f = (omega (arith, f, atoms_more h.names t more), ap atom (atom_same h.names t more a f))
  value-renamed (Str p) f = (f, term-renamed p f.0)
  value-renamed (Fun g) f = absurd f
  value-renamed (Ground g) f = absurd f

  Keeps-renamed : Keeps h (renamed h t)
  unfolding cut
  Keeps-renamed = record { within = λ m w. record { old = w.old; cells = w.cells; trail = w.trail; numbers = w.numbers; wide = w.wide }; kept = λ m w. refl; names = more }

  pub Preserves-renamed : Preserves h (renamed h t)
  Preserves-renamed = record { longer = omega arith; terms = term-renamed; values = value-renamed; keeps = Keeps-renamed }

  pub inside-renamed : (cells : List Cell) (closed : List ℕ) → IsInside h cells closed → IsInside (renamed h t) cells closed
  inside-renamed cells closed inside = record {
    heap = IsHeap-renamed;
    lone = λ i d p lt r e. inside.lone i d p lt (refers-renamed i d (at h.cells i) (is.fits i lt) r) e;
    prefixes = λ k lt.
        let old = inside.prefixes k lt in
        record {
          within = old.within;
          closed = λ i d il r. old.closed i d il (refers-renamed i d (at h.cells i) (is.fits i (let w = old.within in omega (arith, w, il))) r);
        };
    rising = inside.rising;
  }
