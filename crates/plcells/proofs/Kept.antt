-- Marks: what a binding and what is put behind the others keep.
use Rattle.std.proofs.Common.{◌≡◌, ℕ, ℤ, zero, suc, ◌+◌, ◌<◌, ◌≤◌, Bool, true, false, nat_lt, List, [], ◌∷◌, ◌++◌, length, length-append, take, drop, set, refl, sym, ap, ap₂, ◌∙◌, subst, arith}
use Rattle.std.proofs.lemmas.List.{length-set, set-set, set-get_or, take-append-le, drop-append-le, take-set-le, take_all, drop_all}
use Rattle.platoms.proofs.Extending.{Extends-refl, Extends-trans}
use Rattle.plcells.specs.declared.cell.Cell.{Cell}
use Rattle.plcells.specs.declared.cell.Cell.TheVariants.{Free, Lone, Ref, Int, Wide, Atom, Str, Fun, Ground}
use Rattle.plcells.specs.declared.cell.Mark.{Mark}
use Rattle.plcells.specs.declared.cell.Trailed.{Trailed}
use Rattle.plcells.specs.Store.{Store, at, number_at, trailed_if, IsBinding, reset, cut, IsWithin, IsMark, renamed, Keeps, one, frees, Binds, IsHeap, grown, bounded_by, noted_by, IsValue, value, AllBelow, HasArguments, Fits}
use Rattle.plcells.proofs.Binding.{linked, term-linked, value-linked, plain_still, free_old}

pub take_set : (n : ℕ) (xs : List Cell) (i : ℕ) (v : Cell) → take n (set xs i v) ≡ set (take n xs) i v
take_set zero xs i v = refl
take_set (suc n) [] i v = refl
take_set (suc n) (x ∷ xs) zero v = refl
take_set (suc n) (x ∷ xs) (suc i) v = ap (λ ys. x ∷ ys) (take_set n xs i v)

pub take-reset : (n : ℕ) (cells : List Cell) (ts : List Trailed) → take n (reset cells ts) ≡ reset (take n cells) ts
take-reset n cells [] = refl
take-reset n cells (t ∷ ts) = take_set n (reset cells ts) t.cell (Free t.place) ∙ ap (λ cs. set cs t.cell (Free t.place)) (take-reset n cells ts)

pub reset-length : (cells : List Cell) (ts : List Trailed) → length (reset cells ts) ≡ length cells
reset-length cells [] = refl
reset-length cells (t ∷ ts) = length-set (reset cells ts) t.cell (Free t.place) ∙ reset-length cells ts

pub reset-append : (cells : List Cell) (ts : List Trailed) (t : Trailed) → reset cells (ts ++ t ∷ []) ≡ reset (set cells t.cell (Free t.place)) ts
reset-append cells [] t = refl
reset-append cells (s ∷ ts) t = ap (λ cs. set cs s.cell (Free s.place)) (reset-append cells ts t)

pub Keeps-refl : (h : Store) → Keeps h h
unfolding cut
Keeps-refl h = record { within = λ m w. w; kept = λ m w. refl; names = Extends-refl h.names }

pub Keeps-trans : (a b c : Store) → Keeps a b → Keeps b c → Keeps a c
Keeps-trans a b c k l = record {
  within = λ m w. l.within m (k.within m w);
  kept = λ m w. l.kept m (k.within m w) ∙ ap (λ h. renamed h c.names) (k.kept m w);
  names = Extends-trans a.names b.names c.names k.names l.names;
}

-- what is put behind the others
pub Keeps-grown : (h : Store) (cs : List Cell) (ns : List ℕ) (ws : List ℤ) → Keeps h (grown h cs ns ws)
unfolding cut
Keeps-grown h cs ns ws = record {
  within = λ m w. record {
    old = w.old;
    cells = omega (arith, w.cells, length-append h.cells cs);
    trail = w.trail;
    numbers = omega (arith, w.numbers, length-append h.numbers ns);
    wide = omega (arith, w.wide, length-append h.wide ws);
  };
  kept = λ m w.
      let make : List Cell → List ℕ → List ℤ → Store = λ (a : List Cell) (b : List ℕ) (c : List ℤ). record { cells = a; numbers = b; wide = c; trail = take m.trail h.trail; boundary = m.cells; names = h.names } in
      ap (λ a. make a (take m.numbers (h.numbers ++ ns)) (take m.wide (h.wide ++ ws)))
      (take-reset m.cells (h.cells ++ cs) (drop m.trail h.trail) ∙ ap (λ xs. reset xs (drop m.trail h.trail)) (take-append-le m.cells h.cells cs w.cells) ∙ sym (take-reset m.cells h.cells (drop m.trail h.trail)))
      ∙ ap₂ (make (take m.cells (reset h.cells (drop m.trail h.trail)))) (take-append-le m.numbers h.numbers ns w.numbers) (take-append-le m.wide h.wide ws w.wide);
  names = Extends-refl h.names;
}

-- a binding
module _ (h : Store) (x p : ℕ) (v : Cell) (within : x < length h.cells) (free : at h.cells x ≡ Free p) where
  back : set (set h.cells x v) x (Free p) ≡ h.cells
  back = set-set h.cells x v (Free p) ∙ ap (set h.cells x) (sym free) ∙ set-get_or h.cells x (Atom 0)

  abbrev now : Trailed
  now = record { cell = x; place = p }

  cells_kept : (m : Mark) → IsWithin m h → (b : Bool) → nat_lt x h.boundary ≡ b →
      take m.cells (reset (set h.cells x v) (drop m.trail (trailed_if b h.trail (record { cell = x; place = p })))) ≡ take m.cells (reset h.cells (drop m.trail h.trail))
  cells_kept m w true is =
      ap (λ ts. take m.cells (reset (set h.cells x v) ts)) (drop-append-le m.trail h.trail (record { cell = x; place = p } ∷ []) w.trail)
      ∙ ap (take m.cells) (reset-append (set h.cells x v) (drop m.trail h.trail) (record { cell = x; place = p }) ∙ ap (λ cs. reset cs (drop m.trail h.trail)) back)
  cells_kept m w false is =
      let le : h.boundary ≤ x = grind (arith, is) in
      take-reset m.cells (set h.cells x v) (drop m.trail h.trail)
      ∙ ap (λ cs. reset cs (drop m.trail h.trail)) (take-set-le m.cells h.cells x v (omega (arith, w.old, le)))
      ∙ sym (take-reset m.cells h.cells (drop m.trail h.trail))

  trail_kept : (k : ℕ) → k ≤ length h.trail → (b : Bool) → take k (trailed_if b h.trail (record { cell = x; place = p })) ≡ take k h.trail
  trail_kept k le true = take-append-le k h.trail (record { cell = x; place = p } ∷ []) le
  trail_kept k le false = refl

  trail_longer : (b : Bool) → length h.trail ≤ length (trailed_if b h.trail (record { cell = x; place = p }))
  trail_longer true = omega (arith, length-append h.trail (record { cell = x; place = p } ∷ []))
  trail_longer false = omega arith

  pub Keeps-linked : Keeps h (linked h x p v)
  unfolding cut
  Keeps-linked = record {
    within = λ m w. record {
      old = w.old;
      cells = omega (arith, w.cells, length-set h.cells x v);
      trail = omega (arith, w.trail, trail_longer (nat_lt x h.boundary));
      numbers = w.numbers;
      wide = w.wide;
    };
    kept = λ m w. ap₂ (λ cs ts. record { cells = cs; numbers = take m.numbers h.numbers; wide = take m.wide h.wide; trail = ts; boundary = m.cells; names = h.names })
        (cells_kept m w (nat_lt x h.boundary) refl) (trail_kept m.trail w.trail (nat_lt x h.boundary));
    names = Extends-refl h.names;
  }

one-value : (h : Store) (v : Cell) → IsValue h v → one v ≡ 0
one-value h (Free p) f = absurd f
one-value h (Lone p) f = absurd f
one-value h (Ref j) f = refl
one-value h (Int n) f = refl
one-value h (Wide p) f = refl
one-value h (Atom a) f = refl
one-value h (Str p) f = refl
one-value h (Fun f) g = absurd g
one-value h (Ground f) g = absurd g

frees-set : (cells : List Cell) (a p : ℕ) (v : Cell) → a < length cells → at cells a ≡ Free p → one v ≡ 0 → frees (set cells a v) + 1 ≡ frees cells
frees-set [] a p v lt e z = absurd (omega arith)
frees-set (c ∷ cs) zero p v lt e z = let f : one c ≡ 1 = ap one e in omega (arith, f, z)
frees-set (c ∷ cs) (suc a) p v lt e z = omega (arith, frees-set cs a p v (omega arith) e z)

pub Binds-linked : (h : Store) (x p : ℕ) (v : Cell) → IsHeap h → IsBinding h x p v → Binds h (linked h x p v) (number_at h p) (value h v)
Binds-linked h x p v is may = record {
  terms = λ c lt. term-linked h x p v is may c lt;
  keeps = Keeps-linked h x p v may.within may.free;
  length = length-set h.cells x v;
  numbers = refl;
  wide = refl;
  names = refl;
  boundary = refl;
  values = λ m f. value-linked h x p v is may m f;
  plain = λ c apart. plain_still h x p v is may c apart;
  fewer = frees-set h.cells x p v may.within may.free (one-value h v may.fits);
  fresh = λ m f i q lt e same. f i q (omega (arith, lt, length-set h.cells x v)) (free_old h x p v is may i q e) same;
  stood = λ f. f x p may.within may.free refl;
}

-- the heap at its own mark is itself, with its cells below the boundary
pub cut-now : (m : Mark) (h : Store) → m.cells ≡ length h.cells → m.trail ≡ length h.trail → m.numbers ≡ length h.numbers → m.wide ≡ length h.wide → cut m h ≡ bounded_by h (length h.cells)
unfolding cut
cut-now m h c t n w =
    let make : List Cell → List ℕ → List ℤ → List Trailed → ℕ → Store = λ (a : List Cell) (b : List ℕ) (d : List ℤ) (e : List Trailed) (k : ℕ). record { cells = a; numbers = b; wide = d; trail = e; boundary = k; names = h.names } in
    ap (λ ts. make (take m.cells (reset h.cells ts)) (take m.numbers h.numbers) (take m.wide h.wide) (take m.trail h.trail) m.cells) (drop_all m.trail h.trail (omega (arith, t)))
    ∙ ap₂ (λ a b. make a b (take m.wide h.wide) (take m.trail h.trail) m.cells) (take_all m.cells h.cells (omega (arith, c))) (take_all m.numbers h.numbers (omega (arith, n)))
    ∙ ap₂ (λ d e. make h.cells h.numbers d e m.cells) (take_all m.wide h.wide (omega (arith, w))) (take_all m.trail h.trail (omega (arith, t)))
    ∙ ap (make h.cells h.numbers h.wide h.trail) c

-- a mark stays one
pub IsMark-kept : (m : Mark) (old new : Store) → Keeps old new → new.names ≡ old.names → IsMark m old → IsMark m new
unfolding cut
IsMark-kept m old new k same is = record {
  within = k.within m is.within;
  heap = subst IsHeap (sym (k.kept m is.within ∙ ap (renamed (cut m old)) same)) is.heap;
}

pub below-drop : (n k : ℕ) (ts : List Trailed) → AllBelow n ts → AllBelow n (drop k ts)
below-drop n zero ts b = b
below-drop n (suc k) [] b = tt
below-drop n (suc k) (t ∷ ts) b = below-drop n k ts b.1

pub below-append : (n : ℕ) (ts : List Trailed) (t : Trailed) → AllBelow n (ts ++ t ∷ []) → AllBelow n ts × (t.cell < n)
below-append n [] t b = (tt, b.0)
below-append n (s ∷ ts) t b = let r = below-append n ts t b.1 in ((b.0, r.0), r.1)

-- a step of the undo
pub undo_step : (cells : List Cell) (trail rest : List Trailed) (t : Trailed) (keep : ℕ) → trail ≡ rest ++ t ∷ [] → keep ≤ length rest → reset (set cells t.cell (Free t.place)) (drop keep rest) ≡ reset cells (drop keep trail)
undo_step cells trail rest t keep e le =
    sym (reset-append cells (drop keep rest) t)
    ∙ ap (reset cells) (sym (drop-append-le keep rest (t ∷ []) le) ∙ ap (drop keep) (sym e))

pub undo_trail : (trail rest : List Trailed) (t : Trailed) (keep : ℕ) → trail ≡ rest ++ t ∷ [] → keep ≤ length rest → take keep rest ≡ take keep trail
undo_trail trail rest t keep e le = sym (take-append-le keep rest (t ∷ []) le) ∙ ap (take keep) (sym e)

-- with other bindings to take off, and another boundary
module _ (h : Store) (ts : List Trailed) (b : ℕ) where
  arguments-noted : (i f : ℕ) → HasArguments h i f → HasArguments (noted_by h ts b) i f
  arguments-noted i f a = record { functor = a.functor; within = a.within; plain = a.plain }

  fits-noted : (i : ℕ) (m : Cell) → Fits h i m → Fits (noted_by h ts b) i m
  fits-noted i (Free p) f = f
  fits-noted i (Lone p) f = f
  fits-noted i (Ref j) f = f
  fits-noted i (Int n) f = f
  fits-noted i (Wide p) f = f
  fits-noted i (Atom a) f = f
  fits-noted i (Str p) f = f
  fits-noted i (Fun g) f = arguments-noted i g f
  fits-noted i (Ground g) f = record { arguments = arguments-noted i g f.arguments; solid = f.solid }

  pub IsHeap-noted : IsHeap h → AllBelow (length h.cells) ts → b ≤ length h.cells → IsHeap (noted_by h ts b)
  IsHeap-noted is below le = record {
    fits = λ i lt. fits-noted i (at h.cells i) (is.fits i lt);
    rank = is.rank;
    ranked = is.ranked;
    once = is.once;
    trailed = below;
    bounded = le;
    few = is.few;
    names = is.names;
  }

pub mark-now : (m : Mark) (h : Store) → m.cells ≡ length h.cells → m.trail ≡ length h.trail → m.numbers ≡ length h.numbers → m.wide ≡ length h.wide → h.boundary ≡ length h.cells → cut m h ≡ h
mark-now m h c t n w b = cut-now m h c t n w ∙ ap (bounded_by h) (sym b)

pub mark-is : (m : Mark) (h : Store) (old : ℕ) → IsHeap (bounded_by h old) → m.cells ≡ length h.cells → m.trail ≡ length h.trail → m.numbers ≡ length h.numbers → m.wide ≡ length h.wide → h.boundary ≡ length h.cells → IsMark m h
mark-is m h old is c t n w b = record {
  within = record { old = omega (arith, c, b); cells = omega (arith, c); trail = omega (arith, t); numbers = omega (arith, n); wide = omega (arith, w) };
  heap = subst IsHeap (sym (mark-now m h c t n w b)) (IsHeap-noted (bounded_by h old) h.trail h.boundary is is.trailed (omega (arith, b)));
}
