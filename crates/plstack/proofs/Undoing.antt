-- The levels of the cases at which transactions end, and the markers that stand for them.
use Rattle.std.proofs.Common.{◌≡◌, ℕ, zero, suc, ◌<◌, ◌≤◌, ◌⊎◌, inl, inr, true, ◌==◌, List, [], ◌∷◌, ◌++◌, length, drop, get_or, All, AllPairs, refl, sym, ap, ◌∙◌, subst, arith, le_refl}
use Rattle.std.specs.List.{AllByRecursion}
use Rattle.std.proofs.lemmas.List.Elements.{All-cons, All-nil}
use Rattle.std.proofs.lemmas.List.Kept.{AllPairs-cons}
use Rattle.std.proofs.lemmas.Bool.{or_left, or_right, eq-eqb}
use Rattle.plsearch.specs.Types.{Kind, Commit, Never, Until, Collect, Transact, Element, Goal, Marker, Raise, Asking, Catch, Gather, Undo, Case, Choice, Mark, Handle}
use Rattle.plsearch.specs.Lists.{levels}
use Rattle.plsearch.specs.Engine.{deeper}
use Rattle.plsearch.specs.Handlers.{has}
use Rattle.plstack.specs.declared.frame.Point.{Point}
use Rattle.plstack.specs.declared.frame.Handler.{Handler}
use Rattle.plstack.specs.declared.frame.Handler.TheVariants as handlers
use Rattle.plstack.specs.declared.frame.Resume.{Resume}
use Rattle.plstack.specs.declared.frame.Resume.TheVariants as resumes
use Rattle.plstack.specs.declared.frame.Closed.{Closed}
use Rattle.plstack.specs.declared.frame.Closed.TheVariants as closings
use Rattle.plstack.specs.declared.frame.Frame.{Frame}
use Rattle.plstack.specs.declared.frame.Frame.TheVariants.{Plain, Open}
use Rattle.plstack.specs.Places.{depth_of}
use Rattle.plstack.specs.Levels.{Sort, Choosing, Guarding, Undoing, sort_of, kinds, choices, kinds_of, undoings, top_behind, Fits, transacts, FitsIn, Precedes, AreNamed}
use Rattle.plstack.specs.State.{Guards, IsUndo}
use Rattle.plstack.specs.Opening.{closing}
use Rattle.plstack.specs.Cutting.{IsChoice}
use Rattle.plstack.proofs.Naming.{fits-top, kinds-length}

-- ---- the levels of the cases

-- choices with nothing left are none of them
pub undoings-choices : (n : ℕ) (ks : List Sort) → undoings (choices n ks) ≡ undoings ks
undoings-choices zero ks = refl
undoings-choices (suc n) ks = undoings-choices n ks

-- nor is another case
pub undoings-push : (b : Sort) (ks : List Sort) → (b ≡ Undoing → ⊥) → undoings (b ∷ ks) ≡ undoings ks
undoings-push Choosing ks not = refl
undoings-push Guarding ks not = refl
undoings-push Undoing ks not = absurd (not refl)

pub undoings-frame : (f : Frame) (fs : List Frame) → (IsUndo f → ⊥) → undoings (kinds_of (f ∷ fs)) ≡ undoings (kinds_of fs)
undoings-frame (Plain n) fs not = undoings-choices n (kinds_of fs)
undoings-frame (Open p (resumes.Clauses c)) fs not = refl
undoings-frame (Open p (resumes.Walk w)) fs not = refl
undoings-frame (Open p (resumes.Answers a)) fs not = refl
undoings-frame (Open p resumes.List) fs not = refl
undoings-frame (Open p (resumes.Handle (handlers.Catch c))) fs not = refl
undoings-frame (Open p (resumes.Handle (handlers.Gather v))) fs not = refl
undoings-frame (Open p (resumes.Handle handlers.Undo)) fs not = absurd (not tt)

pub stays-frame : (p : Point) (r : Resume) → (sort_of r ≡ Undoing → ⊥) → IsUndo (Open p r) → ⊥
stays-frame p (resumes.Clauses c) not i = i
stays-frame p (resumes.Walk w) not i = i
stays-frame p (resumes.Answers a) not i = i
stays-frame p resumes.List not i = i
stays-frame p (resumes.Handle (handlers.Catch c)) not i = i
stays-frame p (resumes.Handle (handlers.Gather v)) not i = i
stays-frame p (resumes.Handle handlers.Undo) not i = not refl

-- the end of a transaction is closed as such
undo-closing : (p : Point) (r : Resume) → IsUndo (Open p r) → closing r ≡ closings.Transaction
undo-closing p (resumes.Clauses c) i = absurd i
undo-closing p (resumes.Walk w) i = absurd i
undo-closing p (resumes.Answers a) i = absurd i
undo-closing p resumes.List i = absurd i
undo-closing p (resumes.Handle (handlers.Catch c)) i = absurd i
undo-closing p (resumes.Handle (handlers.Gather v)) i = absurd i
undo-closing p (resumes.Handle handlers.Undo) i = refl

pub not-undo : (p : Point) (r : Resume) (k : Closed) → k ≡ closing r → (k ≡ closings.Transaction → ⊥) → IsUndo (Open p r) → ⊥
not-undo p r k is not i = not (is ∙ undo-closing p r i)

pub closing-undo : (r : Resume) → closing r ≡ closings.Transaction → r ≡ resumes.Handle handlers.Undo
closing-undo (resumes.Clauses c) is = absurd (cc)
closing-undo (resumes.Walk w) is = absurd (cc)
closing-undo (resumes.Answers a) is = absurd (cc)
closing-undo resumes.List is = absurd (cc)
closing-undo (resumes.Handle (handlers.Catch c)) is = absurd (cc)
closing-undo (resumes.Handle (handlers.Gather v)) is = absurd (cc)
closing-undo (resumes.Handle handlers.Undo) is = refl

-- a handler of a ball or of what was kept ends no transaction
pub guards_stays : (x : Handler) → Guards x → sort_of (resumes.Handle x) ≡ Undoing → ⊥
guards_stays (handlers.Catch c) guards is = cc
guards_stays (handlers.Gather v) guards is = cc
guards_stays handlers.Undo guards is = guards

pub guards-frame : (p : Point) (x : Handler) → Guards x → IsUndo (Open p (resumes.Handle x)) → ⊥
guards-frame p x guards = stays-frame p (resumes.Handle x) (guards_stays x guards)

-- nor does a choice
pub choice-stays : (f : Frame) → IsChoice f → IsUndo f → ⊥
choice-stays (Plain n) choice i = i
choice-stays (Open p (resumes.Clauses c)) choice i = i
choice-stays (Open p (resumes.Walk w)) choice i = i
choice-stays (Open p (resumes.Answers a)) choice i = i
choice-stays (Open p resumes.List) choice i = i
choice-stays (Open p (resumes.Handle (handlers.Catch c))) choice i = i
choice-stays (Open p (resumes.Handle (handlers.Gather v))) choice i = i
choice-stays (Open p (resumes.Handle handlers.Undo)) choice i = absurd (cc)

depth-append : (xs ys : List Frame) → depth_of ys ≤ depth_of (xs ++ ys)
depth-append [] ys = le_refl _
depth-append (x ∷ xs) ys = omega (arith, depth-append xs ys)

-- the first of them is one of the cases
first-low : (ks : List Sort) (l : ℕ) (ls : List ℕ) → undoings ks ≡ l ∷ ls → l < length ks
first-low [] l ls is = absurd (cc)
first-low (Choosing ∷ ks) l ls is = omega (arith, first-low ks l ls is)
first-low (Guarding ∷ ks) l ls is = omega (arith, first-low ks l ls is)
first-low (Undoing ∷ ks) l ls is = let e : length ks ≡ l = ap (λ ms. get_or ms 0 0) is in omega (arith, e)

-- those of the cases outside of a frame are among those of all
pub undoings-append : (xs ys : List Frame) → length (undoings (kinds_of ys)) ≤ length (undoings (kinds_of (xs ++ ys)))
undoings-append [] ys = le_refl _
undoings-append (Plain n ∷ xs) ys = rw (undoings-choices n (kinds_of (xs ++ ys))) (undoings-append xs ys)
undoings-append (Open p (resumes.Clauses c) ∷ xs) ys = undoings-append xs ys
undoings-append (Open p (resumes.Walk w) ∷ xs) ys = undoings-append xs ys
undoings-append (Open p (resumes.Answers a) ∷ xs) ys = undoings-append xs ys
undoings-append (Open p resumes.List ∷ xs) ys = undoings-append xs ys
undoings-append (Open p (resumes.Handle (handlers.Catch c)) ∷ xs) ys = undoings-append xs ys
undoings-append (Open p (resumes.Handle (handlers.Gather v)) ∷ xs) ys = undoings-append xs ys
undoings-append (Open p (resumes.Handle handlers.Undo) ∷ xs) ys = omega (arith, undoings-append xs ys)

-- where they are all below some frames, no transaction ends inside of these
none-above : (xs zs : List Frame) → AllByRecursion (λ k. k < depth_of zs) (undoings (kinds_of (xs ++ zs))) → undoings (kinds_of zs) ≡ undoings (kinds_of (xs ++ zs))
none-above [] zs low = refl
none-above (Plain n ∷ xs) zs low =
    let same : undoings (kinds_of (Plain n ∷ (xs ++ zs))) ≡ undoings (kinds_of (xs ++ zs)) = undoings-choices n (kinds_of (xs ++ zs)) in
    none-above xs zs (subst (AllByRecursion (λ k. k < depth_of zs)) same low) ∙ sym same
none-above (Open p (resumes.Clauses c) ∷ xs) zs low = none-above xs zs low
none-above (Open p (resumes.Walk w) ∷ xs) zs low = none-above xs zs low
none-above (Open p (resumes.Answers a) ∷ xs) zs low = none-above xs zs low
none-above (Open p resumes.List ∷ xs) zs low = none-above xs zs low
none-above (Open p (resumes.Handle (handlers.Catch c)) ∷ xs) zs low = none-above xs zs low
none-above (Open p (resumes.Handle (handlers.Gather v)) ∷ xs) zs low = none-above xs zs low
none-above (Open p (resumes.Handle handlers.Undo) ∷ xs) zs low = absurd (omega (arith, low.0, kinds-length (xs ++ zs), depth-append xs zs))

-- the innermost of them is inside of some frames, or it is the innermost of theirs
first-above : (xs zs : List Frame) (l : ℕ) (ls : List ℕ) → undoings (kinds_of (xs ++ zs)) ≡ l ∷ ls → (depth_of zs ≤ l) ⊎ (undoings (kinds_of zs) ≡ l ∷ ls)
first-above [] zs l ls is = inr is
first-above (Plain n ∷ xs) zs l ls is = first-above xs zs l ls (sym (undoings-choices n (kinds_of (xs ++ zs))) ∙ is)
first-above (Open p (resumes.Clauses c) ∷ xs) zs l ls is = first-above xs zs l ls is
first-above (Open p (resumes.Walk w) ∷ xs) zs l ls is = first-above xs zs l ls is
first-above (Open p (resumes.Answers a) ∷ xs) zs l ls is = first-above xs zs l ls is
first-above (Open p resumes.List ∷ xs) zs l ls is = first-above xs zs l ls is
first-above (Open p (resumes.Handle (handlers.Catch c)) ∷ xs) zs l ls is = first-above xs zs l ls is
first-above (Open p (resumes.Handle (handlers.Gather v)) ∷ xs) zs l ls is = first-above xs zs l ls is
first-above (Open p (resumes.Handle handlers.Undo) ∷ xs) zs l ls is =
    let e : length (kinds_of (xs ++ zs)) ≡ l = ap (λ ks. get_or ks 0 0) is in
    inl (omega (arith, e, kinds-length (xs ++ zs), depth-append xs zs))

-- where it is inside of them and all others are below, those are theirs
one-above : (xs zs : List Frame) (l : ℕ) (ls : List ℕ) → undoings (kinds_of (xs ++ zs)) ≡ l ∷ ls → depth_of zs ≤ l → AllByRecursion (λ k. k < depth_of zs) ls → undoings (kinds_of zs) ≡ ls
one-above [] zs l ls is high low = absurd (omega (arith, high, first-low (kinds_of zs) l ls is, kinds-length zs))
one-above (Plain n ∷ xs) zs l ls is high low = one-above xs zs l ls (sym (undoings-choices n (kinds_of (xs ++ zs))) ∙ is) high low
one-above (Open p (resumes.Clauses c) ∷ xs) zs l ls is high low = one-above xs zs l ls is high low
one-above (Open p (resumes.Walk w) ∷ xs) zs l ls is high low = one-above xs zs l ls is high low
one-above (Open p (resumes.Answers a) ∷ xs) zs l ls is high low = one-above xs zs l ls is high low
one-above (Open p resumes.List ∷ xs) zs l ls is high low = one-above xs zs l ls is high low
one-above (Open p (resumes.Handle (handlers.Catch c)) ∷ xs) zs l ls is high low = one-above xs zs l ls is high low
one-above (Open p (resumes.Handle (handlers.Gather v)) ∷ xs) zs l ls is high low = one-above xs zs l ls is high low
one-above (Open p (resumes.Handle handlers.Undo) ∷ xs) zs l ls is high low =
    let rest : undoings (kinds_of (xs ++ zs)) ≡ ls = ap (drop 1) is in
    none-above xs zs (subst (AllByRecursion (λ k. k < depth_of zs)) (sym rest) low) ∙ rest

-- ---- the levels of the markers

-- they are below those of the list
pub transacts-below : (ks : List Sort) (es : List Element) (d n : ℕ) → d ≤ n → Fits ks d es → AllByRecursion (λ k. k < n) (transacts es)
transacts-below ks [] d n le f = tt
transacts-below ks (Goal k t ∷ es) d n le f = transacts-below ks es (suc k) n (omega (arith, f.0, le)) f.2
transacts-below ks (Marker Commit k ∷ es) d n le f = transacts-below ks es (suc k) n (omega (arith, f.0, le)) f.2
transacts-below ks (Marker Never k ∷ es) d n le f = transacts-below ks es (suc k) n (omega (arith, f.0, le)) f.2
transacts-below ks (Marker Until k ∷ es) d n le f = transacts-below ks es k n (omega (arith, f.0, le)) f.2
transacts-below ks (Marker (Collect t) k ∷ es) d n le f = transacts-below ks es k n (omega (arith, f.0, le)) f.2
transacts-below ks (Marker (Transact c) k ∷ es) d n le f = (omega (arith, f.0, le), transacts-below ks es k n (omega (arith, f.0, le)) f.2)
transacts-below ks (Raise b ∷ es) d n le f = transacts-below ks es d n le f
transacts-below ks (Asking q ∷ es) d n le f = transacts-below ks es d n le f

-- a cut to the level of a choice gives up no transaction
pub cuts-none : (xs : List Frame) (f : Frame) (ys : List Frame) (k : ℕ) (es : List Element) → IsChoice f → k < depth_of (f ∷ ys) → Precedes (kinds_of (xs ++ f ∷ ys)) k es →
    undoings (kinds_of ys) ≡ undoings (kinds_of (xs ++ f ∷ ys))
cuts-none xs f ys k es choice high p =
    sym (undoings-frame f ys (choice-stays f choice))
    ∙ none-above xs (f ∷ ys) (subst (AllByRecursion (λ l. l < depth_of (f ∷ ys))) p.1 (transacts-below (kinds_of (xs ++ f ∷ ys)) es (suc k) (depth_of (f ∷ ys)) (omega (arith, high)) p.0.2))

-- and where a transaction ends with success, that alone is given up
pub ends-one : (xs : List Frame) (f : Frame) (ys : List Frame) (d l : ℕ) (es : List Element) → IsChoice f → depth_of ys ≤ d → d < depth_of (f ∷ ys) → FitsIn (kinds_of (xs ++ f ∷ ys)) (Marker (Transact d) l ∷ es) →
    undoings (kinds_of (xs ++ f ∷ ys)) ≡ l ∷ undoings (kinds_of ys)
ends-one xs f ys d l es choice low high p =
    let ks : List Sort = kinds_of (xs ++ f ∷ ys) in
    let is : undoings ks ≡ l ∷ transacts es = sym p.1 in
    is ∙ ap (λ ls. l ∷ ls) (sym (sym (undoings-frame f ys (choice-stays f choice)) ∙ one-above xs (f ∷ ys) l (transacts es) is (inside-of (first-above xs (f ∷ ys) l (transacts es) is))
    (transacts-below ks es l (depth_of (f ∷ ys)) (omega (arith, p.0.1.0, high)) p.0.2)))
  where
    inside-of : (depth_of (f ∷ ys) ≤ l) ⊎ (undoings (kinds_of (f ∷ ys)) ≡ l ∷ transacts es) → depth_of (f ∷ ys) ≤ l
    inside-of (inl le) = le
    inside-of (inr e) = absurd (omega (arith, low, p.0.1.0, kinds-length ys, first-low (kinds_of ys) l (transacts es) (sym (undoings-frame f ys (choice-stays f choice)) ∙ e)))

-- ---- the levels that a ball names

has-more : (k l : ℕ) (ls : List ℕ) → has k ls ≡ true → has k (l ∷ ls) ≡ true
has-more k l ls h = or_right (l == k) (has k ls) h

has-first : (k : ℕ) (ls : List ℕ) → has k (k ∷ ls) ≡ true
has-first k ls = or_left (k == k) (has k ls) (eq-eqb k k refl)

all-more : (l : ℕ) (ls ms : List ℕ) → AllByRecursion (λ k. has k ls ≡ true) ms → AllByRecursion (λ k. has k (l ∷ ls) ≡ true) ms
all-more l ls [] a = tt
all-more l ls (m ∷ ms) a = (has-more m l ls a.0, all-more l ls ms a.1)

transacts-named : (es : List Element) → AllByRecursion (λ k. has k (levels es) ≡ true) (transacts es)
transacts-named [] = tt
transacts-named (Goal k t ∷ es) = transacts-named es
transacts-named (Marker Commit k ∷ es) = all-more k (levels es) (transacts es) (transacts-named es)
transacts-named (Marker Never k ∷ es) = all-more k (levels es) (transacts es) (transacts-named es)
transacts-named (Marker Until k ∷ es) = all-more k (levels es) (transacts es) (transacts-named es)
transacts-named (Marker (Collect t) k ∷ es) = all-more k (levels es) (transacts es) (transacts-named es)
transacts-named (Marker (Transact d) k ∷ es) = (has-first k (levels es), all-more k (levels es) (transacts es) (transacts-named es))
transacts-named (Raise b ∷ es) = transacts-named es
transacts-named (Asking q ∷ es) = transacts-named es

deeper-kinds : (cs : List Case) → length (kinds cs) ≡ deeper cs 0
deeper-kinds [] = refl
deeper-kinds (c ∷ cs) = ap suc (deeper-kinds cs)

-- they never rise along a list that fits
top-low : (m : Kind) (k : ℕ) → top_behind m k ≤ suc k
top-low Commit k = le_refl (suc k)
top-low Never k = le_refl (suc k)
top-low Until k = omega arith
top-low (Collect t) k = omega arith
top-low (Transact d) k = omega arith

module _ (ks : List Sort) where
  levels-low : (es : List Element) (d : ℕ) → Fits ks d es → All (λ k. k < d) (levels es)
  levels-low [] d f = All-nil (λ k. k < d)
  levels-low (Goal k t ∷ es) d f = levels-low es d (fits-top ks es (suc k) d (omega (arith, f.0)) f.2)
  levels-low (Marker m k ∷ es) d f = All-cons (λ l. l < d) k (levels es) f.0 (levels-low es d (fits-top ks es (top_behind m k) d (omega (arith, f.0, top-low m k)) f.2))
  levels-low (Raise b ∷ es) d f = levels-low es d f
  levels-low (Asking q ∷ es) d f = levels-low es d f

  levels-fall : (es : List Element) (d : ℕ) → Fits ks d es → AllPairs (λ k l. l ≤ k) (levels es)
  levels-fall [] d f = λ i j e before within. absurd (omega (arith, within))
  levels-fall (Goal k t ∷ es) d f = levels-fall es (suc k) f.2
  levels-fall (Marker m k ∷ es) d f =
      let low = levels-low es (suc k) (fits-top ks es (top_behind m k) (suc k) (top-low m k) f.2) in
      AllPairs-cons (λ a b. b ≤ a) k (levels es) (λ i e within. omega (arith, low i e within)) (levels-fall es (top_behind m k) f.2)
  levels-fall (Raise b ∷ es) d f = levels-fall es d f
  levels-fall (Asking q ∷ es) d f = levels-fall es d f

module _ (ls : List ℕ) (fall : AllPairs (λ k l. l ≤ k) ls) where
  cases-named : (cs : List Case) → AllByRecursion (λ k. has k ls ≡ true) (undoings (kinds cs)) → AreNamed ls cs
  cases-named [] a = fall
  cases-named (Choice ps ∷ cs) a = cases-named cs a
  cases-named (Mark l ∷ cs) a = cases-named cs a
  cases-named (Handle (Catch c r) p ∷ cs) a = (tt, cases-named cs a)
  cases-named (Handle (Gather l) p ∷ cs) a = (tt, cases-named cs a)
  cases-named (Handle Undo p ∷ cs) a = (subst (λ d. has d ls ≡ true) (deeper-kinds cs) a.0, cases-named cs a.1)

-- those of a list that fits are the levels of all transactions that are open
pub fits-named : (cs : List Case) (es : List Element) → FitsIn (kinds cs) es → AreNamed (levels es) cs
fits-named cs es f = cases-named (levels es) (levels-fall (kinds cs) es (length (kinds cs)) f.0) cs (subst (AllByRecursion (λ k. has k (levels es) ≡ true)) f.1 (transacts-named es))
