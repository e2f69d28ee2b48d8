-- What stands behind a cut: the cases that it gives up may be emptied.
use Rattle.std.proofs.Common.{◌≡◌, ℕ, suc, ◌<◌, ◌≤◌, Bool, true, false, ◌||◌, if◌then◌else◌, List, [], ◌∷◌, ◌++◌, refl, sym, ap, ◌∙◌, arith, nat_eq}
use Rattle.std.specs.Prelude.{nat_le}
use Rattle.std.proofs.lemmas.Bool.Decides.{nat_tests}
use Rattle.plterm.specs.Tree.{Tree}
use Rattle.plprogram.specs.Program.{Program}
use Rattle.plsearch.specs.Types.{Result, Stop, Fail, CutTo, Throw, Halted, Spent, Awaits, Stopped, Unfit, Kind, Commit, Never, Until, Collect, Transact, Element, Goal, Marker, Raise, Asking, Resolvent, Case, Choice, Mark, Handle, Handler, Catch, Gather, Undo, Supply}
use Rattle.plsearch.specs.Handlers.{has, resume}
use Rattle.plsearch.specs.Engine.{stop_cut, mark, deeper, choice, returned, out, outs, Visit}
use Rattle.plsearch.specs.Machines.Levels.{IsKindAtMost, IsAtMost, AreAtMost, emptied}
use Rattle.plsearch.specs.Machines.Machine.{At, Rest}
use Rattle.plsearch.proofs.Levels.{Levels, AllIn, Holds, Bounded, GivesUp, Allows, AllAllow}
use Rattle.plsearch.proofs.Bounds.{visit-bounded}

-- the levels up to k, and those and the ones from d on
abbrev low : ℕ → Levels
low k l = nat_le l k

abbrev apart : ℕ → ℕ → Levels
apart k d l = nat_le l k || nat_le d l

pub at-most : (l k : ℕ) → l ≤ k → nat_le l k ≡ true
at-most l k h = grind (arith, nat_tests)

is-most : (l k : ℕ) → nat_le l k ≡ true → l ≤ k
is-most l k h = grind (arith, nat_tests)

in-apart : (a b : Bool) → a ≡ true → (a || b) ≡ true
in-apart a b h = ap (λ x. x || b) h

gives-up : (k : ℕ) (m : Kind) (l : ℕ) → IsKindAtMost k m → l ≤ k → GivesUp (low k) m l
unfolding GivesUp
gives-up k Commit l is h = at-most l k h
gives-up k Never l is h = at-most l k h
gives-up k Until l is h = tt
gives-up k (Collect t) l is h = tt
gives-up k (Transact d) l is h = at-most d k is

allowed : (k d : ℕ) (e : Element) → IsAtMost k e → Allows (low k) (apart k d) e
unfolding Allows
allowed k d (Goal l t) h = at-most l k h
allowed k d (Marker m l) h = (gives-up k m l h.0 h.1, in-apart _ _ (at-most l k h.1))
allowed k d (Raise b) h = tt
allowed k d (Asking q) h = tt

all-allowed : (k d : ℕ) (es : List Element) → AreAtMost k es → AllAllow (low k) (apart k d) es
unfolding AllAllow
all-allowed k d [] h = tt
all-allowed k d (e ∷ es) h = (allowed k d e h.0, all-allowed k d es h.1)

holds : (k d : ℕ) → Holds (apart k d) d
holds k d l le = right (nat_le l k) (nat_le d l) (at-most d l le)
  where
    right : (a b : Bool) → b ≡ true → (a || b) ≡ true
    right true b h = refl
    right false b h = h

-- a level between them is behind no ball
not-behind : (k d l : ℕ) → k < l → l < d → (ls : List ℕ) → AllIn (apart k d) ls → has l ls ≡ false
not-behind k d l above below [] all = refl
not-behind k d l above below (x ∷ xs) all = first (nat_eq x l) refl (not-behind k d l above below xs all.1)
  where
    other : nat_eq x l ≡ true → apart k d x ≡ true → ⊥
    other is held = grind (arith, nat_tests)

    first : (b : Bool) → nat_eq x l ≡ b → has l xs ≡ false → has l (x ∷ xs) ≡ false
    first true is rest = absurd (other is all.0)
    first false is rest = ap (λ b. b || has l xs) is ∙ rest

-- what passes cases at levels above k unchanged
unfoldable Passes : ℕ → ℕ → Result → Type 0
Passes k d Stop = Unit {0}
Passes k d Fail = ⊥
Passes k d (CutTo l) = l ≤ k
Passes k d (Throw b ls) = AllIn (apart k d) ls
Passes k d (Halted n) = Unit {0}
Passes k d Spent = Unit {0}
Passes k d (Awaits q) = Unit {0}
Passes k d Stopped = Unit {0}
Passes k d Unfit = Unit {0}

marked-passes : (k d : ℕ) (r : Result) → Bounded (low k) (apart k d) r → Passes k d (mark k r)
unfolding Passes Bounded
marked-passes k d Stop h = tt
marked-passes k d Fail h = omega arith
marked-passes k d (CutTo l) h = is-most l k h
marked-passes k d (Throw b ls) h = h
marked-passes k d (Halted n) h = tt
marked-passes k d Spent h = tt
marked-passes k d (Awaits q) h = tt
marked-passes k d Stopped h = tt
marked-passes k d Unfit h = tt

-- a cut to a level at or below k goes on above it
cut-goes-on : (l i : ℕ) → l < i → stop_cut i (CutTo l) ≡ CutTo l
cut-goes-on l i lt = go (nat_eq l i) refl
  where
    go : (b : Bool) → nat_eq l i ≡ b → ◌≡◌ {A = Result} (if b then Fail else CutTo l) (CutTo l)
    go true is = absurd (never is)
      where
        never : nat_eq l i ≡ true → ⊥
        never is = grind (arith, nat_tests)
    go false is = refl

stopped : (k d i : ℕ) (r : Result) → k < i → Passes k d r → stop_cut i r ≡ r
unfolding Passes
stopped k d i Stop lt h = refl
stopped k d i Fail lt h = absurd h
stopped k d i (CutTo l) lt h = cut-goes-on l i (omega arith)
stopped k d i (Throw b ls) lt h = refl
stopped k d i (Halted n) lt h = refl
stopped k d i Spent lt h = refl
stopped k d i (Awaits q) lt h = refl
stopped k d i Stopped lt h = refl
stopped k d i Unfit lt h = refl

module _ (P : Program) where
  chosen : (k d i : ℕ) (ps : List Resolvent) (r : Result) (run : Supply) → k < i → Passes k d r → choice (Visit P) i ps r run ≡ (r, run)
  unfolding choice Passes
  chosen k d i [] Fail run lt h = absurd h
  chosen k d i (p ∷ ps) Fail run lt h = absurd h
  chosen k d i ps r run lt h = ap (λ r. (r, run)) (stopped k d i r lt h)

  kept : (k d i : ℕ) (h : Handler) (p : Resolvent) (r : Result) (run : Supply) → k < i → i < d → Passes k d r → returned (Visit P) i (resume h p i r run.local) run ≡ (r, run)
  unfolding resume Passes
  kept k d i (Catch c x) p (Throw b ls) run lt below h = rw (not-behind k d i lt below ls h) refl
  kept k d i (Catch c x) p r run lt below h = refl
  kept k d i (Gather l) p Fail run lt below h = absurd h
  kept k d i (Gather l) p r run lt below h = refl
  kept k d i Undo p Fail run lt below h = absurd h
  kept k d i Undo p (Throw b ls) run lt below h = rw (not-behind k d i lt below ls h) refl
  kept k d i Undo p r run lt below h = refl

  -- a case above k
  out-passes : (k d i : ℕ) (c : Case) (r : Result) (run : Supply) → k < i → i < d → Passes k d r → out (Visit P) i c (r, run) ≡ (r, run)
  unfolding out Passes
  out-passes k d i (Choice ps) r run lt below h = chosen k d i ps r run lt h
  out-passes k d i (Mark l) Fail run lt below h = absurd h
  out-passes k d i (Mark l) r run lt below h = refl
  out-passes k d i (Handle x p) r run lt below h = kept k d i x p r run lt below h

  -- a level of a case that is open above the choice at the level k
  above-base : (k : ℕ) (cs base : List Case) → deeper base 0 ≡ suc k → k < deeper (cs ++ base) 0
  above-base k [] base is = omega (arith, is)
  above-base k (c ∷ cs) base is = let up = above-base k cs base is in omega arith

  outs-pass : (k d : ℕ) (cs base : List Case) (r : Result) (run : Supply) → deeper base 0 ≡ suc k → deeper (cs ++ base) 0 ≤ d → Passes k d r →
      outs (Visit P) 0 (cs ++ base) (r, run) ≡ outs (Visit P) 0 base (r, run)
  unfolding outs
  outs-pass k d [] base r run is le h = refl
  outs-pass k d (c ∷ cs) base r run is le h =
      ap (outs (Visit P) 0 (cs ++ base)) (out-passes k d (deeper (cs ++ base) 0) c r run (above-base k cs base is) (omega arith) h)
      ∙ outs-pass k d cs base r run is (omega arith) h

  deeper-emptied : (cs base base' : List Case) → deeper base 0 ≡ deeper base' 0 → deeper (cs ++ base) 0 ≡ deeper (emptied cs base') 0
  deeper-emptied [] base base' is = is
  deeper-emptied (c ∷ cs) base base' is = ap suc (deeper-emptied cs base base' is)

  above-emptied : (k : ℕ) (cs base : List Case) → k < deeper base 0 → k < deeper (emptied cs base) 0
  above-emptied k [] base is = is
  above-emptied k (c ∷ cs) base is = let up = above-emptied k cs base is in omega arith

  empty-choice : (k d i : ℕ) (r : Result) (run : Supply) → k < i → Bounded (low k) (apart k d) r → choice (Visit P) i [] r run ≡ (r, run)
  unfolding choice Bounded
  empty-choice k d i Stop run lt h = refl
  empty-choice k d i Fail run lt h = refl
  empty-choice k d i (CutTo l) run lt h = ap (λ r. (r, run)) (cut-goes-on l i (let le = is-most l k h in omega arith))
  empty-choice k d i (Throw b ls) run lt h = refl
  empty-choice k d i (Halted n) run lt h = refl
  empty-choice k d i Spent run lt h = refl
  empty-choice k d i (Awaits q) run lt h = refl
  empty-choice k d i Stopped run lt h = refl
  empty-choice k d i Unfit run lt h = refl

  emptied-pass : (k d : ℕ) (cs base : List Case) (r : Result) (run : Supply) → k < deeper base 0 → Bounded (low k) (apart k d) r →
      outs (Visit P) 0 (emptied cs base) (r, run) ≡ outs (Visit P) 0 base (r, run)
  unfolding outs out
  emptied-pass k d [] base r run is h = refl
  emptied-pass k d (c ∷ cs) base r run is h =
      ap (outs (Visit P) 0 (emptied cs base)) (empty-choice k d (deeper (emptied cs base) 0) r run (above-emptied k cs base is) h)
      ∙ emptied-pass k d cs base r run is h

  -- the choice at the level k itself is given up
  given-up : (k : ℕ) (ps : List Resolvent) (r : Result) (run : Supply) → choice (Visit P) k ps (mark k r) run ≡ choice (Visit P) k [] r run
  unfolding choice
  given-up k [] Fail run = ap (λ r. (r, run)) (itself (nat_eq k k) refl)
    where
      itself : (b : Bool) → nat_eq k k ≡ b → ◌≡◌ {A = Result} (if b then Fail else CutTo k) Fail
      itself true is = refl
      itself false is = absurd (never is)
        where
          never : nat_eq k k ≡ false → ⊥
          never is = grind (arith, nat_tests)
  given-up k (p ∷ ps) Fail run = ap (λ r. (r, run)) (itself (nat_eq k k) refl)
    where
      itself : (b : Bool) → nat_eq k k ≡ b → ◌≡◌ {A = Result} (if b then Fail else CutTo k) Fail
      itself true is = refl
      itself false is = absurd (never is)
        where
          never : nat_eq k k ≡ false → ⊥
          never is = grind (arith, nat_tests)
  given-up k [] r run = refl
  given-up k (p ∷ ps) r run = refl

  pub cuts-empty : (k : ℕ) (cs below : List Case) (ps : List Resolvent) (p : Resolvent) (run : Supply) → deeper below 0 ≡ k → AreAtMost k p.goals →
      Rest P (record { mode = At p; cases = Mark k ∷ (cs ++ Choice ps ∷ below); run = run }) ≡ Rest P (record { mode = At p; cases = emptied (Mark k ∷ cs) (Choice [] ∷ below); run = run })
  unfolding Rest outs out
  cuts-empty k cs below ps p run is most =
      let base : List Case = Choice ps ∷ below in
      let base' : List Case = Choice [] ∷ below in
      let d = suc (deeper (cs ++ base) 0) in
      let e = Visit P d p run in
      let bounded : Bounded (low k) (apart k d) e.0 = visit-bounded P (low k) (apart k d) d p run (holds k d) (all-allowed k d p.goals most) in
      let same : deeper (cs ++ base) 0 ≡ deeper (emptied cs base') 0 = deeper-emptied cs base base' refl in
      outs-pass k d cs base (mark k e.0) e.1 (ap suc is) (omega arith) (marked-passes k d e.0 bounded)
      ∙ ap (outs (Visit P) 0 below) (at-level e.0 e.1)
      ∙ sym (emptied-pass k d (Mark k ∷ cs) base' e.0 e.1 (omega (arith, is)) bounded)
      ∙ ap (λ n. outs (Visit P) 0 (emptied (Mark k ∷ cs) base') (Visit P (suc n) p run)) same
    where
      at-level : (r : Result) (run : Supply) → choice (Visit P) (deeper below 0) ps (mark k r) run ≡ choice (Visit P) (deeper below 0) [] r run
      at-level r run = rw is (given-up k ps r run)

  -- a catcher at a level between them keeps no ball
  kept-on : (k d i : ℕ) (c x : Tree) (p : Resolvent) (r : Result) (run : Supply) → k < i → i < d → Bounded (low k) (apart k d) r →
      returned (Visit P) i (resume (Catch c x) p i r run.local) run ≡ (r, run)
  unfolding resume Bounded
  kept-on k d i c x p (Throw b ls) run lt below h = rw (not-behind k d i lt below ls h) refl
  kept-on k d i c x p r run lt below h = refl

  emptied-alike : (cs base base' : List Case) → deeper base 0 ≡ deeper base' 0 → deeper (emptied cs base) 0 ≡ deeper (emptied cs base') 0
  emptied-alike [] base base' is = is
  emptied-alike (c ∷ cs) base base' is = ap suc (emptied-alike cs base base' is)

  pub catchers-empty : (k : ℕ) (c x : Tree) (q : Resolvent) (cs below : List Case) (p : Resolvent) (run : Supply) → deeper below 0 ≡ suc k → AreAtMost k p.goals →
      Rest P (record { mode = At p; cases = emptied cs (Handle (Catch c x) q ∷ below); run = run }) ≡ Rest P (record { mode = At p; cases = emptied cs (Choice [] ∷ below); run = run })
  unfolding Rest outs out
  catchers-empty k c x q cs below p run is most =
      let i = deeper below 0 in
      let old : List Case = Handle (Catch c x) q ∷ below in
      let new : List Case = Choice [] ∷ below in
      let d = deeper (emptied cs old) 0 in
      let e = Visit P d p run in
      let further : i < d = above-emptied i cs old (omega arith) in
      let bounded : Bounded (low k) (apart k d) e.0 = visit-bounded P (low k) (apart k d) d p run (holds k d) (all-allowed k d p.goals most) in
      emptied-pass k d cs old e.0 e.1 (omega (arith, is)) bounded
      ∙ ap (outs (Visit P) 0 below) (kept-on k d i c x q e.0 e.1 (omega (arith, is)) further bounded ∙ sym (empty-choice k d i e.0 e.1 (omega (arith, is)) bounded))
      ∙ sym (emptied-pass k d cs new e.0 e.1 (omega (arith, is)) bounded)
      ∙ ap (λ n. outs (Visit P) 0 (emptied cs new) (Visit P n p run)) (emptied-alike cs old new refl)

pub ruleset laws = (cuts-empty, catchers-empty)
