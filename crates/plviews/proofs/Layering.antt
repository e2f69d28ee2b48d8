-- Own updates that come and go.
use Rattle.std.proofs.Common.{◌≡◌, ℕ, zero, suc, Bool, true, false, List, [], ◌∷◌, ◌++◌, length, take, refl, sym, ap, ◌∙◌, subst, arith, append_assoc, append-nil, nat_eq, if◌then◌else◌, Some}
use Rattle.std.proofs.lemmas.Bool.Decides.{nat_tests}
use Rattle.plevent.specs.declared.update.Update.{Update}
use Rattle.plevent.specs.declared.update.Update.TheVariants.{First, Last, Erase, EraseOwn, Declare}
use Rattle.plevent.specs.declared.update.ClauseName.{ClauseName}
use Rattle.plevent.specs.Alive.{change_if}
use Rattle.pltx.specs.declared.level.Isolation.TheVariants.{Transaction}
use Rattle.pltx.specs.declared.level.Level.{Level}
use Rattle.pltx.specs.declared.target.Target.{Target}
use Rattle.pltx.specs.declared.target.Target.TheVariants.{Committed, Own}
use Rattle.pltx.specs.Own.{State, added, all_made, any_open, begun, ended, erased, erased_in, erasing, is_kept, made, some_open, target_at}
use Rattle.pltx.specs.Walks.{AllErasedApart}
use Rattle.plviews.specs.Layers.{IsLayer, Grows, Layered}

apart-take : (b m : ℕ) (us : List Update) → AllErasedApart b us → AllErasedApart b (take m us)
apart-take b zero us h = tt
apart-take b (suc m) [] h = tt
apart-take b (suc m) (u ∷ us) h = (h.0, apart-take b m us h.1)

apart-push : (b : ℕ) (us : List Update) (u : Update) → AllErasedApart b us → AllErasedApart b (u ∷ []) → AllErasedApart b (us ++ u ∷ [])
apart-push b [] u h one = one
apart-push b (x ∷ us) u h one = (h.0, apart-push b us u h.1 one)

apart-if : (v : Bool) (b : ℕ) (us vs : List Update) → AllErasedApart b us → AllErasedApart b vs → AllErasedApart b (change_if v us vs)
apart-if true b us vs h k = h
apart-if false b us vs h k = k

-- an end leaves less, or nothing
pub ended-layer : (success : Bool) (x : Layered) → IsLayer x → IsLayer (record x { own = ended success x.own })
ended-layer success x is = go x.own.levels is
  where
    go : (ls : List Level) → IsLayer (record x { own = record x.own { levels = ls } }) → IsLayer (record x { own = ended success (record x.own { levels = ls }) })
    go [] h = h
    go (l ∷ []) h = record { place = λ o. absurd (cc); apart = tt; closed = λ o. refl }
    go (l ∷ m ∷ ls) h = record {
      place = λ o. h.place refl;
      apart = apart-if (is_kept success l.kind) x.own.base x.own.updates (take l.start x.own.updates) h.apart (apart-take x.own.base l.start x.own.updates h.apart);
      closed = λ o. absurd (cc);
    }

erasing-apart : (b : ℕ) (x : ClauseName) → AllErasedApart b (erasing (target_at b x) ∷ [])
erasing-apart b x = go (nat_eq x.place b) refl
  where
    go : (v : Bool) → nat_eq x.place b ≡ v → AllErasedApart b (erasing (if v then Own x.number else Committed x) ∷ [])
    go true e = (tt, tt)
    go false e = ((λ same. absurd (other same e)), tt)
      where
        other : x.place ≡ b → nat_eq x.place b ≡ false → ⊥
        other same e = grind (arith, nat_tests)

erased-apart : (t : Target) (s : State) → AllErasedApart s.base (erasing t ∷ []) → AllErasedApart s.base s.updates → AllErasedApart s.base (erased t s).updates
erased-apart t s one h = go (erased_in t s.updates)
  where
    go : (v : Bool) → AllErasedApart s.base (change_if v s (added (erasing t) s)).updates
    go true = h
    go false = apart-push s.base s.updates (erasing t) h one

erased-same : (t : Target) (s : State) → ((erased t s).base ≡ s.base) × ((erased t s).levels ≡ s.levels)
erased-same t s = go (erased_in t s.updates)
  where
    go : (v : Bool) → ((change_if v s (added (erasing t) s)).base ≡ s.base) × ((change_if v s (added (erasing t) s)).levels ≡ s.levels)
    go true = (refl, refl)
    go false = (refl, refl)

-- an update changes neither the place nor what is open
pub made-same : (u : Update) (s : State) → ((made u s).base ≡ s.base) × ((made u s).levels ≡ s.levels)
made-same (First c) s = (refl, refl)
made-same (Last c) s = (refl, refl)
made-same (Erase y) s = erased-same (target_at s.base y) s
made-same (EraseOwn k) s = erased-same (Own k) s
made-same (Declare q) s = (refl, refl)

made-apart : (u : Update) (s : State) → AllErasedApart s.base s.updates → AllErasedApart s.base (made u s).updates
made-apart (First c) s h = apart-push s.base s.updates (First c) h (tt, tt)
made-apart (Last c) s h = apart-push s.base s.updates (Last c) h (tt, tt)
made-apart (Erase y) s h = erased-apart (target_at s.base y) s (erasing-apart s.base y) h
made-apart (EraseOwn k) s h = erased-apart (Own k) s (tt, tt) h
made-apart (Declare q) s h = apart-push s.base s.updates (Declare q) h (tt, tt)

pub made-layer : (u : Update) (x : Layered) → any_open x.own ≡ true → IsLayer x → IsLayer (record x { own = made u x.own })
made-layer u x some is =
    let same = made-same u x.own in
    record {
      place = λ o. is.place (ap some_open (sym same.1) ∙ o) ∙ ap Some (sym same.0);
      apart = subst (λ b. AllErasedApart b (made u x.own).updates) (sym same.0) (made-apart u x.own is.apart);
      closed = λ o. absurd (both-ways (sym (ap some_open same.1 ∙ some) ∙ o));
    }
  where
    both-ways : true ≡ false → ⊥
    both-ways e = absurd (cc)

pub all-made-layer : (us : List Update) (x : Layered) → any_open x.own ≡ true → IsLayer x → IsLayer (record x { own = all_made us x.own })
all-made-layer [] x some is = is
all-made-layer (u ∷ us) x some is = all-made-layer us (record x { own = made u x.own }) (ap some_open (made-same u x.own).1 ∙ some) (made-layer u x some is)

pub all-made-push : (us : List Update) (u : Update) (s : State) → all_made (us ++ u ∷ []) s ≡ made u (all_made us s)
all-made-push [] u s = refl
all-made-push (v ∷ us) u s = all-made-push us u (made v s)

-- more updates
pub grows-same : (s : State) → Grows s s
grows-same s = record { more = []; is = ap (λ us. record s { updates = us }) (sym (append-nil s.updates)) }

erased-grows : (t : Target) (s : State) → Grows s (erased t s)
erased-grows t s = go (erased_in t s.updates)
  where
    go : (v : Bool) → Grows s (change_if v s (added (erasing t) s))
    go true = grows-same s
    go false = record { more = erasing t ∷ []; is = refl }

pub made-grows : (u : Update) (s : State) → Grows s (made u s)
made-grows (First c) s = record { more = First c ∷ []; is = refl }
made-grows (Last c) s = record { more = Last c ∷ []; is = refl }
made-grows (Erase y) s = erased-grows (target_at s.base y) s
made-grows (EraseOwn k) s = erased-grows (Own k) s
made-grows (Declare q) s = record { more = Declare q ∷ []; is = refl }

grows-on : (a b c : State) → Grows a b → Grows b c → Grows a c
grows-on a b c g h = record {
  more = g.more ++ h.more;
  is = h.is ∙ ap (λ (x : State). record x { updates = x.updates ++ h.more }) g.is ∙ ap (λ us. record a { updates = us }) (append_assoc a.updates g.more h.more);
}

pub all-made-grows : (us : List Update) (s : State) → Grows s (all_made us s)
all-made-grows [] s = grows-same s
all-made-grows (u ∷ us) s = grows-on s (made u s) (all_made us (made u s)) (made-grows u s) (all-made-grows us (made u s))

-- what was made inside of a further level is left to what was open
take-all : (xs ys : List Update) → take (length xs) (xs ++ ys) ≡ xs
take-all [] ys = refl
take-all (x ∷ xs) ys = ap (λ l. x ∷ l) (take-all xs ys)

abbrev opened : State → State
opened s = record s { levels = record { kind = Transaction; start = length s.updates } ∷ s.levels }

begun-inside : (s : State) → any_open s ≡ true → begun Transaction s.base s ≡ opened s
begun-inside s o = go s.levels o
  where
    go : (ls : List Level) → some_open ls ≡ true → begun Transaction s.base (record s { levels = ls }) ≡ opened (record s { levels = ls })
    go [] h = absurd (cc)
    go (l ∷ ls) h = refl

abbrev with_levels : State → List Level → State
with_levels s ls = record s { levels = ls }

erased-levels : (t : Target) (s : State) (ls : List Level) → erased t (with_levels s ls) ≡ with_levels (erased t s) ls
erased-levels t s ls = go (erased_in t s.updates)
  where
    go : (v : Bool) → change_if v (with_levels s ls) (added (erasing t) (with_levels s ls)) ≡ with_levels (change_if v s (added (erasing t) s)) ls
    go true = refl
    go false = refl

made-levels : (u : Update) (s : State) (ls : List Level) → made u (with_levels s ls) ≡ with_levels (made u s) ls
made-levels (First c) s ls = refl
made-levels (Last c) s ls = refl
made-levels (Erase y) s ls = erased-levels (target_at s.base y) s ls
made-levels (EraseOwn k) s ls = erased-levels (Own k) s ls
made-levels (Declare q) s ls = refl

all-made-levels : (us : List Update) (s : State) (ls : List Level) → all_made us (with_levels s ls) ≡ with_levels (all_made us s) ls
all-made-levels [] s ls = refl
all-made-levels (u ∷ us) s ls = ap (all_made us) (made-levels u s ls) ∙ all-made-levels us (made u s) ls

all-made-same : (us : List Update) (s : State) → (all_made us s).levels ≡ s.levels
all-made-same [] s = refl
all-made-same (u ∷ us) s = all-made-same us (made u s) ∙ (made-same u s).1

-- updates that were all made inside of a further level stay as it ends with success
pub made-inside : (us : List Update) (s : State) → any_open s ≡ true → ended true (all_made us (begun Transaction s.base s)) ≡ all_made us s
made-inside us s o =
    ap (λ x. ended true (all_made us x)) (begun-inside s o)
    ∙ ap (ended true) (all-made-levels us s (record { kind = Transaction; start = length s.updates } ∷ s.levels))
    ∙ go s.levels o
  where
    go : (ls : List Level) → some_open ls ≡ true → ended true (with_levels (all_made us (with_levels s ls)) (record { kind = Transaction; start = length s.updates } ∷ ls)) ≡ all_made us (with_levels s ls)
    go [] h = absurd (cc)
    go (l ∷ ls) h = ap (with_levels (all_made us (with_levels s (l ∷ ls)))) (sym (all-made-same us (with_levels s (l ∷ ls))))

-- and none of them as it ends without
pub none-inside : (s x : State) → any_open s ≡ true → Grows (begun Transaction s.base s) x → ended false x ≡ s
none-inside s x o g =
    ap (ended false) (subst (λ (b : State). x ≡ record b { updates = b.updates ++ g.more }) (begun-inside s o) g.is)
    ∙ go s.levels o
  where
    go : (ls : List Level) → some_open ls ≡ true → ended false (record (opened (with_levels s ls)) { updates = s.updates ++ g.more }) ≡ with_levels s ls
    go [] h = absurd (cc)
    go (l ∷ ls) h = ap (λ us. record s { updates = us; levels = l ∷ ls }) (take-all s.updates g.more)

-- what is open stays open
pub all-made-open : (us : List Update) (s : State) → any_open s ≡ true → any_open (all_made us s) ≡ true
all-made-open us s o = ap some_open (all-made-same us s) ∙ o

pub begun-open : (s : State) → any_open s ≡ true → any_open (begun Transaction s.base s) ≡ true
begun-open s o = ap any_open (begun-inside s o)

pub grows-open : (s x : State) → any_open s ≡ true → Grows s x → any_open x ≡ true
grows-open s x o g = ap any_open g.is ∙ o
