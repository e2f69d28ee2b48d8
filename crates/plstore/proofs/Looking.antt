-- What a query finds in what is kept is what it finds after the updates.
use Rattle.std.specs.Prelude.{ℕ, Bool, true, false, ◌&&◌, List, [], ◌∷◌, fold, nat_lt, None, cond}
use Rattle.std.proofs.Common.{◌≡◌, refl, sym, ◌∙◌, ap, ap₂, arith}
use Rattle.std.proofs.lemmas.Bool.Decides.{nat_tests}
use Rattle.plevent.specs.declared.update.Update.{Update}
use Rattle.plevent.specs.declared.update.Update.TheVariants.{First, Last, Erase, EraseOwn, Declare}
use Rattle.plevent.specs.declared.update.ClauseName.{ClauseName}
use Rattle.plevent.specs.Alive.{Stamped, same_name, change_if, before, names_of, is_alive, lives, clause_named, made_in, clause_in, or_else}
use Rattle.plstore.specs.declared.query.Query.{Query}
use Rattle.plstore.specs.declared.query.Found.{Found}
use Rattle.plrecords.specs.Kept.{nothing, keep, next_of}
use Rattle.plstore.specs.Like.{next_like_of}
use Rattle.plrecords.specs.Rising.{Rises}
use Rattle.plstore.specs.Looking.{found, found_in, clause_alive, clause_seen}
use Rattle.plstore.proofs.Whole.{walk-is, here-is, there-is, clause-is}

-- updates at or above g have no name of a place below, and those below none of a place at or above
other-above : (g : ℕ) (x y : ClauseName) → nat_lt x.place g ≡ true → nat_lt y.place g ≡ false → same_name y x ≡ false
other-above g x y h k = grind (arith, nat_tests)

-- a name below g is made below g
made-below : (g : ℕ) (x : ClauseName) (us : List Stamped) → nat_lt x.place g ≡ true → clause_named x (before g us) ≡ clause_named x us
unfolding before
made-below g x [] h = refl
made-below g x (s ∷ us) h = by-case (nat_lt s.at.place g) refl (made-below g x us h)
  where
    by-case : (v : Bool) → nat_lt s.at.place g ≡ v → clause_named x (before g us) ≡ clause_named x us → clause_named x (cond v (s ∷ before g us) (before g us)) ≡ or_else (made_in x s) (clause_named x us)
    by-case true e r = ap (or_else (made_in x s)) r
    by-case false e r = r ∙ sym (ap (λ v. or_else (change_if v (clause_in s.update) None) (clause_named x us)) (other-above g x s.at h e))

-- a name at or above g is not alive below g
not-makes : (x : ClauseName) (s : Stamped) → same_name s.at x ≡ false → lives x false s ≡ false
not-makes x s e = by-case s.update
  where
    by-case : (u : Update) → lives x false (record { at = s.at; update = u }) ≡ false
    by-case (First c) = ap (λ v. v && true) e
    by-case (Last c) = ap (λ v. v && true) e
    by-case (Erase y) = refl
    by-case (EraseOwn k) = refl
    by-case (Declare q) = refl

not-alive : (g : ℕ) (x : ClauseName) (us : List Stamped) → nat_lt x.place g ≡ false → fold (lives x) false (before g us) ≡ false
unfolding before
not-alive g x [] h = refl
not-alive g x (s ∷ us) h = by-case (nat_lt s.at.place g) refl (not-alive g x us h)
  where
    other : nat_lt s.at.place g ≡ true → same_name s.at x ≡ false
    other e = grind (arith, nat_tests)

    by-case : (v : Bool) → nat_lt s.at.place g ≡ v → fold (lives x) false (before g us) ≡ false → fold (lives x) false (cond v (s ∷ before g us) (before g us)) ≡ false
    by-case true e r = ap (λ v. fold (lives x) v (before g us)) (not-makes x s (other e)) ∙ r
    by-case false e r = r

clause-at : (g : ℕ) (x : ClauseName) (us : List Stamped) → change_if (is_alive x (before g us)) (clause_named x us) None ≡ clause_alive x (before g us)
unfolding is_alive
clause-at g x us = by-case (nat_lt x.place g) refl
  where
    by-case : (v : Bool) → nat_lt x.place g ≡ v → change_if (fold (lives x) false (before g us)) (clause_named x us) None ≡ change_if (fold (lives x) false (before g us)) (clause_named x (before g us)) None
    by-case true e = ap (λ o. change_if (fold (lives x) false (before g us)) o None) (sym (made-below g x us e))
    by-case false e = ap (λ v. change_if v (clause_named x us) None) (not-alive g x us e) ∙ sym (ap (λ v. change_if v (clause_named x (before g us)) None) (not-alive g x us e))

clause-found : (g : ℕ) (x : ClauseName) (us : List Stamped) → Rises 0 us → clause_seen g x (fold keep nothing us) ≡ clause_alive x (before g us)
clause-found g x us up = ap₂ (λ v o. change_if v o None) (here-is g x us up) (clause-is x us) ∙ clause-at g x us

pub look-is : (g : ℕ) (q : Query) (us : List Stamped) → Rises 0 us → found_in g q (fold keep nothing us) ≡ found (before g us) q
look-is g (Query.NextLike p k c) us up = ap (λ l. Found.Next (next_like_of k c l)) (walk-is g p us up)
look-is g (Query.Next p c) us up = ap (λ l. Found.Next (next_of c (names_of l))) (walk-is g p us up)
look-is g (Query.Alive x) us up = ap Found.Alive (here-is g x us up)
look-is g (Query.Clause x) us up = ap Found.Clause (clause-found g x us up)
look-is g (Query.Exists p) us up = ap Found.Exists (there-is g p us)
