-- The clause of a name in a view, and the procedures that exist there.
use Rattle.std.proofs.Common.{◌≡◌, ◌≢◌, ◌<◌, refl, sym, ◌∙◌, ap, ap₂, arith, ℕ, suc, Bool, true, false, List, [], ◌∷◌, ◌++◌, fold, None}
use Rattle.std.specs.Prelude.{◌||◌, ◌&&◌, not}
use Rattle.std.specs.List.{list_any}
use Rattle.std.proofs.lemmas.Bool.Decides.{nat_tests}
use Rattle.std.proofs.lemmas.List.Folds.{list_any-append}
use Rattle.std.proofs.lemmas.List.Sums.{fold-append}
use Rattle.plterm.specs.declared.indicator.Indicator.{Indicator}
use Rattle.plevent.specs.declared.update.ClauseName.{ClauseName}
use Rattle.plevent.specs.declared.update.Update.{Update}
use Rattle.plevent.specs.declared.update.Update.TheVariants.{First, Last, Erase, EraseOwn, Declare}
use Rattle.plevent.specs.Alive.{Stamped, stamped, named, same_name, change_if, lives, is_alive, clause_in, clause_named, made_in, names, or_else, exists}
use Rattle.plstore.specs.Looking.{clause_alive}
use Rattle.plrecords.specs.Rising.{AllUnder}
use Rattle.plstore.proofs.Whole.{or-assoc-3, or-nothing}
use Rattle.pltx.specs.declared.target.Target.TheVariants.{Committed}
use Rattle.pltx.specs.Own.{erased_in}
use Rattle.plviews.specs.Views.{own_part, whole, Sight}

-- a clause of more updates
named-append : (x : ClauseName) (us vs : List Stamped) → clause_named x (us ++ vs) ≡ or_else (clause_named x us) (clause_named x vs)
named-append x [] vs = refl
named-append x (s ∷ us) vs = ap (or_else (made_in x s)) (named-append x us vs) ∙ sym (or-assoc-3 (made_in x s) (clause_named x us) (clause_named x vs))

alive-append : (x : ClauseName) (us vs : List Stamped) → is_alive x (us ++ vs) ≡ fold (lives x) (is_alive x us) vs
unfolding is_alive
alive-append x us vs = fold-append (lives x) false us vs

-- an own name is made by no batch below
other-below : (b n : ℕ) (y : ClauseName) → y.place < b → same_name y (named b n) ≡ false
other-below b n y h = grind (arith, nat_tests)

not-made : (x : ClauseName) (s : Stamped) → same_name s.at x ≡ false → lives x false s ≡ false
not-made x s e = by-case s.update
  where
    by-case : (u : Update) → lives x false (record { at = s.at; update = u }) ≡ false
    by-case (First c) = ap (λ v. v && true) e
    by-case (Last c) = ap (λ v. v && true) e
    by-case (Erase y) = refl
    by-case (EraseOwn k) = refl
    by-case (Declare q) = refl

own-not-below : (b n : ℕ) (us : List Stamped) → AllUnder b us → is_alive (named b n) us ≡ false
unfolding is_alive
own-not-below b n [] un = refl
own-not-below b n (s ∷ us) un = ap (λ v. fold (lives (named b n)) v us) (not-made (named b n) s (other-below b n s.at un.0)) ∙ own-not-below b n us un.1

own-unnamed : (b n : ℕ) (us : List Stamped) → AllUnder b us → clause_named (named b n) us ≡ None
own-unnamed b n [] un = refl
own-unnamed b n (s ∷ us) un = ap (λ v. or_else (change_if v (clause_in s.update) None) (clause_named (named b n) us)) (other-below b n s.at un.0) ∙ own-unnamed b n us un.1

own-fold : (b n : ℕ) (us vs : List Stamped) → AllUnder b us → is_alive (named b n) (us ++ vs) ≡ is_alive (named b n) vs
unfolding is_alive
own-fold b n us vs un = fold-append (lives (named b n)) false us vs ∙ ap (λ v. fold (lives (named b n)) v vs) (own-not-below b n us un)

pub own-alive : (s : Sight) (n : ℕ) → AllUnder s.place s.below → clause_alive (named s.place n) (whole s) ≡ clause_alive (named s.place n) (own_part s)
own-alive s n un =
    let x = named s.place n in
    ap₂ (λ v o. change_if v o None) (own-fold s.place n s.below (own_part s) un) (named-append x s.below (own_part s) ∙ ap (λ o. or_else o (clause_named x (own_part s))) (own-unnamed s.place n s.below un))

-- another name is made by no own update, and is not alive where one erases it
other-place : (b k : ℕ) (x : ClauseName) → x.place ≢ b → same_name (named b k) x ≡ false
other-place b k x h = grind (arith, nat_tests)

other-turned : (b k : ℕ) (x : ClauseName) → x.place ≢ b → same_name x (named b k) ≡ false
other-turned b k x h = grind (arith, nat_tests)

turned : (x y : ClauseName) → same_name x y ≡ same_name y x
turned x y = grind (arith, nat_tests)

and-true : (v : Bool) → v && true ≡ v
and-true true = refl
and-true false = refl

or-false : (v : Bool) → v || false ≡ v
or-false true = refl
or-false false = refl

and-not : (v a r : Bool) → ((v || false) && not a) && not r ≡ v && not (a || r)
and-not true true r = refl
and-not true false r = refl
and-not false a r = refl

still : (v r : Bool) (e : Bool) → e ≡ false → ((v || e) && true) && not r ≡ v && not r
still v r e h = ap (λ e. ((v || e) && true) && not r) h ∙ ap (λ w. w && not r) (and-true (v || false) ∙ or-false v)

kept-on : (x : ClauseName) (b k : ℕ) (us : List Update) (v : Bool) → x.place ≢ b → fold (lives x) v (stamped b k us) ≡ v && not (erased_in (Committed x) us)
kept-on x b k [] v h = sym (and-true v)
kept-on x b k (First c ∷ us) v h = kept-on x b (suc k) us ((v || same_name (named b k) x) && true) h ∙ still v (erased_in (Committed x) us) (same_name (named b k) x) (other-place b k x h)
kept-on x b k (Last c ∷ us) v h = kept-on x b (suc k) us ((v || same_name (named b k) x) && true) h ∙ still v (erased_in (Committed x) us) (same_name (named b k) x) (other-place b k x h)
kept-on x b k (Erase y ∷ us) v h = kept-on x b (suc k) us ((v || false) && not (same_name x y)) h ∙ and-not v (same_name x y) (erased_in (Committed x) us) ∙ ap (λ a. v && not (a || erased_in (Committed x) us)) (turned x y)
kept-on x b k (EraseOwn j ∷ us) v h =
    kept-on x b (suc k) us ((v || false) && not (same_name x (named b j))) h
    ∙ and-not v (same_name x (named b j)) (erased_in (Committed x) us) ∙ ap (λ a. v && not (a || erased_in (Committed x) us)) (other-turned b j x h)
kept-on x b k (Declare q ∷ us) v h = kept-on x b (suc k) us ((v || false) && true) h ∙ still v (erased_in (Committed x) us) false refl

none-made : (x : ClauseName) (b k : ℕ) (us : List Update) → x.place ≢ b → clause_named x (stamped b k us) ≡ None
none-made x b k [] h = refl
none-made x b k (u ∷ us) h = ap (λ v. or_else (change_if v (clause_in u) None) (clause_named x (stamped b (suc k) us))) (other-place b k x h) ∙ none-made x b (suc k) us h

pub base-alive : (s : Sight) (x : ClauseName) → x.place ≢ s.place →
    clause_alive x (whole s) ≡ change_if (is_alive x s.below && not (erased_in (Committed x) s.on_top)) (clause_named x s.below) None
base-alive s x h =
    ap₂ (λ v o. change_if v o None) (alive-append x s.below (own_part s) ∙ kept-on x s.place 0 s.on_top (is_alive x s.below) h)
    (named-append x s.below (own_part s) ∙ ap (or_else (clause_named x s.below)) (none-made x s.place 0 s.on_top h) ∙ sym (or-nothing (clause_named x s.below)))

and-false : (v : Bool) → v && false ≡ false
and-false true = refl
and-false false = refl

pub base-gone : (s : Sight) (x : ClauseName) → x.place ≢ s.place → erased_in (Committed x) s.on_top ≡ true → clause_alive x (whole s) ≡ None
base-gone s x h e = base-alive s x h ∙ ap (λ v. change_if v (clause_named x s.below) None) (ap (λ v. is_alive x s.below && not v) e ∙ and-false (is_alive x s.below))

pub base-stays : (s : Sight) (x : ClauseName) → x.place ≢ s.place → erased_in (Committed x) s.on_top ≡ false → clause_alive x (whole s) ≡ clause_alive x s.below
base-stays s x h e = base-alive s x h ∙ ap (λ v. change_if v (clause_named x s.below) None) (ap (λ v. is_alive x s.below && not v) e ∙ and-true (is_alive x s.below))

-- procedures
or-turn : (a b : Bool) → a || b ≡ b || a
or-turn true true = refl
or-turn true false = refl
or-turn false true = refl
or-turn false false = refl

pub exists-whole : (s : Sight) (p : Indicator) → exists (whole s) p ≡ exists (own_part s) p || exists s.below p
unfolding exists
exists-whole s p = list_any-append (λ t. names p t.update) s.below (own_part s) ∙ or-turn (list_any (λ t. names p t.update) s.below) (list_any (λ t. names p t.update) (own_part s))

pub none-exists : (b : ℕ) (p : Indicator) → exists (stamped b 0 []) p ≡ false
unfolding exists
none-exists b p = refl
