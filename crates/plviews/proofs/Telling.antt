-- What each step tells.
use Rattle.std.proofs.Common.{◌≡◌, ◌<◌, refl, sym, ◌∙◌, ap, subst, ℕ, true, false, List, [], ◌∷◌, ◌++◌, Some, None, length}
use Rattle.std.specs.Prelude.{not}
use Rattle.std.proofs.lemmas.List.Elements.{filter-append}
use Rattle.plterm.specs.declared.indicator.Indicator.{Indicator}
use Rattle.plevent.specs.declared.key.Key.{Key}
use Rattle.plevent.specs.declared.update.ClauseName.{ClauseName}
use Rattle.plevent.specs.declared.update.Living.{Living}
use Rattle.plevent.specs.Alive.{Stamped, living, named, stamped}
use Rattle.plrecords.specs.declared.record.Cursor.{Cursor}
use Rattle.plstore.specs.Like.{fits, next_like_of, past, rest}
use Rattle.plrecords.specs.Rising.{AllUnder, Ordered}
use Rattle.plstore.proofs.Names.{apart-alive}
use Rattle.pltx.specs.declared.own.OwnCursor.{OwnCursor}
use Rattle.pltx.specs.declared.target.Target.TheVariants.{Committed}
use Rattle.pltx.specs.Own.{erased_in}
use Rattle.pltx.specs.Walks.{cursor_at, not_erased, own_backs, own_fronts}
use Rattle.plviews.specs.declared.lookup.Reach.{Reach}
use Rattle.plviews.specs.declared.lookup.Reach.TheVariants.{Front, Base, Back}
use Rattle.plviews.specs.declared.lookup.Step.{Step}
use Rattle.plviews.specs.Views.{own_part, whole, Sight, WithoutOwn}
use Rattle.plviews.specs.Lookups.{base_rest, likely, rest_at, Begins, IsStepOf}
use Rattle.plviews.proofs.Seen.{apart-backs, apart-fronts, known-filter, no-backs, rest-known, AllKnown}
use Rattle.plviews.proofs.Heads.{filter-turn, heads-append, heads-dropped, heads-fewer, heads-kept, heads-rest, none-head, Heads}

begins-from : (us : List Stamped) (x : ClauseName) (xs ys : List Living) → AllKnown us xs → Heads x xs ys → Begins us x xs ys
begins-from us x xs ys all h = record { clause = h.clause; whole = h.list; alive = (subst (AllKnown us) h.list all).0 }

heads-as : (x : ClauseName) (xs ys zs ws : List Living) → zs ≡ xs → ws ≡ ys → Heads x xs ys → Heads x zs ws
heads-as x xs ys zs ws e d h = record { clause = h.clause; list = e ∙ h.list ∙ ap (λ l. Rattle.plevent.specs.Alive.lives_as x h.clause ∷ l) (sym d) }

module _ (s : Sight) (p : Indicator) (k : Key) (o : Ordered s.below) (un : AllUnder s.place s.below) where
  abbrev fs : List Living
  fs = own_fronts (own_part s) p

  abbrev xs : List Living
  xs = living s.below p

  abbrev bs : List Living
  bs = own_backs (own_part s) p

  begins : (x : ClauseName) (r q : Reach) → Heads x (likely k (rest_at s p r)) (likely k (rest_at s p q)) → Begins (whole s) x (likely k (rest_at s p r)) (likely k (rest_at s p q))
  begins x r q h = begins-from (whole s) x (likely k (rest_at s p r)) (likely k (rest_at s p q)) (known-filter (whole s) (fits k) (rest_at s p r) (rest-known s p r o un)) h

  -- own clauses in front
  pub front-next : (c : OwnCursor) (n : ℕ) → Some (named s.place n) ≡ next_like_of k (cursor_at s.place c) (own_fronts (own_part s) p) →
      Begins (whole s) (named s.place n) (likely k (rest_at s p (Front c))) (likely k (rest_at s p (Front (OwnCursor.After n))))
  front-next c n e =
      let x = named s.place n in
      let zs = base_rest s p Cursor.Start in
      let cur = cursor_at s.place c in
      begins x (Front c) (Front (OwnCursor.After n))
      (heads-as x (likely k (rest cur fs) ++ likely k zs) (likely k (past x fs) ++ likely k zs) (likely k (rest cur fs ++ zs)) (likely k (past x fs ++ zs))
      (filter-append (fits k) (rest cur fs) zs) (filter-append (fits k) (past x fs) zs)
      (heads-append x (likely k (rest cur fs)) (likely k (past x fs)) (likely k zs) (heads-rest (fits k) cur x fs (apart-fronts s p o un) e)))

  pub front-over : (c : OwnCursor) → None ≡ next_like_of k (cursor_at s.place c) (own_fronts (own_part s) p) → likely k (rest_at s p (Front c)) ≡ likely k (base_rest s p Cursor.Start)
  front-over c e =
      let cur = cursor_at s.place c in
      filter-append (fits k) (rest cur fs) (base_rest s p Cursor.Start) ∙ ap (λ l. l ++ likely k (base_rest s p Cursor.Start)) (none-head (likely k (rest cur fs)) e)

  -- own clauses behind
  pub back-next : (c : OwnCursor) (n : ℕ) → Some (named s.place n) ≡ next_like_of k (cursor_at s.place c) (own_backs (own_part s) p) →
      Begins (whole s) (named s.place n) (likely k (rest_at s p (Back c))) (likely k (rest_at s p (Back (OwnCursor.After n))))
  back-next c n e = begins (named s.place n) (Back c) (Back (OwnCursor.After n)) (heads-rest (fits k) (cursor_at s.place c) (named s.place n) bs (apart-backs s p o un) e)

  -- clauses of the journal
  split : (c : Cursor) → likely k (base_rest s p c) ≡ not_erased s.on_top (likely k (rest c xs)) ++ likely k bs
  split c = filter-append (fits k) (not_erased s.on_top (rest c xs)) bs ∙ ap (λ l. l ++ likely k bs) (filter-turn (fits k) (λ x. not (erased_in (Committed x.name) s.on_top)) (rest c xs))

  found-head : (c : Cursor) (x : ClauseName) → Some x ≡ next_like_of k c (living s.below p) → Heads x (likely k (rest c (living s.below p))) (likely k (past x (living s.below p)))
  found-head c x e = heads-rest (fits k) c x xs (apart-alive p s.below o) e

  pub base-next : (c : Cursor) (x : ClauseName) → Some x ≡ next_like_of k c (living s.below p) → erased_in (Committed x) s.on_top ≡ false →
      Begins (whole s) x (likely k (rest_at s p (Base c))) (likely k (rest_at s p (Base (Cursor.After x))))
  base-next c x e h =
      let ys = likely k (rest c xs) in
      let zs = likely k (past x xs) in
      begins x (Base c) (Base (Cursor.After x))
      (heads-as x (not_erased s.on_top ys ++ likely k bs) (not_erased s.on_top zs ++ likely k bs) (likely k (base_rest s p c)) (likely k (base_rest s p (Cursor.After x))) (split c) (split (Cursor.After x))
      (heads-append x (not_erased s.on_top ys) (not_erased s.on_top zs) (likely k bs) (heads-kept (λ y. not (erased_in (Committed y) s.on_top)) x ys zs (ap not h) (found-head c x e))))

  pub base-erased : (c : Cursor) (x : ClauseName) → Some x ≡ next_like_of k c (living s.below p) → erased_in (Committed x) s.on_top ≡ true →
      likely k (base_rest s p c) ≡ likely k (base_rest s p (Cursor.After x))
  base-erased c x e h =
      split c ∙ ap (λ l. l ++ likely k bs) (heads-dropped (λ y. not (erased_in (Committed y) s.on_top)) x (likely k (rest c xs)) (likely k (past x xs)) (ap not h) (found-head c x e))
      ∙ sym (split (Cursor.After x))

  pub base-fewer : (c : Cursor) (x : ClauseName) → Some x ≡ next_like_of k c (living s.below p) → length (likely k (past x (living s.below p))) < length (likely k (rest c (living s.below p)))
  base-fewer c x e = heads-fewer x (likely k (rest c xs)) (likely k (past x xs)) (found-head c x e)

  pub base-over : (c : Cursor) → None ≡ next_like_of k c (living s.below p) → likely k (base_rest s p c) ≡ likely k (rest_at s p (Back OwnCursor.Start))
  base-over c e = split c ∙ ap (λ l. not_erased s.on_top l ++ likely k bs) (none-head (likely k (rest c xs)) e)

pub none-there : (k : Key) (c : Cursor) → next_like_of k c [] ≡ None
none-there k Cursor.Start = refl
none-there k (Cursor.After x) = refl

-- where none that is seen puts a clause in front
pub front-none : (s : Sight) (p : Indicator) (k : Key) → own_fronts (own_part s) p ≡ [] → Ordered s.below → AllUnder s.place s.below → (c : OwnCursor) → likely k (rest_at s p (Front c)) ≡ likely k (base_rest s p Cursor.Start)
front-none s p k none o un c =
    let cur = cursor_at s.place c in
    front-over s p k o un c (sym (ap (next_like_of k cur) none ∙ none-there k cur))

-- where no own update is seen
module _ (s : Sight) (p : Indicator) (k : Key) (without : WithoutOwn s) where
  pub back-none : (c : OwnCursor) → likely k (rest_at s p (Back c)) ≡ []
  back-none c =
      let cur = cursor_at s.place c in
      none-head (likely k (rest_at s p (Back c))) (sym (ap (λ own. next_like_of k cur (own_backs (stamped s.place 0 own) p)) without ∙ ap (next_like_of k cur) (no-backs s.place p) ∙ none-there k cur))

-- what is told of a list is told of the same list
pub says-same : (s : Sight) (p : Indicator) (k : Key) (us vs : List Living) (step : Step) → vs ≡ us → IsStepOf s p k us step → IsStepOf s p k vs step
says-same s p k us vs step e h = subst (λ l. IsStepOf s p k l step) (sym e) h
