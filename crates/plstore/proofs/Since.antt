-- Since when a procedure is named.
use Rattle.std.proofs.Common.{◌≡◌, refl, sym, ◌∙◌, ap, ap₂, arith, ℕ, Bool, true, false, cond, List, [], ◌∷◌, ◌++◌, Option, Some, None, nat_lt}
use Rattle.std.specs.Prelude.{◌||◌, ◌&&◌}
use Rattle.std.specs.List.{list_any}
use Rattle.std.proofs.lemmas.Bool.Decides.{nat_tests}
use Rattle.plterm.specs.declared.indicator.Indicator.{Indicator}
use Rattle.plterm.specs.Indicators.{same_indicator}
use Rattle.plclause.specs.Clause.{Clause}
use Rattle.plevent.specs.declared.update.ClauseName.{ClauseName}
use Rattle.plevent.specs.Alive.{Stamped, names, change_if, is_of}
use Rattle.plrecords.specs.declared.ends.Ends.{Ends}
use Rattle.plrecords.specs.declared.record.Record.{Record}
use Rattle.plrecords.specs.declared.record.Declared.{Declared}
use Rattle.plrecords.specs.Kept.{Kept, is_there, keep, made, changed_where, declared_names, erase_at, is_named, record_names}
use Rattle.plstore.specs.Plan.{put_update}
use Rattle.plrecords.specs.Links.{earlier, ends_after, since_below}
use Rattle.plstore.proofs.Same.{same-is}
use Rattle.plstore.proofs.Whole.{there-keep, any-erased}

since-or : (s b g : ℕ) → nat_lt (change_if (nat_lt s b) s b) g ≡ nat_lt s g || nat_lt b g
since-or s b g = by-test (nat_lt s b) refl
  where
    by-test : (v : Bool) → nat_lt s b ≡ v → nat_lt (change_if v s b) g ≡ nat_lt s g || nat_lt b g
    by-test true e = grind (arith, nat_tests)
    by-test false e = grind (arith, nat_tests)

earlier-below : (o : Option ℕ) (b g : ℕ) → since_below g (earlier o b) ≡ since_below g o || nat_lt b g
earlier-below None b g = refl
earlier-below (Some s) b g = since-or s b g

pub since-grown : (f : Bool) (n b : ℕ) (e : Ends) → (ends_after f n b e).since ≡ earlier e.since b
since-grown true n b e = refl
since-grown false n b e = refl

-- an update that names q, where the entry of q takes note of its place
pub since-kept : (q : Indicator) (k k' : Kept) (s : Stamped) (d : Ends) (E E' : Indicator → Ends) → ((p : Indicator) (g : ℕ) → since_below g (E p).since ≡ is_there g p k) →
    ((p : Indicator) → E' p ≡ cond (same_indicator q p) d (E p)) → d.since ≡ earlier (E q).since s.at.place → ((p : Indicator) → names p s.update ≡ same_indicator q p) → k' ≡ keep k s →
    (p : Indicator) (g : ℕ) → since_below g (E' p).since ≡ is_there g p k'
since-kept q k k' s d E E' old law noted named kept p g =
    ap (λ (e : Ends). since_below g e.since) (law p) ∙ by-case (same_indicator q p) refl
    ∙ ap₂ (λ u v. u || (nat_lt s.at.place g && v)) (old p g) (sym (named p)) ∙ sym (there-keep g p k s) ∙ ap (is_there g p) (sym kept)
  where
    and-true : (u : Bool) → u ≡ u && true
    and-true true = refl
    and-true false = refl

    or-and-false : (u w : Bool) → u ≡ u || (w && false)
    or-and-false true w = refl
    or-and-false false true = refl
    or-and-false false false = refl

    by-case : (v : Bool) → same_indicator q p ≡ v → since_below g (cond v d (E p)).since ≡ since_below g (E p).since || (nat_lt s.at.place g && v)
    by-case true e = ap (since_below g) noted ∙ earlier-below (E q).since s.at.place g ∙ ap₂ (λ u w. u || w) (ap (λ z. since_below g (E z).since) (same-is q p e)) (and-true (nat_lt s.at.place g))
    by-case false e = or-and-false (since_below g (E p).since) (nat_lt s.at.place g)

-- a clause that is put names its procedure
pub put-names : (f : Bool) (c : Clause) (p : Indicator) → names p (put_update f c) ≡ is_of p c
put-names true c p = refl
put-names false c p = refl

pub put-kept : (f : Bool) (x : ClauseName) (c : Clause) (rs : List Record) (ds : List Declared) (rs' : List Record) → rs' ≡ rs ++ made x c f ∷ [] →
    record { records = rs'; declared = ds } ≡ keep (record { records = rs; declared = ds }) (record { at = x; update = put_update f c })
put-kept true x c rs ds rs' e = ap (λ rs. record { records = rs; declared = ds }) e
put-kept false x c rs ds rs' e = ap (λ rs. record { records = rs; declared = ds }) e

-- an erasure names none
pub since-erased : (p : Indicator) (g : ℕ) (y : ClauseName) (b : ℕ) (rs rs' : List Record) (ds : List Declared) → rs' ≡ changed_where (is_named y) (erase_at b) rs →
    is_there g p (record { records = rs; declared = ds }) ≡ is_there g p (record { records = rs'; declared = ds })
since-erased p g y b rs rs' ds e = ap (λ v. v || list_any (declared_names g p) ds) (sym (any-erased g p b y rs) ∙ ap (list_any (record_names g p)) (sym e))
