use Rattle.std.proofs.Common.{◌≡◌, ◌∙◌, sym, subst, ap, ap₂, arith}
use Rattle.std.specs.Prelude.{nat_eq}
use Rattle.plterm.specs.declared.indicator.Indicator.{Indicator}
use Rattle.plterm.specs.Indicators.{same_indicator}
use Rattle.plevent.specs.Alive.{is_of}
use Rattle.plstore.specs.Chains.{IsChain}
use Rattle.plrecords.specs.declared.ends.Ends.{Ends}
use Rattle.plrecords.specs.Kept.{is_there}
use Rattle.plrecords.specs.Links.{ends_in, no_ends, since_below}
use Rattle.plrecords.specs.Rising.{IsRising}
use Rattle.plrecords.specs.Slots.{in_slot}
use Rattle.plstore.specs.Tables.{AreKeyed}
use Rattle.plstore.proofs.Classes.{chain-empty}
use Rattle.plstore.proofs.Slotted.{keyed-none}
use Rattle.plstore.proofs.tables.Tables.new.Goals as goal

pub returns-clause-stored : goal.returns-clause-stored
returns-clause-stored c =
    let none = sym c.new-2.ensures.items in
    let ends : (p : Indicator) → ends_in same_indicator c.new-4.result p ≡ no_ends = λ p. search in
    record {
      rising = subst IsRising none (λ i j d l h. absurd (omega (arith, h)));
      chained = record {
        procedures = λ p. subst (λ rs. IsChain (is_of p) rs c.new-5.result (ends_in same_indicator c.new-4.result p)) none
            (chain-empty (is_of p) c.new-5.result (ends_in same_indicator c.new-4.result p) c.new-5.ensures.next c.new-5.ensures.places (ends p));
        slots = λ n. subst (λ rs. IsChain (in_slot n) rs c.new-7.result (ends_in nat_eq c.new-6.result n)) none
            (chain-empty (in_slot n) c.new-7.result (ends_in nat_eq c.new-6.result n) c.new-7.ensures.next c.new-7.ensures.places search);
        since = λ p g. ap (λ (e : Ends). since_below g e.since) (ends p) ∙ sym (ap₂ (λ rs ds. is_there g p (record { records = rs; declared = ds })) c.new-2.ensures.items c.new-3.ensures.items);
        keyed = λ e. subst AreKeyed none keyed-none;
      };
    }
