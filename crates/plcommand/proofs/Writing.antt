-- What writing a text comes to.
use Rattle.std.proofs.Common.{◌≡◌, ℕ, List, Option, [], inl, refl, sym, subst, append-nil}
use Rattle.std.specs.Io.KnownBytes.{Appends}
use Rattle.plhist.specs.declared.status.Status.{Status}
use Rattle.plcommand.specs.Outcome.{Wrote}

-- all of it was written
pub wrote_whole : (before now : Option (List ℕ)) (faults later : ℕ) (text : List ℕ) (whole : Status) →
    Appends before now text → Wrote before now faults later text whole whole
wrote_whole before now faults later text whole all = record { part = (text, [], sym (append-nil text), all); ends = inl (refl, all) }

-- the same of another spelling of the text and of the status
pub wrote_same : (before now : Option (List ℕ)) (faults later : ℕ) (a b : List ℕ) (s t status : Status) →
    a ≡ b → s ≡ t → Wrote before now faults later a s status → Wrote before now faults later b t status
wrote_same before now faults later a b s t status e f w =
    subst (λ x. Wrote before now faults later b x status) f (subst (λ x. Wrote before now faults later x s status) e w)
