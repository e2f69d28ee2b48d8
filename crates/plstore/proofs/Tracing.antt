-- Steps that lead back to nothing.
use Rattle.std.specs.Prelude.{ℕ, suc, List, [], ◌∷◌, ◌++◌, reverse, nat_eq, Bool, cond}
use Rattle.std.proofs.Common.{◌≡◌, sym, ◌∙◌, ap, ap₂, subst, arith}
use Rattle.std.proofs.lemmas.List.{reverse-append}
use Rattle.plterm.specs.Indicators.{same_indicator}
use Rattle.plevent.specs.declared.update.Update.{Update}
use Rattle.plevent.specs.Alive.{named}
use Rattle.plrecords.specs.declared.ends.Ends.{Ends}
use Rattle.plrecords.specs.declared.links.Links.{Links}
use Rattle.plstore.specs.declared.tables.Tables.{Tables}
use Rattle.plstore.specs.declared.trail.Change.{Change}
use Rattle.plstore.specs.declared.trail.Step.{Step}
use Rattle.plstore.specs.declared.trail.Traced.{Traced}
use Rattle.plstore.specs.Cut.{cut}
use Rattle.plrecords.specs.Kept.{Kept, keep}
use Rattle.plrecords.specs.Rising.{IsRising}
use Rattle.plstore.specs.Tables.{kept_in, Chained, IsStored}
use Rattle.plrecords.specs.Undone.{SameLinks, IsLonger, WasAt, WasRecord}
use Rattle.plstore.specs.Trail.{SameTables, WasBefore, IsReady, IsStep, IsTraced, LeadsBack, IsBelowPlace}
use Rattle.plrecords.proofs.Backward.{had-same, more-same, same-join}
use Rattle.plstore.proofs.Classes.{chained-same}
use Rattle.plstore.proofs.Cutting.{cut-above, cut-below, cut-places, cut-wider}
use Rattle.plstore.proofs.Search.{order-keep, order-start}

pub kept-same : (t u : Tables) → SameTables t u → kept_in u ≡ kept_in t
kept-same t u same = ap₂ (λ rs ds. record { records = rs; declared = ds }) same.records same.declared

pub stored-same : (t u : Tables) → SameTables t u → IsStored t → IsStored u
stored-same t u same was = record { rising = subst IsRising (sym same.records) was.rising; chained = chained-same t u same was.chained }

-- what was before tables was before others that have the same
links-same : (a b c : Links) → SameLinks a b → SameLinks b c → SameLinks a c
links-same a b c h k = record { next = k.next ∙ h.next; runs = same-join a.places.items b.places.items c.places.items h.runs k.runs }

longer-same : (f : Bool) (e : Ends) (a b c : Links) → IsLonger f e a b → SameLinks b c → IsLonger f e a c
longer-same f e a b c h k = record { next = (h.next.0, k.next ∙ h.next.1); last = h.last; runs = more-same a.places.items b.places.items c.places.items h.runs k.runs }

at-same : {K : Type 0} (eq : K → K → Bool) (key : K) (d : Ends) (a b c : K → Ends) → WasAt eq key d a b → ((k : K) → c k ≡ b k) → WasAt eq key d a c
at-same eq key d a b c h k = record {
  each = λ x. h.each x ∙ ap (cond (eq key x) d) (sym (k x));
  named = λ e. h.named (ap (λ (e : Ends). e.since) (sym (k key)) ∙ e);
}

before-same : (ch : Change) (a t u : Tables) → WasBefore ch a t → SameTables t u → WasBefore ch a u
before-same (Change.Put key l) a t u h same = record {
  last = h.last;
  records = same.records ∙ h.records;
  declared = same.declared ∙ h.declared;
  by_procedure = longer-same h.last.front l.by_procedure a.by_procedure t.by_procedure u.by_procedure h.by_procedure same.by_procedure;
  index = at-same same_indicator key l.by_procedure _ _ _ h.index same.index;
  by_slot = longer-same h.last.front l.by_slot a.by_slot t.by_slot u.by_slot h.by_slot same.by_slot;
  slots = at-same nat_eq l.slot l.by_slot _ _ _ h.slots same.slots;
  unkeyed = λ e. h.unkeyed (same.unkeyed e);
}
before-same (Change.Erased e) a t u h same = record {
  records = subst (WasRecord e.number a.records.items) (sym same.records) h.records;
  declared = same.declared ∙ h.declared;
  by_procedure = record { next = same.by_procedure.next ∙ h.by_procedure.next; runs = (h.by_procedure.runs.0, h.by_procedure.runs.1, had-same e.by_procedure.before _ _ _ h.by_procedure.runs.2 same.by_procedure.runs) };
  index = λ p. same.index p ∙ h.index p;
  by_slot = record { next = same.by_slot.next ∙ h.by_slot.next; runs = (h.by_slot.runs.0, h.by_slot.runs.1, had-same e.by_slot.before _ _ _ h.by_slot.runs.2 same.by_slot.runs) };
  slots = λ n. same.slots n ∙ h.slots n;
  unkeyed = λ e. h.unkeyed (same.unkeyed e);
}
before-same (Change.Declared key e) a t u h same = record {
  last = h.last;
  records = same.records ∙ h.records;
  declared = same.declared ∙ h.declared;
  by_procedure = links-same a.by_procedure t.by_procedure u.by_procedure h.by_procedure same.by_procedure;
  index = at-same same_indicator key e _ _ _ h.index same.index;
  by_slot = links-same a.by_slot t.by_slot u.by_slot h.by_slot same.by_slot;
  slots = λ n. same.slots n ∙ h.slots n;
  unkeyed = λ e. h.unkeyed (same.unkeyed e);
}

pub leads-same : (ss : List Step) (t u : Tables) → SameTables t u → LeadsBack ss t → LeadsBack ss u
leads-same [] t u same back = kept-same t u same ∙ back
leads-same (s ∷ ss) t u same back =
    let step : IsStep s back.0 t = back.1 in (
      back.0,
      record {
        stored = step.stored;
        change = before-same s.change back.0 t u step.change same;
        kept = step.kept ∙ ap (cut s.place) (sym (kept-same t u same));
        top = ap (cut (suc s.place)) (kept-same t u same) ∙ step.top ∙ sym (kept-same t u same);
      },
      back.2,
    )

pub traced-same : (t u : Traced) → SameTables t.tables u.tables → u.trail.items ≡ t.trail.items → IsTraced t → IsTraced u
traced-same t u same trail was = record {
  stored = stored-same t.tables u.tables same was.stored;
  back = subst (λ ss. LeadsBack (reverse ss) u.tables) (sym trail) (leads-same (reverse t.trail.items) t.tables u.tables same was.back);
}

-- one more step
pub rising-more : (b : ℕ) (u : Update) (k : Kept) → IsRising k.records → cut b k ≡ k → IsRising (keep k (record { at = named b 0; update = u })).records
rising-more b u k up above = (order-keep b 0 u k.records (order-start b k.records up (cut-places b k above))).rising

pub step-more : (b : ℕ) (ch : Change) (u : Update) (old new : Tables) → IsStored old → cut b (kept_in old) ≡ kept_in old → WasBefore ch old new → kept_in new ≡ keep (kept_in old) (record { at = named b 0; update = u }) →
    IsStep (record { place = b; change = ch }) old new
step-more b ch u old new stored above was made = record {
  stored = stored;
  change = was;
  kept = sym (ap (cut b) made ∙ cut-above b (kept_in old) (record { at = named b 0; update = u }) (omega arith) ∙ above);
  top = ap (cut (suc b)) made ∙ cut-below (suc b) (kept_in old) (record { at = named b 0; update = u }) (omega arith) (cut-wider (suc b) b (kept_in old) (omega arith) above) ∙ sym made;
}

pub traced-note : (b : ℕ) (ch : Change) (u : Update) (t v : Traced) (new : Tables) → IsTraced t → cut b (kept_in t.tables) ≡ kept_in t.tables → WasBefore ch t.tables new → Chained new →
    kept_in new ≡ keep (kept_in t.tables) (record { at = named b 0; update = u }) → v.tables ≡ new → v.trail.items ≡ t.trail.items ++ record { place = b; change = ch } ∷ [] → IsTraced v
traced-note b ch u t v new traced above was chained made tables trail =
    let s : Step = record { place = b; change = ch } in
    let stored : IsStored new = record { rising = subst IsRising (ap (λ (k : Kept). k.records) (sym made)) (rising-more b u (kept_in t.tables) traced.stored.rising above); chained = chained } in
    let step : IsStep s t.tables new = step-more b ch u t.tables new traced.stored above was made in
    record {
      stored = subst IsStored (sym tables) stored;
      back = subst (λ ss. LeadsBack ss v.tables) (sym (ap reverse trail ∙ reverse-append t.trail.items (s ∷ []))) (t.tables, subst (IsStep s t.tables) (sym tables) step, traced.back);
    }

-- a step is taken back
pub ready : (ch : Change) (old new : Tables) → WasBefore ch old new → IsReady ch new
ready (Change.Put key l) old new h = (h.index.named, h.slots.named)
ready (Change.Erased e) old new h = h.records.0
ready (Change.Declared key e) old new h = h.index.named

pub leads-last : (s : Step) (ss ts : List Step) (t : Tables) → ts ≡ ss ++ s ∷ [] → LeadsBack (reverse ts) t → (old : Tables) × IsStep s old t × LeadsBack (reverse ss) old
leads-last s ss ts t e back = subst (λ ss. LeadsBack ss t) (ap reverse e ∙ reverse-append ss (s ∷ [])) back

pub all-below : (g : ℕ) (ss : List Step) (t : Tables) → IsBelowPlace g ss → LeadsBack ss t → cut g (kept_in t) ≡ kept_in t
all-below g [] t h back = ap (cut g) back ∙ sym back
all-below g (s ∷ ss) t h back = cut-wider g (suc s.place) (kept_in t) (omega arith) back.1.top
