-- A turn of reading a text: where it is refused, and where it goes on.
use Rattle.std.proofs.Common.{◌≡◌, ℕ, List, Some, None, sym, ap, subst, ◌∙◌}
use Rattle.plterm.specs.Tree.{Tree}
use Rattle.plload.specs.declared.error.RefusalKind.{RefusalKind}
use Rattle.plload.specs.declared.error.LoadError.{LoadError}
use Rattle.plload.specs.declared.error.LoadError.TheVariants.{Refused}
use Rattle.plload.specs.declared.next.Next.TheVariants as nexts
use Rattle.plprogram.specs.declared.settings.Settings.{Settings}
use Rattle.plload.specs.Meaning.{Meaning, meaning}
use Rattle.plprogram.specs.Settings.{iso_settings}
use Rattle.plload.specs.Taking.{Taken, Takes, Refuses as Judged, taken, Answers}
use Rattle.plload.specs.Position.{line_of, column_of}
use Rattle.plload.specs.Loading.{IsNext, Stops, refused, Goes, Ending, Fails, Runs, stops}
use Rattle.plload.specs.Told.{Tells}
use Rattle.plload.proofs.Once.{refused_at}

answers_bad : (x : Taken) (new : Settings) (kind : RefusalKind) → Answers x new (Some kind) → x ≡ Judged kind
answers_bad (Takes s) new kind h = absurd h
answers_bad (Judged k) new kind h = ap Judged (sym h)

answers_good : (x : Taken) (new : Settings) → Answers x new None → x ≡ Takes new
answers_good (Takes s) new h = ap Takes (sym h)
answers_good (Judged k) new h = absurd h

module _ (text : List ℕ) (from : ℕ) (s new : Settings) (t : Tree) (first after : ℕ) (m : Meaning) where
  pub bad : (kind : RefusalKind) → IsNext text from s (nexts.Reads t first after) → m ≡ meaning t → Answers (taken s m) new (Some kind) → Stops text from s first kind
  bad kind (ts, reads, f) is h = subst (λ p. Stops text from s p kind) (sym f) (refused reads (ap (taken s) (sym is) ∙ answers_bad (taken s m) new kind h))

  pub good : IsNext text from s (nexts.Reads t first after) → m ≡ meaning t → Answers (taken s m) new None → Goes text from s t after new
  good (ts, reads, f) is h = record { tokens = ts; reads = reads; takes = ap (taken s) (sym is) ∙ answers_good (taken s m) new h }

-- a refusal tells of the whole text
pub told : {A : Type 0} (add : A → Settings → Tree → A) (start : A) (text : List ℕ) (from : ℕ) (s : Settings) (a : A) (place : ℕ) (kind : RefusalKind) (e : LoadError) →
    ((end : Ending A) → Runs add text from s a end → Runs add text 0 iso_settings start end) → Stops text from s place kind →
    e ≡ Refused (line_of text place) (column_of text place) kind → Tells text e
told {A} add start text from s a place kind e ends h is =
    let fails : Ending A = Fails place kind in
    subst (Tells text) (sym is) (refused_at add start text place kind (ends fails (stops h)))
