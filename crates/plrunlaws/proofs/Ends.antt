-- The last entry of a run tells of its end.
use Rattle.std.proofs.Common.{◌≡◌, ℕ, [], ◌∷◌, ◌++◌, take, Some, sym, ap, ◌∙◌}
use Rattle.plevent.specs.declared.request.ThreadEnd.{ThreadEnd}
use Rattle.plevent.specs.declared.request.Reply.{Reply}
use Rattle.plevent.specs.Reading.{Reading, reading}
use Rattle.plevent.specs.Rows.{row, served}
use Rattle.plevent.specs.Search.{Ask, Got}
use Rattle.plhist.specs.Follows.{Taken, replied, last_of}
use Rattle.plrunlaws.specs.Standing.{started, act_of, EndsWithItsEnd}
use Rattle.plrunlaws.proofs.Items.{none-some, the-same, answer-is}
use Rattle.plrunlaws.proofs.Served.{served-as}
use Rattle.plrunlaws.proofs.Lists.{last-same}

-- a last request that is answered Done makes the entry of the end
pub done-makes : (e : ThreadEnd) (t : ℕ) (r : Reading) (g : ℕ) (s s' : Taken) → replied (served (last_of e) t r) g s ≡ Some s' → s'.answers ≡ s.answers ++ Got Reply.Done ∷ [] → s'.made ≡ s.made ++ (g, act_of e) ∷ []
done-makes e t r g s s' is told =
    served-as (last_of e) t r (λ x. replied x g s ≡ Some s' → s'.made ≡ s.made ++ (g, act_of e) ∷ [])
    (λ is. absurd (unlike (last-same s.answers s.answers (Got Reply.Stopped) (Got Reply.Done) (ap (λ s. s.answers) (the-same _ s' is) ∙ told))))
    (λ is. none-some s' is)
    (λ may goes. rows e) is
  where
    unlike : Got Reply.Stopped ≡ Got Reply.Done → ⊥
    unlike is = cc

    rows : (e : ThreadEnd) → replied (row (last_of e) t r) g s ≡ Some s' → s'.made ≡ s.made ++ (g, act_of e) ∷ []
    rows ThreadEnd.True is = ap (λ s. s.made) (sym (the-same _ s' is))
    rows ThreadEnd.False is = ap (λ s. s.made) (sym (the-same _ s' is))
    rows (ThreadEnd.Exception b) is = ap (λ s. s.made) (sym (the-same _ s' is))
    rows ThreadEnd.Budget is = ap (λ s. s.made) (sym (the-same _ s' is))
    rows (ThreadEnd.Halt n) is = ap (λ s. s.made) (sym (the-same _ s' is))

pub ends-with-its-end : EndsWithItsEnd
ends-with-its-end f =
    let a = f.ended.asked in
    let answered = (answer-is f.journal f.run.thread (Ask (last_of f.came_to)) a.final a.before a.last a.finished).1 in
    a.entries ∙ ap (started f) (done-makes f.came_to f.run.thread (reading (take a.final f.journal)) a.final a.before a.last answered a.told)

pub ruleset laws = (ends-with-its-end)
