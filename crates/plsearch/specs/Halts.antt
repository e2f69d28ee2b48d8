-- How a search ends the run.
use Rattle.std.specs.Prelude.{◌≡◌, ℕ, List, [], ◌∷◌, ◌++◌}
use Rattle.plevent.specs.declared.request.ThreadEnd.{ThreadEnd}
use Rattle.plevent.specs.declared.request.Request.{Request}
use Rattle.plevent.specs.declared.request.Reply.{Reply}
use Rattle.plevent.specs.Search.{Ask, Answer, Seen, Got, Wants, Finishes, Search}

-- views, batches that were published, and erasures: nothing that ends the run is done
abbrev pub IsCommon : Answer → Type 0
IsCommon (Seen g us) = Unit {0}
IsCommon (Got Reply.Published) = Unit {0}
IsCommon (Got Reply.Erased) = Unit {0}
IsCommon (Got Reply.Gone) = Unit {0}
IsCommon (Got r) = ⊥

abbrev pub AreCommon : List Answer → Type 0
AreCommon [] = Unit {0}
AreCommon (a ∷ more) = IsCommon a × AreCommon more

-- a search that asks to end the run has ended so once that is done
abbrev pub HaltsWhenDone : Search → Type 0
HaltsWhenDone search = (n i : ℕ) (answers : List Answer) → AreCommon answers → (search n answers).next ≡ Wants (Ask (Request.HaltRun i)) →
    (search n (answers ++ Got Reply.Done ∷ [])).next ≡ Finishes (ThreadEnd.Halt i)

-- and not before that is done
abbrev pub HaltsNoSooner : Search → Type 0
HaltsNoSooner search = (n i : ℕ) (answers : List Answer) → AreCommon answers → (search n answers).next ≡ Finishes (ThreadEnd.Halt i) → ⊥
