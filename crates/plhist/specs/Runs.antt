-- The runs of all threads.
use Rattle.std.specs.Prelude.{◌≡◌, ℕ, List, [], ◌∷◌, map}
use Rattle.plevent.specs.declared.act.Entry.{Entry}
use Rattle.plevent.specs.Reading.{reading}
use Rattle.plevent.specs.Search.{Search}
use Rattle.plhist.specs.declared.history.Run.{Run}
use Rattle.plhist.specs.Follows.{Follows}

-- each run follows the search of its thread
abbrev pub AllFollow : (ℕ → Search) → ℕ → List Entry → List Run → Type 0
AllFollow search limit h [] = Unit {0}
AllFollow search limit h (run ∷ runs) = Follows (search run.thread) limit h run × AllFollow search limit h runs

-- exactly one run for each thread that was created, by rising number
abbrev pub OneEach : List Entry → List Run → Type 0
OneEach h runs = map (λ run. run.thread) runs ≡ map (λ x. x.number) (reading h).standing.threads
