-- What the calls of a resumable search say of it. Limits of steps count from the start of its thread.
use Rattle.std.specs.Prelude.{◌≡◌, ℕ, ◌≤◌, List, [], ◌∷◌}
use Rattle.plevent.specs.Search.{Item, Answer, Wants, Finishes, Search}
use Rattle.plevent.specs.declared.request.ThreadEnd.{ThreadEnd}

-- it is at the start of the search
abbrev pub Begins : Search → Search → ℕ → Type 0
Begins search rest used = (used ≡ 0) × ((n : ℕ) (answers : List Answer) → search n answers ≡ rest n answers)

-- the rest of the search stays, whatever the limit and the answers to come; no step is undone, and none is taken beyond the limit
abbrev pub Goes : ℕ → Search → ℕ → Search → ℕ → Type 0
Goes limit old before new used =
    (before ≤ used) × (before ≤ limit → used ≤ limit) × ((n : ℕ) (answers : List Answer) → used ≤ n → old n answers ≡ new n answers)

-- the next answer is taken, without a step
abbrev pub TakesOne : Answer → Search → ℕ → Search → ℕ → Type 0
TakesOne a old before new used = (used ≡ before) × ((n : ℕ) (answers : List Answer) → used ≤ n → old n (a ∷ answers) ≡ new n answers)

-- it waits for the answer to an item, whatever the limit
abbrev pub StandsAt : Item → Search → ℕ → List ℕ → Type 0
StandsAt q rest used out = (n : ℕ) → used ≤ n → rest n [] ≡ record { next = Wants q; used = used; out = out }

-- it has ended, also where no more steps than those taken are allowed, and ignores all answers
abbrev pub EndsAt : ℕ → ThreadEnd → Search → ℕ → List ℕ → Type 0
EndsAt limit e rest used out =
    ((answers : List Answer) → rest used answers ≡ record { next = Finishes e; used = used; out = out })
    × ((answers : List Answer) → rest limit answers ≡ record { next = Finishes e; used = used; out = out })
