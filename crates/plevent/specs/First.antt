-- The first element that passes a test, and a change of it alone.
use Rattle.std.specs.Prelude.{◌≡◌, ℕ, ◌<◌, Bool, List, length, slice_set, slice_index_or}
use Rattle.plevent.specs.Reading.{changed_first}

abbrev pub NoneFirst : {A : Type 0} → (A → Bool) → List A → Type 0
NoneFirst {A} test xs = (f : A → A) → changed_first test f xs ≡ xs

pub record FirstAt {A : Type 0} (test : A → Bool) (xs : List A) (i : ℕ) : Type 0 where
  pub within : i < length xs
  pub changed : (f : A → A) (d : A) → changed_first test f xs ≡ slice_set xs i (f (slice_index_or xs i d))
