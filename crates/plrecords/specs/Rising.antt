-- Records whose names rise, and where a name stands in them.
use Rattle.std.specs.Prelude.{◌≡◌, ℕ, ◌<◌, ◌≤◌, ◌≢◌, Bool, true, false, ◌||◌, ◌&&◌, List, [], ◌∷◌, length, nat_eq, nat_lt, slice_index_or}
use Rattle.plevent.specs.declared.update.ClauseName.{ClauseName}
use Rattle.plevent.specs.Alive.{Stamped}
use Rattle.plrecords.specs.declared.record.Record.{Record}
use Rattle.plrecords.specs.Kept.{is_named}

abbrev pub less : ClauseName → ClauseName → Bool
less x y = nat_lt x.place y.place || (nat_eq x.place y.place && nat_lt x.number y.number)

abbrev pub IsRising : List Record → Type 0
IsRising rs = (i j : ℕ) (d : Record) → i < j → j < length rs → less (slice_index_or rs i d).name (slice_index_or rs j d).name ≡ true

abbrev pub NoneIs : ClauseName → List Record → Type 0
NoneIs x rs = (k : ℕ) (d : Record) → k < length rs → is_named x (slice_index_or rs k d) ≡ false

pub record OneIs (x : ClauseName) (rs : List Record) (i : ℕ) : Type 0 where
  pub within : i < length rs
  pub here : (d : Record) → is_named x (slice_index_or rs i d) ≡ true
  pub others : (k : ℕ) (d : Record) → k < length rs → k ≢ i → is_named x (slice_index_or rs k d) ≡ false

-- each record's name is below x
abbrev pub AllBelow : ClauseName → List Record → Type 0
AllBelow x rs = (k : ℕ) (d : Record) → k < length rs → less (slice_index_or rs k d).name x ≡ true

-- each record's place is below b
abbrev pub AllBelowPlace : ℕ → List Record → Type 0
AllBelowPlace b rs = (k : ℕ) (d : Record) → k < length rs → (slice_index_or rs k d).name.place < b

pub record InOrder (x : ClauseName) (rs : List Record) : Type 0 where
  pub rising : IsRising rs
  pub below : AllBelow x rs

-- places that do not fall, from b on
abbrev pub Rises : ℕ → List Stamped → Type 0
Rises b [] = Unit {0}
Rises b (s ∷ ss) = (b ≤ s.at.place) × Rises s.at.place ss

-- each place is below g
abbrev pub AllUnder : ℕ → List Stamped → Type 0
AllUnder g [] = Unit {0}
AllUnder g (s ∷ ss) = (s.at.place < g) × AllUnder g ss

-- each update's name is above x
abbrev pub AllAfter : ClauseName → List Stamped → Type 0
AllAfter x [] = Unit {0}
AllAfter x (s ∷ ss) = (less x s.at ≡ true) × AllAfter x ss

-- updates whose names rise
abbrev pub Ordered : List Stamped → Type 0
Ordered [] = Unit {0}
Ordered (s ∷ ss) = AllAfter s.at ss × Ordered ss
