-- The turns by which a source is read whole.
use Rattle.std.specs.Prelude.{◌≡◌, ℕ, suc, ◌+◌, ◌-◌, ◌<◌, min, List, Option, IfSome}
use Rattle.plio.specs.Causes.{TookCount}

-- the buffer of a turn behind so many bytes: of 4,096 bytes, or of what is left of one more than the limit
abbrev pub room_behind : ℕ → ℕ → ℕ
room_behind limit taken = min 4096 (limit + 1 - taken)

-- One read with this room took so many bytes. What is left of a source, and what it is after a read, it may not tell.
abbrev pub OneTurn : {A : Type 0} → (A → Option (List ℕ)) → (A → ℕ → Option A) → ℕ → A → ℕ → A → Type 0
OneTurn left after room old n new = IfSome (after old room) (λ s. new ≡ s) × TookCount (left old) (left new) n

-- so many turns took so many bytes in all, each at least one
pub data ByTurns {A : Type 0} (left : A → Option (List ℕ)) (after : A → ℕ → Option A) (limit : ℕ) (old : A) : ℕ → ℕ → A → Type 0 where
  no_turn : ByTurns left after limit old 0 0 old
  one_more : {turns n m : ℕ} {s new : A} →
      ByTurns left after limit old turns n s → 0 < m → OneTurn left after (room_behind limit n) s m new → ByTurns left after limit old (suc turns) (n + m) new

-- so many bytes were taken by turns
abbrev pub TookByTurns : {A : Type 0} → (A → Option (List ℕ)) → (A → ℕ → Option A) → ℕ → A → ℕ → A → Type 0
TookByTurns left after limit old n new = (turns : ℕ) × ByTurns left after limit old turns n new

-- and then none
abbrev pub TookThenNone : {A : Type 0} → (A → Option (List ℕ)) → (A → ℕ → Option A) → ℕ → A → ℕ → A → Type 0
TookThenNone {A} left after limit old n new = (s : A) × TookByTurns left after limit old n s × OneTurn left after (room_behind limit n) s 0 new
