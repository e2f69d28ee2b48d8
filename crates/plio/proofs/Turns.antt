-- Turns of reading a source, one more, and those of a source in memory.
use Rattle.std.proofs.Common.{◌≡◌, ◌≤◌, ◌<◌, ◌+◌, ◌-◌, ◌^◌, ℕ, suc, min, Bool, true, false, nat_lt, List, length, length-append, take, drop, cond, IfSome, subst, length-take, Option, refl, sym, ap, ◌∙◌, arith}
use Rattle.std.specs.Io.KnownBytes.{Consumes}
use Rattle.std.proofs.lemmas.Bool.{ltb-true, ltb-false}
use Rattle.plio.specs.Causes.{count_up, TookCount}
use Rattle.plio.specs.Memory.{MemoryInput, next_fails, given_count, after_read, memory_left, memory_after}
use Rattle.plio.specs.Turns.{room_behind, OneTurn, ByTurns, no_turn, one_more, TookByTurns}

one_call : (s : MemoryInput) (room : ℕ) → (after_read s room).calls ≡ count_up s.calls
one_call s room = by (next_fails s.fails s.calls) where
  by : (b : Bool) → (cond b (record s { calls = count_up s.calls; faults = count_up s.faults }) (record s { calls = count_up s.calls; left = drop (given_count s room) s.left })).calls ≡ count_up s.calls
  by true = refl
  by false = refl

pub few_turns : (limit : ℕ) (old : MemoryInput) (turns n : ℕ) (new : MemoryInput) → ByTurns memory_left memory_after limit old turns n new → turns ≤ n
few_turns limit old turns n new no_turn = omega arith
few_turns limit old turns n new (one_more {turns = before} {n = taken} {s} h some turn) = omega (arith, few_turns limit old before taken s h)

pub as_many_calls : (limit : ℕ) (old : MemoryInput) → old.calls < 2 ^ 64 → (turns n : ℕ) (new : MemoryInput) → ByTurns memory_left memory_after limit old turns n new → new.calls ≡ min (old.calls + turns) (2 ^ 64 - 1)
as_many_calls limit old small turns n new no_turn = omega arith
as_many_calls limit old small turns n new (one_more {turns = before} {n = taken} {s} h some turn) =
    let one : new.calls ≡ count_up s.calls = ap (λ (x : MemoryInput). x.calls) turn.0 ∙ one_call s (room_behind limit taken) in
    omega (arith, one, as_many_calls limit old small before taken s h)

-- ---- a source in memory is read in one way

-- what a turn took is what is missing
took : (old new : MemoryInput) (n : ℕ) → TookCount (memory_left old) (memory_left new) n → n + length new.left ≡ length old.left
took old new n (bytes, are, count) = omega (arith, ap length are, length-append bytes new.left, count)

record OneState (n m : ℕ) (new other : MemoryInput) : Type 0 where
  count : n ≡ m
  state : new ≡ other

one_state : (limit : ℕ) (old : MemoryInput) (turns n m : ℕ) (new other : MemoryInput) → ByTurns memory_left memory_after limit old turns n new → ByTurns memory_left memory_after limit old turns m other → OneState n m new other
one_state limit old turns n m new other no_turn no_turn = record { count = refl; state = refl }
one_state limit old turns n m new other (one_more {turns = before} {n = first} {m = k} {s} h some turn) (one_more {n = second} {m = l} {s = r} j more next) =
    let same = one_state limit old before first second s r h j in
    let state : new ≡ other = turn.0 ∙ ap (λ x. after_read x (room_behind limit first)) same.state ∙ ap (λ x. after_read r (room_behind limit x)) same.count ∙ sym next.0 in
    record {
      count = omega (arith, same.count, took s new k turn.1, took r other l next.1, ap (λ (x : MemoryInput). length x.left) same.state, ap (λ (x : MemoryInput). length x.left) state);
      state = state;
    }

-- the first so many of the turns
record First (limit : ℕ) (old : MemoryInput) (turns total n : ℕ) : Type 0 where
  count : ℕ
  state : MemoryInput
  are : ByTurns memory_left memory_after limit old turns count state
  fewer : count + (total - turns) ≤ n

first_turns : (limit : ℕ) (old : MemoryInput) (turns total n : ℕ) (new : MemoryInput) → turns ≤ total → ByTurns memory_left memory_after limit old total n new → First limit old turns total n
first_turns limit old turns total n new within no_turn =
    let none : 0 ≡ turns = omega arith in
    record { count = 0; state = old; are = subst (λ k. ByTurns memory_left memory_after limit old k 0 old) none no_turn; fewer = omega arith }
first_turns limit old turns total n new within (one_more {turns = before} {n = taken} {m} {s} h some turn) = at (nat_lt before turns) refl (λ fewer. first_turns limit old turns before taken s fewer h) where
  at : (b : Bool) → nat_lt before turns ≡ b → (turns ≤ before → First limit old turns before taken) → First limit old turns (suc before) (taken + m)
  at true e next =
      let all : suc before ≡ turns = omega (arith, ltb-true before turns e) in
      record { count = taken + m; state = new; are = subst (λ k. ByTurns memory_left memory_after limit old k (taken + m) new) all (one_more h some turn); fewer = omega arith }
  at false e next =
      let r = next (ltb-false before turns e) in
      record { count = r.count; state = r.state; are = r.are; fewer = omega (arith, r.fewer, ltb-false before turns e) }

no_fewer : (limit : ℕ) (old : MemoryInput) (turns others n : ℕ) (new other : MemoryInput) → turns ≤ others → ByTurns memory_left memory_after limit old turns n new → ByTurns memory_left memory_after limit old others n other → turns ≡ others
no_fewer limit old turns others n new other within h j =
    let r = first_turns limit old turns others n other within j in
    omega (arith, r.fewer, (one_state limit old turns n r.count new r.state h r.are).count)

pub one_way : (limit : ℕ) (old : MemoryInput) (turns others n : ℕ) (new other : MemoryInput) → ByTurns memory_left memory_after limit old turns n new → ByTurns memory_left memory_after limit old others n other → (turns ≡ others) × (new ≡ other)
one_way limit old turns others n new other h j = at (nat_lt turns others) refl where
  as_many : turns ≡ others → (turns ≡ others) × (new ≡ other)
  as_many e = (e, (one_state limit old others n n new other (subst (λ k. ByTurns memory_left memory_after limit old k n new) e h) j).state)

  at : (b : Bool) → nat_lt turns others ≡ b → (turns ≡ others) × (new ≡ other)
  at true e = as_many (no_fewer limit old turns others n new other (omega (arith, ltb-true turns others e)) h j)
  at false e = as_many (sym (no_fewer limit old others turns n other new (ltb-false turns others e) j h))

-- one turn more, which gave the front of a buffer with the turn's room
pub grown : {A : Type 0} (left : A → Option (List ℕ)) (after : A → ℕ → Option A) (limit : ℕ) (old s new : A) (n m total room : ℕ) (buf : List ℕ) → TookByTurns left after limit old n s → 0 < m → m ≤ length buf →
    Consumes (left s) (left new) (take m buf) → IfSome (after s room) (λ x. new ≡ x) → room ≡ room_behind limit n → total ≡ n + m → TookByTurns left after limit old total new
grown left after limit old s new n m total room buf h some within bytes told is_room is_total =
    let turn : OneTurn left after (room_behind limit n) s m new = (subst (λ r. IfSome (after s r) (λ x. new ≡ x)) is_room told, (take m buf, bytes, omega (arith, length-take m buf))) in
    (suc h.0, subst (λ k. ByTurns left after limit old (suc h.0) k new) (sym is_total) (one_more h.1 some turn))

-- before the first turn
pub begun : {A : Type 0} (left : A → Option (List ℕ)) (after : A → ℕ → Option A) (limit : ℕ) (old : A) (n : ℕ) → n ≡ 0 → TookByTurns left after limit old n old
begun left after limit old n e = (0, subst (λ k. ByTurns left after limit old 0 k old) (sym e) no_turn)
