-- The calls of a source and a sink in memory, worked on small inputs.
use Rattle.std.proofs.Common.{◌≡◌, ◌^◌, ◌-◌, [], ◌∷◌, codes, Ok, refl, arith}
use Rattle.plio.specs.Causes.{count_up}
use Rattle.plio.specs.Memory.{MemoryInput, MemoryOutput, failure, read_answer, after_read, memory_left, memory_after, write_answer, after_write}
use Rattle.plio.specs.Turns.{room_behind, no_turn, one_more, TookByTurns, TookThenNone}

-- five bytes in pieces of four, of which the second call fails
abbrev start : MemoryInput
start = record { left = codes "abcde"; piece = 4; fails = 2 ∷ []; calls = 0; faults = 0 }

first_read : read_answer start 9 ≡ Ok 4
first_read = refl

second_read : read_answer (after_read start 9) 9 ≡ failure
second_read = refl

third_read : read_answer (after_read (after_read start 9) 9) 9 ≡ Ok 1
third_read = refl

one_fault : (after_read (after_read (after_read start 9) 9) 9).faults ≡ 1
one_fault = refl

small_buffer : (after_read start 2).left ≡ codes "cde"
small_buffer = refl

abbrev empty : MemoryOutput
empty = record { bytes = []; room = 3; fails = []; calls = 0; faults = 0 }

-- a write takes what fits, and one that finds no room fails
takes_what_fits : write_answer empty 5 ≡ Ok 3
takes_what_fits = refl

is_full : write_answer (after_write empty (codes "abcde")) 1 ≡ failure
is_full = refl

nothing_into_full : write_answer (after_write empty (codes "abcde")) 0 ≡ Ok 0
nothing_into_full = refl

stays_at_its_end : count_up (2 ^ 64 - 1) ≡ 2 ^ 64 - 1
stays_at_its_end = refl

-- the buffer has room for one byte more than the limit, and no more than 4,096
first_room : room_behind 16777216 0 ≡ 4096
first_room = refl

last_room : room_behind 16777216 16777216 ≡ 1
last_room = refl

-- five bytes in pieces of four: a turn gives four of them, another the last one, and a third none
abbrev whole : MemoryInput
whole = record { left = codes "abcde"; piece = 4; fails = []; calls = 0; faults = 0 }

three_turns : TookThenNone memory_left memory_after 9 whole 5 (record { left = []; piece = 4; fails = []; calls = 3; faults = 0 })
three_turns = (
  record { left = []; piece = 4; fails = []; calls = 2; faults = 0 },
  (2, one_more (one_more no_turn (omega arith) (refl, (codes "abcd", refl, refl))) (omega arith) (refl, (codes "e", refl, refl))),
  (refl, ([], refl, refl)),
)

-- a limit of four is passed at the second turn
too_long : TookByTurns memory_left memory_after 4 whole 5 (record { left = []; piece = 4; fails = []; calls = 2; faults = 0 })
too_long = (2, one_more (one_more no_turn (omega arith) (refl, (codes "abcd", refl, refl))) (omega arith) (refl, (codes "e", refl, refl)))
