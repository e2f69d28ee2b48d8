-- What is kept of the batches below a place, of what is kept of all.
use Rattle.std.specs.Prelude.{ℕ, map, filter, nat_lt, Option, Some, None}
use Rattle.plevent.specs.Alive.{change_if}
use Rattle.plrecords.specs.declared.record.Record.{Record}
use Rattle.plrecords.specs.Kept.{Kept}

-- an erasure, where it is below g
abbrev pub erased_below : ℕ → Option ℕ → Option ℕ
erased_below g None = None
erased_below g (Some e) = change_if (nat_lt e g) (Some e) None

abbrev pub restored : ℕ → Record → Record
restored g r = record r { erased = erased_below g r.erased }

-- the clauses and declarations below g, and of each clause its erasure, where that is below g too
abbrev pub cut : ℕ → Kept → Kept
cut g k = record { records = map (restored g) (filter (λ r. nat_lt r.name.place g) k.records); declared = filter (λ d. nat_lt d.place g) k.declared }
