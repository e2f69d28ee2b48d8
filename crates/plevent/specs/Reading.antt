-- What a journal says: a fold over its entries.
use Rattle.std.specs.Prelude.{ℕ, suc, Bool, true, false, List, [], ◌∷◌, ◌++◌, fold, nat_eq, Option, Some, None}
use Rattle.plevent.specs.declared.update.Update.{Update}
use Rattle.plevent.specs.declared.act.Act.{Act}
use Rattle.plevent.specs.declared.act.Entry.{Entry}
use Rattle.plevent.specs.declared.standing.Thread.{Thread}
use Rattle.plevent.specs.declared.standing.Standing.{Standing}
use Rattle.plevent.specs.Alive.{Stamped, stamped, change_if}

pub record Reading : Type 0 where
  -- the updates of all batches, in order, each with its own name
  pub updates : List Stamped
  -- the rest
  pub standing : Standing

-- the first element that passes a test is changed
abbrev pub changed_first : {A : Type 0} → (A → Bool) → (A → A) → List A → List A
changed_first test f [] = []
changed_first test f (x ∷ xs) = change_if (test x) (f x ∷ xs) (x ∷ changed_first test f xs)

abbrev pub is_thread : ℕ → Thread → Bool
is_thread n t = nat_eq t.number n

abbrev pub new_thread : ℕ → Option (List ℕ) → Thread
new_thread n alias = record { number = n; alias = alias; goal = None; worker = None; ended = None; left = false }

-- the threads after an act of thread t, by worker w
abbrev pub threads_after : ℕ → ℕ → Act → List Thread → List Thread
threads_after w t Act.Start ts = changed_first (is_thread t) (λ x. record x { worker = Some w }) ts
threads_after w t (Act.Batch us) ts = ts
threads_after w t (Act.End e) ts = changed_first (is_thread t) (λ x. record x { ended = Some e }) ts
threads_after w t (Act.Halt n) ts = ts
threads_after w t Act.Left ts = changed_first (is_thread t) (λ x. record x { left = true }) ts

-- the number with which the run was ended, after an act; the first one counts
abbrev pub halted_after : Act → Option ℕ → Option ℕ
halted_after Act.Start n = n
halted_after (Act.Batch us) n = n
halted_after (Act.End e) n = n
halted_after (Act.Halt m) None = Some m
halted_after (Act.Halt m) (Some n) = Some n
halted_after Act.Left n = n

-- an entry without a batch counts as one with an empty batch
abbrev pub updates_of : Act → List Update
updates_of Act.Start = []
updates_of (Act.Batch us) = us
updates_of (Act.End e) = []
updates_of (Act.Halt n) = []
updates_of Act.Left = []

-- what stands after one more entry
abbrev pub stand : Standing → Entry → Standing
stand r e = record { size = suc r.size; threads = threads_after e.worker e.thread e.act r.threads; halted = halted_after e.act r.halted }

abbrev pub read : Reading → Entry → Reading
read r e = record { updates = r.updates ++ stamped r.standing.size 0 (updates_of e.act); standing = stand r.standing e }

-- the alias of thread 1
abbrev pub main : List ℕ
main = 109 ∷ 97 ∷ 105 ∷ 110 ∷ []

-- before any entry: main is created, and not started
abbrev pub blank : Reading
blank = record { updates = []; standing = record { size = 0; threads = new_thread 1 (Some main) ∷ []; halted = None } }

unfoldable pub reading : List Entry → Reading
reading entries = fold read blank entries
