-- The operators of a text's settings are a table wherever it has come.
use Rattle.std.proofs.Common.{◌≡◌, ℕ, List, [], ◌∷◌, Option, Some, None, Result, Ok, Err, refl, subst}
use Rattle.plterm.specs.Tree.{Tree}
use Rattle.plops.specs.declared.operator.Kind.{Kind}
use Rattle.plops.specs.declared.table.Entry.{Entry}
use Rattle.plops.specs.declared.error.OpError.{OpError}
use Rattle.plops.specs.Changes.{added, refusal}
use Rattle.plops.specs.Checks.{IsTable}
use Rattle.plops.proofs.Kept.{table_added}
use Rattle.plprogram.specs.Changes.{unless, declared}
use Rattle.plprogram.specs.declared.change.Flag.TheVariants.{Quotes, Unknown}
use Rattle.plprogram.specs.declared.change.Refusal.{Refusal}
use Rattle.plprogram.specs.declared.settings.Settings.{Settings}
use Rattle.plload.specs.Meaning.{Meaning, Adds, Runs, Declares, Operates, Sets, Passes, Refused, meaning}
use Rattle.plload.specs.Taking.{Takes, with_operators, taken}
use Rattle.plload.specs.Loading.{judged}

-- behind names that are not refused stands a table
unless_table : (o : Option OpError) (name : List ℕ) (table : Result (List Entry) Refusal) (new : List Entry) → (o ≡ None → table ≡ Ok new → IsTable new) → unless o name table ≡ Ok new → IsTable new
unless_table None name table new f e = f refl e
unless_table (Some error) name table new f e = absurd cc

declared_table : (priority : ℕ) (kind : Kind) (names : List (List ℕ)) (old new : List Entry) → IsTable old → declared priority kind names old ≡ Ok new → IsTable new
declared_table priority kind [] old new h e = let same : old ≡ new = cc in subst IsTable same h
declared_table priority kind (name ∷ names) old new h e =
    unless_table (refusal priority kind name old) name (declared priority kind names (added priority kind name old)) new
    (λ free rest. declared_table priority kind names (added priority kind name old) new (table_added priority kind name old h free) rest) e

operators_table : (s new : Settings) (o : Result (List Entry) Refusal) → ((entries : List Entry) → o ≡ Ok entries → IsTable entries) → with_operators s o ≡ Takes new → IsTable new.operators
operators_table s new (Err r) f e = absurd cc
operators_table s new (Ok entries) f e =
    let same : record s { operators = entries } ≡ new = cc in
    subst (λ (z : Settings). IsTable z.operators) same (f entries refl)

same_table : (s old new : Settings) → IsTable old.operators → Takes old ≡ Takes new → IsTable new.operators
same_table s old new h e = let same : old ≡ new = cc in subst (λ (z : Settings). IsTable z.operators) same h

taken_table : (s new : Settings) (m : Meaning) → IsTable s.operators → taken s m ≡ Takes new → IsTable new.operators
taken_table s new (Adds c) h e = same_table s s new h e
taken_table s new (Runs goal) h e = same_table s s new h e
taken_table s new (Declares ps) h e = same_table s s new h e
taken_table s new (Operates priority kind names) h e = operators_table s new (declared priority kind names s.operators) (λ entries k. declared_table priority kind names s.operators entries h k) e
taken_table s new (Sets (Quotes quotes)) h e = same_table s (record s { quotes = quotes }) new h e
taken_table s new (Sets (Unknown unknown)) h e = same_table s (record s { unknown = unknown }) new h e
taken_table s new Passes h e = same_table s s new h e
taken_table s new (Refused kind) h e = absurd cc

pub judged_table : (s new : Settings) (t : Tree) → IsTable s.operators → judged s t ≡ Takes new → IsTable new.operators
judged_table s new t h e = taken_table s new (meaning t) h e
