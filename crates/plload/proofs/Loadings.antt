-- What is next, from what a clause comes to.
use Rattle.std.proofs.Common.{ℕ, ◌+◌, ◌<◌, ◌≤◌, List, length, Result, Ok, Err, IfOk, sym, subst, arith}
use Rattle.std.specs.declared.alloc.AllocError.{AllocError}
use Rattle.pllex.specs.declared.token.Token.{Token}
use Rattle.pllex.specs.Tokens.{IsClause}
use Rattle.plread.specs.Refusals.{start_of}
use Rattle.plload.specs.declared.next.Next.{Next}
use Rattle.plload.specs.declared.next.Next.TheVariants as nexts
use Rattle.plprogram.specs.declared.settings.Settings.{Settings}
use Rattle.plload.specs.Meaning.{Meaning, Adds, Runs as RunsGoal, Declares, Operates, Sets, Passes, Refused}
use Rattle.plload.specs.Draft.{Draft, with_meaning}
use Rattle.plload.specs.Loading.{IsNext, Follows, Stops, Moves, unread}

pub next_follows : (text : List ℕ) (from : ℕ) (s : Settings) (ts : List Token) (after : ℕ) (next : Next) → IsClause text from ts after → Follows text s ts after next → IsNext text from s next
next_follows text from s ts after nexts.Over h f = absurd f
next_follows text from s ts after (nexts.Stops place kind) h (e, k, none) =
    subst (λ p. Stops text from s p kind) (sym e) (subst (λ q. Stops text from s (start_of ts) q) (sym k) (unread (record { clause = h; term = none })))
next_follows text from s ts after (nexts.Reads t first end) h (e, some, f) =
    (ts, record { clause = subst (λ a. IsClause text from ts a) (sym e) h; term = some }, f)

pub next_result : (text : List ℕ) (from : ℕ) (s : Settings) (ts : List Token) (after : ℕ) (r : Result Next AllocError) → IsClause text from ts after → IfOk r (Follows text s ts after) → IfOk r (IsNext text from s)
next_result text from s ts after (Ok next) h f = next_follows text from s ts after next h f
next_result text from s ts after (Err e) h f = tt

-- a clause that was passed moves on
pub moves_result : (text : List ℕ) (from : ℕ) (s : Settings) (ts : List Token) (after : ℕ) (r : Result Next AllocError) → from < after → after ≤ length text → IfOk r (Follows text s ts after) → IfOk r (Moves from (length text))
moves_result text from s ts after (Ok next) h k f = moves_next from s ts after next h k f where
  moves_next : (from : ℕ) (s : Settings) (ts : List Token) (after : ℕ) (next : Next) → from < after → after ≤ length text → Follows text s ts after next → Moves from (length text) next
  moves_next from s ts after nexts.Over h k f = tt
  moves_next from s ts after (nexts.Stops place kind) h k f = tt
  moves_next from s ts after (nexts.Reads t first end) h k f = (omega (arith, f.0, h), omega (arith, f.0, k))
moves_result text from s ts after (Err e) h k f = tt

-- a clause or directive counts once at most
pub counts_once : (d : Draft) (m : Meaning) → (with_meaning d m).directives ≤ d.directives + 1
counts_once d (Adds c) = omega arith
counts_once d (RunsGoal goal) = omega arith
counts_once d (Declares ps) = omega arith
counts_once d (Operates priority kind names) = omega arith
counts_once d (Sets flag) = omega arith
counts_once d Passes = omega arith
counts_once d (Refused kind) = omega arith
