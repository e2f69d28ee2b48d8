-- What the code holds, as the machine's state.
use Rattle.std.specs.Prelude.{◌≡◌, ℕ, List, [], ◌∷◌, Result, Ok, Err}
use Rattle.std.specs.List.{fold}
use Rattle.std.specs.declared.alloc.AllocError.{AllocError}
use Rattle.plterm.specs.Tree.{Tree}
use Rattle.plread.specs.declared.frame.Frame.{Frame}
use Rattle.plread.specs.declared.frame.Frame.TheVariants as frames
use Rattle.plread.specs.declared.reader.Reader.{Reader}
use Rattle.plread.specs.declared.reader.ReadStep.{ReadStep}
use Rattle.plread.specs.declared.reader.ReadStep.TheVariants as turns
use Rattle.plread.specs.Words.{Lexicon, name_at}
use Rattle.plread.specs.Signs.{Sign}
use Rattle.plread.specs.Levels.{Level}
use Rattle.plread.specs.Levels as levels
use Rattle.plread.specs.Looks.{view}
use Rattle.plread.specs.Machine.{State, After, Goes, Done, Fails}

abbrev pub level_view : Lexicon → Frame → Level
level_view words frames.Bracket = levels.Bracket
level_view words frames.Curly = levels.Curly
level_view words (frames.Elements k) = levels.Elements k
level_view words (frames.Tail k) = levels.Tail k
level_view words (frames.Call n k) = levels.Call (name_at words n) k
level_view words (frames.Before n op) = levels.Before (name_at words n) op
level_view words (frames.Between n op) = levels.Between (name_at words n) op

-- the open levels, the innermost first
abbrev pub stack_view : Lexicon → List Frame → List Level
stack_view words frames = fold (λ stack f. level_view words f ∷ stack) [] frames

abbrev pub state_view : Lexicon → Reader → State
state_view words r = record { room = r.room; stack = stack_view words r.stack.items; trees = r.terms; given = r.given; left = view words r.left.now }

-- What a turn gave is the machine's step, unless memory ran out.
abbrev pub Turned : ReadStep → State → After → Type 0
Turned turns.Goes s after = after ≡ Goes s
Turned turns.Done s after = after ≡ Done s.trees
Turned turns.Fails s after = after ≡ Fails

abbrev pub Stepped : Result ReadStep AllocError → State → After → Type 0
Stepped (Ok turn) s after = Turned turn s after
Stepped (Err e) s after = Unit {0}

-- a turn from one state of the code to another gave what the machine gives from the room, the open levels, the
-- trees and the signs that were left
abbrev pub Gives : Lexicon → Result ReadStep AllocError → Reader → Reader → (ℕ → List Level → List Tree → List Sign → After) → Type 0
Gives words result old new machine =
    Stepped result (state_view words new) (machine old.room (stack_view words old.stack.items) old.terms (view words old.left.now))
