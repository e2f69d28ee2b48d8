-- An evaluation on its way: the operations that wait, the innermost one last, and what it is about to do.
use Rattle.std.specs.Prelude.{◌≡◌, ℕ, suc, ◌+◌, ◌*◌, ◌<◌, List, [], ◌∷◌, ◌++◌, Ok, Err}
use Rattle.plterm.specs.Tree.{Tree}
use Rattle.plcells.specs.Walking.{weight}
use Rattle.plarith.specs.declared.operand.Operand.{Operand}
use Rattle.plarith.specs.declared.evaluate.Frame.{Frame}
use Rattle.plarith.specs.declared.evaluate.Frame.TheVariants.{One, Left, Right}
use Rattle.plarith.specs.declared.evaluate.Step.{Step}
use Rattle.plarith.specs.declared.evaluate.Step.TheVariants.{Into, Back, Ends}
use Rattle.plarith.specs.Errors.{Evaluated}
use Rattle.plarith.specs.Evaluation.{eval, with_one, with_two}

-- an operation that waits, once its operand comes to this
abbrev pub resumed : (Operand → Tree) → Frame → Evaluated → Evaluated
resumed w (One f) r = with_one f r
resumed w (Left f p) r = with_two f r (eval (w p))
resumed w (Right f x) r = with_two f (Ok x) r

abbrev pub finished : (Operand → Tree) → List Frame → Evaluated → Evaluated
finished w [] r = r
finished w (f ∷ fs) r = resumed w f (finished w fs r)

-- what the whole comes to
abbrev pub outcome_of : (Operand → Tree) → List Frame → Step → Evaluated
outcome_of w fs (Into p) = finished w fs (eval (w p))
outcome_of w fs (Back x) = finished w fs (Ok x)
outcome_of w fs (Ends r) = r

-- what follows once an operand comes to this
abbrev pub follows : Evaluated → Step
follows (Ok x) = Back x
follows (Err e) = Ends (Err e)

-- the operands that wait
abbrev pub waiting : List Frame → List Operand
waiting [] = []
waiting (One f ∷ fs) = waiting fs
waiting (Left f p ∷ fs) = p ∷ waiting fs
waiting (Right f x ∷ fs) = waiting fs

-- those that are not looked at so far
abbrev pub ahead : List Frame → Step → List Operand
ahead fs (Into p) = waiting fs ++ p ∷ []
ahead fs (Back x) = waiting fs
ahead fs (Ends r) = waiting fs

-- a bound on the steps that are left
abbrev pub frame_bound : (Operand → Tree) → Frame → ℕ
frame_bound w (One f) = 1
frame_bound w (Left f p) = 3 * weight (w p) + 1
frame_bound w (Right f x) = 1

abbrev pub frames_bound : (Operand → Tree) → List Frame → ℕ
frames_bound w [] = 0
frames_bound w (f ∷ fs) = frame_bound w f + frames_bound w fs

abbrev pub step_bound : (Operand → Tree) → List Frame → Step → ℕ
step_bound w fs (Into p) = 3 * weight (w p) + frames_bound w fs
step_bound w fs (Back x) = suc (frames_bound w fs)
step_bound w fs (Ends r) = 0

-- a step of an evaluation
pub record Goes (w : Operand → Tree) (before after : List Frame) (from to : Step) : Type 0 where
  pub same : outcome_of w after to ≡ outcome_of w before from
  pub nearer : step_bound w after to < step_bound w before from
