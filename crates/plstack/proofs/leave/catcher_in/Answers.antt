use Rattle.std.proofs.Common.{◌++◌, ◌∷◌, [], arith, refl, take, Option, None, Some, IfNone}
use Rattle.plstack.proofs.Leaving.{catcher-last, catcher-here}
use Rattle.plstack.proofs.leave.catcher_in.Goals as goal

pub overflow_sub-cases_above : goal.overflow_sub-cases_above
overflow_sub-cases_above c = omega (arith, c.cases_above.ensures, c.requires.level)

pub returns-clause-level : goal.returns-clause-level
returns-clause-level c = omega (arith, c.cases_above.ensures, c.requires.level, c.if-cases_above-inside.false)

none-of : {A : Type 0} {P : Type 0} (o : Option A) → P → IfNone o P
none-of None p = p
none-of (Some x) p = tt

pub returns-in_err-inside-clause-none : goal.returns-in_err-inside-clause-none
returns-in_err-inside-clause-none c = none-of c.from_residual.result (λ i m inside at deep.
    c.in_err-inside.ensures.none inside (take i c.args.frames.now ++ at.catcher ∷ []) (catcher-last c.args.frames.now i m inside at))

pub returns-in_err-marks-clause-none : goal.returns-in_err-marks-clause-none
returns-in_err-marks-clause-none c = none-of c.from_residual-in_err-marks.result (λ i m inside at deep.
    c.in_err-marks.ensures.none m (catcher-here c.args.frames.now i m inside at _ _ refl c.index-frames-at.is))
