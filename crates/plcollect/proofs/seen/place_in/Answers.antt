use Rattle.std.proofs.Common.{arith}
use Rattle.std.proofs.lemmas.Bool.{eq-eqb, eqb-true}
use Rattle.plcollect.proofs.Numbering.{place-low}
use Rattle.plcollect.proofs.Seeing.{place-here, place-on}
use Rattle.plcollect.proofs.seen.place_in.Goals as goal

pub returns-then-few-i : goal.returns-then-few-i
returns-then-few-i c = place-here c.args.number 0 c.args.few.now c.loop-i.i c.loop-i.invariant (omega (arith, c.loop-i-test.true)) (eq-eqb _ _ c.if-few-i.true)

pub loop-i-preserved : goal.loop-i-preserved
loop-i-preserved c = place-on c.args.number 0 c.args.few.now c.loop-i.i c.loop-i.invariant (omega (arith, c.loop-i-test.true)) (λ same. c.if-few-i.false (eqb-true _ _ same))

pub returns : goal.returns
returns c = omega (arith, c.loop-i.invariant, c.loop-i-test.false, place-low c.args.number c.args.few.now)
