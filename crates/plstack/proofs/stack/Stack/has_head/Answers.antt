use Rattle.std.proofs.Common.{refl}
use Rattle.plstack.proofs.Heads.{extends-trans}
use Rattle.plstack.proofs.Reopening.{unchanged-extends, unchanged-stack}
use Rattle.plstack.proofs.Stacks.{inside}
use Rattle.plstack.proofs.stack.Stack.has_head.Goals as goal

pub invariant_of-self : goal.invariant_of-self
invariant_of-self c =
    let s = inside c.self.inside in
    unchanged-stack s c.self.inside.depth c.self.invariant c.fits_head.new.env s.links c.fits_head.ensures.env (record { env = c.fits_head.ensures.same; names = c.fits_head.ensures.keeps.names; same = refl })

pub returns-clause-stays : goal.returns-clause-stays
returns-clause-stays c =
    let s = inside c.self.inside in
    extends-trans c.args.self.now c.marks-marks.new.self _ c.marks-marks.ensures.stays
    (rw (← c.self.view_is) (unchanged-extends s c.self.inside.depth c.self.invariant c.fits_head.new.env s.links c.fits_head.ensures.env (record { env = c.fits_head.ensures.same; names = c.fits_head.ensures.keeps.names; same = refl })))
