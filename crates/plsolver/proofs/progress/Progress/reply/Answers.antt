use Rattle.std.proofs.Common.{ap, ◌∙◌, refl}
use Rattle.plsolver.specs.Solver.{after_reply}
use Rattle.plsolver.proofs.Waiting.{asks-request, replied, replied-of}
use Rattle.plsolver.proofs.progress.Progress.reply.Goals as goal

pub next_of-next-requires : goal.next_of-next-requires
next_of-next-requires c = (c.requires.fits.0, asks-request c.args.self.now c.requires.fits.0 c.in-Ask.question c.requires.fits.1 c.in-Ask.is)

pub returns-clause-ok : goal.returns-clause-ok
returns-clause-ok c P b =
    let s = c.args.self.now in
    λ v. replied P v s _ c.in-Ask.question c.args.reply c.requires.fits c.in-Ask.is refl refl (ap (λ m. record s.machine { mode = m }) (c.mode_after.ensures ∙ ap (after_reply c.args.reply) c.next_of-next.ensures))

pub returns-clause-of : goal.returns-clause-of
returns-clause-of c P b =
    let s = c.args.self.now in
    replied-of P s _ c.in-Ask.question c.args.reply c.in-Ask.is b (ap (λ m. record s.machine { mode = m }) (c.mode_after.ensures ∙ ap (after_reply c.args.reply) c.next_of-next.ensures))
