use Rattle.std.proofs.Common.{sym, subst}
use Rattle.plops.specs.Given.{iso_table}
use Rattle.plhist.specs.Report.{report_text}
use Rattle.plhist.specs.Status.{status_of}
use Rattle.plwords.specs.declared.form.Form.TheVariants.{Run}
use Rattle.plcommand.specs.Outcome.{Makes, IsRunOf, ran}
use Rattle.plcommand.proofs.command.run_answer.Goals as goal

pub returns-clause-says : goal.returns-clause-says
returns-clause-says c =
    let h = c.in_ok-history.history in
    let steps = c.args.steps in
    let run : IsRunOf c.in_ok-program.program steps h = record { legal = c.in_ok-history.ensures.legal; workers = c.in_ok-history.ensures.worker; over = c.in_ok-history.ensures.over; each = c.in_ok-history.ensures.each; follow = c.in_ok-history.ensures.follow } in
    record {
      output = report_text iso_table h;
      makes = subst (Makes c.args.text.now (Run steps c.args.goal) c.told_of.result.history (report_text iso_table h)) (sym c.told_of.ensures.status)
          (subst (λ o. Makes c.args.text.now (Run steps c.args.goal) o (report_text iso_table h) (status_of h.journal)) (sym c.told_of.ensures.history)
          (ran c.in_ok-loaded.ensures.accepted c.in_ok-whole.ensures (subst (λ p. IsRunOf p steps h) c.in_ok-program.ensures run)));
      is = c.told_of.ensures.report;
    }
