use Rattle.std.proofs.Common.{inr, sym, subst}
use Rattle.plhist.specs.declared.status.Status.{Status}
use Rattle.plcommand.specs.Outcome.{Makes, HasRun, IsWordsCause, IsReadCause}
use Rattle.plcommand.proofs.Refusals.{never_run, answers, has_run, was_written, Finished, not_unread, finished, whole_written, faulted, if_some, is_none, words_refused, words_unread, words_no_answer, words_complete}
use Rattle.plcommand.proofs.command.prolog_command.Goals as goal

pub returns-in-Ok-answer_for-clause-usage : goal.returns-in-Ok-answer_for-clause-usage
returns-in-Ok-answer_for-clause-usage g c =
    let a = c.in-Ok-answer_for.answer in
    let says = c.in-Ok-answer_for.ensures.answer in
    let before = g.S.Source.left c.args.program.now in
    let now = g.S.Source.left c.answer_for.new.source in
    let holds = g.K.Sink.holds c.args.out.now in
    let held = g.K.Sink.holds c.write_report.new.out in
    let faults = g.K.Sink.faults c.args.out.now in
    let later = g.K.Sink.faults c.write_report.new.out in
    let form = c.in-Ok.form in
    let asks = c.in-Ok.ensures.asks in
    let good = answers says.0 form a.history says.2.output a.status says.2.makes in
    let wrote = c.write_report.ensures.wrote says.2.output says.2.is in
    λ e command. subst Finished e (finished holds held faults later says.2.output a.status c.write_report.result.status good wrote)

pub returns-in-Ok-answer_for-clause-refused : goal.returns-in-Ok-answer_for-clause-refused
returns-in-Ok-answer_for-clause-refused g c = λ never. absurd (never (c.in-Ok.form, c.in-Ok.ensures.asks.0, c.in-Ok.ensures.asks.1))

pub returns-in-Ok-answer_for-clause-unread : goal.returns-in-Ok-answer_for-clause-unread
returns-in-Ok-answer_for-clause-unread g c = λ never. absurd (never (c.in-Ok.form, c.in-Ok.ensures.asks.0, c.in-Ok.ensures.asks.1))

pub returns-in-Ok-answer_for-clause-read : goal.returns-in-Ok-answer_for-clause-read
returns-in-Ok-answer_for-clause-read g c =
    let a = c.in-Ok-answer_for.answer in
    let says = c.in-Ok-answer_for.ensures.answer in
    let before = g.S.Source.left c.args.program.now in
    let now = g.S.Source.left c.answer_for.new.source in
    let holds = g.K.Sink.holds c.args.out.now in
    let held = g.K.Sink.holds c.write_report.new.out in
    let faults = g.K.Sink.faults c.args.out.now in
    let later = g.K.Sink.faults c.write_report.new.out in
    let form = c.in-Ok.form in
    let asks = c.in-Ok.ensures.asks in
    let good = answers says.0 form a.history says.2.output a.status says.2.makes in
    let wrote = c.write_report.ensures.wrote says.2.output says.2.is in
    λ e. absurd (subst Finished e (finished holds held faults later says.2.output a.status c.write_report.result.status good wrote))

pub returns-in-Ok-answer_for-clause-long : goal.returns-in-Ok-answer_for-clause-long
returns-in-Ok-answer_for-clause-long g c =
    let a = c.in-Ok-answer_for.answer in
    let says = c.in-Ok-answer_for.ensures.answer in
    let before = g.S.Source.left c.args.program.now in
    let now = g.S.Source.left c.answer_for.new.source in
    let holds = g.K.Sink.holds c.args.out.now in
    let held = g.K.Sink.holds c.write_report.new.out in
    let faults = g.K.Sink.faults c.args.out.now in
    let later = g.K.Sink.faults c.write_report.new.out in
    let form = c.in-Ok.form in
    let asks = c.in-Ok.ensures.asks in
    let good = answers says.0 form a.history says.2.output a.status says.2.makes in
    let wrote = c.write_report.ensures.wrote says.2.output says.2.is in
    λ e. absurd (subst Finished e (finished holds held faults later says.2.output a.status c.write_report.result.status good wrote))

pub returns-in-Ok-answer_for-clause-silent : goal.returns-in-Ok-answer_for-clause-silent
returns-in-Ok-answer_for-clause-silent g c =
    let a = c.in-Ok-answer_for.answer in
    let says = c.in-Ok-answer_for.ensures.answer in
    let before = g.S.Source.left c.args.program.now in
    let now = g.S.Source.left c.answer_for.new.source in
    let holds = g.K.Sink.holds c.args.out.now in
    let held = g.K.Sink.holds c.write_report.new.out in
    let faults = g.K.Sink.faults c.args.out.now in
    let later = g.K.Sink.faults c.write_report.new.out in
    let form = c.in-Ok.form in
    let asks = c.in-Ok.ensures.asks in
    let good = answers says.0 form a.history says.2.output a.status says.2.makes in
    let wrote = c.write_report.ensures.wrote says.2.output says.2.is in
    λ unread. absurd (not_unread c.write_report.result.status (finished holds held faults later says.2.output a.status c.write_report.result.status good wrote) unread)

pub returns-in-Ok-answer_for-clause-unread_history : goal.returns-in-Ok-answer_for-clause-unread_history
returns-in-Ok-answer_for-clause-unread_history g c =
    let a = c.in-Ok-answer_for.answer in
    let says = c.in-Ok-answer_for.ensures.answer in
    let before = g.S.Source.left c.args.program.now in
    let now = g.S.Source.left c.answer_for.new.source in
    let holds = g.K.Sink.holds c.args.out.now in
    let held = g.K.Sink.holds c.write_report.new.out in
    let faults = g.K.Sink.faults c.args.out.now in
    let later = g.K.Sink.faults c.write_report.new.out in
    let form = c.in-Ok.form in
    let asks = c.in-Ok.ensures.asks in
    let good = answers says.0 form a.history says.2.output a.status says.2.makes in
    let wrote = c.write_report.ensures.wrote says.2.output says.2.is in
    λ unread. absurd (not_unread c.write_report.result.status (finished holds held faults later says.2.output a.status c.write_report.result.status good wrote) unread)

pub returns-in-Ok-answer_for-clause-history : goal.returns-in-Ok-answer_for-clause-history
returns-in-Ok-answer_for-clause-history g c =
    let a = c.in-Ok-answer_for.answer in
    let says = c.in-Ok-answer_for.ensures.answer in
    let before = g.S.Source.left c.args.program.now in
    let now = g.S.Source.left c.answer_for.new.source in
    let holds = g.K.Sink.holds c.args.out.now in
    let held = g.K.Sink.holds c.write_report.new.out in
    let faults = g.K.Sink.faults c.args.out.now in
    let later = g.K.Sink.faults c.write_report.new.out in
    let form = c.in-Ok.form in
    let asks = c.in-Ok.ensures.asks in
    let good = answers says.0 form a.history says.2.output a.status says.2.makes in
    let wrote = c.write_report.ensures.wrote says.2.output says.2.is in
    rw c.write_report.ensures.history (
    if_some (HasRun c.args.words.now before now) a.history (has_run c.args.words.now form before now says.0 a.history says.2.output a.status asks says.1 says.2.makes))

pub returns-in-Ok-answer_for-clause-answer : goal.returns-in-Ok-answer_for-clause-answer
returns-in-Ok-answer_for-clause-answer g c =
    let a = c.in-Ok-answer_for.answer in
    let says = c.in-Ok-answer_for.ensures.answer in
    let before = g.S.Source.left c.args.program.now in
    let now = g.S.Source.left c.answer_for.new.source in
    let holds = g.K.Sink.holds c.args.out.now in
    let held = g.K.Sink.holds c.write_report.new.out in
    let faults = g.K.Sink.faults c.args.out.now in
    let later = g.K.Sink.faults c.write_report.new.out in
    let form = c.in-Ok.form in
    let asks = c.in-Ok.ensures.asks in
    let good = answers says.0 form a.history says.2.output a.status says.2.makes in
    let wrote = c.write_report.ensures.wrote says.2.output says.2.is in
    rw c.write_report.ensures.history (
    λ h.
    let all = whole_written holds held faults later says.2.output a.status c.write_report.result.status good wrote h in (
      form,
      asks,
      says.2.output,
      record { text = says.0; gave = says.1; makes = subst (Makes says.0 form a.history says.2.output) (sym all.0) says.2.makes },
      all.1,
    ))

pub returns-in-Ok-answer_for-clause-part : goal.returns-in-Ok-answer_for-clause-part
returns-in-Ok-answer_for-clause-part g c =
    let a = c.in-Ok-answer_for.answer in
    let says = c.in-Ok-answer_for.ensures.answer in
    let before = g.S.Source.left c.args.program.now in
    let now = g.S.Source.left c.answer_for.new.source in
    let holds = g.K.Sink.holds c.args.out.now in
    let held = g.K.Sink.holds c.write_report.new.out in
    let faults = g.K.Sink.faults c.args.out.now in
    let later = g.K.Sink.faults c.write_report.new.out in
    let form = c.in-Ok.form in
    let asks = c.in-Ok.ensures.asks in
    let good = answers says.0 form a.history says.2.output a.status says.2.makes in
    let wrote = c.write_report.ensures.wrote says.2.output says.2.is in
    rw c.write_report.ensures.history (
    inr (form, asks, says.2.output, a.status, record { text = says.0; gave = says.1; makes = says.2.makes }, wrote.part))

pub returns-in-Ok-answer_for-clause-write : goal.returns-in-Ok-answer_for-clause-write
returns-in-Ok-answer_for-clause-write g c =
    let a = c.in-Ok-answer_for.answer in
    let says = c.in-Ok-answer_for.ensures.answer in
    let before = g.S.Source.left c.args.program.now in
    let now = g.S.Source.left c.answer_for.new.source in
    let holds = g.K.Sink.holds c.args.out.now in
    let held = g.K.Sink.holds c.write_report.new.out in
    let faults = g.K.Sink.faults c.args.out.now in
    let later = g.K.Sink.faults c.write_report.new.out in
    let form = c.in-Ok.form in
    let asks = c.in-Ok.ensures.asks in
    let good = answers says.0 form a.history says.2.output a.status says.2.makes in
    let wrote = c.write_report.ensures.wrote says.2.output says.2.is in
    λ e. faulted holds held faults later says.2.output a.status c.write_report.result.status good wrote e

pub returns-in-Ok-answer_for-clause-kept : goal.returns-in-Ok-answer_for-clause-kept
returns-in-Ok-answer_for-clause-kept g c =
    let says = c.in-Ok-answer_for.ensures.answer in
    rw c.write_report.ensures.history (λ e. (c.in-Ok.form, c.in-Ok.ensures.asks, says.2.output, c.in-Ok-answer_for.answer.status, record { text = says.0; gave = says.1; makes = says.2.makes }))

pub returns-in-Ok-answer_for-clause-complete : goal.returns-in-Ok-answer_for-clause-complete
returns-in-Ok-answer_for-clause-complete g c =
    let a = c.in-Ok-answer_for.answer in
    let says = c.in-Ok-answer_for.ensures.answer in
    let before = g.S.Source.left c.args.program.now in
    let now = g.S.Source.left c.answer_for.new.source in
    let holds = g.K.Sink.holds c.args.out.now in
    let held = g.K.Sink.holds c.write_report.new.out in
    let faults = g.K.Sink.faults c.args.out.now in
    let later = g.K.Sink.faults c.write_report.new.out in
    let form = c.in-Ok.form in
    let asks = c.in-Ok.ensures.asks in
    let good = answers says.0 form a.history says.2.output a.status says.2.makes in
    let wrote = c.write_report.ensures.wrote says.2.output says.2.is in
    λ text command known short sound_source sound_sink. was_written holds held faults later says.2.output a.status c.write_report.result.status good sound_sink wrote

pub returns-in-Ok-answer_for-clause-refuses : goal.returns-in-Ok-answer_for-clause-refuses
returns-in-Ok-answer_for-clause-refuses g c =
    let a = c.in-Ok-answer_for.answer in
    let says = c.in-Ok-answer_for.ensures.answer in
    let before = g.S.Source.left c.args.program.now in
    let now = g.S.Source.left c.answer_for.new.source in
    let holds = g.K.Sink.holds c.args.out.now in
    let held = g.K.Sink.holds c.write_report.new.out in
    let faults = g.K.Sink.faults c.args.out.now in
    let later = g.K.Sink.faults c.write_report.new.out in
    let form = c.in-Ok.form in
    let asks = c.in-Ok.ensures.asks in
    let good = answers says.0 form a.history says.2.output a.status says.2.makes in
    let wrote = c.write_report.ensures.wrote says.2.output says.2.is in
    rw c.write_report.ensures.history (
    λ text line column kind known refused.
    is_none a.history (λ h e. never_run c.args.words.now before now h text line column kind known (has_run c.args.words.now form before now says.0 a.history says.2.output a.status asks says.1 says.2.makes h e) refused))

pub returns-in-Err-answer_for-clause-usage : goal.returns-in-Err-answer_for-clause-usage
returns-in-Err-answer_for-clause-usage g c =
    let Cause : Status → Type 0 = IsReadCause (g.S.Source.left c.args.program.now) (g.S.Source.left c.answer_for.new.source) (g.S.Source.faults c.args.program.now) (g.S.Source.faults c.answer_for.new.source) in
    λ e command. subst Cause e c.in-Err-answer_for.ensures.cause

pub returns-in-Err-answer_for-clause-kept : goal.returns-in-Err-answer_for-clause-kept
returns-in-Err-answer_for-clause-kept g c =
    let Cause : Status → Type 0 = IsReadCause (g.S.Source.left c.args.program.now) (g.S.Source.left c.answer_for.new.source) (g.S.Source.faults c.args.program.now) (g.S.Source.faults c.answer_for.new.source) in
    λ e. absurd (subst Cause e c.in-Err-answer_for.ensures.cause)

pub returns-in-Err-answer_for-clause-refused : goal.returns-in-Err-answer_for-clause-refused
returns-in-Err-answer_for-clause-refused g c = λ never. absurd (never (c.in-Ok.form, c.in-Ok.ensures.asks.0, c.in-Ok.ensures.asks.1))

pub returns-in-Err-answer_for-clause-unread : goal.returns-in-Err-answer_for-clause-unread
returns-in-Err-answer_for-clause-unread g c = λ never. absurd (never (c.in-Ok.form, c.in-Ok.ensures.asks.0, c.in-Ok.ensures.asks.1))

pub returns-in-Err-clause-usage : goal.returns-in-Err-clause-usage
returns-in-Err-clause-usage g c = λ e. subst (IsWordsCause c.args.words.now) e c.in-Err.ensures.cause

pub returns-in-Err-clause-refused : goal.returns-in-Err-clause-refused
returns-in-Err-clause-refused g c = λ never. words_refused c.args.words.now c.in-Err.status c.in-Err.ensures.cause

pub returns-in-Err-clause-read : goal.returns-in-Err-clause-read
returns-in-Err-clause-read g c = λ e. absurd (subst (IsWordsCause c.args.words.now) e c.in-Err.ensures.cause)

pub returns-in-Err-clause-long : goal.returns-in-Err-clause-long
returns-in-Err-clause-long g c = λ e. absurd (subst (IsWordsCause c.args.words.now) e c.in-Err.ensures.cause)

pub returns-in-Err-clause-short : goal.returns-in-Err-clause-short
returns-in-Err-clause-short g c = λ short. absurd (words_unread c.args.words.now c.in-Err.status c.in-Err.ensures.cause short)

pub returns-in-Err-clause-answer : goal.returns-in-Err-clause-answer
returns-in-Err-clause-answer g c = λ answer. absurd (words_no_answer c.args.words.now c.in-Err.status c.in-Err.ensures.cause answer)

pub returns-in-Err-clause-write : goal.returns-in-Err-clause-write
returns-in-Err-clause-write g c = λ e. absurd (subst (IsWordsCause c.args.words.now) e c.in-Err.ensures.cause)

pub returns-in-Err-clause-kept : goal.returns-in-Err-clause-kept
returns-in-Err-clause-kept g c = λ e. absurd (subst (IsWordsCause c.args.words.now) e c.in-Err.ensures.cause)

pub returns-in-Err-clause-complete : goal.returns-in-Err-clause-complete
returns-in-Err-clause-complete g c = λ text command known short sound_source sound_sink. words_complete c.args.words.now c.in-Err.status c.in-Err.ensures.cause command
