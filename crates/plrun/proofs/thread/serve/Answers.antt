use Rattle.std.proofs.Common.{◌≤◌, ◌∙◌, ap, length, subst, sym}
use Rattle.plevent.specs.declared.request.Request.{Request}
use Rattle.plevent.specs.Rows.{adds}
use Rattle.plsearch.specs.Search.{search_of}
use Rattle.plsearch.specs.Starts.{start_in, searches}
use Rattle.plsolver.specs.declared.progress.Progress.{Progress}
use Rattle.plsolver.specs.Solver.{latest_view, rest_of, WaitsForReply}
use Rattle.plsearch.proofs.Halting.{halts-when-done}
use Rattle.plrun.specs.Going.{IsStarted}
use Rattle.plrun.proofs.Settled.{start-stays}
use Rattle.plrun.proofs.Serve.{MayWait, longer, served-by, started-same, reply-fits}
use Rattle.plworld.proofs.Serving.{grows-in, replies-in}
use Rattle.plrun.proofs.thread.serve.Goals as goal

may_wait : (s : Progress) (q : Request) → WaitsForReply s q → MayWait q
may_wait s (Request.Publish us) waits = tt
may_wait s (Request.EraseOne x) waits = tt
may_wait s (Request.HaltRun n) waits = tt
may_wait s Request.Start never = never
may_wait s (Request.Finish e) never = never
may_wait s Request.Leave never = never

pub reply-requires-clause-fits : goal.reply-requires-clause-fits
reply-requires-clause-fits c =
    let s = c.args.running.now.solver in
    let q = c.args.request in
    (q, c.requires.waits, reply-fits c.args.world.now.journal c.args.running.now.thread q c.in_ok-reply.reply (may_wait s q c.requires.waits) c.requires.runs.1.runs.going.free (c.in_ok-reply.ensures.reply ∙ replies-in c.args.world.now c.args.running.now.thread q c.requires.serves))

pub returns-clause-runs : goal.returns-clause-runs
returns-clause-runs c P runs at =
    let old = c.args.running.now.solver in
    let new = c.reply.new.self in
    let q = c.args.request in
    let h = c.args.world.now.journal in
    let later = c.step.new.self.journal in
    let t = c.args.running.now.thread in
    let grows = grows-in c.args.world.now c.step.new.self 1 t q c.requires.serves c.in_ok-reply.ensures.entry in
    let f = runs.runs.going.free in
    let start = start_in P h t in
    let same = start-stays P h (adds h 1 t q) t f.row f.found ∙ ap (λ l. start_in P l t) (sym grows) in
    let started = started-same P.first (search_of P start) old.limit new.limit (λ v. rest_of P v new) new.used later t new.places.items c.reply.ensures.limit
    (served-by P.first (search_of P start old.limit) old.limit (λ v. rest_of P v old) (λ v. rest_of P v new) old.used new.used old.machine.out.items h later t old.places.items new.places.items c.front-place.result q c.in_ok-reply.reply
    (halts-when-done P start old.limit) (may_wait old q c.requires.waits) runs.runs at c.front-place.ensures
    (c.in_ok-reply.ensures.reply ∙ replies-in c.args.world.now t q c.requires.serves) grows (λ v are. c.in_ok-reply-2.ensures.ok P runs.of v) c.in_ok-reply-2.ensures.places) in
    record {
      of = c.reply.ensures.of P runs.of;
      latest = longer h later _ (latest_view new) grows (subst (λ n. n ≤ length h) (sym c.reply.ensures.latest) runs.latest);
      started = subst (λ s. IsStarted P.first (search_of P s new.limit) new.limit (λ v. rest_of P v new) new.used later t new.places.items) same started;
    }
