use Rattle.std.proofs.Common.{◌∙◌, ap, sym, ◌∷◌, [], Result, Ok, Err, OnOk, IfOk, subst}
use Rattle.plsearch.specs.Search.{search_of}
use Rattle.plsearch.specs.Starts.{start_in, searches}
use Rattle.plsolver.specs.Solver.{rest_of}
use Rattle.plrun.specs.Overall.{IsHistory}
use Rattle.plsearch.proofs.Halting.{halts-no-sooner}
use Rattle.plrun.proofs.Serve.{finished}
use Rattle.plrun.proofs.Settled.{thread-found, told-stays, history-of}
use Rattle.plrun.proofs.thread.run.Goals as goal

if_both : {T E A : Type 0} {B C : T → Type 0} (r : Result T E) → OnOk r A → IfOk r B → ((x : T) → A → B x → C x) → IfOk r C
if_both (Ok x) a b f = f x a b
if_both (Err e) a b f = tt

pub returns-in-Some-clause-history : goal.returns-in-Some-clause-history
returns-in-Some-clause-history c =
    let P = c.args.program.now in
    let r = c.turn.new.running in
    let s = r.solver in
    let h = c.turn.new.world.journal in
    let later = c.finish.new.world.journal in
    let start = start_in P h r.thread in
    let search = search_of P start s.limit in
    let there = thread-found P.first search s.limit (λ v. rest_of P v s) s.used h r.thread s.places.items c.in_ok-end.ensures.runs.started in
    if_both c.finish.result c.finish.ensures.journal c.finish.ensures.run
    (λ run grows made.
    let same = told-stays P h r.thread c.in-Some.«end» there.0 there.1 ∙ ap (λ l. start_in P l r.thread) (sym grows) ∙ ap (start_in P later) (sym (ap (λ run. run.thread) made)) in
    subst (λ n. IsHistory P.first (searches P n later) n later (run ∷ [])) (c.in_ok-end.ensures.limit ∙ c.turns.invariant.limit)
    (history-of P.first search (searches P s.limit later) s.limit later run (ap (λ x. search_of P x s.limit) same)
    (finished P.first search s.limit (λ v. rest_of P v s) s.used s.machine.out.items h later r.thread s.places.items c.in-Some.«end» run
    (halts-no-sooner P start s.limit) c.in_ok-end.ensures.runs.started (rw c.in-Some.is at c.in_ok-end.ensures.ended) grows made)))
