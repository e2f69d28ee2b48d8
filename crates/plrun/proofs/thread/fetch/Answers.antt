use Rattle.std.proofs.Common.{◌≡◌, ◌≤◌, List, length, ap, sym, subst, ◌∙◌, arith}
use Rattle.plevent.specs.Alive.{Stamped, before}
use Rattle.plevent.specs.Reading.{reading}
use Rattle.plsearch.specs.Starts.{searches}
use Rattle.plstore.specs.declared.query.Query.{Query}
use Rattle.plstore.specs.Looking.{found}
use Rattle.plsolver.specs.Fetching.{IsFoundFor}
use Rattle.plsolver.specs.Solver.{rest_of}
use Rattle.plrun.proofs.Serve.{started-gone, used-within}
use Rattle.plrun.proofs.thread.fetch.Goals as goal

found-for : (us : List Stamped) (q : Query) → IsFoundFor q (found us q)
found-for us (Query.NextLike p k c) = tt
found-for us (Query.Next p c) = tt
found-for us (Query.Clause x) = tt
found-for us (Query.Alive x) = tt
found-for us (Query.Exists p) = tt

pub fetched-requires-clause-fits : goal.fetched-requires-clause-fits
fetched-requires-clause-fits c =
    (c.requires.fetches.0, c.args.query.now, c.requires.fetches.1, subst (IsFoundFor c.args.query.now) (sym c.in_ok-found.ensures) (found-for (before c.view-view.result (reading c.args.world.now.journal).updates) c.args.query.now))

pub fetched-requires-clause-within : goal.fetched-requires-clause-within
fetched-requires-clause-within c =
    let P = c.requires.runs.0 in
    let s = c.args.running.now.solver in
    used-within P.first (searches P s.limit c.args.world.now.journal c.args.running.now.thread) s.limit (λ v. rest_of P v s) s.used c.args.world.now.journal c.args.running.now.thread s.places.items c.requires.runs.1.started

pub returns-clause-runs : goal.returns-clause-runs
returns-clause-runs c P runs =
    let old = c.args.running.now.solver in
    let new = c.fetched.new.self in
    let h = c.args.world.now.journal in
    let q = c.args.query.now in
    let g = c.requires.fetches.0 in
    let at : c.view-view.result ≡ g = c.view-view.ensures.is g q c.requires.fetches.1 in
    let within : g ≤ length h = omega (arith, at, c.view-view.ensures.seen, runs.latest) in
    record {
      of = c.fetched.ensures.of P runs.of;
      latest = subst (λ n. n ≤ length h) (sym c.fetched.ensures.latest) runs.latest;
      started = started-gone P.first (λ n. searches P n h c.args.running.now.thread) old.limit new.limit (λ v. rest_of P v old) (λ v. rest_of P v new) old.used new.used h c.args.running.now.thread old.places.items new.places.items runs.started
          (λ v are.
          c.in_ok-fetched.ensures.ok P runs.of v are.ordered g q c.requires.fetches.1
          (c.in_ok-found.ensures ∙ ap (λ us. found us q) (ap (λ k. before k (reading h).updates) at ∙ sym (are.as_far g within))))
          c.fetched.ensures.places c.fetched.ensures.limit;
    }
