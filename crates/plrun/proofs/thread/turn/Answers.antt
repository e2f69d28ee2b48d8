use Rattle.std.proofs.Common.{◌≡◌, ◌≤◌, List, length, subst, sym}
use Rattle.plevent.specs.declared.act.Entry.{Entry}
use Rattle.plevent.specs.Search.{Item, View, Ask}
use Rattle.plprogram.specs.Program.{Program}
use Rattle.plsearch.specs.Starts.{searches}
use Rattle.plsearch.specs.Solving.{StandsAt}
use Rattle.plsolver.specs.declared.progress.Progress.{Progress}
use Rattle.plsolver.specs.Says.{Says}
use Rattle.plsolver.specs.Solver.{latest_view, rest_of, GoesTo, IsOf}
use Rattle.plstore.specs.Looking.{Views}
use Rattle.plrun.specs.declared.thread.Running.{Running}
use Rattle.plrun.specs.Going.{Runs}
use Rattle.plrun.specs.Threads.{GoesOn, IsThread}
use Rattle.plrun.proofs.Serve.{started-gone, still-runs, used-within}
use Rattle.plrun.proofs.thread.turn.Goals as goal

-- the search has gone on without an item
record Advanced (P : Program) (old new : Progress) : Type 0 where
  of : IsOf P new.machine
  latest : latest_view new ≡ latest_view old
  goes : GoesTo P old new
  places : new.places.items ≡ old.places.items
  limit : new.limit ≡ old.limit

on-thread : (P : Program) (h : List Entry) (r : Running) (new : Progress) → IsThread P h r → Advanced P r.solver new → IsThread P h (record r { solver = new })
unfolding GoesTo
on-thread P h r new is a =
    let old = r.solver in
    record {
      of = a.of;
      latest = subst (λ n. n ≤ length h) (sym a.latest) is.latest;
      started = started-gone P.first (λ n. searches P n h r.thread) old.limit new.limit (λ v. rest_of P v old) (λ v. rest_of P v new) old.used new.used h r.thread old.places.items new.places.items is.started (λ v are. a.goes v are.ordered) a.places a.limit;
    }

-- and stands at one
still-on : (P : Program) (h : List Entry) (r : Running) (q : Item) → IsThread P h r → ((v : Views) → StandsAt q (rest_of P v r.solver) r.solver.used r.solver.machine.out.items) → GoesOn P h r
still-on P h r q is at =
    let s = r.solver in
    record {
      of = is.of;
      latest = is.latest;
      runs = still-runs P.first (searches P s.limit h r.thread) s.limit (λ v. rest_of P v s) s.used s.machine.out.items h r.thread s.places.items q at is.started;
    }

pub advance-requires-clause-within : goal.advance-requires-clause-within
advance-requires-clause-within c =
    let P = c.args.program.now in
    let s = c.args.running.now.solver in
    used-within P.first (searches P s.limit c.args.world.now.journal c.args.running.now.thread) s.limit (λ v. rest_of P v s) s.used c.args.world.now.journal c.args.running.now.thread s.places.items c.requires.runs.started

pub returns-in-Slice-clause-runs : goal.returns-in-Slice-clause-runs
returns-in-Slice-clause-runs c =
    let a = c.advance.ensures in
    on-thread c.args.program.now c.args.world.now.journal c.args.running.now c.advance.new.self c.requires.runs
    (record { of = a.of; latest = a.latest; goes = a.goes; places = a.places; limit = a.limit })

pub returns-in-Ended-clause-runs : goal.returns-in-Ended-clause-runs
returns-in-Ended-clause-runs c =
    let a = c.advance.ensures in
    on-thread c.args.program.now c.args.world.now.journal c.args.running.now c.advance.new.self c.requires.runs
    (record { of = a.of; latest = a.latest; goes = a.goes; places = a.places; limit = a.limit })

pub look-requires-clause-runs : goal.look-requires-clause-runs
unfolding Says
look-requires-clause-runs c =
    let P = c.args.program.now in
    let h = c.args.world.now.journal in
    let r = c.args.running.now in
    let new = c.advance.new.self in
    let a = c.advance.ensures in
    let says = rw c.in-Refresh.is at c.in_ok-advance.ensures.says in
    (P, still-on P h (record r { solver = new }) View (on-thread P h r new c.requires.runs (record { of = a.of; latest = a.latest; goes = a.goes; places = a.places; limit = a.limit })) says.1)

pub serve-requires-clause-runs : goal.serve-requires-clause-runs
unfolding Says
serve-requires-clause-runs c =
    let P = c.args.program.now in
    let h = c.args.world.now.journal in
    let r = c.args.running.now in
    let new = c.advance.new.self in
    let a = c.advance.ensures in
    let says = rw c.in-Ask.is at c.in_ok-advance.ensures.says in
    (P, still-on P h (record r { solver = new }) (Ask c.in-Ask.request) (on-thread P h r new c.requires.runs (record { of = a.of; latest = a.latest; goes = a.goes; places = a.places; limit = a.limit })) says.1)

pub fetch-requires-clause-runs : goal.fetch-requires-clause-runs
fetch-requires-clause-runs c =
    let P = c.args.program.now in
    let a = c.advance.ensures in (
      P,
      on-thread P c.args.world.now.journal c.args.running.now c.advance.new.self c.requires.runs
          (record { of = a.of; latest = a.latest; goes = a.goes; places = a.places; limit = a.limit }),
    )

pub returns-in_ok-look-in-Refresh-clause-runs : goal.returns-in_ok-look-in-Refresh-clause-runs
unfolding Says
returns-in_ok-look-in-Refresh-clause-runs c =
    let P = c.args.program.now in
    let h = c.args.world.now.journal in
    let r = c.args.running.now in
    let new = c.advance.new.self in
    let a = c.advance.ensures in
    let says = rw c.in-Refresh.is at c.in_ok-advance.ensures.says in
    let on = still-on P h (record r { solver = new }) View (on-thread P h r new c.requires.runs (record { of = a.of; latest = a.latest; goes = a.goes; places = a.places; limit = a.limit })) says.1 in
    let goes = c.in_ok-look-in-Refresh.ensures.runs P on says.1 in
    record { of = goes.of; latest = goes.latest; started = Runs goes.runs }

pub returns-in_ok-serve-in-Ask-clause-runs : goal.returns-in_ok-serve-in-Ask-clause-runs
unfolding Says
returns-in_ok-serve-in-Ask-clause-runs c =
    let P = c.args.program.now in
    let h = c.args.world.now.journal in
    let r = c.args.running.now in
    let new = c.advance.new.self in
    let a = c.advance.ensures in
    let says = rw c.in-Ask.is at c.in_ok-advance.ensures.says in
    c.in_ok-serve-in-Ask.ensures.runs P (still-on P h (record r { solver = new }) (Ask c.in-Ask.request) (on-thread P h r new c.requires.runs (record { of = a.of; latest = a.latest; goes = a.goes; places = a.places; limit = a.limit })) says.1) says.1

pub returns-in_ok-fetch-in-Fetch-clause-runs : goal.returns-in_ok-fetch-in-Fetch-clause-runs
returns-in_ok-fetch-in-Fetch-clause-runs c =
    let P = c.args.program.now in
    let a = c.advance.ensures in
    c.in_ok-fetch-in-Fetch.ensures.runs P (on-thread P c.args.world.now.journal c.args.running.now c.advance.new.self c.requires.runs
    (record { of = a.of; latest = a.latest; goes = a.goes; places = a.places; limit = a.limit }))
