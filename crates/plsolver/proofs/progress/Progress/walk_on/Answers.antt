use Rattle.std.proofs.Common.{refl, sym, subst}
use Rattle.plstore.specs.declared.query.Query.{Query}
use Rattle.plstack.specs.declared.frame.Spot.{Spot}
use Rattle.plsolver.specs.Fetching.{SpotAsks}
use Rattle.plsolver.specs.Going.{head_at}
use Rattle.plsolver.proofs.Further.{further_refl}
use Rattle.plsolver.proofs.Walking.{journal-asks}
use Rattle.plsolver.proofs.progress.Progress.walk_on.Goals as goal

pub returns-in_err-next-in-Known-clause-walks : goal.returns-in_err-next-in-Known-clause-walks
returns-in_err-next-in-Known-clause-walks c = further_refl c.args.self.now.machine.stack

pub returns-in_err-step-in-Seek-clause-walks : goal.returns-in_err-step-in-Seek-clause-walks
returns-in_err-step-in-Seek-clause-walks c = further_refl c.args.self.now.machine.stack

pub returns-in-Asks-clause-ok : goal.returns-in-Asks-clause-ok
returns-in-Asks-clause-ok c =
    let at = c.args.at.now in
    let untouched = rw c.in-Asks.is at c.in_ok-next-in-Known.ensures in (
      λ P v ordered. refl,
      (
        c.in-Known.view.place,
        Query.Clause c.in-Known.name,
        record {
          point = at.point;
          walk = at.walk;
          at = c.requires.at;
          fails = c.requires.fails;
          asks = subst (λ (z : Spot). SpotAsks c.args.self.now.machine.layer.own.updates (head_at c.args.self.now.machine at.walk) z c.in-Known.view.place (Query.Clause c.in-Known.name)) (sym c.in-Known.is) (refl, (untouched, refl));
        },
      ),
    )

pub returns-in-Asks-clause-walks : goal.returns-in-Asks-clause-walks
returns-in-Asks-clause-walks c = further_refl c.args.self.now.machine.stack

pub returns-then-asks_journal-clause-ok : goal.returns-then-asks_journal-clause-ok
returns-then-asks_journal-clause-ok c =
    let at = c.args.at.now in
    let m = c.args.self.now.machine in
    let asked = journal-asks m.layer.own.updates (head_at m at.walk) at.walk.spot (c.asks_journal.ensures c.if-asks_journal.true) in
    (λ P v ordered. refl, (asked.0, asked.1, record { point = at.point; walk = at.walk; at = c.requires.at; fails = c.requires.fails; asks = asked.2 }))

pub returns-then-asks_journal-clause-walks : goal.returns-then-asks_journal-clause-walks
returns-then-asks_journal-clause-walks c = further_refl c.args.self.now.machine.stack
