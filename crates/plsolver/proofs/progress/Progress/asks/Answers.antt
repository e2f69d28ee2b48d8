use Rattle.std.proofs.Common.{refl, sym, subst}
use Rattle.plstore.specs.declared.query.Query.{Query}
use Rattle.plstack.specs.declared.frame.Spot.{Spot}
use Rattle.plsolver.specs.Fetching.{SpotAsks}
use Rattle.plsolver.specs.Going.{head_at}
use Rattle.plsolver.proofs.Walking.{journal-asks}
use Rattle.plsolver.proofs.progress.Progress.asks.Goals as goal

pub returns-in-Known : goal.returns-in-Known
returns-in-Known c = λ t.
    let at = c.args.at.now in
    let m = c.args.self.now.machine in (
      c.in-Known.view.place,
      Query.Clause c.in-Known.name,
      record {
        point = at.point;
        walk = at.walk;
        at = c.requires.at;
        fails = c.requires.fails;
        asks = subst (λ (z : Spot). SpotAsks m.layer.own.updates (head_at m at.walk) z c.in-Known.view.place (Query.Clause c.in-Known.name)) (sym c.in-Known.is) (refl, (c.is_untouched.ensures t, refl));
      },
    )

pub returns : goal.returns
returns c = λ t.
    let at = c.args.at.now in
    let m = c.args.self.now.machine in
    let asked = journal-asks m.layer.own.updates (head_at m at.walk) at.walk.spot (c.asks_journal.ensures t) in
    (asked.0, asked.1, record { point = at.point; walk = at.walk; at = c.requires.at; fails = c.requires.fails; asks = asked.2 })
