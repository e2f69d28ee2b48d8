use Rattle.std.proofs.Common.{subst, sym}
use Rattle.plstack.specs.State.{goals_of, kinds_in}
use Rattle.plstack.specs.First.{AtMarker}
use Rattle.plsolver.proofs.Quiets.{quiet-collect, quiet-commit}
use Rattle.plstack.specs.State.{EndsWalks}
use Rattle.plsolver.proofs.Ending.{ends_refl}
use Rattle.plstack.specs.Levels.{FitsIn}
use Rattle.plsolver.proofs.progress.Progress.pass_marker.Goals as goal

pub returns-in_ok-cut-in-Commit-clause-ok : goal.returns-in_ok-cut-in-Commit-clause-ok
returns-in_ok-cut-in-Commit-clause-ok c =
    let s = c.args.self.now in
    let st = s.machine.stack in
    let marker = subst (λ m. AtMarker st (goals_of st st.goals) m c.args.level c.args.rest) c.in-Commit.is c.requires.marker in
    λ P v ordered. quiet-commit P v s c.cut.new.self c.args.level c.args.rest c.requires.visits marker c.in_ok-cut-in-Commit.ensures.ok

pub collect-requires : goal.collect-requires
collect-requires c =
    let s = c.args.self.now in
    let st = s.machine.stack in
    (subst (λ m. AtMarker st (goals_of st st.goals) m c.args.level c.args.rest) c.in-Collect.is c.requires.marker).fits

pub returns-in_ok-collect-in-Collect-clause-ok : goal.returns-in_ok-collect-in-Collect-clause-ok
returns-in_ok-collect-in-Collect-clause-ok c =
    let s = c.args.self.now in
    let st = s.machine.stack in
    let marker = subst (λ m. AtMarker st (goals_of st st.goals) m c.args.level c.args.rest) c.in-Collect.is c.requires.marker in
    λ P v ordered. quiet-collect P v s c.collect.new.self c.in-Collect.v c.args.level c.args.rest c.requires.visits marker c.in_ok-collect-in-Collect.ensures.ok

pub returns-in_ok-cut-in-Commit-clause-walks : goal.returns-in_ok-cut-in-Commit-clause-walks
returns-in_ok-cut-in-Commit-clause-walks c = c.in_ok-cut-in-Commit.ensures.ok.walks

pub returns-in_ok-collect-in-Collect-clause-walks : goal.returns-in_ok-collect-in-Collect-clause-walks
returns-in_ok-collect-in-Collect-clause-walks c = subst (λ x. EndsWalks c.args.self.now.machine.stack x.machine.stack) (sym c.in_ok-collect-in-Collect.ensures.ok) (ends_refl _)

pub cut-requires-clause-list : goal.cut-requires-clause-list
cut-requires-clause-list c = c.requires.marker.there

pub cut-requires-clause-level : goal.cut-requires-clause-level
cut-requires-clause-level c =
    let st = c.args.self.now.machine.stack in
    let marker = subst (λ m. AtMarker st (goals_of st st.goals) m c.args.level c.args.rest) c.in-Commit.is c.requires.marker in
    subst (FitsIn (kinds_in st)) marker.goals marker.levels

pub give_up-requires-clause-marker : goal.give_up-requires-clause-marker
give_up-requires-clause-marker c =
    let st = c.args.self.now.machine.stack in
    (c.args.rest, subst (λ m. AtMarker st (goals_of st st.goals) m c.args.level c.args.rest) c.in-Never.is c.requires.marker)

pub pass_until-requires-clause-marker : goal.pass_until-requires-clause-marker
pass_until-requires-clause-marker c =
    let st = c.args.self.now.machine.stack in
    subst (λ m. AtMarker st (goals_of st st.goals) m c.args.level c.args.rest) c.in-Until.is c.requires.marker

pub end_transaction-requires-clause-marker : goal.end_transaction-requires-clause-marker
end_transaction-requires-clause-marker c =
    let st = c.args.self.now.machine.stack in
    (c.args.level, subst (λ m. AtMarker st (goals_of st st.goals) m c.args.level c.args.rest) c.in-Transact.is c.requires.marker)
