use Rattle.std.proofs.Common.{◌≡◌, ◌∙◌, ap, subst, arith}
use Rattle.plload.specs.Shown.{shown}
use Rattle.plload.specs.Draft.{Draft, empty_draft, with_term, with_meaning}
use Rattle.plload.specs.Loading.{Ending, Ends, Runs, over, goes, Accepts}
use Rattle.plload.proofs.Loadings.{counts_once}
use Rattle.plload.proofs.Turns.{bad, good, told}
use Rattle.plload.proofs.load.load.Goals as goal

pub returns-in-Over-clause-accepted : goal.returns-in-Over-clause-accepted
returns-in-Over-clause-accepted c =
    let next = rw c.in-Over.is at c.in_ok-next_of.ensures.next in
    let end : Ending Draft = Ends c.clauses.settings c.clauses.draft in
    record { ending = end; from_start = c.clauses.invariant.ends end (over next); told = ap Accepts c.in_ok-finish-in-Over.ensures }

pub returns-in-Stops-clause-refused : goal.returns-in-Stops-clause-refused
returns-in-Stops-clause-refused c =
    let next = rw c.in-Stops.is at c.in_ok-next_of.ensures.next in
    told with_term empty_draft c.args.text.now c.clauses.place c.clauses.settings c.clauses.draft c.in-Stops.at c.in-Stops.kind c.refused.result c.clauses.invariant.ends next c.refused.ensures

pub returns-in-Some-clause-refused : goal.returns-in-Some-clause-refused
returns-in-Some-clause-refused c =
    let next = rw c.in-Reads.is at c.in_ok-next_of.ensures.next in
    let answer = rw c.in-Some.is at c.in_ok-kind-in-Reads.ensures in
    told with_term empty_draft c.args.text.now c.clauses.place c.clauses.settings c.clauses.draft c.in-Reads.first c.in-Some.kind c.refused-in-Some.result c.clauses.invariant.ends
    (bad c.args.text.now c.clauses.place c.clauses.settings c.take.new.settings c.in-Reads.term c.in-Reads.first c.in-Reads.after (shown c.in_ok-meaning-in-Reads.meaning) c.in-Some.kind next c.in_ok-meaning-in-Reads.ensures answer)
    c.refused-in-Some.ensures

pub clauses-preserved : goal.clauses-preserved
clauses-preserved c =
    let next = rw c.in-Reads.is at c.in_ok-next_of.ensures.next in
    let moves = rw c.in-Reads.is at c.in_ok-next_of.ensures.onward in
    let answer = rw c.in_default.is at c.in_ok-kind-in-Reads.ensures in
    let m = shown c.in_ok-meaning-in-Reads.meaning in
    let added : c.add.new.self ≡ with_term c.clauses.draft c.clauses.settings c.in-Reads.term = c.in_ok-add-in-Reads.ensures ∙ ap (with_meaning c.clauses.draft) c.in_ok-meaning-in-Reads.ensures in
    record {
      within = moves.1;
      counted = omega (arith, ap (λ (d : Draft). d.directives) c.in_ok-add-in-Reads.ensures, counts_once c.clauses.draft m, c.clauses.invariant.counted, moves.0);
      ends = λ end rest. c.clauses.invariant.ends end (goes
          (good c.args.text.now c.clauses.place c.clauses.settings c.take.new.settings c.in-Reads.term c.in-Reads.first c.in-Reads.after m next c.in_ok-meaning-in-Reads.ensures answer)
          (subst (λ d. Runs with_term c.args.text.now c.in-Reads.after c.take.new.settings d end) added rest));
    }
