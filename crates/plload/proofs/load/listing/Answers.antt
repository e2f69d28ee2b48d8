use Rattle.std.proofs.Common.{◌≡◌, ◌∙◌, ◌++◌, ℕ, List, [], ap, subst, refl}
use Rattle.plload.specs.Shown.{shown}
use Rattle.plload.specs.Listing.{with_line}
use Rattle.plload.specs.Loading.{Ending, Ends, Runs, over, goes}
use Rattle.plload.proofs.Turns.{bad, good, told}
use Rattle.plload.proofs.load.listing.Goals as goal

pub returns-in-Over-clause-accepted : goal.returns-in-Over-clause-accepted
returns-in-Over-clause-accepted c =
    let next = rw c.in-Over.is at c.in_ok-next_of.ensures.next in
    let end : Ending (List ℕ) = Ends c.clauses.settings c.clauses.lines.items in
    record { ending = end; from_start = c.clauses.invariant.ends end (over next); told = refl }

pub returns-in-Stops-clause-refused : goal.returns-in-Stops-clause-refused
returns-in-Stops-clause-refused c =
    let next = rw c.in-Stops.is at c.in_ok-next_of.ensures.next in
    told with_line [] c.args.text.now c.clauses.place c.clauses.settings c.clauses.lines.items c.in-Stops.at c.in-Stops.kind c.refused.result c.clauses.invariant.ends next c.refused.ensures

pub returns-in-Some-clause-refused : goal.returns-in-Some-clause-refused
returns-in-Some-clause-refused c =
    let next = rw c.in-Reads.is at c.in_ok-next_of.ensures.next in
    let answer = rw c.in-Some.is at c.in_ok-kind-in-Reads.ensures in
    told with_line [] c.args.text.now c.clauses.place c.clauses.settings c.clauses.lines.items c.in-Reads.first c.in-Some.kind c.refused-in-Some.result c.clauses.invariant.ends
    (bad c.args.text.now c.clauses.place c.clauses.settings c.take.new.settings c.in-Reads.term c.in-Reads.first c.in-Reads.after (shown c.in_ok-meaning-in-Reads.meaning) c.in-Some.kind next c.in_ok-meaning-in-Reads.ensures answer)
    c.refused-in-Some.ensures

pub clauses-preserved : goal.clauses-preserved
clauses-preserved c =
    let next = rw c.in-Reads.is at c.in_ok-next_of.ensures.next in
    let moves = rw c.in-Reads.is at c.in_ok-next_of.ensures.onward in
    let answer = rw c.in_default.is at c.in_ok-kind-in-Reads.ensures in
    let lines : c.extend_from_slice.new.self.items ≡ with_line c.clauses.lines.items c.clauses.settings c.in-Reads.term =
    c.in_ok-extend_from_slice-in-Reads.ensures.items ∙ ap (λ bs. c.clauses.lines.items ++ bs) (c.deref.ensures.value ∙ c.in_ok-write_clause-in-Reads.ensures) in
    record {
      within = moves.1;
      ends = λ end rest. c.clauses.invariant.ends end (goes
          (good c.args.text.now c.clauses.place c.clauses.settings c.take.new.settings c.in-Reads.term c.in-Reads.first c.in-Reads.after (shown c.in_ok-meaning-in-Reads.meaning) next c.in_ok-meaning-in-Reads.ensures answer)
          (subst (λ bs. Runs with_line c.args.text.now c.in-Reads.after c.take.new.settings bs end) lines rest));
    }
