use Rattle.std.proofs.Common.{refl, rules, w64, FitsSigned}
use Rattle.std.proofs.lemmas.Int.{to_z-of_z}
use Rattle.plcells.specs.Store.{value}
use Rattle.plexpression.proofs.Numbers.{integer-apart, integers-apart, integers-same, unchanged}
use Rattle.plexpression.proofs.number.meet_value.Goals as goal

pub returns-in-Some-clause-yes : goal.returns-in-Some-clause-yes
returns-in-Some-clause-yes c =
    let e = c.args.env.now in
    let fits : FitsSigned w64 c.in-Some.number = search rules in
    let test = rw (to_z-of_z w64 c.in-Some.number fits, c.heap-in-Some.ensures.is) at c.is_number.ensures in
    integers-same e (value e.heap c.args.own) (value e.heap c.args.v) c.in-Some.number c.is_number.result (rw c.heap.ensures.is at c.in-Some.ensures.some) test

pub returns-in-Some-clause-no : goal.returns-in-Some-clause-no
returns-in-Some-clause-no c = λ none.
    let e = c.args.env.now in
    let fits : FitsSigned w64 c.in-Some.number = search rules in
    let test = rw (to_z-of_z w64 c.in-Some.number fits, c.heap-in-Some.ensures.is) at c.is_number.ensures in
    (integers-apart (value e.heap c.args.own) (value e.heap c.args.v) c.in-Some.number c.requires.number.0 c.is_number.result (rw c.heap.ensures.is at c.in-Some.ensures.some) c.requires.number.1 test none, refl)

pub returns-in-None-clause-other : goal.returns-in-None-clause-other
returns-in-None-clause-other c = λ other.
    let e = c.args.env.now in
    let apart = integer-apart (value e.heap c.args.own) (value e.heap c.args.v) c.requires.number.0 c.requires.number.1 other (rw c.heap.ensures.is at (c.in-None.ensures.none c.requires.number.0)) in
    unchanged e c.unify.new.self c.unify.result _ (value e.heap c.args.own) (value e.heap c.args.v) apart c.unify.ensures.yes c.unify.ensures.no c.unify.ensures.err
