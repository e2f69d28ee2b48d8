use Rattle.plcells.proofs.Kept.{Keeps-trans}
use Rattle.plmatch.proofs.Matches.{result-is}
use Rattle.plmatch.proofs.matcher.unify_apart.Goals as goal

pub returns-clause-ok : goal.returns-clause-ok
returns-clause-ok c =
    let u = c.unify_in_choice.ensures in
    result-is c.args.heap.now c.put_packed.new.heap c.args.pattern.now c.in_ok-p.p c.in_ok-p.ensures.ok c.put_packed-2.new.heap c.args.message.now c.in_ok-m.m c.in_ok-m.ensures.ok c.unify_in_choice.new.heap c.unify_in_choice.result u.yes u.no

pub returns-clause-keeps : goal.returns-clause-keeps
returns-clause-keeps c =
    let h = c.args.heap.now in
    let first = c.put_packed.new.heap in
    let second = c.put_packed-2.new.heap in
    let both = Keeps-trans h first second c.in_ok-p.ensures.preserves.keeps c.in_ok-m.ensures.preserves.keeps in
    Keeps-trans h second c.unify_in_choice.new.heap both c.unify_in_choice.ensures.keeps.keeps
