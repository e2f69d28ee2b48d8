use Rattle.std.proofs.Common.{[], ◌∷◌, ◌++◌, rules, string_bytes}
use Rattle.plcells.specs.Store.{value}
use Rattle.plbuiltin.specs.Lists.{elements_of}
use Rattle.planswers.proofs.Spelled.{one_read, one_pushed}
use Rattle.planswers.proofs.text.text_in.Goals as goal

pub loop-first-preserved : goal.loop-first-preserved
loop-first-preserved c =
    let h = c.args.heap.now in
    let k = c.args.k in
    let so_far = c.loop-first.invariant in
    let read = so_far.read in
    let t = value h c.in-Some.first in
    let rest = elements_of (value h c.loop-first.rest) in
    let behind = elements_of (value h c.in-Some.tail) in
    record {
      fits = search rules;
      read = read ++ c.in-Ok.c ∷ [];
      text = one_pushed read c.in-Ok.c (string_bytes c.loop-first.text) (string_bytes c.push.new.self) so_far.text (search rules);
      so_far = one_read k (elements_of (value h c.args.v)) rest read so_far.so_far t behind c.in-Ok.c (search rules) (search rules);
    }
