use Rattle.std.proofs.Common.{◌≡◌, ◌∙◌, ◌+◌, length, arith}
use Rattle.plstack.specs.declared.frame.Frame.TheVariants.{Plain}
use Rattle.plstack.proofs.Stacks.{counts-in-place, get-last, set-last}
use Rattle.plstack.proofs.open.count_up.Goals as goal

pub returns-in-Some-clause-counts : goal.returns-in-Some-clause-counts
returns-in-Some-clause-counts c =
    let last = rw c.deref.ensures.value at c.in-Some.ensures.some in
    let many : c.len-last.result ≡ length c.args.frames.now.items = omega (arith, c.len-last.ensures, c.args.frames.now.ok.0) in
    let at : c.index_mut.result.now ≡ Plain c.in-Some.m = c.index_mut.ensures.value ∙ get-last c.args.frames.now.items last.0 (Plain c.in-Some.m) _ c.len-last.result last.1 many in
    rw (c.count_on.ensures c.in-Some.m at)
    (counts-in-place last.0 c.args.frames.now.items _ c.in-Some.m c.args.n last.1 (set-last c.args.frames.now.items last.0 (Plain c.in-Some.m) (Plain (c.in-Some.m + c.args.n)) c.len-last.result last.1 many))
