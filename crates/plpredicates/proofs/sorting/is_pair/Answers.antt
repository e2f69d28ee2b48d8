use Rattle.std.proofs.Common.{◌≡◌, ◌&&◌, nat_eq, false, sym, ap, ◌∙◌, arith}
use Rattle.std.specs.Prelude.{codes}
use Rattle.std.specs.Str.{bytes_eq}
use Rattle.platoms.specs.Names.{functor_name}
use Rattle.plpredicates.proofs.Arguments.{pair_at}
use Rattle.plpredicates.proofs.sorting.is_pair.Goals as goal

pub returns-else-block-eq2 : goal.returns-else-block-eq2
returns-else-block-eq2 c =
    let h = c.args.heap.now in
    let b = c.args.block in
    let other : nat_eq b.arity 2 ≡ false = grind (arith, c.if-block-eq2.false) in
    other ∙ sym (pair_at h b.place b.functor b.arity c.requires.block ∙ ap (λ e. e && bytes_eq (functor_name h.names b.functor) (codes "-")) other)
