use Rattle.std.proofs.Common.{◌≡◌, ◌+◌, ◌++◌, ◌∷◌, [], suc, ap, ap₂, sym, ◌∙◌, map, arith}
use Rattle.std.proofs.lemmas.List.{map-append}
use Rattle.plcells.specs.Store.{term, value}
use Rattle.plgoals.proofs.Walking.{values-pushed}
use Rattle.plgoals.proofs.Joining.{terms-more}
use Rattle.plgoals.proofs.callable.read_arguments.Goals as goal

pub loop-i-preserved : goal.loop-i-preserved
loop-i-preserved c =
    let h = c.args.heap.now in
    let i = c.loop-i.i in
    let vs = c.loop-i.args.items in
    let v = c.argument.result in
    let here : c.arg.result ≡ suc c.args.p + i = omega (arith, c.arg.ensures, c.from.ensures) in
    let e = c.in_ok-push.ensures.items in
    record {
      values = values-pushed h vs c.push.new.self.items v c.loop-i.invariant.values c.argument.ensures.fits e;
      are =
          ap (map (value h)) e
          ∙ map-append (value h) vs (v ∷ [])
          ∙ ap₂ (λ ts t. ts ++ t ∷ []) c.loop-i.invariant.are (c.argument.ensures.same ∙ ap (term h) here)
          ∙ sym (terms-more h (suc c.args.p) i);
    }
