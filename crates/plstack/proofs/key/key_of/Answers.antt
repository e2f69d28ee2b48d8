use Rattle.std.proofs.Common.{ap, sym, subst, ◌∙◌}
use Rattle.plcells.specs.Store.{value}
use Rattle.plcode.specs.Keys.{IsCompound}
use Rattle.plstack.proofs.Keys.{block-compound, end-is-variable}
use Rattle.plstack.proofs.key.key_of.Goals as goal

pub returns-in-Str-clause-is : goal.returns-in-Str-clause-is
returns-in-Str-clause-is c =
    let h = c.args.heap.now in
    subst (IsCompound h.names c.block-f.result.0) (ap (value h) (sym c.in-Str.is) ∙ c.root-root.ensures.same) (block-compound h c.in-Str.p c.block-f.result.0 c.block-f.result.1 c.block-f.ensures.block)

pub returns-in_default-clause-any : goal.returns-in_default-clause-any
returns-in_default-clause-any c =
    let h = c.args.heap.now in
    let e = c.root-root.ensures in
    λ any. end-is-variable h c.root-root.result (value h c.args.v) e.heap e.end e.same c.in_default.not-Int c.in_default.not-Wide c.in_default.not-Atom c.in_default.not-Str
