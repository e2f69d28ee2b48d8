use Rattle.std.proofs.lemmas.Bool.{false≢true}
use Rattle.plpack.proofs.Nodes.{no_arity, bad_arity, no_functor}
use Rattle.plpack.proofs.item.compound_at.Goals as goal

pub returns-in_default : goal.returns-in_default
returns-in_default c = no_arity c.args.bytes.now c.in_default.ensures

pub returns-then-not-is_arity : goal.returns-then-not-is_arity
returns-then-not-is_arity c =
    bad_arity c.in-Some.arity c.args.bytes.now c.in-Some.rest.now c.in-Some.ensures (λ h. false≢true (c.if-not-is_arity.ensures.1 h))

pub returns-in_default-name_of : goal.returns-in_default-name_of
returns-in_default-name_of c =
    no_functor c.in-Some.arity c.args.bytes.now c.in-Some.rest.now c.in-Some.ensures c.in_default-name_of.ensures
