use Rattle.std.proofs.Common.{◌≤◌, ap, length, rules, subst}
use Rattle.plterm.specs.Reading.{arity, Fits}
use Rattle.std.proofs.lemmas.Result.{on_ok_weaker}
use Rattle.plterm.specs.Tree.{var, int}
use Rattle.platoms.proofs.Extending.{Extends-refl}
use Rattle.plcode.proofs.Waiting.{Waits-pushed}
use Rattle.plcode.proofs.Placing.{Grows-refl}
use Rattle.plcode.proofs.lay.put_node.Goals as goal

pub returns-in_ok-push-in-Var-clause-waits : goal.returns-in_ok-push-in-Var-clause-waits
returns-in_ok-push-in-Var-clause-waits c ts h =
    rw c.in-Var.is (Waits-pushed c.args.names.now c.args.nodes.now.items _ _ ts _ (var c.in-Var.variable) c.in_ok-push-in-Var.ensures.items h tt tt (ap var c.in-Ok.ensures.1))

pub returns-in_ok-push-in-Int-clause-waits : goal.returns-in_ok-push-in-Int-clause-waits
returns-in_ok-push-in-Int-clause-waits c ts h =
    rw c.in-Int.is (Waits-pushed c.args.names.now c.args.nodes.now.items _ _ ts _ (int c.in-Int.number) c.in_ok-push-in-Int.ensures.items h tt tt (search rules))

pub returns-in-Atom-clause-waits : goal.returns-in-Atom-clause-waits
returns-in-Atom-clause-waits c = on_ok_weaker c.put_atom.result (λ waits ts h. rw c.in-Atom.is (waits c.args.nodes.now.items ts h)) c.put_atom.ensures.waits

pub returns-in-Atom-clause-grows : goal.returns-in-Atom-clause-grows
returns-in-Atom-clause-grows c = on_ok_weaker c.put_atom.result (λ waits. Grows-refl c.args.nodes.now.items) c.put_atom.ensures.waits

pub returns-in-Compound-clause-waits : goal.returns-in-Compound-clause-waits
returns-in-Compound-clause-waits c = on_ok_weaker c.put_compound.result (λ waits ts h. rw c.in-Compound.is (waits ts h)) c.put_compound.ensures.waits

pub returns-in-Compound-clause-grows : goal.returns-in-Compound-clause-grows
returns-in-Compound-clause-grows c = c.put_compound.ensures.grows

pub put_compound-requires : goal.put_compound-requires
put_compound-requires c = record { room = subst (λ n. arity n ≤ length c.args.waiting.now.items) c.in-Compound.is c.requires.room; fits = subst Fits c.in-Compound.is c.requires.fits }

pub returns-in_ok-push-in-Var-clause-grows : goal.returns-in_ok-push-in-Var-clause-grows
returns-in_ok-push-in-Var-clause-grows c = Grows-refl c.args.nodes.now.items

pub returns-in_ok-push-in-Var-clause-names : goal.returns-in_ok-push-in-Var-clause-names
returns-in_ok-push-in-Var-clause-names c = Extends-refl c.args.names.now

pub returns-in_err-push-in-Var-clause-names : goal.returns-in_err-push-in-Var-clause-names
returns-in_err-push-in-Var-clause-names c = Extends-refl c.args.names.now

pub returns-in_ok-push-in-Int-clause-grows : goal.returns-in_ok-push-in-Int-clause-grows
returns-in_ok-push-in-Int-clause-grows c = Grows-refl c.args.nodes.now.items

pub returns-in_ok-push-in-Int-clause-names : goal.returns-in_ok-push-in-Int-clause-names
returns-in_ok-push-in-Int-clause-names c = Extends-refl c.args.names.now

pub returns-in_err-push-in-Int-clause-names : goal.returns-in_err-push-in-Int-clause-names
returns-in_err-push-in-Int-clause-names c = Extends-refl c.args.names.now

pub returns-in_default-clause-names : goal.returns-in_default-clause-names
returns-in_default-clause-names c = Extends-refl c.args.names.now

pub returns-in-Atom-clause-names : goal.returns-in-Atom-clause-names
returns-in-Atom-clause-names c = c.put_atom.ensures.names

pub returns-in-Compound-clause-names : goal.returns-in-Compound-clause-names
returns-in-Compound-clause-names c = c.put_compound.ensures.names
