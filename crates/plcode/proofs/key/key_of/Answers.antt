use Rattle.std.proofs.Common.{◌≡◌, ◌∙◌, List, ℕ, length, ap, sym}
use Rattle.plterm.specs.Tree.{compound, trees}
use Rattle.plterm.proofs.Forests.{list_of-trees}
use Rattle.platoms.specs.Names.{atom_at, functor_name}
use Rattle.platoms.proofs.Extending.{atom_same, Extends-trans}
use Rattle.plcode.specs.Steps.{text}
use Rattle.plcode.proofs.Stays.{names_code, Extended-refl, names_extended}
use Rattle.plcode.proofs.key.key_of.Goals as goal

pub returns-in_ok-atom-in-Atom-clause-code : goal.returns-in_ok-atom-in-Atom-clause-code
returns-in_ok-atom-in-Atom-clause-code c = names_code (text c.args.code.now) c.atom.new.self c.atom.ensures.extends c.requires.code c.atom.ensures.table

pub returns-in_ok-functor-in-Compound-clause-code : goal.returns-in_ok-functor-in-Compound-clause-code
returns-in_ok-functor-in-Compound-clause-code c =
    names_code (text c.args.code.now) c.functor.new.self
    (Extends-trans c.args.code.now.names c.atom-in-Compound.new.self c.functor.new.self c.atom-in-Compound.ensures.extends c.functor.ensures.extends) c.requires.code c.functor.ensures.table

pub returns-in_ok-functor-in-Compound-clause-key : goal.returns-in_ok-functor-in-Compound-clause-key
returns-in_ok-functor-in-Compound-clause-key c =
    let named = c.in_ok-name-in-Compound.ensures.is in
    let is = c.in_ok-functor-in-Compound.ensures.is in
    let s = c.atom-in-Compound.new.self in
    let t = c.functor.new.self in
    let ts = c.in-Compound.args in
    let name : functor_name t c.in_ok-functor-in-Compound.functor ≡ c.in-Compound.name.now =
    ap (λ g. atom_at t g.name) is.is ∙ atom_same s t c.functor.ensures.extends c.in_ok-name-in-Compound.name named.within ∙ named.is in
    record {
      within = is.within;
      args = trees ts;
      is = sym c.in-Compound.ensures.shown ∙ ap (λ (n : List ℕ). compound n (trees ts)) (sym name);
      arity = ap (λ g. g.arity) is.is ∙ c.len-arity.ensures ∙ sym (ap length (list_of-trees ts));
    }

pub returns-in-Var-clause-extended : goal.returns-in-Var-clause-extended
returns-in-Var-clause-extended c = Extended-refl (text c.args.code.now)

pub returns-in-Int-clause-extended : goal.returns-in-Int-clause-extended
returns-in-Int-clause-extended c = Extended-refl (text c.args.code.now)

pub returns-in_ok-atom-in-Atom-clause-extended : goal.returns-in_ok-atom-in-Atom-clause-extended
returns-in_ok-atom-in-Atom-clause-extended c = names_extended (text c.args.code.now) c.atom.new.self c.atom.ensures.extends

pub returns-in_ok-functor-in-Compound-clause-extended : goal.returns-in_ok-functor-in-Compound-clause-extended
returns-in_ok-functor-in-Compound-clause-extended c =
    names_extended (text c.args.code.now) c.functor.new.self
    (Extends-trans c.args.code.now.names c.atom-in-Compound.new.self c.functor.new.self c.atom-in-Compound.ensures.extends c.functor.ensures.extends)
