use Rattle.std.proofs.Common.{◌≡◌, ◌∙◌, ℕ, List, length, take, subst, ap, sym, arith}
use Rattle.std.proofs.lemmas.List.{take_all}
use Rattle.plterm.specs.Tree.{Tree}
use Rattle.plterm.proofs.Forests.{list_of-trees}
use Rattle.plsearch.specs.Forms.{arguments}
use Rattle.plcode.specs.Laying.{IsRow}
use Rattle.plcode.specs.Steps.{text, Args}
use Rattle.plcode.proofs.Goals.{no_args}
use Rattle.plcode.proofs.Stays.{relaid_code, Extended-refl, relaid_extended}
use Rattle.plcode.proofs.clause.lay_arguments.Goals as goal

pub returns-in_ok-at-in-Compound-clause-row : goal.returns-in_ok-at-in-Compound-clause-row
returns-in_ok-at-in-Compound-clause-row c =
    let ts = c.in-Compound.args in
    let at = c.in_ok-at-in-Compound.at in
    let is : arguments c.args.head.now ≡ ts = sym (ap arguments c.in-Compound.ensures.shown) ∙ list_of-trees ts in
    let P : List Tree → Type 0 = λ v. IsRow c.lay.new.names c.lay.new.nodes.items at (length v) v in
    let Q : ℕ → Type 0 = λ n. IsRow c.lay.new.names c.lay.new.nodes.items at n (take n ts) in
    let R : List Tree → Type 0 = IsRow c.lay.new.names c.lay.new.nodes.items at (length ts) in
    subst P (sym is) (subst R (take_all (length ts) ts (omega arith)) (subst Q c.len-count.ensures c.in_ok-at-in-Compound.ensures.row))

pub returns-in-Atom-clause-row : goal.returns-in-Atom-clause-row
returns-in-Atom-clause-row c =
    let P : List Tree → Type 0 = Args (text c.args.code.now) 0 in
    subst P (ap arguments c.in-Atom.ensures.shown) (no_args (text c.args.code.now))

pub returns-in_ok-at-in-Compound-clause-code : goal.returns-in_ok-at-in-Compound-clause-code
returns-in_ok-at-in-Compound-clause-code c =
    let e = c.in_ok-at-in-Compound.ensures in
    relaid_code (text c.args.code.now) c.lay.new.names c.lay.new.nodes.items e.names e.grows c.requires.code e.laid

pub returns-in_ok-at-in-Compound-clause-proper : goal.returns-in_ok-at-in-Compound-clause-proper
returns-in_ok-at-in-Compound-clause-proper c none =
    let ts = c.in-Compound.args in
    let is : arguments c.args.head.now ≡ ts = sym (ap arguments c.in-Compound.ensures.shown) ∙ list_of-trees ts in
    absurd (omega (arith, c.in-Compound.ensures.bounds.1, ap length (sym is ∙ none)))

pub returns-in-Atom-clause-proper : goal.returns-in-Atom-clause-proper
returns-in-Atom-clause-proper c none = (c.in-Atom.field-0.now, sym c.in-Atom.ensures.shown)

pub returns-in-Atom-clause-extended : goal.returns-in-Atom-clause-extended
returns-in-Atom-clause-extended c = Extended-refl (text c.args.code.now)

pub returns-in_ok-at-in-Compound-clause-extended : goal.returns-in_ok-at-in-Compound-clause-extended
returns-in_ok-at-in-Compound-clause-extended c =
    let e = c.in_ok-at-in-Compound.ensures in relaid_extended (text c.args.code.now) c.lay.new.names c.lay.new.nodes.items e.names e.grows
