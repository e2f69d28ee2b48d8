use Rattle.std.proofs.Common.{◌≡◌, ◌∙◌, ◌∷◌, [], ◌++◌, List, ap, subst, sym, codes}
use Rattle.platoms.specs.Names.{HasAtom}
use Rattle.plcode.specs.declared.node.Node.{Node}
use Rattle.plcode.specs.declared.node.Node.TheVariants.{Atom}
use Rattle.plcode.specs.declared.op.Op.TheVariants as ops
use Rattle.plcode.specs.declared.op.Step.{Step}
use Rattle.plcode.specs.Bodies.{step, IsCode}
use Rattle.plcode.proofs.First.{first_code}
use Rattle.plcode.proofs.draft.Draft.begin.Goals as goal

pub returns : goal.returns
returns c =
    let t = c.atom-2.new.self in
    let a = c.in_ok-fail.fail in
    let is = c.in_ok-fail.ensures.is in
    let has : HasAtom t a (codes "fail") = record { within = is.within; is = is.is ∙ c.in_ok-name_of.ensures.text } in
    let nodes : c.push.new.self.items ≡ Atom a ∷ [] = c.in_ok-push.ensures.items ∙ ap (λ (ns : List Node). ns ++ Atom a ∷ []) c.requires.nodes in
    let steps : c.push-3.new.self.items ≡ step ops.Proceed 0 ++ step ops.Goal 0 =
    c.in_ok-push-3.ensures.items
    ∙ ap (λ (ss : List Step). ss ++ step ops.Goal 0) (c.in_ok-push-2.ensures.items ∙ ap (λ (ss : List Step). ss ++ step ops.Proceed 0) c.requires.steps) in
    let P : List Node → Type 0 = λ ns. IsCode (record { names = t; nodes = ns; steps = c.push-3.new.self.items }) in
    let Q : List Step → Type 0 = λ ss. IsCode (record { names = t; nodes = Atom a ∷ []; steps = ss }) in
    subst P (sym nodes) (subst Q (sym steps) (first_code t a c.atom-2.ensures.table has))
