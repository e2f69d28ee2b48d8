use Rattle.std.proofs.Common.{◌≡◌, ◌∙◌, ◌++◌, ◌∷◌, [], suc, length, length-append, arith, sym, ap, subst, Some}
use Rattle.std.specs.Prelude.{codes}
use Rattle.std.proofs.lemmas.List.{nil_from_length}
use Rattle.plterm.specs.declared.node.Node.TheVariants.{Var, Compound}
use Rattle.plterm.specs.Tree.{compound, none, more}
use Rattle.plclause.proofs.Names.{IsName-call}
use Rattle.plcells.specs.Store.{term, value, AreValues}
use Rattle.plcells.proofs.Taking.{Plants}
use Rattle.plgoals.specs.Goals.{IsKind}
use Rattle.plgoals.proofs.Walking.{Leads, left_terms, left-popped, left-opened, values-popped, values-pushed, values-opened, lighter-popped, lighter-opened, leads-none, leads-leaf, leads-construct, spells-value, spells-call, spells-end, plants-value, plants-call, plants-construct}
use Rattle.plgoals.proofs.goal.goal_nodes.Goals as goal

pub kind_of-requires : goal.kind_of-requires
kind_of-requires c = (values-popped c.args.heap.now c.loop-w.stack.items c.pop.new.self.items c.in-Some.w c.loop-w.invariant.stacked c.in-Some.ensures.items).1

pub returns-in-Number-clause-none : goal.returns-in-Number-clause-none
unfolding IsKind
returns-in-Number-clause-none c =
    let h = c.args.heap.now in
    let l = c.loop-w in
    let rest = c.pop.new.self.items in
    let w = c.in-Some.w in
    let leads = subst (λ ts. Leads h l.goal.values.items l.goal.nodes.items ts (value h c.args.v)) (left-popped h l.stack.items rest w c.in-Some.ensures.items) l.invariant.leads in
    leads-none h l.goal.values.items l.goal.nodes.items (value h w) (left_terms h rest) (value h c.args.v) leads c.in-Number.ensures

pub loop-w-smaller-in-Variable : goal.loop-w-smaller-in-Variable
loop-w-smaller-in-Variable c = lighter-popped c.args.heap.now c.loop-w.stack.items c.pop.new.self.items c.in-Some.w c.in-Some.ensures.items

pub loop-w-preserved-in-Variable : goal.loop-w-preserved-in-Variable
unfolding IsKind
loop-w-preserved-in-Variable c =
    let h = c.args.heap.now in
    let l = c.loop-w in
    let rest = c.pop.new.self.items in
    let w = c.in-Some.w in
    let x = c.in-Variable.e in
    let vs = l.goal.values.items in
    let out = l.goal.nodes.items in
    let t = value h c.args.v in
    let e = c.in-Some.ensures.items in
    let says = c.in-Variable.ensures in
    let made = c.in_ok-push_call-in-Variable.ensures in
    let popped = values-popped h l.stack.items rest w l.invariant.stacked e in
    let deep : length l.stack.items ≡ suc (length rest) = ap length e ∙ length-append rest (w ∷ []) ∙ omega arith in
    let leads = subst (λ ts. Leads h vs out ts t) (left-popped h l.stack.items rest w e) l.invariant.leads in
    let next = leads-leaf h vs out (value h w) (left_terms h rest) t leads x (compound (codes "call") (more (value h x) none)) (Compound (codes "call") 1 ∷ Var (length vs) ∷ []) says.1
    (λ extra behind. spells-call h vs extra x (codes "call") behind) (λ n lt behind b. ((lt, tt), b)) in
    let plants = plants-call out (length rest) (length vs) (codes "call") IsName-call (subst (Plants out) deep l.invariant.plants) in
    record {
      stacked = popped.0;
      values = values-pushed h vs c.push_call.new.self.values.items x l.invariant.values says.0 made.values;
      leads = subst (λ ws. Leads h ws c.push_call.new.self.nodes.items (left_terms h rest) t) (sym made.values) (subst (λ ns. Leads h (vs ++ x ∷ []) ns (left_terms h rest) t) (sym made.nodes) next);
      plants = subst (λ ns. Plants ns (length rest)) (sym made.nodes) plants;
    }

pub loop-w-smaller-in-Goal : goal.loop-w-smaller-in-Goal
loop-w-smaller-in-Goal c = lighter-popped c.args.heap.now c.loop-w.stack.items c.pop.new.self.items c.in-Some.w c.in-Some.ensures.items

pub loop-w-preserved-in-Goal : goal.loop-w-preserved-in-Goal
unfolding IsKind
loop-w-preserved-in-Goal c =
    let h = c.args.heap.now in
    let l = c.loop-w in
    let rest = c.pop.new.self.items in
    let w = c.in-Some.w in
    let x = c.in-Goal.e in
    let vs = l.goal.values.items in
    let out = l.goal.nodes.items in
    let t = value h c.args.v in
    let e = c.in-Some.ensures.items in
    let says = c.in-Goal.ensures in
    let made = c.in_ok-push_value-in-Goal.ensures in
    let popped = values-popped h l.stack.items rest w l.invariant.stacked e in
    let deep : length l.stack.items ≡ suc (length rest) = ap length e ∙ length-append rest (w ∷ []) ∙ omega arith in
    let leads = subst (λ ts. Leads h vs out ts t) (left-popped h l.stack.items rest w e) l.invariant.leads in
    let next = leads-leaf h vs out (value h w) (left_terms h rest) t leads x (value h x) (Var (length vs) ∷ []) (says.2 ∙ ap Some (sym says.1)) (λ extra behind. spells-value h vs extra x behind) (λ n lt behind b. (lt, b)) in
    let plants = plants-value out (length rest) (length vs) (subst (Plants out) deep l.invariant.plants) in
    record {
      stacked = popped.0;
      values = values-pushed h vs c.push_value.new.self.values.items x l.invariant.values says.0 made.values;
      leads = subst (λ ws. Leads h ws c.push_value.new.self.nodes.items (left_terms h rest) t) (sym made.values) (subst (λ ns. Leads h (vs ++ x ∷ []) ns (left_terms h rest) t) (sym made.nodes) next);
      plants = subst (λ ns. Plants ns (length rest)) (sym made.nodes) plants;
    }

pub push_construct-requires : goal.push_construct-requires
unfolding IsKind
push_construct-requires c = c.in-Construct.ensures.1

pub push_goals-requires : goal.push_goals-requires
unfolding IsKind
push_goals-requires c = c.in-Construct.ensures.1

pub loop-w-smaller : goal.loop-w-smaller
unfolding IsKind
loop-w-smaller c =
    lighter-opened c.args.heap.now c.loop-w.stack.items c.pop.new.self.items c.push_goals.new.stack.items c.in-Some.w c.in-Construct.p c.in-Some.ensures.items c.in-Construct.ensures.0 c.in-Construct.ensures.1
    c.in_ok-push_goals-in-Construct.ensures

pub loop-w-preserved : goal.loop-w-preserved
unfolding IsKind
loop-w-preserved c =
    let h = c.args.heap.now in
    let l = c.loop-w in
    let rest = c.pop.new.self.items in
    let after = c.push_goals.new.stack.items in
    let w = c.in-Some.w in
    let p = c.in-Construct.p in
    let vs = l.goal.values.items in
    let out = l.goal.nodes.items in
    let t = value h c.args.v in
    let e = c.in-Some.ensures.items in
    let is = c.in-Construct.ensures.1 in
    let made = c.in_ok-push_construct-in-Construct.ensures in
    let nodes = made.nodes is.name _ is.is in
    let opens = c.in_ok-push_goals-in-Construct.ensures in
    let popped = values-popped h l.stack.items rest w l.invariant.stacked e in
    let deep : length l.stack.items ≡ suc (length rest) = ap length e ∙ length-append rest (w ∷ []) ∙ omega arith in
    let deeper : length after ≡ suc (suc (length rest)) = ap length opens.stack ∙ length-append rest (opens.second ∷ opens.first ∷ []) ∙ omega arith in
    let leads = subst (λ ts. Leads h vs out ts t) (left-popped h l.stack.items rest w e) l.invariant.leads in
    let next = leads-construct h vs out (value h w) (term h (suc p)) (term h (suc (suc p))) (left_terms h rest) t leads is.name (c.in-Construct.ensures.0 ∙ is.is) is.control in
    let plants = plants-construct out (length rest) is.name is.named (subst (Plants out) deep l.invariant.plants) in
    record {
      stacked = values-opened h p rest after popped.0 opens;
      values = subst (AreValues h) (sym made.values) l.invariant.values;
      leads = subst (λ ws. Leads h ws c.push_construct.new.self.nodes.items (left_terms h after) t) (sym made.values)
          (subst (λ ns. Leads h vs ns (left_terms h after) t) (sym nodes)
          (subst (λ ts. Leads h vs (out ++ Compound is.name 2 ∷ []) ts t) (sym (left-opened h p rest after opens)) next));
      plants = subst (λ ns. Plants ns (length after)) (sym nodes) (subst (Plants (out ++ Compound is.name 2 ∷ [])) (sym deeper) plants);
    }

pub returns-clause-some : goal.returns-clause-some
returns-clause-some c =
    let h = c.args.heap.now in
    let l = c.loop-w in
    let t = value h c.args.v in
    let none = nil_from_length l.stack.items (omega (arith, c.in_default.ensures.cases, l.stack.ok.0)) in
    spells-end h c.args.v l.goal.values.items l.goal.nodes.items (subst (λ s. Leads h l.goal.values.items l.goal.nodes.items (left_terms h s) t) none l.invariant.leads)
    (subst (λ s. Plants l.goal.nodes.items (length s)) none l.invariant.plants) l.invariant.values
