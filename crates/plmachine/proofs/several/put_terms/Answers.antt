use Rattle.std.proofs.Common.{◌≡◌, ◌+◌, [], ◌∷◌, ◌++◌, take, ap, sym, ◌∙◌, arith}
use Rattle.std.proofs.lemmas.List.{take_more}
use Rattle.plterm.specs.Ground.{is_ground}
use Rattle.plmachine.proofs.Ground.{copied-ground}
use Rattle.plmachine.proofs.Lists.{grown-trans}
use Rattle.plmachine.proofs.Joining.{passes-at, grown-ground, joins-none, joins-more}
use Rattle.plmachine.proofs.several.put_terms.Goals as goal

pub loop-term-init : goal.loop-term-init
loop-term-init c = joins-none c.args.stack.now c.args.values.items c.requires.values

pub loop-term-preserved : goal.loop-term-preserved
loop-term-preserved c =
    let l = c.loop-term in
    let ts = c.args.terms.now in
    let i = l.term-index in
    let t = c.term-item.result in
    let taken : take (i + 1) ts ≡ take i ts ++ t ∷ [] = take_more ts i t (omega (arith, c.loop-term-test.true)) ∙ ap (λ x. take i ts ++ x ∷ []) (sym c.term-item.is) in
    let ground = ap is_ground c.term-item.is ∙ passes-at is_ground ts i t (omega (arith, c.loop-term-test.true)) c.requires.ground in
    joins-more c.args.stack.now l.stack c.put_copy.new.self c.args.values.items l.all.items c.push.new.self.items (take i ts) (take (i + 1) ts) t c.in_ok-v.v
    l.invariant (grown-ground l.stack c.put_copy.new.self t ground c.in_ok-v.ensures.stays c.in_ok-v.ensures.count) c.in_ok-v.ensures.value (c.in_ok-v.ensures.is ∙ copied-ground l.stack.env.count t ground)
    taken c.in_ok-push.ensures.items

pub returns-in_err-push-clause-grown : goal.returns-in_err-push-clause-grown
returns-in_err-push-clause-grown c =
    let l = c.loop-term in
    let ts = c.args.terms.now in
    let t = c.term-item.result in
    let ground = ap is_ground c.term-item.is ∙ passes-at is_ground ts l.term-index t (omega (arith, c.loop-term-test.true)) c.requires.ground in
    grown-trans c.args.stack.now l.stack c.put_copy.new.self l.invariant.grown (grown-ground l.stack c.put_copy.new.self t ground c.in_ok-v.ensures.stays c.in_ok-v.ensures.count)
