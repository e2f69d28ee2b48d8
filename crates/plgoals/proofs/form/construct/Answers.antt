use Rattle.std.proofs.Common.{◌≡◌, ◌∙◌, List, ◌∷◌, [], map, refl, sym, ap, subst, arith}
use Rattle.std.proofs.lemmas.List.{get_or_default}
use Rattle.plcells.specs.declared.cell.Cell.{Cell}
use Rattle.plcells.specs.declared.cell.Cell.TheVariants.{Free}
use Rattle.plcells.specs.Store.{value}
use Rattle.plcells.proofs.Given.{value-in}
use Rattle.plsearch.specs.Forms.{construct}
use Rattle.plgoals.specs.Forms.{shown_form, IsInside}
use Rattle.plgoals.proofs.Calling.{list-none, list-one, list-two, list-three}
use Rattle.plgoals.proofs.form.construct.Goals as goal

pub returns-in-empty-clause-inside : goal.returns-in-empty-clause-inside
returns-in-empty-clause-inside c =
    let h = c.args.heap.now in
    subst (λ (xs : List Cell). IsInside h xs c.nullary.result) (sym (list-none c.args.args.now c.in-empty.len_below)) (c.nullary.ensures.inside h)

pub returns-in-len1-clause-is : goal.returns-in-len1-clause-is
returns-in-len1-clause-is c p =
    let h = c.args.heap.now in
    let xs = c.args.args.now in
    let l = c.in-len1.len_at_least in
    let x = c.a-item.result in
    let a = get_or_default xs 0 (Free 0) x (omega (arith, l)) ∙ sym c.a-item.is in
    let are : xs ≡ x ∷ [] = list-one xs (Free 0) l c.in-len1.len_below ∙ ap (λ v. v ∷ []) a in
    subst (λ (vs : List Cell). shown_form h p vs c.unary.result ≡ construct c.args.control (map (value h) vs)) (sym are) (c.unary.ensures.is h p)

pub returns-in-len1-clause-inside : goal.returns-in-len1-clause-inside
returns-in-len1-clause-inside c =
    let h = c.args.heap.now in
    let xs = c.args.args.now in
    let l = c.in-len1.len_at_least in
    let x = c.a-item.result in
    let a = get_or_default xs 0 (Free 0) x (omega (arith, l)) ∙ sym c.a-item.is in
    let are : xs ≡ x ∷ [] = list-one xs (Free 0) l c.in-len1.len_below ∙ ap (λ v. v ∷ []) a in
    subst (λ (vs : List Cell). IsInside h vs c.unary.result) (sym are) (c.unary.ensures.inside h (value-in h xs 0 (Free 0) x c.requires.args (omega (arith, l)) a))

pub returns-in-len2-clause-is : goal.returns-in-len2-clause-is
returns-in-len2-clause-is c p =
    let h = c.args.heap.now in
    let xs = c.args.args.now in
    let l = c.in-len2.len_at_least in
    let x = c.a-item-then-args-lt3.result in
    let y = c.b-item.result in
    let a = get_or_default xs 0 (Free 0) x (omega (arith, l)) ∙ sym c.a-item-then-args-lt3.is in
    let b = get_or_default xs 1 (Free 0) y (omega (arith, l)) ∙ sym c.b-item.is in
    let are : xs ≡ x ∷ y ∷ [] = list-two xs (Free 0) l c.in-len2.len_below ∙ rw (a, b) refl in
    subst (λ (vs : List Cell). shown_form h p vs c.binary.result ≡ construct c.args.control (map (value h) vs)) (sym are) (c.binary.ensures.is p)

pub returns-in-len3-clause-is : goal.returns-in-len3-clause-is
returns-in-len3-clause-is c p =
    let h = c.args.heap.now in
    let xs = c.args.args.now in
    let l = c.in-len3.len_at_least in
    let x = c.a-item-then-args-lt4.result in
    let y = c.b-item-then-args-lt4.result in
    let z = c.c-item.result in
    let a = get_or_default xs 0 (Free 0) x (omega (arith, l)) ∙ sym c.a-item-then-args-lt4.is in
    let b = get_or_default xs 1 (Free 0) y (omega (arith, l)) ∙ sym c.b-item-then-args-lt4.is in
    let d = get_or_default xs 2 (Free 0) z (omega (arith, l)) ∙ sym c.c-item.is in
    let are : xs ≡ x ∷ y ∷ z ∷ [] = list-three xs (Free 0) l c.in-len3.len_below ∙ rw (a, b, d) refl in
    subst (λ (vs : List Cell). shown_form h p vs c.ternary.result ≡ construct c.args.control (map (value h) vs)) (sym are) (c.ternary.ensures.is h p)

pub returns-in-len3-clause-inside : goal.returns-in-len3-clause-inside
returns-in-len3-clause-inside c =
    let h = c.args.heap.now in
    let xs = c.args.args.now in
    let l = c.in-len3.len_at_least in
    let x = c.a-item-then-args-lt4.result in
    let y = c.b-item-then-args-lt4.result in
    let z = c.c-item.result in
    let a = get_or_default xs 0 (Free 0) x (omega (arith, l)) ∙ sym c.a-item-then-args-lt4.is in
    let b = get_or_default xs 1 (Free 0) y (omega (arith, l)) ∙ sym c.b-item-then-args-lt4.is in
    let d = get_or_default xs 2 (Free 0) z (omega (arith, l)) ∙ sym c.c-item.is in
    let are : xs ≡ x ∷ y ∷ z ∷ [] = list-three xs (Free 0) l c.in-len3.len_below ∙ rw (a, b, d) refl in
    let at = value-in h xs in
    subst (λ (vs : List Cell). IsInside h vs c.ternary.result) (sym are)
    (c.ternary.ensures.inside h (at 0 (Free 0) x c.requires.args (omega (arith, l)) a) (at 1 (Free 0) y c.requires.args (omega (arith, l)) b) (at 2 (Free 0) z c.requires.args (omega (arith, l)) d))
