use Rattle.std.proofs.Common.{◌≡◌, ◌∙◌, ◌∷◌, [], List, reverse, subst, ap, arith}
use Rattle.std.proofs.lemmas.List.{reverse-append}
use Rattle.plterm.specs.Tree.{Tree}
use Rattle.plcode.specs.declared.body.Part.{Part}
use Rattle.plcode.specs.Steps.{text}
use Rattle.plcode.specs.Bodies.{Made}
use Rattle.plcode.proofs.Segments.{two_none, two_one, branches_put, branches_code, branches_extended}
use Rattle.plcode.proofs.Rows.{popped_none}
use Rattle.plcode.proofs.body.put_branches.Goals as goal

-- the two topmost parts, as they were taken off
parted : (c : goal.In_ok-right) (a b : Tree) (gs : List Tree) → Made (text c.args.code.now) (reverse c.args.parts.now.items) (reverse c.args.made.now.items) (a ∷ b ∷ gs)
    → Made (text c.args.code.now) (c.in-Some.left ∷ c.in-Some-pop.right ∷ reverse c.pop-2.new.self.items) (reverse c.args.made.now.items) (a ∷ b ∷ gs)
parted c a b gs h =
    let p = c.in-Some.left in
    let q = c.in-Some-pop.right in
    let ps = reverse c.pop-2.new.self.items in
    let first : reverse c.args.parts.now.items ≡ p ∷ reverse c.pop.new.self.items = ap reverse c.in-Some.ensures.items ∙ reverse-append c.pop.new.self.items (p ∷ []) in
    let second : reverse c.pop.new.self.items ≡ q ∷ ps = ap reverse c.in-Some-pop.ensures.items ∙ reverse-append c.pop-2.new.self.items (q ∷ []) in
    let P : List Part → Type 0 = λ v. Made (text c.args.code.now) v (reverse c.args.made.now.items) (a ∷ b ∷ gs) in
    subst P (first ∙ ap (λ (v : List Part). p ∷ v) second) h

pub returns-clause-branches : goal.returns-clause-branches
returns-clause-branches c a b gs h =
    let e = c.in_ok-left.ensures in
    let f = c.in_ok-right.ensures in
    branches_put (text c.args.code.now) c.requires.code _ _ c.in-Some.left c.in-Some-pop.right (reverse c.pop-2.new.self.items) _ _ _ _ _ e.code e.place e.made f.code f.place f.made a b gs (parted c a b gs h)

pub returns-clause-code : goal.returns-clause-code
returns-clause-code c =
    let e = c.in_ok-left.ensures in
    let f = c.in_ok-right.ensures in
    let m = c.requires.made in
    branches_code (text c.args.code.now) c.requires.code _ _ c.in-Some.left c.in-Some-pop.right (reverse c.pop-2.new.self.items) _ _ _ _ _ e.code e.place e.made f.code f.place f.made
    m.first m.second m.rest (parted c m.first m.second m.rest m.made)

pub returns-clause-extended : goal.returns-clause-extended
returns-clause-extended c =
    let e = c.in_ok-left.ensures in
    let f = c.in_ok-right.ensures in
    let m = c.requires.made in
    branches_extended (text c.args.code.now) c.requires.code _ _ c.in-Some.left c.in-Some-pop.right (reverse c.pop-2.new.self.items) _ _ _ _ _ e.code e.place e.made f.code f.place f.made
    m.first m.second m.rest (parted c m.first m.second m.rest m.made)

pub unreachable-requires : goal.unreachable-requires
unreachable-requires c =
    two_none c.args.parts.now.items _ c.requires.two (popped_none c.args.parts.now.items c.pop.new.self.items _ c.in_default.ensures.items c.in_default.ensures.rest (omega (arith, c.args.parts.now.ok.0)))

pub unreachable-requires-in_default-pop : goal.unreachable-requires-in_default-pop
unreachable-requires-in_default-pop c =
    two_one c.args.parts.now.items c.pop.new.self.items c.in-Some.left _ c.requires.two c.in-Some.ensures.items
    (popped_none c.pop.new.self.items c.pop-2.new.self.items _ c.in_default-pop.ensures.items c.in_default-pop.ensures.rest (omega (arith, c.pop.new.self.ok.0)))
