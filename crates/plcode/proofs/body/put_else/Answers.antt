use Rattle.std.proofs.Common.{◌≡◌, ◌∙◌, ◌∷◌, [], List, Some, drop, reverse, refl, subst, ap, sym, codes, arith}
use Rattle.std.proofs.lemmas.List.{reverse-append}
use Rattle.plterm.specs.Tree.{Tree}
use Rattle.plcode.specs.declared.body.Part.{Part}
use Rattle.plcode.specs.declared.op.Step.{Step}
use Rattle.plcode.specs.Steps.{text, of_two}
use Rattle.plcode.specs.Bodies.{arrow_of, Made}
use Rattle.plcode.proofs.Segments.{two_none, two_one, two_steps, else_put, else_code, else_extended}
use Rattle.plcode.proofs.Rows.{popped_none}
use Rattle.plcode.proofs.body.put_else.Goals as goal

module _ (c : goal.In_ok-push_part) where
  abbrev ps : List Part
  ps = reverse c.pop-2.new.self.items

  first : reverse c.args.parts.now.items ≡ c.in-Some.field-0 ∷ reverse c.pop.new.self.items
  first = ap reverse c.in-Some.ensures.items ∙ reverse-append c.pop.new.self.items (c.in-Some.field-0 ∷ [])

  second : reverse c.pop.new.self.items ≡ c.in-Some-pop.right ∷ ps
  second = ap reverse c.in-Some-pop.ensures.items ∙ reverse-append c.pop-2.new.self.items (c.in-Some-pop.right ∷ [])

  popped : reverse c.pop-3.new.self.items ≡ drop 1 (reverse c.args.made.now.items)
  popped =
      let s = c.in-Some-pop-2.field-0 in
      sym (ap (λ (v : List Step). drop 1 v) (ap reverse c.in-Some-pop-2.ensures.items ∙ reverse-append c.pop-3.new.self.items (s ∷ [])))

  top : c.in-Some.field-0.arrow ≡ Some c.args.arrow
  top = sym (ap arrow_of first) ∙ c.requires.top

  parted : (a b : Tree) (rest : List Tree) → Made (text c.args.code.now) (reverse c.args.parts.now.items) (reverse c.args.made.now.items) (a ∷ b ∷ rest)
      → Made (text c.args.code.now) (c.in-Some.field-0 ∷ c.in-Some-pop.right ∷ ps) (reverse c.args.made.now.items) (a ∷ b ∷ rest)
  parted a b rest h =
      let P : List Part → Type 0 = λ v. Made (text c.args.code.now) v (reverse c.args.made.now.items) (a ∷ b ∷ rest) in
      subst P (first ∙ ap (λ (v : List Part). c.in-Some.field-0 ∷ v) second) h

pub returns-clause-goal : goal.returns-clause-goal
returns-clause-goal c g rest gs holds h =
    let P : List Tree → Type 0 = Made (text c.args.code.now) (reverse c.args.parts.now.items) (reverse c.args.made.now.items) in
    let e = c.in_ok-otherwise.ensures in
    rw (c.in_ok-push_part.ensures.parts, c.in_ok-push_part.ensures.made)
    (else_put (text c.args.code.now) c.requires.code c.put_sequence.new.code.items c.args.arrow c.in-Some.field-0 c.in-Some-pop.right (ps c) (reverse c.args.made.now.items)
    (reverse c.pop-3.new.self.items) _ c.in_ok-otherwise.otherwise (top c) (popped c) e.code e.place e.made g holds.first holds.second rest holds.is
    (parted c holds.first holds.second rest (subst P holds.next h)))

pub returns-clause-code : goal.returns-clause-code
returns-clause-code c =
    let e = c.in_ok-otherwise.ensures in
    let m = c.requires.made in
    else_code (text c.args.code.now) c.requires.code c.put_sequence.new.code.items c.args.arrow c.in-Some.field-0 c.in-Some-pop.right (ps c) (reverse c.args.made.now.items)
    (reverse c.pop-3.new.self.items) _ c.in_ok-otherwise.otherwise (top c) (popped c) e.code e.place e.made (of_two (codes ";") m.first m.second) m.first m.second m.rest refl
    (parted c m.first m.second m.rest m.made)

pub returns-clause-extended : goal.returns-clause-extended
returns-clause-extended c =
    let e = c.in_ok-otherwise.ensures in
    let m = c.requires.made in
    else_extended (text c.args.code.now) c.requires.code c.put_sequence.new.code.items c.args.arrow c.in-Some.field-0 c.in-Some-pop.right (ps c) (reverse c.args.made.now.items)
    (reverse c.pop-3.new.self.items) _ c.in_ok-otherwise.otherwise (top c) (popped c) e.code e.place e.made (of_two (codes ";") m.first m.second) m.first m.second m.rest refl
    (parted c m.first m.second m.rest m.made)

pub unreachable-requires : goal.unreachable-requires
unreachable-requires c =
    two_none c.args.parts.now.items _ c.requires.two (popped_none c.args.parts.now.items c.pop.new.self.items _ c.in_default.ensures.items c.in_default.ensures.rest (omega (arith, c.args.parts.now.ok.0)))

pub unreachable-requires-in_default-pop : goal.unreachable-requires-in_default-pop
unreachable-requires-in_default-pop c =
    two_one c.args.parts.now.items c.pop.new.self.items c.in-Some.field-0 _ c.requires.two c.in-Some.ensures.items
    (popped_none c.pop.new.self.items c.pop-2.new.self.items _ c.in_default-pop.ensures.items c.in_default-pop.ensures.rest (omega (arith, c.pop.new.self.ok.0)))

pub unreachable-requires-in_default-pop-2 : goal.unreachable-requires-in_default-pop-2
unreachable-requires-in_default-pop-2 c =
    two_steps (reverse c.args.parts.now.items) c.args.made.now.items c.requires.two
    (popped_none c.args.made.now.items c.pop-3.new.self.items _ c.in_default-pop-2.ensures.items c.in_default-pop-2.ensures.rest (omega (arith, c.args.made.now.ok.0)))
