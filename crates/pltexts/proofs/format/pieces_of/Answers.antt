use Rattle.std.proofs.Common.{◌≡◌, ◌∷◌, ◌++◌, ◌+◌, false, true, List, map, drop, get_or, refl, sym, ap, ap₂, ◌∙◌}
use Rattle.std.specs.Prelude.{if◌then◌else◌}
use Rattle.std.proofs.lemmas.Bool.{ne_eqb}
use Rattle.plbuiltin.specs.Format.{Byte, directive, pieces}
use Rattle.pltexts.specs.Format.{piece_as}
use Rattle.pltexts.specs.declared.format.Piece.{Piece as Part}
use Rattle.pltexts.specs.declared.format.Piece.TheVariants as parts
use Rattle.pltexts.proofs.Formatted.{one_piece}
use Rattle.pltexts.proofs.Items.{from_item}
use Rattle.pltexts.proofs.format.pieces_of.Goals as goal
use Rattle.pltexts.proofs.format.pieces_of.Goals.{then-escaped+in_ok-push, else-escaped+then-c-eq126, else-escaped+else-c-eq126+in_ok-push-2}

pub loop-c-preserved : goal.loop-c-preserved
loop-c-preserved c =
    let text = c.args.text.now in
    let i = c.loop-c.c-index in
    let x = get_or text i 0 in
    let cs = drop (i + 1) text in
    let ps = c.loop-c.pieces.items in
    let next : drop i text ≡ x ∷ cs = from_item text i 0 x c.loop-c-test.true refl in
    let so_far : pieces false text ≡ map piece_as ps ++ pieces c.loop-c.escaped (x ∷ cs) = c.loop-c.invariant ∙ ap (λ ys. map piece_as ps ++ pieces c.loop-c.escaped ys) next in
    elim c.if-escaped.branch [
      | then-escaped+in_ok-push w ↦
          let held : w.push.new.self.items ≡ c.if-escaped.pieces.items = cc in
          so_far
          ∙ ap (λ e. map piece_as ps ++ pieces e (x ∷ cs)) w.if-escaped.true
          ∙ one_piece ps w.behind_tilde.result (directive x) w.push.new.self.items (pieces false cs) w.behind_tilde.ensures w.in_ok-push.ensures.items
          ∙ ap₂ (λ (qs : List Part) e. map piece_as qs ++ pieces e cs) held (sym w.escaped-is)
      | else-escaped+then-c-eq126 w ↦
          let held : ps ≡ c.if-escaped.pieces.items = cc in
          so_far
          ∙ ap (λ e. map piece_as ps ++ pieces e (x ∷ cs)) w.if-escaped.false
          ∙ ap (λ y. map piece_as ps ++ pieces false (y ∷ cs)) w.if-c-eq126.true
          ∙ ap₂ (λ (qs : List Part) e. map piece_as qs ++ pieces e cs) held (sym w.escaped-is)
      | else-escaped+else-c-eq126+in_ok-push-2 w ↦
          let held : w.push-else-c-eq126.new.self.items ≡ c.if-escaped.pieces.items = cc in
          so_far
          ∙ ap (λ e. map piece_as ps ++ pieces e (x ∷ cs)) w.if-escaped.false
          ∙ ap (λ b. map piece_as ps ++ (if b then pieces true cs else Byte x ∷ pieces false cs)) (ne_eqb x 126 w.if-c-eq126.false)
          ∙ one_piece ps (parts.Byte x) (Byte x) w.push-else-c-eq126.new.self.items (pieces false cs) refl w.in_ok-push-2.ensures.items
          ∙ ap₂ (λ (qs : List Part) e. map piece_as qs ++ pieces e cs) held (sym (w.escaped-is ∙ w.if-escaped.false))
    ]
