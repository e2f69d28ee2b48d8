use Rattle.std.proofs.Common.{◌≡◌, ◌∷◌, ◌++◌, ◌+◌, ◌<◌, [], Ok, List, length, map, drop, get_or, sym, ap, ap₂, ◌∙◌, rules, subst}
use Rattle.plcells.specs.Store.{AreValues, value}
use Rattle.plbuiltin.specs.Format.{argument_text, formatted, joined}
use Rattle.pltexts.specs.Format.{directive_as, piece_as}
use Rattle.pltexts.specs.declared.format.Piece.{Piece as Part}
use Rattle.pltexts.specs.declared.format.Piece.TheVariants as parts
use Rattle.pltexts.proofs.Formatted.{one_argument, one_byte}
use Rattle.pltexts.proofs.Items.{from_item}
use Rattle.pltexts.proofs.format.formatted.Goals as goal
use Rattle.pltexts.proofs.format.formatted.Goals.{in-Byte+in_ok-push-in-Byte, in-Takes+in-Some+in_ok-more-in-Takes+in-Ok+in_ok-extend_from_slice-in-Ok}

pub loop-piece-preserved : goal.loop-piece-preserved
loop-piece-preserved c =
    let h = c.args.heap.now in
    let s = c.args.settings.now in
    let ps = c.args.call.now.pieces.items in
    let all = formatted s (map piece_as ps) (map (value h) c.args.call.now.values.items) in
    let held : c.deref-piece-items.result.now ≡ ps = c.deref-piece-items.ensures.value in
    let i = c.loop-piece.piece-index in
    let within : i < length ps = subst (λ (qs : List Part). i < length qs) held c.loop-piece-test.true in
    let text = c.loop-piece.text.items in
    let ts = c.loop-piece.left.now in
    let after = map piece_as (drop (i + 1) ps) in
    elim c.match-piece.branch [
      | in-Byte+in_ok-push-in-Byte w ↦
          let is : get_or ps i (parts.Byte 0) ≡ parts.Byte w.in-Byte.c = subst (λ (qs : List Part). get_or qs i (parts.Byte 0) ≡ parts.Byte w.in-Byte.c) held w.in-Byte.is in
          let next : drop i ps ≡ parts.Byte w.in-Byte.c ∷ drop (i + 1) ps = from_item ps i (parts.Byte 0) (parts.Byte w.in-Byte.c) within is in
          let written : text ++ w.in-Byte.c ∷ [] ≡ c.match-piece.text.items = cc w.in_ok-push-in-Byte.ensures.items in
          let same : ts ≡ c.match-piece.left.now = cc in
          record {
            values = subst (AreValues h) same c.loop-piece.invariant.values;
            so_far =
                one_byte s all text after (map (value h) ts) w.in-Byte.c
                (c.loop-piece.invariant.so_far ∙ ap (λ (qs : List Part). joined (Ok text) (formatted s (map piece_as qs) (map (value h) ts))) next)
                ∙ ap₂ (λ t us. joined (Ok t) (formatted s after (map (value h) us))) written same;
          }
      | in-Takes+in-Some+in_ok-more-in-Takes+in-Ok+in_ok-extend_from_slice-in-Ok w ↦
          let d = w.in-Takes.directive in
          let v = w.in-Some.first.now in
          let rest = w.in-Some.rest.now in
          let more = w.in-Ok.more.items in
          let is : get_or ps i (parts.Byte 0) ≡ parts.Takes d = subst (λ (qs : List Part). get_or qs i (parts.Byte 0) ≡ parts.Takes d) held w.in-Takes.is in
          let next : drop i ps ≡ parts.Takes d ∷ drop (i + 1) ps = from_item ps i (parts.Byte 0) (parts.Takes d) within is in
          let first : ts ≡ v ∷ rest = search rules in
          let found : argument_text (directive_as d) (value h v) s ≡ Ok more = search rules in
          let written : text ++ more ≡ c.match-piece.text.items = search rules in
          let same : rest ≡ c.match-piece.left.now = cc in
          record {
            values = subst (AreValues h) same (subst (AreValues h) first c.loop-piece.invariant.values).1;
            so_far =
                one_argument s all text after (map (value h) rest) (directive_as d) (value h v) more
                (c.loop-piece.invariant.so_far ∙ ap₂ (λ (qs : List Part) us. joined (Ok text) (formatted s (map piece_as qs) (map (value h) us))) next first)
                found
                ∙ ap₂ (λ t us. joined (Ok t) (formatted s after (map (value h) us))) written same;
          }
    ]
