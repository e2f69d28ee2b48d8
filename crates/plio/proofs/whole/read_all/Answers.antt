use Rattle.std.proofs.Common.{◌≡◌, ◌+◌, ◌++◌, take, length, length-append, length-take, length-take-le, refl, sym, subst, ap, ◌∙◌, arith, rules}
use Rattle.std.proofs.lemmas.Grind.{common_steps}
use Rattle.std.proofs.lemmas.List.{take-append-le}
use Rattle.std.specs.Io.KnownBytes.{Consumes}
use Rattle.std.proofs.KnownBytes.{Consumes-trans}
use Rattle.plio.proofs.Turns.{begun, grown}
use Rattle.plio.proofs.whole.read_all.Goals as goal

pub loop-piece-init : goal.loop-piece-init
loop-piece-init g c = record {
  taken = search rules;
  within = omega (arith, ap length c.new-bytes.ensures.items);
  turns = begun g.S.Source.left g.S.Source.after c.args.limit c.args.source.now _ (ap length c.new-bytes.ensures.items);
  later = omega arith;
}

pub loop-piece-preserved : goal.loop-piece-preserved
loop-piece-preserved g c =
    let piece = c.read.new.buf in
    let n = c.in-Ok.count in
    let items : c.extend_from_slice.new.self.items ≡ c.loop-piece.bytes.items ++ take n piece =
    c.in_ok-extend_from_slice.ensures.items ∙ ap (λ l. c.loop-piece.bytes.items ++ l) (take-append-le n piece _ c.in-Ok.ensures.bound.0) in
    let longer : length c.extend_from_slice.new.self.items ≡ length c.loop-piece.bytes.items + n = ap length items ∙ length-append c.loop-piece.bytes.items (take n piece) ∙ ap (λ m. length c.loop-piece.bytes.items + m) (length-take-le n piece c.in-Ok.ensures.bound.0) in
    record {
      taken = subst (λ l. Consumes (g.S.Source.left c.args.source.now) (g.S.Source.left c.read.new.self) l) (sym items) (Consumes-trans _ _ _ _ (take n piece) c.loop-piece.invariant.taken c.in-Ok.ensures.bytes.0);
      within = grind (arith, common_steps, c.in-Ok.ensures.bound);
      turns =
          grown g.S.Source.left g.S.Source.after c.args.limit c.args.source.now c.loop-piece.source c.read.new.self (length c.loop-piece.bytes.items) n _ _ piece c.loop-piece.invariant.turns (omega (arith, c.if-count-eq0.false)) c.in-Ok.ensures.bound.0
          c.in-Ok.ensures.bytes.0 c.in-Ok.ensures.after (grind (arith, common_steps, length-take)) longer;
      later = search rules;
    }

pub returns-in_err-extend_from_slice-clause-no_memory : goal.returns-in_err-extend_from_slice-clause-no_memory
returns-in_err-extend_from_slice-clause-no_memory g c =
    λ _.
    let piece = c.read.new.buf in
    let n = c.in-Ok.count in
    let bytes = c.loop-piece.bytes.items ++ take n piece in
    (length bytes, (bytes, Consumes-trans _ _ _ _ (take n piece) c.loop-piece.invariant.taken c.in-Ok.ensures.bytes.0, refl), grind (arith, common_steps, c.in-Ok.ensures.bound))

pub returns-in_err-extend_from_slice-clause-turns_no_memory :
    goal.returns-in_err-extend_from_slice-clause-turns_no_memory
returns-in_err-extend_from_slice-clause-turns_no_memory g c =
    λ _.
    let n = c.in-Ok.count in
    let taken = length c.loop-piece.bytes.items in (
      taken + n,
      grind (arith, common_steps, c.in-Ok.ensures.bound),
      grown g.S.Source.left g.S.Source.after c.args.limit c.args.source.now c.loop-piece.source c.read.new.self taken n _ _ c.read.new.buf c.loop-piece.invariant.turns (omega (arith, c.if-count-eq0.false)) c.in-Ok.ensures.bound.0
          c.in-Ok.ensures.bytes.0 c.in-Ok.ensures.after (grind (arith, common_steps, length-take)) refl,
    )
