use Rattle.std.proofs.Common.{◌≡◌, ◌∙◌, ◌++◌, ◌+◌, ◌∷◌, [], List, append-nil, ap, sym, suc, flat_map, take, arith}
use Rattle.std.proofs.Math.Seq.{take-suc}
use Rattle.std.proofs.lemmas.Grind.{flat_map-append}
use Rattle.std.proofs.lemmas.Option.{slice_get_within, get_or_from_slice_get}
use Rattle.plterm.specs.declared.indicator.Indicator.{Indicator}
use Rattle.plclause.specs.Clause.{Clause}
use Rattle.plprogram.specs.Library.{lacked}
use Rattle.plprogram.proofs.program.Program.lacking.Goals as goal

pub loop-i-preserved : goal.loop-i-preserved
loop-i-preserved c =
    let es = c.args.library.now.procedures in
    let i = c.loop-i.i in
    let e : Indicator × List Clause = (c.procedure_at.result.0.now, c.procedure_at.result.1.now) in
    let at = c.procedure_at.ensures.is in
    let last : take (suc i) es ≡ take i es ++ e ∷ [] = take-suc es i e (slice_get_within es i e at) ∙ ap (λ x. take i es ++ x ∷ []) (get_or_from_slice_get es i e e at) in
    let more = flat_map-append (lacked c.args.self.now) (take i es) (e ∷ []) in
    let f = lacked c.args.self.now in
    let next : suc i ≡ i + 1 = omega arith in
    c.in_ok-push_lacked.ensures
    ∙ ap (λ xs. xs ++ f e) c.loop-i.invariant
    ∙ ap (λ xs. flat_map f (take i es) ++ xs) (sym (append-nil (f e)))
    ∙ sym more
    ∙ ap (λ xs. flat_map f xs) (sym last)
    ∙ ap (λ n. flat_map f (take n es)) next
