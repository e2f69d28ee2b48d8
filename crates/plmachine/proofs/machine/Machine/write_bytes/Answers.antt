use Rattle.std.proofs.Common.{ap, refl, ◌∙◌}
use Rattle.plmachine.specs.Machine.{local_of}
use Rattle.plmachine.proofs.Lists.{holds-list, lengthened-grown, lengthened-same}
use Rattle.plmachine.proofs.Moves.{visits, stays-by, on_err}
use Rattle.plmachine.proofs.machine.Machine.write_bytes.Goals as goal

pub returns-in_err-extend_from_slice-clause-err : goal.returns-in_err-extend_from_slice-clause-err
returns-in_err-extend_from_slice-clause-err c P =
    let s = c.args.self.now in
    on_err _ (stays-by P s _ refl refl refl refl (λ v i. (i, refl)) refl (λ db. refl) (ap (λ o. record (local_of s) { out = o }) c.in_err-extend_from_slice.ensures.items))

pub returns-clause-ok : goal.returns-clause-ok
returns-clause-ok c P =
    let s = c.args.self.now in
    visits P s c.go_on.new.self s.stack c.args.rest _ _ (lengthened-grown s.stack s.stack (lengthened-same s.stack)) (holds-list s.stack c.args.rest c.requires.rest)
    (ap (λ x. x.stack) c.go_on.ensures.is) (ap (λ x. x.layer) c.go_on.ensures.is) (ap (λ x. x.mode) c.go_on.ensures.is) (ap (λ x. local_of x) c.go_on.ensures.is ∙ ap (λ o. record (local_of s) { out = o }) c.in_ok-extend_from_slice.ensures.items)
