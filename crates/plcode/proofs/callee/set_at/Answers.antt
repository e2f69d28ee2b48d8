use Rattle.std.proofs.Common.{◌≡◌, ◌<◌, ◌==◌, ◌∙◌, ◌∷◌, ℕ, [], List, Bool, true, false, if◌then◌else◌, ap, arith, length-append, get_or, set, length, refl}
use Rattle.std.proofs.lemmas.List.{get_or-set_other}
use Rattle.std.proofs.lemmas.Grind.{get_or-set_at}
use Rattle.std.proofs.lemmas.Bool.Decides.{nat_tests}
use Rattle.plcode.specs.declared.callee.Callee.{Callee}
use Rattle.plcode.specs.declared.callee.Callee.TheVariants.{Unknown}
use Rattle.plcode.proofs.Callees.{unknown_last}
use Rattle.plcode.proofs.callee.set_at.Goals as goal

pub loop-preserved : goal.loop-preserved
loop-preserved c =
    let inv = c.loop.invariant in
    let push = c.in_ok-push.ensures in
    record {
      len = omega (arith, ap length push.items, length-append c.loop.callees.items (Unknown ∷ []), inv.len);
      same = λ i. ap (λ (cs : List Callee). get_or cs i Unknown) push.items ∙ unknown_last c.loop.callees.items i ∙ inv.same i;
    }

pub loop-init : goal.loop-init
loop-init c = record { len = omega (arith, c.len-counter.ensures); same = λ i. refl }

-- what is set stands at its place, and elsewhere what stood there
set_is : (cs : List Callee) (p i : ℕ) (x : Callee) → p < length cs → get_or (set cs p x) i Unknown ≡ (if p == i then x else get_or cs i Unknown)
set_is cs p i x lt = go (p == i) refl
  where
    go : (b : Bool) → (p == i) ≡ b → get_or (set cs p x) i Unknown ≡ (if b then x else get_or cs i Unknown)
    go true e = get_or-set_at cs p i x Unknown (grind (arith, nat_tests)) lt
    go false e = get_or-set_other cs p i x Unknown (grind (arith, nat_tests))

pub returns : goal.returns
returns c i =
    set_is c.loop.callees.items c.args.place i c.args.callee (omega (arith, c.loop.invariant.len))
    ∙ ap (λ (o : Callee). if c.args.place == i then c.args.callee else o) (c.loop.invariant.same i)
