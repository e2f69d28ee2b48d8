-- The cases that a term is run in.
use Rattle.std.proofs.Common.{◌≡◌, ℕ, List, [], ◌∷◌, refl, ap, ap₂, ◌∙◌}
use Rattle.plterm.specs.declared.indicator.Indicator.{Indicator}
use Rattle.plsearch.specs.Types.{Case, Element, Handle, Local}
use Rattle.plsearch.specs.Running.{Runnable}
use Rattle.plsearch.specs.Moves.{run}
use Rattle.plsearch.specs.Rows.{branch}
use Rattle.plstack.specs.State.{State}
use Rattle.plstack.specs.Opening.{around_cases, IsAround}
use Rattle.plstack.specs.declared.frame.Around.{Around}
use Rattle.plstack.specs.declared.frame.Around.TheVariants as arounds
use Rattle.plstack.proofs.Handled.{handled-same}
use Rattle.plmachine.specs.Lists.{Grown}
use Rattle.plmachine.proofs.Levels.{fits-grown}

-- where lists and values were added
pub around-grown : (s t : State) (around : Around) → Grown s t → IsAround s around → (around_cases t around ≡ around_cases s around) × IsAround t around
around-grown s t arounds.Nothing g is = (refl, tt)
around-grown s t (arounds.Branch l) g is = let x = g.extends.lists l is.0 in (ap₂ (λ gs n. branch gs n ∷ []) x.1 g.count, (x.0, fits-grown s t g l is.0 is.1))
around-grown s t (arounds.Handle h) g is =
    let x = handled-same s.env.heap t.env.heap g.extends.values h.handler is.handler in
    let l = g.extends.lists h.list is.list in
    (ap₂ (λ y p. Handle y p ∷ []) x.1 (ap₂ (λ gs n. record { goals = gs; variables = n }) l.1 g.count), record { guards = is.guards; handler = x.0; list = l.0; fits = fits-grown s t g h.list is.list is.fits })

pub run-same : (p p' : Indicator) → p ≡ p' → (r r' : Runnable) (cs cs' : List Case) (k k' : ℕ) (es es' : List Element) (n n' : ℕ) (w w' : Local) → r ≡ r' → cs ≡ cs' → k ≡ k' → es ≡ es' → n ≡ n' → w ≡ w' → run r p cs k es n w ≡ run r' p' cs' k' es' n' w'
run-same p p' z r r' cs cs' k k' es es' n n' w w' a b c d e f =
    ap (λ p. run r p cs k es n w) z ∙ ap₂ (λ r cs. run r p' cs k es n w) a b ∙ ap₂ (λ k es. run r' p' cs' k es n w) c d ∙ ap₂ (λ n w. run r' p' cs' k' es' n w) e f
