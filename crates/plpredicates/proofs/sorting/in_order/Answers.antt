use Rattle.std.proofs.Common.{map, sym, ap, ◌∙◌, subst}
use Rattle.plcells.specs.Store.{value, AreValues}
use Rattle.plread.specs.Texts.{listed}
use Rattle.plbuiltin.specs.Solution.{unifies}
use Rattle.planswers.proofs.Forwarding.{forwarded}
use Rattle.plbuiltin.specs.Lists.{Whole}
use Rattle.plbuiltin.specs.Sorting.{in_order, keyed}
use Rattle.plpredicates.proofs.sorting.in_order.Goals.{in-Once+in_ok-cells-in-Once, in-Each+in_ok-cells-in-Each, in-Keys+in_ok-error-in-Keys+in-None+in_ok-cells-in-None}
use Rattle.plpredicates.proofs.sorting.in_order.Goals as goal

pub returns-clause-is : goal.returns-clause-is
returns-clause-is c =
    let h = c.args.heap.now in
    let made = value h c.args.made in
    let ts = map (value h) c.args.items.now in
    forwarded c.is_list_of.result h (λ s n. unifies made (listed (map (value h) c.deref.result.now)) s) (λ s n. in_order c.args.b (Whole ts) made s) (c.is_list_of.ensures.is h)
    (λ s n. ap (λ vs. unifies made (listed (map (value h) vs)) s) c.deref.ensures.value ∙ elim c.match-b.branch [
      | in-Once+in_ok-cells-in-Once w ↦
          ap (λ vs. unifies made (listed (map (value h) vs.items)) s) w.cells-is ∙ ap (λ us. unifies made (listed us) s) w.in_ok-cells-in-Once.ensures.is
          ∙ sym (ap (λ b. in_order b (Whole ts) made s) w.in-Once.is)
      | in-Each+in_ok-cells-in-Each w ↦
          ap (λ vs. unifies made (listed (map (value h) vs.items)) s) w.cells-is ∙ ap (λ us. unifies made (listed us) s) w.in_ok-cells-in-Each.ensures.is
          ∙ sym (ap (λ b. in_order b (Whole ts) made s) w.in-Each.is)
      | in-Keys+in_ok-error-in-Keys+in-None+in_ok-cells-in-None w ↦
          ap (λ vs. unifies made (listed (map (value h) vs.items)) s) w.cells-is ∙ ap (λ us. unifies made (listed us) s) w.in_ok-cells-in-None.ensures.is
          ∙ sym (ap (λ b. in_order b (Whole ts) made s) w.in-Keys.is ∙ ap (λ e. keyed e ts made s) (sym w.in_ok-error-in-Keys.ensures ∙ w.in-None.is))
    ])

pub returns-clause-there : goal.returns-clause-there
returns-clause-there c =
    let h = c.args.heap.now in
    let are : AreValues h c.match-b.cells.items = elim c.match-b.branch [
      | in-Once+in_ok-cells-in-Once w ↦ subst (λ vs. AreValues h vs.items) (sym w.cells-is) w.in_ok-cells-in-Once.ensures.values
      | in-Each+in_ok-cells-in-Each w ↦ subst (λ vs. AreValues h vs.items) (sym w.cells-is) w.in_ok-cells-in-Each.ensures.values
      | in-Keys+in_ok-error-in-Keys+in-None+in_ok-cells-in-None w ↦ subst (λ vs. AreValues h vs.items) (sym w.cells-is) w.in_ok-cells-in-None.ensures.values
    ] in
    c.is_list_of.ensures.there h c.requires.made (subst (AreValues h) (sym c.deref.ensures.value) are)
