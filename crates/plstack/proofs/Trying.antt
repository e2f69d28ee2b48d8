-- A clause that is tried.
use Rattle.std.proofs.Common.{◌≡◌, ℕ, ◌+◌, ◌<◌, ◌≤◌, List, length, map, sym, ap, ap₂, ◌∙◌, subst, arith, None}
use Rattle.plterm.specs.Tree.{Tree, compound, trees}
use Rattle.plsubst.specs.Subst.{bind, shift}
use Rattle.plsubst.specs.Unify.{unify}
use Rattle.platoms.specs.Names.{IsTable}
use Rattle.plclause.specs.Clause.{Clause}
use Rattle.plclause.specs.Indicators.{indicator}
use Rattle.plcells.specs.declared.cell.Cell.{Cell}
use Rattle.plcells.specs.Store.{Store, IsValue, value}
use Rattle.plsearch.specs.Forms.{arguments}
use Rattle.plcode.specs.declared.clause.ClauseCode.{ClauseCode}
use Rattle.plcode.specs.declared.node.Node.{Node}
use Rattle.plcode.specs.Nodes.{row}
use Rattle.plcode.specs.Packed.{node_at, IsArgument}
use Rattle.plcode.specs.Laying.{IsLaid, IsRow}
use Rattle.plcode.specs.Steps.{Text}
use Rattle.plcode.proofs.Placing.{Grows-refl}
use Rattle.plcode.proofs.Values.{IsRow-more}
use Rattle.plcode.proofs.Waiting.{IsLaid-names}
use Rattle.plenv.specs.Env.{Env, over}
use Rattle.plenv.specs.Changes.{Enters}
use Rattle.plenv.specs.Rows.{row_at, AllBelowEach, CoversAll}
use Rattle.plhead.specs.Fitting.{UnifiesAll, NotUnifiable}
use Rattle.plstack.specs.Places.{called}
use Rattle.plstack.specs.Fits.{Fitted}
use Rattle.plstack.specs.Attempts.{IsTried}
use Rattle.plstack.proofs.Fitting.{arguments-below, new-terms, same-indicator, head-unifies, head-fails}

module _ (c : Text) (e : Env) (name : List ℕ) (vs : List Cell) (nodes : List Node) (k : ClauseCode) (x : Clause) (tried : IsTried c e name vs nodes k x) (many : k.arity ≡ length vs) (table : IsTable e.heap.names) where
  abbrev args : List Tree
  args = arguments x.head

  -- the head has as many arguments as the goal
  as-many : length args ≡ length vs
  as-many = sym tried.own.code.arity ∙ many

  own : indicator x.head ≡ indicator (called e.heap name vs)
  own = same-indicator e.heap name x.head vs tried.own.code.sound.callable tried.own.named as-many

  pub laid : IsLaid e.heap.names nodes
  laid = subst (IsLaid e.heap.names) (sym tried.nodes_are) (IsLaid-names c.names e.heap.names c.nodes tried.names table tried.laid)

  the-row : IsRow e.heap.names c.nodes k.head (length args) args
  the-row = IsRow-more c.names e.heap.names c.nodes c.nodes k.head (length args) args tried.laid tried.names (Grows-refl c.nodes) tried.own.code.head

  pub row-is : row e.heap.names nodes k.head (length vs) ≡ args
  row-is = ap₂ (λ ns n. row e.heap.names ns k.head n) tried.nodes_are (sym as-many) ∙ the-row.terms

  pub row-within : k.head + length vs ≤ length nodes
  row-within = omega (arith, the-row.within, as-many, ap length tried.nodes_are)

  pub row-whole : (j : ℕ) → k.head ≤ j → j < k.head + length vs → IsArgument 0 j (node_at nodes j)
  row-whole j le lt = subst (λ ns. IsArgument 0 j (node_at ns j)) (sym tried.nodes_are) (the-row.whole j le (omega (arith, lt, as-many)))

  -- in slots of its own
  module _ (mid : Env) (base : ℕ) (entered : Enters e mid base k.variables) where
    row-mid : row_at mid.heap.names nodes (record { at = k.head; count = length vs }) ≡ args
    row-mid = ap (λ (h : Store). row h.names nodes k.head (length vs)) entered.heap ∙ row-is

    pub covers : CoversAll mid base (row_at mid.heap.names nodes (record { at = k.head; count = length vs }))
    covers = subst (CoversAll mid base) (sym row-mid) (record {
      width = k.variables;
      below = subst (λ w. AllBelowEach w args) (sym tried.own.code.variables) (arguments-below x.variables x.head tried.own.code.sound.head_below);
      within = omega (arith, entered.slots);
    })

    heads : map (bind (over mid base)) (row_at mid.heap.names nodes (record { at = k.head; count = length vs })) ≡ map (shift e.count) args
    heads =
        ap (map (bind (over mid base))) row-mid
        ∙ new-terms e mid base k.variables args entered (subst (λ w. AllBelowEach w args) (sym tried.own.code.variables) (arguments-below x.variables x.head tried.own.code.sound.head_below))

    goals : map (value mid.heap) vs ≡ map (value e.heap) vs
    goals = ap (λ (h : Store). map (value h) vs) entered.heap

    module _ (new : Env) where
      pub fitted : UnifiesAll mid new (map (value mid.heap) vs) (map (bind (over mid base)) (row_at mid.heap.names nodes (record { at = k.head; count = length vs }))) →
          Fitted e new (called e.heap name vs) base x
      unfolding bind
      fitted u = record {
        unifier = u.unifier;
        is = head-unifies e.heap e.count name x.head vs tried.own.code.sound.callable tried.own.code.proper own u.unifier
            (λ f. ap₂ (λ ts us. unify (compound f (trees ts)) (compound f (trees us))) (sym goals) (sym heads) ∙ u.is f);
        values = λ v is. let made = u.made.values v (subst (λ (h : Store). IsValue h v) (sym entered.heap) is) in
            (made.0, made.1 ∙ ap (λ (h : Store). bind u.unifier (value h v)) entered.heap);
        variables = λ i lt. u.made.variables i (omega (arith, lt, entered.place, entered.slots)) ∙ ap (bind u.unifier) (entered.older i (omega (arith, lt, entered.place)));
        own = λ n lt.
            u.made.variables (base + n) (omega (arith, lt, entered.slots, tried.own.code.variables))
            ∙ ap (bind u.unifier) (entered.variables n (omega (arith, lt, tried.own.code.variables)));
        place = entered.place;
        slots = u.made.slots ∙ entered.slots ∙ ap (λ w. base + w) tried.own.code.variables;
        count = u.made.count ∙ entered.count ∙ ap (λ w. e.count + w) tried.own.code.variables;
      }

      pub unfit : NotUnifiable (map (value mid.heap) vs) (map (bind (over mid base)) (row_at mid.heap.names nodes (record { at = k.head; count = length vs }))) →
          unify (called e.heap name vs) (shift e.count x.head) ≡ None
      unfit u = head-fails e.heap e.count name x.head vs tried.own.code.sound.callable tried.own.code.proper own
          (λ f. ap₂ (λ ts us. unify (compound f (trees ts)) (compound f (trees us))) (sym goals) (sym heads) ∙ u f)
