-- Steps of a packed term that is put, and its end.
use Rattle.std.proofs.Common.{◌≡◌, ℕ, ◌+◌, ◌-◌, ◌*◌, ◌^◌, ◌<◌, ◌≤◌, List, [], ◌∷◌, ◌++◌, length, take, map, refl, sym, ap, ap₂, subst, ◌∙◌, arith}
use Rattle.std.proofs.lemmas.List.{length-append, take-map, drop-map}
use Rattle.plterm.specs.declared.node.Node.{Node}
use Rattle.plterm.specs.declared.node.Node.TheVariants.{Var, Int, Atom, Compound}
use Rattle.plterm.specs.Tree.{Tree, var, compound, trees}
use Rattle.plterm.specs.Reading.{arity, read, reading, tree_of}
use Rattle.plterm.specs.Variables.{variables}
use Rattle.plterm.proofs.Forests.{reading_term}
use Rattle.plsubst.specs.Subst.{bind, shift}
use Rattle.plpack.specs.Packing.{item}
use Rattle.plpack.specs.Items.{IsItemAt, IsNumbered, NoNext}
use Rattle.plpack.specs.Unpacking.{IsFault}
use Rattle.plpack.proofs.Numberings.{some_byte}
use Rattle.plpack.proofs.Leading.{Leads, Leads-same}
use Rattle.plpack.proofs.Following.{spelling-leads, AllFit-leads, Leads-copied}
use Rattle.plpack.proofs.Wholes.{Unpacks, unpacks_step, unpacks_fault, unpacks_term, unpacks_bytes, unpacks_numbered, unpacks_limits}
use Rattle.plcells.specs.declared.cell.Argument.{Argument}
use Rattle.plcells.specs.declared.cell.Argument.TheVariants.{Value}
use Rattle.plcells.specs.declared.cell.Cell.{Cell}
use Rattle.plcells.specs.Store.{Store, value, IsFresh, bounded_by}
use Rattle.plcells.specs.Blocks.{stands_for}
use Rattle.plcells.specs.Putting.{AreGiven, laid}
use Rattle.plcells.proofs.Committing.{value-noted}
use Rattle.plcells.proofs.Marking.{preserves-under}
use Rattle.plcells.proofs.Nodes.{bind-trees}
use Rattle.plcells.proofs.Putting.{adds-none}
use Rattle.plpacked.specs.declared.putting.Put.{Put}
use Rattle.plpacked.specs.declared.unfinished.Open.{Open}
use Rattle.plpacked.specs.declared.unfinished.Unfinished.{Unfinished}
use Rattle.plpacked.specs.Putting.{PutsPacked}
use Rattle.plpacked.specs.Unfinished.{comes_to, all_closed, end_from, arguments, AreToCome, AreVariables, IsUnfinished, Closes, AddsVariables, Adds}
use Rattle.plpacked.proofs.Nesting.{end-le}
use Rattle.plpacked.proofs.Adding.{adds-old, adds-more}

-- ---- nodes before trees

abbrev pub laid_all : (ℕ → Tree) → List Node → List Tree → List Tree
laid_all σ [] ts = ts
laid_all σ (n ∷ ns) ts = laid σ n (laid_all σ ns ts)

laid-more : (σ : ℕ → Tree) (ns : List Node) (n : Node) (ts : List Tree) → laid_all σ (ns ++ n ∷ []) ts ≡ laid_all σ ns (laid σ n ts)
laid-more σ [] n ts = refl
laid-more σ (m ∷ ns) n ts = ap (laid σ m) (laid-more σ ns n ts)

laid-bind : (σ : ℕ → Tree) (n : Node) (ts : List Tree) → laid σ n (map (bind σ) ts) ≡ map (bind σ) (read n ts)
unfolding bind
laid-bind σ (Var x) ts = refl
laid-bind σ (Int i) ts = refl
laid-bind σ (Atom s) ts = refl
laid-bind σ (Compound s k) ts =
    ap₂ (λ us ws. compound s us ∷ ws) (ap trees (take-map (bind σ) k ts) ∙ sym (bind-trees σ (take k ts))) (drop-map (bind σ) k ts)

laid-reading : (σ : ℕ → Tree) (ns : List Node) → laid_all σ ns [] ≡ map (bind σ) (reading ns)
laid-reading σ [] = refl
laid-reading σ (n ∷ ns) = ap (laid σ n) (laid-reading σ ns) ∙ laid-bind σ n (reading ns)

-- ---- the bytes so far

-- they are those of nodes that have been put
pub record IsPutting (bytes rest : List ℕ) (old h : Store) (number : ℕ) (w : Unfinished) : Type 0 where
  pub nodes : List Node
  pub missing : ℕ
  pub reads : Unpacks bytes nodes missing (length w.variables.items) rest
  pub unfinished : IsUnfinished h w
  pub counted : w.number ≡ number
  pub same : (ts : List Tree) → laid_all (λ x. var (number + x)) nodes ts ≡ comes_to h w ts
  pub come : AreToCome w missing
  pub adds : AddsVariables old h number [] w.variables.items

no_variables : (h : Store) (n : ℕ) → AreVariables h n []
no_variables h n x lt = absurd (omega (arith, lt))

pub putting-start : (bytes : List ℕ) (h : Store) (number : ℕ) (w : Unfinished) → w.values.items ≡ [] → w.compounds.items ≡ [] → w.variables.items ≡ [] → w.number ≡ number → IsPutting bytes bytes h h number w
putting-start bytes h number w values opened variables counted = record {
  nodes = [];
  missing = 1;
  reads = rw variables (record { parts = refl; leads = (refl, refl); few = omega arith; bound = omega arith });
  unfinished = record {
    given = rw values tt;
    nested = rw opened tt;
    room = rw (values, opened) (omega arith);
    variables = rw variables (no_variables h w.number);
  };
  counted = counted;
  same = λ ts. rw (opened, values) refl;
  come = rw (values, opened) refl;
  adds = rw variables (adds-old h h number [] (no_variables h number) (adds-none h));
}

module _ (bytes rest : List ℕ) (old h : Store) (number : ℕ) (w : Unfinished) (is : IsPutting bytes rest old h number w) where
  -- the innermost compound is closed
  pub putting-close : (new : Store) (after : Unfinished) → Closes h new w after → IsPutting bytes rest old new number after
  putting-close new after c = record {
    nodes = is.nodes;
    missing = is.missing;
    reads = rw c.variables is.reads;
    unfinished = c.unfinished;
    counted = c.number ∙ is.counted;
    same = λ ts. is.same ts ∙ sym (c.same ts);
    come = c.come is.missing is.come;
    adds = rw c.variables (adds-more old h new number [] w.variables.items w.variables.items is.adds (adds-old h new number w.variables.items is.adds.are c.adds));
  }

  -- where a node is to come, some tree is
  pub putting-waits : length w.values.items < end_from 1 w.compounds.items → 0 < is.missing
  putting-waits waiting = omega (arith, waiting, is.come, end-le h.names 1 w.compounds.items is.unfinished.nested)

  -- the numbers from the next one on are free
  pub putting-fresh : ((n : ℕ) → number ≤ n → IsFresh old n) → (n : ℕ) → w.number + length w.variables.items ≤ n → IsFresh h n
  putting-fresh free n le = is.adds.fresh n (free n (omega (arith, le, is.counted))) (λ from to. omega (arith, le, is.counted, to))

  pub putting-fault : length w.values.items < end_from 1 w.compounds.items → NoNext (length w.variables.items) rest → IsFault bytes (length bytes - length rest)
  putting-fault waiting none = unpacks_fault bytes is.nodes is.missing (length w.variables.items) rest is.reads (putting-waits waiting) none

  -- a node is added
  pub putting-add : (new : Store) (after : Unfinished) (n : Node) (behind : List ℕ) → length w.values.items < end_from 1 w.compounds.items → IsItemAt rest n behind → IsNumbered (length w.variables.items) n → Adds h new n w after
      → IsPutting bytes behind old new number after
  putting-add new after n behind waiting at num a = record {
    nodes = is.nodes ++ n ∷ [];
    missing = is.missing - 1 + arity n;
    reads = unpacks_step bytes is.nodes (is.nodes ++ n ∷ []) is.missing (is.missing - 1 + arity n) (length w.variables.items) (length after.variables.items) rest behind n is.reads (putting-waits waiting) at num refl refl a.seen;
    unfinished = a.unfinished;
    counted = a.number ∙ is.counted;
    same = λ ts.
        laid-more (λ x. var (number + x)) is.nodes n ts
        ∙ is.same (laid (λ x. var (number + x)) n ts)
        ∙ ap (λ (k : ℕ). comes_to h w (laid (λ x. var (k + x)) n ts)) (sym is.counted)
        ∙ sym (a.same ts);
    come = a.come is.missing (putting-waits waiting) is.come;
    adds = adds-more old h new number [] w.variables.items after.variables.items is.adds
        (subst (λ (k : ℕ). AddsVariables h new k w.variables.items after.variables.items) is.counted a.adds);
  }

  module _ (v : Cell) (none : w.compounds.items ≡ []) (whole : w.values.items ≡ Value v ∷ []) where
    ended : is.missing ≡ 0
    ended = omega (arith, is.come, ap length whole, ap length none, ap arguments none)

    leads : Leads 1 0 is.nodes 0 (length w.variables.items)
    leads = subst (λ (k : ℕ). Leads 1 0 is.nodes k (length w.variables.items)) ended is.reads.leads

    count : length w.variables.items ≡ length (variables (tree_of is.nodes))
    count =
        let t = tree_of is.nodes in
        let copy = Leads-copied t (AllFit-leads is.nodes (length w.variables.items) leads) in
        (Leads-same is.nodes 1 0 0 (length w.variables.items) 0 (length (variables t)) leads
        (subst (λ (ns : List Node). Leads 1 0 ns 0 (length (variables t))) (spelling-leads is.nodes (length w.variables.items) leads) copy)).1

    same_first : (t u : Tree) → t ∷ [] ≡ u ∷ [] → t ≡ u
    same_first t u e = cc

    is_shifted : value h v ≡ shift number (tree_of is.nodes)
    is_shifted =
        let σ : ℕ → Tree = λ (x : ℕ). var (number + x) in
        let term = unpacks_term bytes is.nodes is.missing (length w.variables.items) rest is.reads ended in
        let values : comes_to h w [] ≡ value h v ∷ [] = ap₂ (λ (os : List Open) (vs : List Argument). all_closed h.names os (map (stands_for h) vs ++ [])) none whole in
        sym (same_first _ _ (sym (ap (map (bind σ)) (reading_term is.nodes term)) ∙ sym (laid-reading σ is.nodes) ∙ is.same [] ∙ values))

    pub putting-end : (put : Put) → put.value ≡ v → put.size ≡ length bytes - length rest → put.variables ≡ length w.variables.items → length bytes ≤ 2 ^ 64 → PutsPacked old h bytes number put
    putting-end put at size many short =
        let given : AreGiven h (Value v ∷ []) = subst (AreGiven h) whole is.unfinished.given in
        record {
          term = tree_of is.nodes;
          size = omega (arith, size);
          own = rw size (unpacks_bytes bytes is.nodes is.missing (length w.variables.items) rest is.reads ended);
          limits = unpacks_limits bytes is.nodes is.missing (length w.variables.items) rest is.reads ended short;
          numbered = unpacks_numbered bytes is.nodes is.missing (length w.variables.items) rest is.reads ended;
          count = many ∙ count;
          fits = rw at given.0;
          is = rw at is_shifted;
          preserves = is.adds.preserves;
          fresh = λ m f apart. is.adds.fresh m f (λ le lt. apart (omega (arith, le)) (omega (arith, lt, many)));
          frees = omega (arith, is.adds.frees, many);
        }

-- each step leaves less
pub closes-less : (h new : Store) (w after : Unfinished) (rest : List ℕ) → Closes h new w after → 2 * length rest + length after.compounds.items < 2 * length rest + length w.compounds.items
closes-less h new w after rest c = omega (arith, c.fewer)

pub adds-less : (h new : Store) (w after : Unfinished) (n : Node) (rest behind : List ℕ) → IsItemAt rest n behind → Adds h new n w after → 2 * length behind + length after.compounds.items < 2 * length rest + length w.compounds.items
adds-less h new w after n rest behind at a = omega (arith, a.few, some_byte n, ap length at.parts, length-append (item n) behind)

-- with the boundary as it was before
pub packed-under : (h new : Store) (b : ℕ) → h.boundary ≤ b → (bytes : List ℕ) (n : ℕ) (put : Put) → PutsPacked (bounded_by h b) new bytes n put → PutsPacked h (bounded_by new h.boundary) bytes n put
packed-under h new b le bytes n put p =
    let s = value-noted new new.trail h.boundary put.value p.fits in
    record {
      term = p.term;
      size = p.size;
      own = p.own;
      limits = p.limits;
      numbered = p.numbered;
      count = p.count;
      fits = s.0;
      is = s.1 ∙ p.is;
      preserves = preserves-under h new b le p.preserves;
      fresh = p.fresh;
      frees = p.frees;
    }
