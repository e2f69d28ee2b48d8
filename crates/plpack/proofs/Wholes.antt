-- Steps of unpacking, and its end.
use Rattle.std.proofs.Common.{◌≡◌, ℕ, ◌+◌, ◌-◌, ◌*◌, ◌^◌, ◌<◌, ◌≤◌, List, [], ◌∷◌, ◌++◌, length, take, drop, refl, sym, ap, subst, ◌∙◌, append_assoc, arith}
use Rattle.std.specs.List.{flat_map}
use Rattle.std.proofs.lemmas.List.{length-append, length-take, take_at, drop_at, flat_map_more}
use Rattle.plterm.specs.declared.node.Node.{Node}
use Rattle.plterm.specs.declared.node.Node.TheVariants.{Var, Int, Atom, Compound}
use Rattle.plterm.specs.Reading.{arity, tree_of, Fits, IsTerm, tree_of-spelling}
use Rattle.plterm.specs.Variables.{copied}
use Rattle.plpack.specs.Packing.{item, packed, IsPackable}
use Rattle.plpack.specs.Items.{IsLong, IsItemAt, NoItem, IsNumbered, NoNext, after}
use Rattle.plpack.specs.Unpacking.{IsFault}
use Rattle.plpack.proofs.Nodes.{same_item}
use Rattle.plpack.proofs.Numberings.{some_byte, few_variables}
use Rattle.plpack.proofs.Leading.{Leads, Leads-append, Leads-term, after_le}
use Rattle.plpack.proofs.Following.{spelling-leads, AllFit-leads, nought, Fits-nought, leads_follow, follow_good}

few_arguments : (n : Node) → Fits n → arity n ≤ 1024
few_arguments (Var v) h = omega arith
few_arguments (Int i) h = omega arith
few_arguments (Atom s) h = omega arith
few_arguments (Compound s k) h = h.2

IsLong-numbered : (n : Node) (k : ℕ) → IsNumbered k n → k < 2 ^ 63 → IsLong n
IsLong-numbered (Var v) k h lt = omega arith
IsLong-numbered (Int i) k h lt = tt
IsLong-numbered (Atom s) k h lt = tt
IsLong-numbered (Compound s j) k h lt = tt

pub none_found : (seen : ℕ) (bytes : List ℕ) → seen < 2 ^ 63 → NoItem bytes → NoNext seen bytes
unfolding NoItem
none_found seen bytes few none n rest fits num e = none n rest (record { fits = fits; long = IsLong-numbered n seen num few; parts = e })

pub none_numbered : (seen : ℕ) (bytes behind : List ℕ) (m : Node) → seen < 2 ^ 63 → IsItemAt bytes m behind → (IsNumbered seen m → ⊥) → NoNext seen bytes
none_numbered seen bytes behind m few at bad n rest fits num e =
    let same = same_item n m rest behind fits at.fits (IsLong-numbered n seen num few) at.long (sym e ∙ at.parts) in
    bad (subst (IsNumbered seen) same.0 num)

-- the bytes so far are those of nodes that lead on
pub record Unpacks (bytes : List ℕ) (nodes : List Node) (missing seen : ℕ) (rest : List ℕ) : Type 0 where
  pub parts : bytes ≡ flat_map item nodes ++ rest
  pub leads : Leads 1 0 nodes missing seen
  pub few : seen + length rest ≤ length bytes
  pub bound : missing + 1024 * length rest ≤ 1 + 1024 * length bytes

pub unpacks_step : (bytes : List ℕ) (nodes nodes' : List Node) (missing missing' seen seen' : ℕ) (rest behind : List ℕ) (n : Node)
    → Unpacks bytes nodes missing seen rest → 0 < missing → IsItemAt rest n behind → IsNumbered seen n → nodes' ≡ nodes ++ n ∷ [] → missing' ≡ missing - 1 + arity n → seen' ≡ after seen n
    → Unpacks bytes nodes' missing' seen' behind
unpacks_step bytes nodes nodes' missing missing' seen seen' rest behind n u some at num e f g =
    let long : length rest ≡ length (item n) + length behind = ap length at.parts ∙ length-append (item n) behind in
    let more : Leads missing seen (n ∷ []) (missing - 1 + arity n) (after seen n) = (some, at.fits, num, (refl, refl)) in
    rw (e, f, g) (record {
      parts = u.parts
          ∙ ap (λ (x : List ℕ). flat_map item nodes ++ x) at.parts
          ∙ sym (append_assoc (flat_map item nodes) (item n) behind)
          ∙ ap (λ (x : List ℕ). x ++ behind) (flat_map_more item [] nodes n);
      leads = Leads-append nodes (n ∷ []) 1 0 missing seen (missing - 1 + arity n) (after seen n) u.leads more;
      few = omega (arith, u.few, long, some_byte n, after_le n seen);
      bound = omega (arith, u.bound, long, some_byte n, few_arguments n at.fits);
    })

-- the bytes so far
module _ (bytes : List ℕ) (nodes : List Node) (missing seen : ℕ) (rest : List ℕ) (u : Unpacks bytes nodes missing seen rest) where
  size_is : length bytes - length rest ≡ length (flat_map item nodes)
  size_is = omega (arith, ap length u.parts, length-append (flat_map item nodes) rest)

  front_is : take (length bytes - length rest) bytes ≡ flat_map item nodes
  front_is = ap (take (length bytes - length rest)) u.parts ∙ take_at (flat_map item nodes) rest (length bytes - length rest) (sym size_is)

  rest_is : drop (length bytes - length rest) bytes ≡ rest
  rest_is = ap (drop (length bytes - length rest)) u.parts ∙ drop_at (flat_map item nodes) rest (length bytes - length rest) (sym size_is)

  pub unpacks_fault : 0 < missing → NoNext seen rest → IsFault bytes (length bytes - length rest)
  unpacks_fault some none =
      record {
        nodes = nodes;
        next = nought;
        within = omega arith;
        front = front_is;
        begun = leads_follow nodes missing seen nought u.leads some Fits-nought tt;
        bad = λ n more f e. let g = follow_good nodes missing seen n u.leads f in none n more g.0 g.1 (sym rest_is ∙ e);
      }

  module _ (end : missing ≡ 0) where
    leads_end : Leads 1 0 nodes 0 seen
    leads_end = subst (λ (k : ℕ). Leads 1 0 nodes k seen) end u.leads

    pub unpacks_term : IsTerm nodes
    unpacks_term = Leads-term nodes seen leads_end

    pub unpacks_bytes : take (length bytes - length rest) bytes ≡ packed (tree_of nodes)
    unpacks_bytes = front_is ∙ ap (flat_map item) (sym (spelling-leads nodes seen leads_end))

    pub unpacks_numbered : copied 0 (tree_of nodes) ≡ tree_of nodes
    unpacks_numbered = sym (tree_of-spelling (copied 0 (tree_of nodes))) ∙ ap tree_of (spelling-leads nodes seen leads_end)

    pub unpacks_limits : length bytes ≤ 2 ^ 64 → IsPackable (tree_of nodes)
    unpacks_limits short =
        record {
          fits = AllFit-leads nodes seen leads_end;
          numbers = omega (arith, few_variables (tree_of nodes), ap length unpacks_bytes, length-take (length bytes - length rest) bytes);
        }
