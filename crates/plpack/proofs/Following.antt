-- Which nodes may follow, and what stands in the way of a term.
use Rattle.std.proofs.Common.{◌≡◌, ℕ, zero, suc, ◌+◌, ◌-◌, ◌^◌, ◌<◌, ◌≤◌, ◌⊎◌, pos, rules, List, [], ◌∷◌, ◌++◌, length, drop, refl, sym, ap, subst, ◌∙◌, append_assoc, append-nil, arith, inl, inr}
use Rattle.std.specs.List.{flat_map}
use Rattle.std.proofs.lemmas.List.{length-append, take-append-drop}
use Rattle.plterm.specs.declared.node.Node.{Node}
use Rattle.plterm.specs.declared.node.Node.TheVariants.{Int}
use Rattle.plterm.specs.Tree.{Tree}
use Rattle.plterm.specs.Reading.{arity, tree_of, spelling, Fits, AllFit}
use Rattle.plterm.specs.Variables.{copied, seen_after}
use Rattle.plterm.proofs.Forests.{IsTerm-spelling}
use Rattle.plterm.proofs.Spellings.{numbering, spelling-tree_of}
use Rattle.plpack.specs.Packing.{item}
use Rattle.plpack.specs.Items.{IsNumbered, after}
use Rattle.plpack.specs.Unpacking.{Follows, IsFault, NonePacked}
use Rattle.plpack.proofs.Nodes.{same_item}
use Rattle.plpack.proofs.Numberings.{spelling-copied, length-items}
use Rattle.plpack.proofs.Leading.{Leads, Leads-append, Leads-parts, Leads-same, Leads-none, Leads-term, Leads-fit, Leads-le, Leads-numbered, Leads-numbering, IsLong-after}

-- ---- the nodes of a term whose variables are 0, 1, ..

pub spelling-leads : (ns : List Node) (m : ℕ) → Leads 1 0 ns 0 m → spelling (copied 0 (tree_of ns)) ≡ ns
spelling-leads ns m h =
    spelling-copied (tree_of ns) ∙ ap (numbering []) (spelling-tree_of ns (Leads-term ns m h)) ∙ Leads-numbered ns 0 m h

pub AllFit-leads : (ns : List Node) (m : ℕ) → Leads 1 0 ns 0 m → AllFit (spelling (tree_of ns))
AllFit-leads ns m h = rw (spelling-tree_of ns (Leads-term ns m h)) (Leads-fit ns 1 0 0 m h)

-- the nodes of a copy lead to the end
pub Leads-copied : (t : Tree) → AllFit (spelling t) → Leads 1 0 (spelling (copied 0 t)) 0 (length (seen_after [] (spelling t)))
Leads-copied t h = let whole = IsTerm-spelling t h in rw (spelling-copied t) (Leads-numbering (spelling t) 1 [] whole.forest (sym whole.one))

-- ---- what may follow

-- zero, an integer
abbrev pub nought : Node
nought = Int (pos 0)

pub Fits-nought : Fits nought
Fits-nought = search rules

-- so many of them
abbrev noughts : ℕ → List Node
noughts zero = []
noughts (suc p) = nought ∷ noughts p

Leads-noughts : (p k : ℕ) → Leads p k (noughts p) 0 k
Leads-noughts zero k = (refl, refl)
Leads-noughts (suc p) k =
    let e : p ≡ suc p - 1 + 0 = omega arith in
    (omega arith, Fits-nought, tt, subst (λ (q : ℕ). Leads q k (noughts p) 0 k) e (Leads-noughts p k))

-- a good node may follow where terms are still to come
pub leads_follow : (ns : List Node) (q m : ℕ) (n : Node) → Leads 1 0 ns q m → 0 < q → Fits n → IsNumbered m n → Follows ns n
leads_follow ns q m n h some fits num =
    let more : Leads q m (n ∷ noughts (q - 1 + arity n)) 0 (after m n) = (some, fits, num, Leads-noughts (q - 1 + arity n) (after m n)) in
    let all = Leads-append ns (n ∷ noughts (q - 1 + arity n)) 1 0 q m 0 (after m n) h more in
    record {
      term = tree_of (ns ++ n ∷ noughts (q - 1 + arity n));
      rest = noughts (q - 1 + arity n);
      fits = AllFit-leads (ns ++ n ∷ noughts (q - 1 + arity n)) (after m n) all;
      parts = spelling-leads (ns ++ n ∷ noughts (q - 1 + arity n)) (after m n) all;
    }

-- what nodes lead to where another may follow
pub record Opens (ns : List Node) (n : Node) : Type 0 where
  pub missing : ℕ
  pub seen : ℕ
  pub leads : Leads 1 0 ns missing seen
  pub some : 0 < missing
  pub fits : Fits n
  pub number : IsNumbered seen n

pub follow_opens : (ns : List Node) (n : Node) → Follows ns n → Opens ns n
follow_opens ns n h =
    let all = rw h.parts at (Leads-copied h.term h.fits) in
    let p = Leads-parts ns (n ∷ h.rest) 1 0 0 (length (seen_after [] (spelling h.term))) all in
    record { missing = p.missing; seen = p.seen; leads = p.front; some = p.back.0; fits = p.back.1; number = p.back.2 }

-- only a good node may follow
pub follow_good : (ns : List Node) (q m : ℕ) (n : Node) → Leads 1 0 ns q m → Follows ns n → Fits n × IsNumbered m n
follow_good ns q m n h f =
    let o = follow_opens ns n f in
    let same = Leads-same ns 1 0 o.missing o.seen q m o.leads h in
    (o.fits, subst (λ (k : ℕ). IsNumbered k n) same.1 o.number)

-- ---- two rows of nodes with the same bytes

-- the first row is the start of the second
pub record Begins (ms ns : List Node) (r s : List ℕ) : Type 0 where
  pub more : List Node
  pub nodes : ns ≡ ms ++ more
  pub bytes : r ≡ flat_map item more ++ s

pub along : (ms ns : List Node) (p k q m j l : ℕ) (r s : List ℕ) → Leads p k ms q m → Leads p k ns j l → m ≤ 2 ^ 64 → l ≤ 2 ^ 64
    → flat_map item ms ++ r ≡ flat_map item ns ++ s → Begins ms ns r s ⊎ Begins ns ms s r
along [] ns p k q m j l r s h g few few' e = inl (record { more = ns; nodes = refl; bytes = e })
along (x ∷ ms) [] p k q m j l r s h g few few' e = inr (record { more = x ∷ ms; nodes = refl; bytes = sym e })
along (x ∷ ms) (y ∷ ns) p k q m j l r s h g few few' e =
    let le = Leads-le ms (p - 1 + arity x) (after k x) q m h.3 in
    let le' = Leads-le ns (p - 1 + arity y) (after k y) j l g.3 in
    let parts : item x ++ (flat_map item ms ++ r) ≡ item y ++ (flat_map item ns ++ s) =
    sym (append_assoc (item x) (flat_map item ms) r) ∙ e ∙ append_assoc (item y) (flat_map item ns) s in
    let same = same_item x y (flat_map item ms ++ r) (flat_map item ns ++ s) h.1 g.1 (IsLong-after x k m h.2 le.0 few) (IsLong-after y k l g.2 le'.0 few') parts in
    let on : Leads (p - 1 + arity x) (after k x) ns j l = subst (λ (z : Node). Leads (p - 1 + arity z) (after k z) ns j l) (sym same.0) g.3 in
    elim (along ms ns (p - 1 + arity x) (after k x) q m j l r s h.3 on few few' same.1) [
      | inl b ↦ inl (record { more = b.more; nodes = ap (λ (z : Node). z ∷ ns) (sym same.0) ∙ ap (λ (zs : List Node). x ∷ zs) b.nodes; bytes = b.bytes })
      | inr b ↦ inr (record { more = b.more; nodes = ap (λ (z : Node). z ∷ ms) same.0 ∙ ap (λ (zs : List Node). y ∷ zs) b.nodes; bytes = b.bytes })
    ]

-- few bytes are few variables
pub few_seen : (ns : List Node) (q m : ℕ) (bytes rest : List ℕ) → Leads 1 0 ns q m → bytes ≡ flat_map item ns ++ rest → length bytes < 2 ^ 64 → m ≤ 2 ^ 64
few_seen ns q m bytes rest h e short =
    let le = Leads-le ns 1 0 q m h in
    omega (arith, le.1, length-items ns, ap length e, length-append (flat_map item ns) rest)

-- ---- faults

pub fault_parts : (bytes : List ℕ) (place : ℕ) (fault : IsFault bytes place) → bytes ≡ flat_map item fault.nodes ++ drop place bytes
fault_parts bytes place fault = sym (take-append-drop place bytes) ∙ ap (λ (x : List ℕ). x ++ drop place bytes) fault.front

-- nodes that lead further do not stand there
pub past_fault : (bytes : List ℕ) (place : ℕ) (fault : IsFault bytes place) (t : Tree) (ns rest : List Node) (s : List ℕ) → AllFit (spelling t) → spelling (copied 0 t) ≡ ns ++ rest
    → Begins fault.nodes ns (drop place bytes) s → Begins ns fault.nodes s (drop place bytes)
past_fault bytes place fault t ns rest s fits parts b =
    let go : (more : List Node) → ns ≡ fault.nodes ++ more → drop place bytes ≡ flat_map item more ++ s → Begins ns fault.nodes s (drop place bytes) =
    elim [
      | [] ↦ λ e f. record { more = []; nodes = sym (append-nil fault.nodes) ∙ sym e ∙ sym (append-nil ns); bytes = sym f }
      | x ∷ more ↦ λ e f.
          let follows : Follows fault.nodes x = record {
            term = t;
            rest = more ++ rest;
            fits = fits;
            parts = parts ∙ ap (λ (zs : List Node). zs ++ rest) e ∙ append_assoc fault.nodes (x ∷ more) rest;
          } in
          absurd (fault.bad x (flat_map item more ++ s) follows (f ∙ append_assoc (item x) (flat_map item more) s))
    ] in
    go b.more b.nodes b.bytes

-- nodes that lead to the end are not the start of others that do not
ended_before : (ms ns more : List Node) (q m l : ℕ) → ms ≡ ns ++ more → Leads 1 0 ms q m → Leads 1 0 ns 0 l → 0 < q → ⊥
ended_before ms ns more q m l e h g some =
    let p = Leads-parts ns more 1 0 q m (rw e at h) in
    let ended = Leads-same ns 1 0 p.missing p.seen 0 l p.front g in
    omega (arith, (Leads-none more p.seen q m (subst (λ (k : ℕ). Leads k p.seen more q m) ended.0 p.back)).0, some)

-- a fault is in the way of each term that is packed
pub fault_none : (bytes : List ℕ) (place : ℕ) → IsFault bytes place → length bytes < 2 ^ 64 → NonePacked bytes
fault_none bytes place fault short t rest fits e =
    let ns = spelling (copied 0 t) in
    let end = length (seen_after [] (spelling t)) in
    let all : Leads 1 0 ns 0 end = Leads-copied t fits in
    let o = follow_opens fault.nodes fault.next fault.begun in
    let parts = fault_parts bytes place fault in
    let met : Begins ns fault.nodes rest (drop place bytes) =
    elim (along fault.nodes ns 1 0 o.missing o.seen 0 end (drop place bytes) rest o.leads all (few_seen fault.nodes o.missing o.seen bytes (drop place bytes) o.leads parts short) (few_seen ns 0 end bytes rest all e short) (sym parts ∙ e)) [
      | inl b ↦ past_fault bytes place fault t ns [] rest fits (sym (append-nil ns)) b
      | inr b ↦ b
    ] in
    ended_before fault.nodes ns met.more o.missing o.seen end met.nodes o.leads all o.some
