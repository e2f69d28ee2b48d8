-- Variables that were seen, and terms numbered by them.
use Rattle.std.proofs.Common.{◌≡◌, ℕ, ◌<◌, List, [], ◌∷◌, length, map, refl, sym, ap, ◌∙◌}
use Rattle.plterm.specs.declared.node.Node.{Node}
use Rattle.plterm.specs.declared.node.Node.TheVariants.{Var, Int, Atom, Compound}
use Rattle.plterm.specs.Tree.{Tree, var, int, atom, compound}
use Rattle.plterm.specs.Reading.{spelling, tree_of, tree_of-spelling}
use Rattle.plterm.specs.Variables.{place, added, seen_after, variables, renamed, rename, AllBelow}
use Rattle.plterm.proofs.Spellings.{place-added, place-seen_after, spelling-renamed}
use Rattle.plterm.proofs.Belows.{NodesBelow, AllBelow-spelling, known_after}
use Rattle.plclause.specs.declared.clause.Parts.{Parts}
use Rattle.plclause.specs.Clause.{Clause}
use Rattle.plclause.specs.Soundness.{IsCallable, both_variables, clause_from}

-- each variable among the nodes was seen
abbrev pub AllSeen : List ℕ → List Node → Type 0
AllSeen seen [] = Unit {0}
AllSeen seen (Var v ∷ ns) = (place v seen < length seen) × AllSeen seen ns
AllSeen seen (Int i ∷ ns) = AllSeen seen ns
AllSeen seen (Atom s ∷ ns) = AllSeen seen ns
AllSeen seen (Compound s k ∷ ns) = AllSeen seen ns

pub AllSeen-after : (ns : List Node) (seen : List ℕ) → AllSeen (seen_after seen ns) ns
AllSeen-after [] seen = tt
AllSeen-after (Var v ∷ ns) seen = let k = place-added v seen in (known_after ns v (added seen v) (rw k.0 k.1), AllSeen-after ns (added seen v))
AllSeen-after (Int i ∷ ns) seen = AllSeen-after ns seen
AllSeen-after (Atom s ∷ ns) seen = AllSeen-after ns seen
AllSeen-after (Compound s k ∷ ns) seen = AllSeen-after ns seen

pub AllSeen-more : (ms ns : List Node) (seen : List ℕ) → AllSeen seen ns → AllSeen (seen_after seen ms) ns
AllSeen-more ms [] seen h = tt
AllSeen-more ms (Var v ∷ ns) seen h = (known_after ms v seen h.0, AllSeen-more ms ns seen h.1)
AllSeen-more ms (Int i ∷ ns) seen h = AllSeen-more ms ns seen h
AllSeen-more ms (Atom s ∷ ns) seen h = AllSeen-more ms ns seen h
AllSeen-more ms (Compound s k ∷ ns) seen h = AllSeen-more ms ns seen h

-- what was seen keeps its number
kept_numbers : (ms ns : List Node) (seen : List ℕ) → AllSeen seen ns → map (rename (λ v. place v seen)) ns ≡ map (rename (λ v. place v (seen_after seen ms))) ns
kept_numbers ms [] seen h = refl
kept_numbers ms (Var v ∷ ns) seen h =
    ap (λ (k : ℕ). Var k ∷ map (rename (λ w. place w seen)) ns) (sym (place-seen_after ms v seen h.0))
    ∙ ap (λ (rest : List Node). Var (place v (seen_after seen ms)) ∷ rest) (kept_numbers ms ns seen h.1)
kept_numbers ms (Int i ∷ ns) seen h = ap (λ (rest : List Node). Int i ∷ rest) (kept_numbers ms ns seen h)
kept_numbers ms (Atom s ∷ ns) seen h = ap (λ (rest : List Node). Atom s ∷ rest) (kept_numbers ms ns seen h)
kept_numbers ms (Compound s k ∷ ns) seen h = ap (λ (rest : List Node). Compound s k ∷ rest) (kept_numbers ms ns seen h)

pub renamed_kept : (t : Tree) (ms : List Node) (seen : List ℕ) → AllSeen seen (spelling t) → renamed (λ v. place v seen) t ≡ renamed (λ v. place v (seen_after seen ms)) t
renamed_kept t ms seen h =
    sym (tree_of-spelling (renamed (λ v. place v seen) t))
    ∙ ap tree_of (spelling-renamed (λ v. place v seen) t ∙ kept_numbers ms (spelling t) seen h ∙ sym (spelling-renamed (λ v. place v (seen_after seen ms)) t))
    ∙ tree_of-spelling (renamed (λ v. place v (seen_after seen ms)) t)

nodes_below : (ns : List Node) (seen : List ℕ) → AllSeen seen ns → NodesBelow (length seen) (map (rename (λ v. place v seen)) ns)
nodes_below [] seen h = tt
nodes_below (Var v ∷ ns) seen h = (h.0, nodes_below ns seen h.1)
nodes_below (Int i ∷ ns) seen h = nodes_below ns seen h
nodes_below (Atom s ∷ ns) seen h = nodes_below ns seen h
nodes_below (Compound s k ∷ ns) seen h = nodes_below ns seen h

pub renamed_below : (t : Tree) (seen : List ℕ) → AllSeen seen (spelling t) → AllBelow (length seen) (renamed (λ v. place v seen) t)
renamed_below t seen h = AllBelow-spelling (length seen) (renamed (λ v. place v seen) t) (rw (spelling-renamed (λ v. place v seen) t) (nodes_below (spelling t) seen h))

pub callable_renamed : (f : ℕ → ℕ) (t : Tree) → IsCallable t → IsCallable (renamed f t)
callable_renamed f (var v) h = h
callable_renamed f (int i) h = h
callable_renamed f (atom s) h = tt
callable_renamed f (compound s ts) h = tt

-- the head was numbered before the body was seen
pub clause_parts_is : (head goal h g : Tree) (first seen : List ℕ) (n : ℕ) → first ≡ seen_after [] (spelling head) → seen ≡ seen_after first (spelling goal)
    → h ≡ renamed (λ v. place v first) head → g ≡ renamed (λ v. place v seen) goal → n ≡ length seen
    → record { head = h; body = g; variables = n } ≡ clause_from head goal
clause_parts_is head goal h g first seen n first_is seen_is h_is g_is n_is =
    let all : seen ≡ both_variables head goal = seen_is ∙ ap (λ (vs : List ℕ). seen_after vs (spelling goal)) first_is in
    let front : h ≡ renamed (λ v. place v (both_variables head goal)) head =
    h_is ∙ ap (λ (vs : List ℕ). renamed (λ v. place v vs) head) first_is
    ∙ renamed_kept head (spelling goal) (variables head) (AllSeen-after (spelling head) []) in
    let back : g ≡ renamed (λ v. place v (both_variables head goal)) goal = g_is ∙ ap (λ (vs : List ℕ). renamed (λ v. place v vs) goal) all in
    let count : n ≡ length (both_variables head goal) = n_is ∙ ap length all in
    let made : Tree → Tree → ℕ → Clause = λ x y k. record { head = x; body = y; variables = k } in
    ap (λ (x : Tree). made x g n) front
    ∙ ap (λ (y : Tree). made (renamed (λ v. place v (both_variables head goal)) head) y n) back
    ∙ ap (λ (k : ℕ). made (renamed (λ v. place v (both_variables head goal)) head) (renamed (λ v. place v (both_variables head goal)) goal) k) count

-- the clause that is stored as these parts
abbrev pub as_clause : Parts → Clause
as_clause p = record { head = p.head; body = p.body; variables = p.variables }
