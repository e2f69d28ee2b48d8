-- Nodes behind their arguments, put before them.
use Rattle.std.proofs.Common.{◌≡◌, ℕ, zero, suc, ◌+◌, ◌-◌, ◌<◌, ◌≤◌, List, [], ◌∷◌, ◌++◌, length, drop, reverse, fold, refl, sym, ap, ◌∙◌, subst, arith}
use Rattle.std.proofs.lemmas.List.{take_at, drop_at, reverse-append}
use Rattle.plterm.specs.declared.node.Node.{Node}
use Rattle.plterm.specs.declared.node.Node.TheVariants.{Var, Int, Atom, Compound}
use Rattle.plterm.specs.declared.postfix.Open.{Open}
use Rattle.plterm.specs.Tree.{Tree, compound, Trees, none, more, trees, list_of, trees-list_of}
use Rattle.plterm.specs.Reading.{arity, read, reading, Fits, IsForest}
use Rattle.plterm.specs.Building.{gather, with_node, trees_of}
use Rattle.plterm.specs.Postfix.{IsPostfixBehind, IsPostfix, moved, all_moved, closed, IsReady, awaited, IsAwaiting}
use Rattle.plterm.specs.Closing.{Closes}

-- ---- a node at the end

abbrev trees_behind : List Tree → List Node → List Tree
trees_behind ts [] = ts
trees_behind ts (n ∷ ns) = trees_behind (with_node n ts) ns

trees_behind-push : (ns : List Node) (n : Node) (ts : List Tree) → trees_behind ts (ns ++ n ∷ []) ≡ with_node n (trees_behind ts ns)
trees_behind-push [] n ts = refl
trees_behind-push (m ∷ ns) n ts = trees_behind-push ns n (with_node m ts)

pub record IsLast (n : Node) (ns : List Node) (trees : List Tree) : Type 0 where
  pub before : IsPostfixBehind trees ns
  pub fits : Fits n
  pub room : arity n ≤ length (trees_behind trees ns)

last_behind : (ns : List Node) (n : Node) (ts : List Tree) → IsPostfixBehind ts (ns ++ n ∷ []) → IsLast n ns ts
last_behind [] n ts h = record { before = tt; fits = h.0; room = h.1 }
last_behind (m ∷ ns) n ts h =
    let l = last_behind ns n (with_node m ts) h.2 in
    record { before = (h.0, h.1, l.before); fits = l.fits; room = l.room }

behind_last : (ns : List Node) (n : Node) (ts : List Tree) → IsLast n ns ts → IsPostfixBehind ts (ns ++ n ∷ [])
behind_last [] n ts l = (l.fits, l.room, tt)
behind_last (m ∷ ns) n ts l =
    (l.before.0, l.before.1, behind_last ns n (with_node m ts) (record { before = l.before.2; fits = l.fits; room = l.room }))

fold_behind : (ns : List Node) (ts : List Tree) → trees_behind ts ns ≡ fold (λ trees n. with_node n trees) ts ns
fold_behind [] ts = refl
fold_behind (n ∷ ns) ts = fold_behind ns (with_node n ts)

pub trees_of-push : (ns : List Node) (n : Node) → trees_of (ns ++ n ∷ []) ≡ with_node n (trees_of ns)
trees_of-push ns n = sym (fold_behind (ns ++ n ∷ []) []) ∙ trees_behind-push ns n [] ∙ ap (with_node n) (fold_behind ns [])

pub IsPostfix-push : (ns : List Node) (n : Node) → IsPostfix ns → Fits n → arity n ≤ length (trees_of ns) → IsPostfix (ns ++ n ∷ [])
IsPostfix-push ns n h f room = behind_last ns n [] (record { before = h; fits = f; room = rw (fold_behind ns []) room })

pub IsPostfix-last : (ns : List Node) (n : Node) → IsPostfix (ns ++ n ∷ []) → IsPostfix ns × Fits n × (arity n ≤ length (trees_of ns))
IsPostfix-last ns n h =
    let l = last_behind ns n [] h in (
      l.before,
      l.fits,
      rw (fold_behind ns []) at l.room,
    )

-- ---- a node takes the trees that were moved behind

gather-moved : (k : ℕ) (ts : List Tree) (args : Trees) (behind : List Tree) → moved k ts (list_of args ++ behind) ≡ list_of (gather k ts args) ++ behind
gather-moved zero ts args behind = refl
gather-moved (suc k) [] args behind = refl
gather-moved (suc k) (t ∷ ts) args behind = gather-moved k ts (more t args) behind

length-gather : (k : ℕ) (ts : List Tree) (args : Trees) → k ≤ length ts → length (list_of (gather k ts args)) ≡ k + length (list_of args)
length-gather zero ts args h = omega arith
length-gather (suc k) [] args h = absurd (omega arith)
length-gather (suc k) (t ∷ ts) args h =
    let e : length (list_of (gather k ts (more t args))) ≡ k + suc (length (list_of args)) = length-gather k ts (more t args) (omega arith) in
    omega arith

pub length-moved : (k : ℕ) (ts behind : List Tree) → k ≤ length ts → length (moved k ts behind) ≡ k + length behind
length-moved zero ts behind h = omega arith
length-moved (suc k) [] behind h = absurd (omega arith)
length-moved (suc k) (t ∷ ts) behind h =
    let e : length (moved k ts (t ∷ behind)) ≡ k + suc (length behind) = length-moved k ts (t ∷ behind) (omega arith) in
    omega arith

read_moved : (s : List ℕ) (k : ℕ) (ts behind : List Tree) → k ≤ length ts → read (Compound s k) (moved k ts behind) ≡ compound s (gather k ts none) ∷ behind
read_moved s k ts behind h =
    let e : length (list_of (gather k ts none)) ≡ k = omega (arith, length-gather k ts none h) in
    ap (read (Compound s k)) (gather-moved k ts none behind)
    ∙ ap (λ us. compound s (trees us) ∷ drop k (list_of (gather k ts none) ++ behind)) (take_at (list_of (gather k ts none)) behind k e)
    ∙ ap (λ us. compound s us ∷ drop k (list_of (gather k ts none) ++ behind)) (trees-list_of (gather k ts none))
    ∙ ap (λ us. compound s (gather k ts none) ∷ us) (drop_at (list_of (gather k ts none)) behind k e)

-- ---- opening a node

pub record Opens (n : Node) (k : ℕ) (waiting : List Open) (trees behind : List Tree) : Type 0 where
  pub ready : IsReady (record { node = n; left = k } ∷ waiting) trees behind
  pub same : closed (record { node = n; left = k } ∷ waiting) trees behind ≡ awaited waiting (with_node n trees) behind

pub opened : (n : Node) (k : ℕ) (waiting : List Open) (trees behind : List Tree) → k ≡ arity n → Fits n → arity n ≤ length trees
    → IsAwaiting waiting (with_node n trees) behind → Opens n k waiting trees behind
opened (Var v) zero waiting trees behind e f room h = record { ready = (f, omega arith, omega arith, h); same = refl }
opened (Var v) (suc k) waiting trees behind e f room h = absurd (omega arith)
opened (Int i) zero waiting trees behind e f room h = record { ready = (f, omega arith, omega arith, h); same = refl }
opened (Int i) (suc k) waiting trees behind e f room h = absurd (omega arith)
opened (Atom s) zero waiting trees behind e f room h = record { ready = (f, omega arith, omega arith, h); same = refl }
opened (Atom s) (suc k) waiting trees behind e f room h = absurd (omega arith)
opened (Compound s j) k waiting trees behind e f room h =
    subst (λ i. Opens (Compound s j) i waiting trees behind) (sym e) (record {
      ready = (f, room, omega (arith, length-moved j trees behind room), rw (read_moved s j trees behind room) h);
      same = ap (closed waiting (drop j trees)) (read_moved s j trees behind room);
    })

-- ---- closing nodes

pub popped : (old new : List Open) (o : Open) → old ≡ new ++ o ∷ [] → reverse old ≡ o ∷ reverse new
popped old new o e = ap reverse e ∙ reverse-append new (o ∷ [])

-- what stays while nodes are closed
pub record Keeps (old new : List Open) (from made : List Node) (trees : List Tree) : Type 0 where
  pub forest : IsForest made
  pub ready : IsReady new trees (reading made)
  pub same : closed new trees (reading made) ≡ closed old trees (reading from)

-- a node with all its arguments is made
made_one : (n : Node) (k : ℕ) (old new : List Open) (from made : List Node) (trees : List Tree) → k ≡ 0
    → Keeps old (record { node = n; left = k } ∷ new) from made trees → Keeps old new from (n ∷ made) trees
made_one n zero old new from made trees e h = record {
  forest = (h.ready.0, h.ready.2, h.forest);
  ready = h.ready.3;
  same = h.same;
}
made_one n (suc k) old new from made trees e h = absurd (omega arith)

-- the next tree is counted
counted_one : (n : Node) (k j : ℕ) (old new : List Open) (from made : List Node) (trees : List Tree) → 0 < k → j ≡ k - 1
    → Keeps old (record { node = n; left = k } ∷ new) from made trees → Closes old (record { node = n; left = j } ∷ new) from made trees
counted_one n zero j old new from made trees some e h = absurd (omega arith)
counted_one n (suc k) j old new from made [] some e h = absurd (omega (arith, h.ready.1))
counted_one n (suc k) j old new from made (t ∷ trees) some e h =
    let f : k ≡ j = omega arith in
    subst (λ i. Closes old (record { node = n; left = i } ∷ new) from made (t ∷ trees)) f (record {
      forest = h.forest;
      awaiting = (h.ready.0, omega (arith, h.ready.1), h.ready.2, h.ready.3);
      same = h.same;
    })

-- none is open
closed_all : (old : List Open) (from made : List Node) (trees : List Tree) → Keeps old [] from made trees → Closes old [] from made trees
closed_all old from made [] h = record { forest = h.forest; awaiting = refl; same = h.same }
closed_all old from made (t ∷ trees) h = record { forest = h.forest; awaiting = tt; same = h.same }

-- the same for the vectors, whose last is the innermost
abbrev pub KeepsAlways : List Open → List Open → List Node → List Node → Type 0
KeepsAlways old new from made =
    (trees : List Tree) → IsReady (reverse old) trees (reading (reverse from)) → IsForest (reverse from) → Keeps (reverse old) (reverse new) (reverse from) (reverse made) trees

module _ (old now left_over : List Open) (from made : List Node) (n : Node) (k : ℕ) (pop : now ≡ left_over ++ record { node = n; left = k } ∷ []) (h : KeepsAlways old now from made) where
  taken : (trees : List Tree) → IsReady (reverse old) trees (reading (reverse from)) → IsForest (reverse from)
      → Keeps (reverse old) (record { node = n; left = k } ∷ reverse left_over) (reverse from) (reverse made) trees
  taken trees r f = rw (popped now left_over _ pop) at h trees r f

  pub goes_on : (made' : List Node) → k ≡ 0 → made' ≡ made ++ n ∷ [] → KeepsAlways old left_over from made'
  goes_on made' e p trees r f = rw (p, reverse-append made (n ∷ [])) (made_one n k _ _ _ _ trees e (taken trees r f))

  pub stops : (now' : List Open) (j : ℕ) → 0 < k → j ≡ k - 1 → now' ≡ left_over ++ record { node = n; left = j } ∷ []
      → (trees : List Tree) → IsReady (reverse old) trees (reading (reverse from)) → IsForest (reverse from)
      → Closes (reverse old) (reverse now') (reverse from) (reverse made) trees
  stops now' j some e p trees r f = rw (popped now' left_over _ p) (counted_one n k j _ _ _ _ trees some e (taken trees r f))

pub ends : (old now : List Open) (from made : List Node) → now ≡ [] → KeepsAlways old now from made
    → (trees : List Tree) → IsReady (reverse old) trees (reading (reverse from)) → IsForest (reverse from) → Closes (reverse old) (reverse now) (reverse from) (reverse made) trees
ends old now from made e h trees r f = let k = rw e at h trees r f in rw e (closed_all _ _ _ trees k)

-- ---- all nodes

pub record Turns (start : List Node) (waiting : List Open) (nodes made : List Node) : Type 0 where
  pub postfix : IsPostfix nodes
  pub forest : IsForest (reverse made)
  pub awaiting : IsAwaiting (reverse waiting) (trees_of nodes) (reading (reverse made))
  pub same : awaited (reverse waiting) (trees_of nodes) (reading (reverse made)) ≡ all_moved (trees_of start) []

awaits_start : (trees : List Tree) → IsAwaiting [] trees []
awaits_start [] = refl
awaits_start (t ∷ trees) = tt

awaited_start : (trees : List Tree) → awaited [] trees [] ≡ all_moved trees []
awaited_start [] = refl
awaited_start (t ∷ trees) = refl

pub turns_start : (nodes : List Node) (waiting : List Open) (made : List Node) → IsPostfix nodes → waiting ≡ [] → made ≡ [] → Turns nodes waiting nodes made
turns_start nodes waiting made h e f =
    rw (e, f) (record { postfix = h; forest = tt; awaiting = awaits_start (trees_of nodes); same = awaited_start (trees_of nodes) })

pub turns_step : (start nodes rest : List Node) (waiting opened' waiting' : List Open) (made made' : List Node) (n : Node) (k : ℕ)
    → Turns start waiting nodes made → nodes ≡ rest ++ n ∷ [] → k ≡ arity n → opened' ≡ waiting ++ record { node = n; left = k } ∷ []
    → ((trees : List Tree) → IsReady (reverse opened') trees (reading (reverse made)) → IsForest (reverse made)
    → Closes (reverse opened') (reverse waiting') (reverse made) (reverse made') trees)
    → Turns start waiting' rest made'
turns_step start nodes rest waiting opened' waiting' made made' n k h pop is push close =
    let parts = IsPostfix-last rest n (rw pop at h.postfix) in
    let e : trees_of nodes ≡ with_node n (trees_of rest) = ap trees_of pop ∙ trees_of-push rest n in
    let o : reverse opened' ≡ record { node = n; left = k } ∷ reverse waiting = popped opened' waiting (record { node = n; left = k }) push in
    let opens = opened n k (reverse waiting) (trees_of rest) (reading (reverse made)) is parts.1 parts.2 (rw e at h.awaiting) in
    let c = close (trees_of rest) (rw o opens.ready) h.forest in
    record {
      postfix = parts.0;
      forest = c.forest;
      awaiting = c.awaiting;
      same = c.same ∙ ap (λ (w : List Open). closed w (trees_of rest) (reading (reverse made))) o ∙ opens.same
          ∙ sym (ap (λ (ts : List Tree). awaited (reverse waiting) ts (reading (reverse made))) e) ∙ h.same;
    }

pub turns_end : (start nodes : List Node) (waiting : List Open) (made : List Node) → Turns start waiting nodes made → nodes ≡ [] → reading (reverse made) ≡ all_moved (trees_of start) []
turns_end start nodes waiting made h e =
    sym (ap (λ (ns : List Node). awaited (reverse waiting) (trees_of ns) (reading (reverse made))) e) ∙ h.same

-- the one tree
pub moved_one : (ts us : List Tree) → us ≡ all_moved ts [] → length ts ≡ 1 → us ≡ ts
moved_one [] us e h = cc
moved_one (t ∷ []) us e h = e
moved_one (t ∷ u ∷ ts) us e h = absurd (omega arith)
