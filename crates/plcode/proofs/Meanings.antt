-- What places are for, by the steps below them.
use Rattle.std.proofs.Common.{◌≡◌, ℕ, zero, suc, ◌+◌, ◌-◌, ◌<◌, ◌≤◌, Bool, true, false, List, [], ◌∷◌, ◌++◌, length, take, drop, fold, get_or, ap, ◌∙◌, sym, arith, append_assoc, append-nil, length-append, length-take, if◌then◌else◌}
use Rattle.std.proofs.Math.Seq.{take-suc, get_or-append_seam}
use Rattle.std.proofs.lemmas.List.{take-append-drop, take-take, get_or-take}
use Rattle.std.proofs.lemmas.Grind.{fold-append}
use Rattle.plterm.specs.Tree.{Tree}
use Rattle.platoms.specs.Names.{Table}
use Rattle.plcode.specs.declared.node.Node.{Node}
use Rattle.plcode.specs.declared.op.Op.TheVariants as ops
use Rattle.plcode.specs.declared.op.Step.{Step}
use Rattle.plcode.specs.Steps.{Text, ends, paired, joined, behind, goal, meaning, with_meaning, meanings, step_at, goals_from}

abbrev pub nowhere : Step
nowhere = record { op = ops.Proceed; conjunctions = 0; goal = 0 }

-- ---- the list of what places are for

module _ (t : Table) (nodes : List Node) where
  pub meanings-put : (xs : List Step) (s : Step) → meanings t nodes (xs ++ s ∷ []) ≡ meanings t nodes xs ++ meaning t nodes (meanings t nodes xs) s 0 ∷ []
  unfolding meanings
  meanings-put xs s = fold-append (with_meaning t nodes) [] xs (s ∷ [])

  length-from : (below : List (List Tree)) (xs : List Step) → length (fold (with_meaning t nodes) below xs) ≡ length below + length xs
  length-from below [] = omega arith
  length-from below (x ∷ xs) = omega (arith, length-from (with_meaning t nodes below x) xs, length-append below (meaning t nodes below x 0 ∷ []))

  pub length-meanings : (xs : List Step) → length (meanings t nodes xs) ≡ length xs
  unfolding meanings
  length-meanings xs = omega (arith, length-from [] xs)

  from_prefix : (below : List (List Tree)) (xs : List Step) → (more : List (List Tree)) × (fold (with_meaning t nodes) below xs ≡ below ++ more)
  from_prefix below [] = ([], sym (append-nil below))
  from_prefix below (x ∷ xs) =
      let p = from_prefix (with_meaning t nodes below x) xs in
      (meaning t nodes below x 0 ∷ p.0, p.1 ∙ append_assoc below (meaning t nodes below x 0 ∷ []) p.0)

  meanings_prefix : (xs ys : List Step) → (more : List (List Tree)) × (meanings t nodes (xs ++ ys) ≡ meanings t nodes xs ++ more)
  unfolding meanings
  meanings_prefix xs ys = let p = from_prefix (meanings t nodes xs) ys in (p.0, fold-append (with_meaning t nodes) [] xs ys ∙ p.1)

  -- what a place is for, by the steps below it and its own
  pub meanings-at : (xs : List Step) (p : ℕ) → p < length xs → get_or (meanings t nodes xs) p [] ≡ meaning t nodes (meanings t nodes (take p xs)) (get_or xs p nowhere) 0
  meanings-at xs p lt =
      let x = get_or xs p nowhere in
      let split : xs ≡ take (suc p) xs ++ drop (suc p) xs = sym (take-append-drop (suc p) xs) in
      let m = meanings_prefix (take (suc p) xs) (drop (suc p) xs) in
      let one : meanings t nodes (take (suc p) xs) ≡ meanings t nodes (take p xs) ++ meaning t nodes (meanings t nodes (take p xs)) x 0 ∷ [] =
      ap (meanings t nodes) (take-suc xs p nowhere lt) ∙ meanings-put (take p xs) x in
      let len : length (meanings t nodes (take p xs)) ≡ p = length-meanings (take p xs) ∙ omega (arith, length-take p xs) in
      let here = meaning t nodes (meanings t nodes (take p xs)) x 0 in
      ap (λ (ys : List Step). get_or (meanings t nodes ys) p []) split
      ∙ ap (λ (ms : List (List Tree)). get_or ms p []) (m.1 ∙ ap (λ (ms : List (List Tree)). ms ++ m.0) one ∙ append_assoc (meanings t nodes (take p xs)) (here ∷ []) m.0)
      ∙ ap (λ (n : ℕ). get_or (meanings t nodes (take p xs) ++ here ∷ m.0) n []) (sym len)
      ∙ get_or-append_seam (meanings t nodes (take p xs)) here m.0 []

-- a place below others is for its own goals
pub goals-at : (c : Text) (n p : ℕ) → p < n → n ≤ length c.steps → get_or (meanings c.names c.nodes (take n c.steps)) p [] ≡ goals_from c p 0
unfolding goals_from
goals-at c n p lt room =
    let len : length (take n c.steps) ≡ n = omega (arith, length-take n c.steps) in
    meanings-at c.names c.nodes (take n c.steps) p (omega (arith, len))
    ∙ ap (λ (xs : List Step). meaning c.names c.nodes (meanings c.names c.nodes xs) (get_or (take n c.steps) p nowhere) 0) (take-take p n c.steps (omega arith))
    ∙ ap (λ (s : Step). meaning c.names c.nodes (meanings c.names c.nodes (take p c.steps)) s 0) (get_or-take n c.steps p nowhere lt)

pub behind-at : (c : Text) (n : ℕ) → 0 < n → n ≤ length c.steps → behind (meanings c.names c.nodes (take n c.steps)) ≡ goals_from c (n - 1) 0
behind-at c n some room =
    let len : length (meanings c.names c.nodes (take n c.steps)) ≡ n = length-meanings c.names c.nodes (take n c.steps) ∙ omega (arith, length-take n c.steps) in
    ap (λ (m : ℕ). get_or (meanings c.names c.nodes (take n c.steps)) (m - 1) []) len ∙ goals-at c n (n - 1) (omega arith) room

-- ---- conjunctions

pub length-joined : (n : ℕ) (gs : List Tree) → n < length gs → length (joined n gs) + n ≡ length gs
length-joined zero gs lt = omega arith
length-joined (suc n) gs lt = by_shape (joined n gs) (length-joined n gs (omega arith))
  where
    by_shape : (hs : List Tree) → length hs + n ≡ length gs → length (paired hs) + suc n ≡ length gs
    by_shape [] e = absurd (omega arith)
    by_shape (a ∷ []) e = absurd (omega arith)
    by_shape (a ∷ b ∷ rest) e = omega arith

-- what a step with a goal is for
pub meaning-live : (t : Table) (nodes : List Node) (below : List (List Tree)) (s : Step) (owed : ℕ) (g : Tree) (rest : List Tree) → ends s.op ≡ false
    → goal t nodes below s.op s.goal ≡ g → behind below ≡ rest → meaning t nodes below s owed ≡ joined (s.conjunctions - owed) (g ∷ rest)
meaning-live t nodes below s owed g rest live is next =
    let all : List Tree = joined (s.conjunctions - owed) (goal t nodes below s.op s.goal ∷ behind below) in
    ap (λ (b : Bool). if b then [] else all) live
    ∙ ap (λ (h : Tree). joined (s.conjunctions - owed) (h ∷ behind below)) is
    ∙ ap (λ (hs : List Tree). joined (s.conjunctions - owed) (g ∷ hs)) next

pub meaning-ends : (t : Table) (nodes : List Node) (below : List (List Tree)) (s : Step) (owed : ℕ) → ends s.op ≡ true → meaning t nodes below s owed ≡ []
meaning-ends t nodes below s owed end =
    let all : List Tree = joined (s.conjunctions - owed) (goal t nodes below s.op s.goal ∷ behind below) in
    ap (λ (b : Bool). if b then [] else all) end

-- past the last step no goals are left
pub goals-past : (c : Text) (p : ℕ) → ends (step_at c p).op ≡ true → goals_from c p 0 ≡ []
unfolding goals_from
goals-past c p end = meaning-ends c.names c.nodes (meanings c.names c.nodes (take p c.steps)) (step_at c p) 0 end
