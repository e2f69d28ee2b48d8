-- Steps that are put behind the code, and what their places are for then.
use Rattle.std.proofs.Common.{◌≡◌, ℕ, suc, ◌+◌, ◌-◌, ◌<◌, ◌≤◌, true, false, List, [], ◌∷◌, ◌++◌, length, take, reverse, get_or, inl, inr, refl, subst, ap, ◌∙◌, sym, arith, append_assoc, append-nil, length-append, codes}
use Rattle.std.proofs.Math.Seq.{take-append_seam, get_or-append_seam}
use Rattle.std.proofs.lemmas.List.{take_all, reverse-append, length-reverse}
use Rattle.std.proofs.lemmas.Bool.{cases_lt}
use Rattle.plterm.specs.Tree.{Tree}
use Rattle.plterm.specs.Reading.{first}
use Rattle.plnames.specs.Names.{rows}
use Rattle.plsearch.specs.Forms.{Both, form}
use Rattle.platoms.proofs.Extending.{Extends-refl}
use Rattle.plcode.specs.declared.op.Op.{Op}
use Rattle.plcode.specs.declared.op.Op.TheVariants as ops
use Rattle.plcode.specs.declared.op.Step.{Step}
use Rattle.plcode.specs.Steps.{Text, Extended, of_two, ends, paired, joined, branch, behind, goal, meaning, meanings, step_at, goals_from, FAIL, IsBranch, IsFor, Selects, Runs, Meets}
use Rattle.plcode.specs.Bodies.{step, Begins, IsCode, AreFor, Segment}
use Rattle.plcode.proofs.Placing.{Grows-refl}
use Rattle.plcode.proofs.Meanings.{nowhere, goals-at, behind-at, length-joined, meaning-live, meaning-ends}
use Rattle.plcode.proofs.Stays.{steps_more, goals_from-more, IsBranch-more, IsFor-more, Meets-more}

-- the text with other steps
abbrev pub with_steps : Text → List Step → Text
with_steps c ss = record { names = c.names; nodes = c.nodes; steps = ss }

pub steps_extended : (c : Text) (ss more : List Step) → ss ≡ c.steps ++ more → Extended c (with_steps c ss)
steps_extended c ss more is = record { names = Extends-refl c.names; nodes = Grows-refl c.nodes; more = more; steps = is }

-- ---- the goal of a step

module _ (c : Text) (n : ℕ) (below : List (List Tree)) (known : (p : ℕ) → p < n → get_or below p [] ≡ goals_from c p 0) where
  branch_is : (l : ℕ) (g : Tree) → IsBranch c n l g → branch below l ≡ g
  branch_is l g h = ap first (known l h.within ∙ h.goals)

  goal_is : (op : Op) (at : ℕ) (g : Tree) → IsFor c n op at g → goal c.names c.nodes below op at ≡ g
  goal_is ops.Proceed at g h = absurd h
  goal_is (ops.Or l r) at g h =
      ap (λ (a : Tree). of_two _ a (branch below r)) (branch_is l h.left h.left_begins)
      ∙ ap (λ (b : Tree). of_two _ h.left b) (branch_is r h.right h.right_begins)
      ∙ sym h.is
  goal_is (ops.IfThen i l) at g h =
      ap (λ (a : Tree). of_two _ a (branch below l)) (branch_is i h.condition h.condition_begins)
      ∙ ap (λ (b : Tree). of_two _ h.condition b) (branch_is l h.success h.success_begins)
      ∙ sym h.is
  goal_is (ops.IfThenElse i l r) at g h =
      ap (λ (a : Tree). of_two _ (of_two _ a (branch below l)) (branch below r)) (branch_is i h.condition h.condition_begins)
      ∙ ap (λ (b : Tree). of_two _ (of_two _ h.condition b) (branch below r)) (branch_is l h.success h.success_begins)
      ∙ ap (λ (e : Tree). of_two _ (of_two _ h.condition h.success) e) (branch_is r h.failure h.failure_begins)
      ∙ sym h.is
  goal_is ops.Goal at g h = ap first h.terms

form_both : (a b : Tree) → form (of_two (codes ",") a b) ≡ Both a b
unfolding rows
form_both a b = refl

-- ---- a step

module _ (c : Text) (code : IsCode c) (s : Step) where
  abbrev pub pushed : Text
  pushed = with_steps c (c.steps ++ s ∷ [])

  pub pushed_extended : Extended c pushed
  pushed_extended = steps_extended c (c.steps ++ s ∷ []) (s ∷ []) refl

  here : (owed : ℕ) → goals_from pushed (length c.steps) owed ≡ meaning c.names c.nodes (meanings c.names c.nodes c.steps) s owed
  unfolding goals_from
  here owed =
      ap (λ (ss : List Step). meaning c.names c.nodes (meanings c.names c.nodes ss) (step_at pushed (length c.steps)) owed) (take-append_seam c.steps (s ∷ []))
      ∙ ap (λ (x : Step). meaning c.names c.nodes (meanings c.names c.nodes c.steps) x owed) (get_or-append_seam c.steps s [] nowhere)

  pub pushed_code : Meets pushed (length c.steps) s → IsCode pushed
  pushed_code meets = record {
    laid = code.laid;
    fails = IsBranch-more c pushed code pushed_extended (length c.steps) (length pushed.steps) FAIL _ (omega arith) (steps_more c pushed pushed_extended) code.fails;
    steps = λ p lt. elim (cases_lt p (length c.steps)) [
      | inl old ↦ Meets-more c pushed code pushed_extended p old
      | inr new ↦
          let e : length c.steps ≡ p = omega (arith, lt, length-append c.steps (s ∷ [])) in
          let P : ℕ → Type 0 = λ n. Meets pushed n (step_at pushed n) in
          let Q : Step → Type 0 = Meets pushed (length c.steps) in
          subst P e (subst Q (sym (get_or-append_seam c.steps s [] nowhere)) meets)
    ];
  }

  pub ends_here : ends s.op ≡ true → goals_from pushed (length c.steps) 0 ≡ []
  ends_here e = here 0 ∙ meaning-ends c.names c.nodes (meanings c.names c.nodes c.steps) s 0 e

  pub ends_code : ends s.op ≡ true → IsCode pushed
  ends_code e = pushed_code (record { none = λ _. ends_here e; runs = λ live. absurd (cc) })

  -- a step with a goal
  module _ (u : Tree) (rest : List Tree) (live : ends s.op ≡ false) (is : IsFor c (length c.steps) s.op s.goal u) (room : s.conjunctions ≤ length rest)
      (next : goals_from c (length c.steps - 1) 0 ≡ rest) (some : 0 < length c.steps)
    where
      all : take (length c.steps) c.steps ≡ c.steps
      all = take_all (length c.steps) c.steps (omega arith)

      known : (p : ℕ) → p < length c.steps → get_or (meanings c.names c.nodes c.steps) p [] ≡ goals_from c p 0
      known p lt = ap (λ (ss : List Step). get_or (meanings c.names c.nodes ss) p []) (sym all) ∙ goals-at c (length c.steps) p lt (omega arith)

      behind_here : behind (meanings c.names c.nodes c.steps) ≡ rest
      behind_here = ap (λ (ss : List Step). behind (meanings c.names c.nodes ss)) (sym all) ∙ behind-at c (length c.steps) some (omega arith) ∙ next

      pub live_here : (owed : ℕ) → goals_from pushed (length c.steps) owed ≡ joined (s.conjunctions - owed) (u ∷ rest)
      live_here owed =
          here owed
          ∙ meaning-live c.names c.nodes (meanings c.names c.nodes c.steps) s owed u rest live
          (goal_is c (length c.steps) (meanings c.names c.nodes c.steps) known s.op s.goal u is) behind_here

      live_selects : (owed : ℕ) → owed < s.conjunctions → Selects pushed (length c.steps) owed
      live_selects owed lt =
          let n : ℕ = s.conjunctions - suc owed in
          let e : s.conjunctions - owed ≡ suc n = omega arith in
          by_shape n (joined n (u ∷ rest)) refl (length-joined n (u ∷ rest) (omega (arith, e))) e (omega (arith, e)) refl
        where
          by_shape : (n : ℕ) (gs : List Tree) → joined n (u ∷ rest) ≡ gs → length (joined n (u ∷ rest)) + n ≡ length (u ∷ rest) → s.conjunctions - owed ≡ suc n
              → n < length rest → s.conjunctions - suc owed ≡ n → Selects pushed (length c.steps) owed
          by_shape n [] same len e few m = absurd (omega (arith, len, ap length same))
          by_shape n (a ∷ []) same len e few m = absurd (omega (arith, len, ap length same))
          by_shape n (a ∷ b ∷ gs) same len e few m = record {
            left = a;
            right = b;
            rest = gs;
            goals = live_here owed ∙ ap (λ (k : ℕ). joined k (u ∷ rest)) e ∙ ap paired same;
            form_is = form_both a b;
            next = live_here (suc owed) ∙ ap (λ (k : ℕ). joined k (u ∷ rest)) m ∙ same;
          }

      none_left : joined (s.conjunctions - s.conjunctions) (u ∷ rest) ≡ u ∷ rest
      none_left = let e : s.conjunctions - s.conjunctions ≡ 0 = omega arith in ap (λ (k : ℕ). joined k (u ∷ rest)) e

      live_runs : Runs pushed (length c.steps) s
      live_runs = record {
        some = some;
        selects = live_selects;
        goal = u;
        goals = live_here s.conjunctions
            ∙ none_left
            ∙ ap (λ (gs : List Tree). u ∷ gs) (sym (goals_from-more c pushed code pushed_extended (length c.steps - 1) 0 (omega arith) ∙ next));
        is = IsFor-more c pushed code pushed_extended (length c.steps) (length c.steps) s.op s.goal u (omega arith) (omega arith) is;
      }

      pub live_code : IsCode pushed
      live_code = pushed_code (record { none = λ e. absurd (cc); runs = λ _. live_runs })

-- ---- steps that waited

pub AreFor-more : (c d : Text) (xs : List Step) (rest gs : List Tree) → IsCode c → Extended c d → AreFor c xs rest gs → AreFor d xs rest gs
AreFor-more c d [] rest gs code more h = h
AreFor-more c d (x ∷ xs) rest gs code more h =
    let i = h.1 in (
      h.0,
      record {
        goal = i.goal;
        lives = i.lives;
        is = IsFor-more c d code more (length c.steps) (length d.steps) x.op x.goal i.goal (omega arith) (steps_more c d more) i.is;
        room = i.room;
        goals_are = i.goals_are;
      },
      AreFor-more c d xs rest h.0 code more h.2,
    )

-- the last place of the steps is for such goals
pub record PutFor (c : Text) (ss : List Step) (goals : List Tree) : Type 0 where
  pub code : IsCode (with_steps c ss)
  pub last : goals_from (with_steps c ss) (length ss - 1) 0 ≡ goals

reverse_cons : (x : Step) (xs : List Step) → reverse (x ∷ xs) ≡ reverse xs ++ x ∷ []
reverse_cons x xs = reverse-append (x ∷ []) xs

put_steps : (c : Text) (code : IsCode c) (xs : List Step) (rest goals : List Tree) → goals_from c (length c.steps - 1) 0 ≡ rest → AreFor c xs rest goals → PutFor c (c.steps ++ reverse xs) goals
put_steps c code [] rest goals next h =
    let P : List Step → Type 0 = λ ss. PutFor c ss goals in
    subst P (sym (append-nil c.steps)) (record { code = code; last = next ∙ sym h })
put_steps c code (x ∷ xs) rest goals next h =
    let before = put_steps c code xs rest h.0 next h.2 in
    let ss = c.steps ++ reverse xs in
    let d = with_steps c ss in
    let more = steps_extended c ss (reverse xs) refl in
    let i = h.1 in
    let some : 0 < length ss = omega (arith, code.fails.within, length-append c.steps (reverse xs)) in
    let is = IsFor-more c d code more (length c.steps) (length ss) x.op x.goal i.goal (omega arith) (steps_more c d more) i.is in
    let P : List Step → Type 0 = λ v. PutFor c v goals in
    let e : ss ++ x ∷ [] ≡ c.steps ++ reverse (x ∷ xs) = append_assoc c.steps (reverse xs) (x ∷ []) ∙ ap (λ (v : List Step). c.steps ++ v) (sym (reverse_cons x xs)) in
    let last : length ss ≡ length (ss ++ x ∷ []) - 1 = omega (arith, length-append ss (x ∷ [])) in
    let whole : x.conjunctions - 0 ≡ x.conjunctions = omega arith in
    let pushed_there = with_steps c (ss ++ x ∷ []) in
    subst P e (record {
      code = live_code d before.code x i.goal h.0 i.lives is i.room before.last some;
      last = ap (λ (p : ℕ). goals_from pushed_there p 0) (sym last)
          ∙ live_here d before.code x i.goal h.0 i.lives is i.room before.last some 0
          ∙ ap (λ (k : ℕ). joined k (i.goal ∷ h.0)) whole
          ∙ sym i.goals_are;
    })

-- a sequence that is put behind the code begins at its last place
module _ (c : Text) (code : IsCode c) (g : Tree) (xs ss : List Step) (place : ℕ) (segment : Segment c g xs)
    (is : ss ≡ c.steps ++ (step ops.Proceed 0 ++ reverse xs)) (at : place ≡ length c.steps + length xs)
  where
    ended : Text
    ended = pushed c code nowhere

    put : PutFor c ss (g ∷ [])
    unfolding ended
    put =
        let P : List Step → Type 0 = λ v. PutFor c v (g ∷ []) in
        let e : (c.steps ++ nowhere ∷ []) ++ reverse xs ≡ ss = append_assoc c.steps (nowhere ∷ []) (reverse xs) ∙ sym is in
        let last : length ended.steps - 1 ≡ length c.steps = omega (arith, length-append c.steps (nowhere ∷ [])) in
        let made = put_steps ended (ends_code c code nowhere refl) xs [] (g ∷ []) (ap (λ (p : ℕ). goals_from ended p 0) last ∙ ends_here c code nowhere refl)
        (AreFor-more c ended xs [] (g ∷ []) code (pushed_extended c code nowhere) (segment [])) in
        subst P e (record { code = made.code; last = made.last })

    pub sequence_code : IsCode (with_steps c ss)
    sequence_code = put.code

    pub sequence_begins : Begins (with_steps c ss) place g
    sequence_begins =
        let len : length ss ≡ suc place =
        omega (arith, ap length is, length-append c.steps (step ops.Proceed 0 ++ reverse xs), length-append (step ops.Proceed 0) (reverse xs), length-reverse xs, at) in
        let last : place ≡ length ss - 1 = omega (arith, len) in
        let d = with_steps c ss in
        let h = put in
        record { within = omega (arith, len); goals = ap (λ (p : ℕ). goals_from d p 0) last ∙ h.last }

    pub sequence_extended : Extended c (with_steps c ss)
    sequence_extended = steps_extended c ss (step ops.Proceed 0 ++ reverse xs) is
