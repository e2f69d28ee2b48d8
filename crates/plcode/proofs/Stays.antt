-- What stays when more names, nodes and steps are put behind.
use Rattle.std.proofs.Common.{◌≡◌, ℕ, zero, suc, ◌-◌, ◌<◌, ◌≤◌, Bool, true, false, List, [], ◌∷◌, ◌++◌, length, take, get_or, refl, subst, ap, ◌∙◌, sym, arith, append_assoc, append-nil, length-append}
use Rattle.std.proofs.Math.ListN.{get_or-append}
use Rattle.std.proofs.Math.Seq.{take-suc}
use Rattle.std.proofs.lemmas.List.{take-append-le}
use Rattle.plterm.specs.Tree.{Tree}
use Rattle.plterm.specs.Reading.{first}
use Rattle.platoms.specs.Names.{Table, Extends, IsTable}
use Rattle.platoms.proofs.Extending.{Extends-refl, Extends-trans}
use Rattle.plcode.specs.declared.op.Op.{Op}
use Rattle.plcode.specs.declared.op.Op.TheVariants as ops
use Rattle.plcode.specs.declared.op.Step.{Step}
use Rattle.plcode.specs.declared.node.Node.{Node}
use Rattle.plcode.specs.Laying.{Grows, IsLaid}
use Rattle.plcode.specs.Steps.{Text, renamed, Extended, Args, ends, behind, goal, meaning, meanings, step_at, goals_from, FAIL, IsBranch, IsFor, Selects, Runs, Meets}
use Rattle.plcode.specs.Bodies.{IsCode}
use Rattle.plcode.proofs.Placing.{Grows-refl, Grows-trans}
use Rattle.plcode.proofs.Waiting.{IsLaid-names}
use Rattle.plcode.proofs.Values.{IsRow-more}
use Rattle.plcode.proofs.Meanings.{nowhere, meanings-put, meaning-live, meaning-ends}

pub Extended-refl : (c : Text) → Extended c c
Extended-refl c = record { names = Extends-refl c.names; nodes = Grows-refl c.nodes; more = []; steps = sym (append-nil c.steps) }

pub Extended-trans : (a b c : Text) → Extended a b → Extended b c → Extended a c
Extended-trans a b c p q = record {
  names = Extends-trans a.names b.names c.names p.names q.names;
  nodes = Grows-trans a.nodes b.nodes c.nodes p.nodes q.nodes;
  more = p.more ++ q.more;
  steps = q.steps ∙ ap (λ ss. ss ++ q.more) p.steps ∙ append_assoc a.steps p.more q.more;
}

pub steps_more : (c d : Text) → Extended c d → length c.steps ≤ length d.steps
steps_more c d more = omega (arith, ap length more.steps, length-append c.steps more.more)

-- ---- the goal of a step

module _ (c d : Text) (laid : IsLaid c.names c.nodes) (more : Extended c d) where
  pub Args-more : (at : ℕ) (ts : List Tree) → Args c at ts → Args d at ts
  Args-more at ts h = IsRow-more c.names d.names c.nodes d.nodes at (length ts) ts laid more.names more.nodes h

  -- the goal of a step stays
  goal-more : (place : ℕ) (op : Op) (at : ℕ) (g : Tree) (below : List (List Tree)) → IsFor c place op at g → goal d.names d.nodes below op at ≡ goal c.names c.nodes below op at
  goal-more place ops.Proceed at g below h = absurd h
  goal-more place (ops.Or l r) at g below h = refl
  goal-more place (ops.IfThen i l) at g below h = refl
  goal-more place (ops.IfThenElse i l r) at g below h = refl
  goal-more place ops.Goal at g below h = let e = Args-more at (g ∷ []) h in ap first (e.terms ∙ sym h.terms)

-- ---- the goals of the places that are there

module _ (c d : Text) (code : IsCode c) (more : Extended c d) where
  pub step-more : (p : ℕ) → p < length c.steps → step_at d p ≡ step_at c p
  step-more p lt = ap (λ (ss : List Step). get_or ss p nowhere) more.steps ∙ get_or-append c.steps more.more nowhere p lt

  meaning-more : (p owed : ℕ) (below : List (List Tree)) → p < length c.steps → meaning d.names d.nodes below (step_at c p) owed ≡ meaning c.names c.nodes below (step_at c p) owed
  meaning-more p owed below lt = go (ends (step_at c p).op) refl
    where
      go : (b : Bool) → ends (step_at c p).op ≡ b → meaning d.names d.nodes below (step_at c p) owed ≡ meaning c.names c.nodes below (step_at c p) owed
      go true e = meaning-ends d.names d.nodes below (step_at c p) owed e ∙ sym (meaning-ends c.names c.nodes below (step_at c p) owed e)
      go false e =
          let m = code.steps p lt in
          let r = m.runs e in
          let s = step_at c p in
          let g = goal c.names c.nodes below s.op s.goal in
          meaning-live d.names d.nodes below s owed g (behind below) e (goal-more c d code.laid more p s.op s.goal r.goal below r.is) refl
          ∙ sym (meaning-live c.names c.nodes below s owed g (behind below) e refl refl)

  meanings-more : (p : ℕ) → p ≤ length c.steps → meanings d.names d.nodes (take p c.steps) ≡ meanings c.names c.nodes (take p c.steps)
  unfolding meanings
  meanings-more zero le = refl
  meanings-more (suc p) le =
      let x = step_at c p in
      let next : take (suc p) c.steps ≡ take p c.steps ++ x ∷ [] = take-suc c.steps p nowhere (omega arith) in
      let ms = meanings c.names c.nodes (take p c.steps) in
      ap (meanings d.names d.nodes) next
      ∙ meanings-put d.names d.nodes (take p c.steps) x
      ∙ ap (λ (v : List (List Tree)). v ++ meaning d.names d.nodes v x 0 ∷ []) (meanings-more p (omega arith))
      ∙ ap (λ (v : List Tree). ms ++ v ∷ []) (meaning-more p 0 ms (omega arith))
      ∙ sym (meanings-put c.names c.nodes (take p c.steps) x)
      ∙ sym (ap (meanings c.names c.nodes) next)

  pub goals_from-more : (p owed : ℕ) → p < length c.steps → goals_from d p owed ≡ goals_from c p owed
  unfolding goals_from
  goals_from-more p owed lt =
      let taken : take p d.steps ≡ take p c.steps = ap (take p) more.steps ∙ take-append-le p c.steps more.more (omega arith) in
      ap (λ (ss : List Step). meaning d.names d.nodes (meanings d.names d.nodes ss) (step_at d p) owed) taken
      ∙ ap (λ (s : Step). meaning d.names d.nodes (meanings d.names d.nodes (take p c.steps)) s owed) (step-more p lt)
      ∙ ap (λ (ms : List (List Tree)). meaning d.names d.nodes ms (step_at c p) owed) (meanings-more p (omega arith))
      ∙ meaning-more p owed (meanings c.names c.nodes (take p c.steps)) lt

  -- ---- what is known at a place

  pub IsBranch-more : (below above l : ℕ) (g : Tree) → below ≤ length c.steps → below ≤ above → IsBranch c below l g → IsBranch d above l g
  IsBranch-more below above l g le up h = record { within = omega (arith, h.within); goals = goals_from-more l 0 (omega (arith, h.within)) ∙ h.goals }

  pub IsFor-more : (below above : ℕ) (op : Op) (at : ℕ) (g : Tree) → below ≤ length c.steps → below ≤ above → IsFor c below op at g → IsFor d above op at g
  IsFor-more below above ops.Proceed at g le up h = h
  IsFor-more below above (ops.Or l r) at g le up h = record {
    left = h.left;
    right = h.right;
    is = h.is;
    form_is = h.form_is;
    left_begins = IsBranch-more below above l h.left le up h.left_begins;
    right_begins = IsBranch-more below above r h.right le up h.right_begins;
  }
  IsFor-more below above (ops.IfThen i l) at g le up h = record {
    condition = h.condition;
    success = h.success;
    is = h.is;
    form_is = h.form_is;
    condition_begins = IsBranch-more below above i h.condition le up h.condition_begins;
    success_begins = IsBranch-more below above l h.success le up h.success_begins;
    failure_begins = IsBranch-more below above FAIL _ le up h.failure_begins;
  }
  IsFor-more below above (ops.IfThenElse i l r) at g le up h = record {
    condition = h.condition;
    success = h.success;
    failure = h.failure;
    is = h.is;
    form_is = h.form_is;
    condition_begins = IsBranch-more below above i h.condition le up h.condition_begins;
    success_begins = IsBranch-more below above l h.success le up h.success_begins;
    failure_begins = IsBranch-more below above r h.failure le up h.failure_begins;
  }
  IsFor-more below above ops.Goal at g le up h = Args-more c d code.laid more at (g ∷ []) h

  Selects-more : (p owed : ℕ) → p < length c.steps → Selects c p owed → Selects d p owed
  Selects-more p owed lt h = record {
    left = h.left;
    right = h.right;
    rest = h.rest;
    goals = goals_from-more p owed lt ∙ h.goals;
    form_is = h.form_is;
    next = goals_from-more p (suc owed) lt ∙ h.next;
  }

  Runs-more : (p : ℕ) (s : Step) → p < length c.steps → Runs c p s → Runs d p s
  Runs-more p s lt h = record {
    some = h.some;
    selects = λ owed more_owed. Selects-more p owed lt (h.selects owed more_owed);
    goal = h.goal;
    goals = goals_from-more p s.conjunctions lt ∙ h.goals ∙ ap (λ (gs : List Tree). h.goal ∷ gs) (sym (goals_from-more (p - 1) 0 (omega arith)));
    is = IsFor-more p p s.op s.goal h.goal (omega arith) (omega arith) h.is;
  }

  pub Meets-more : (p : ℕ) → p < length c.steps → Meets d p (step_at d p)
  Meets-more p lt =
      let h = code.steps p lt in
      let P : Step → Type 0 = Meets d p in
      subst P (sym (step-more p lt)) (record { none = λ e. goals_from-more p 0 lt ∙ h.none e; runs = λ e. Runs-more p (step_at c p) lt (h.runs e) })

  -- more names and nodes, and the same steps
  pub IsCode-more : IsLaid d.names d.nodes → d.steps ≡ c.steps → IsCode d
  IsCode-more laid same = record {
    laid = laid;
    fails = IsBranch-more (length c.steps) (length d.steps) FAIL _ (omega arith) (steps_more c d more) code.fails;
    steps = λ p lt. Meets-more p (omega (arith, lt, ap length same));
  }

-- more names and nodes behind the same steps
module _ (c : Text) (t : Table) (nodes : List Node) (names : Extends c.names t) (grows : Grows c.nodes nodes) where
  abbrev pub relaid : Text
  relaid = record { names = t; nodes = nodes; steps = c.steps }

  pub relaid_extended : Extended c relaid
  relaid_extended = record { names = names; nodes = grows; more = []; steps = sym (append-nil c.steps) }

  pub relaid_code : IsCode c → IsLaid t nodes → IsCode relaid
  relaid_code code laid = IsCode-more c relaid code relaid_extended laid refl

-- more names alone
module _ (c : Text) (t : Table) (names : Extends c.names t) where
  pub names_extended : Extended c (renamed t c)
  names_extended = relaid_extended c t c.nodes names (Grows-refl c.nodes)

  pub names_code : IsCode c → IsTable t → IsCode (renamed t c)
  names_code code table = relaid_code c t c.nodes names (Grows-refl c.nodes) code (IsLaid-names c.names t c.nodes names table code.laid)
