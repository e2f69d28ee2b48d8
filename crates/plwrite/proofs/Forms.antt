-- What is told of a term, by its node.
use Rattle.std.proofs.Common.{◌≡◌, ◌≤◌, ℕ, ℤ, zero, suc, List, [], ◌∷◌, length, take, drop, Bool, true, false, cond, Option, Some, None, refl, sym, ap, ◌∙◌, arith}
use Rattle.std.specs.Borrow.{Bor}
use Rattle.plterm.specs.declared.node.Node.{Node}
use Rattle.plterm.specs.declared.node.Node.TheVariants as nodes
use Rattle.plterm.specs.Tree.{Tree, trees}
use Rattle.plterm.specs.Reading.{read, first}
use Rattle.plops.specs.declared.operator.Operator.TheVariants as operators
use Rattle.plops.specs.declared.table.Entry.{Entry}
use Rattle.plops.specs.declared.operator.Infix.{Infix}
use Rattle.plops.specs.declared.operator.Prefix.{Prefix}
use Rattle.plops.specs.declared.operator.Postfix.{Postfix}
use Rattle.plwrite.specs.declared.style.Style.{Style}
use Rattle.plwrite.specs.declared.place.Position.{Position}
use Rattle.plwrite.specs.declared.place.Position.TheVariants.{At, Tail}
use Rattle.plwrite.specs.declared.text.Sign.TheVariants as signs
use Rattle.plwrite.specs.declared.task.Task.{Task}
use Rattle.plwrite.specs.declared.task.Task.TheVariants as tasks
use Rattle.plwrite.specs.declared.form.Pair.TheVariants as pair
use Rattle.plwrite.specs.declared.form.Alone.{Alone}
use Rattle.plwrite.specs.declared.form.Alone.TheVariants as alone
use Rattle.plwrite.specs.Nodes.{node_int}
use Rattle.plwrite.specs.Words.{Word, sign, variable, integer, operator, prefix}
use Rattle.plwrite.specs.Places.{whole, argument, left_of, right_of, right_of_prefix, left_of_postfix, needs_brackets, place_of}
use Rattle.plwrite.specs.Writing.{words, others, behind_bar, opening, closing, called, atom_words, ends_list, pair_form, pair_words, list_words, alone_form, alone_words, operated}
use Rattle.plwrite.specs.Tasks.{told, arguments, closing_tasks, call_told, functional_told, list_told, curly_told, between_told, before_told, behind_told, letter_told}

module _ (ops : List Entry) (style : Style) where
  closing_told : (needed : Bool) (rest : List Task) (ts : List Tree) → told ops style (closing_tasks needed rest) ts ≡ closing needed (told ops style rest ts)
  closing_told true rest ts = refl
  closing_told false rest ts = refl

  pub var_told : (position : Position) (rest : List Task) (n : ℕ) (ts : List Tree) →
      told ops style (tasks.Term position ∷ rest) (read (nodes.Var n) ts) ≡ behind_bar position (variable n ∷ told ops style rest ts)
  unfolding words
  var_told position rest n ts = refl

  pub int_told : (position : Position) (rest : List Task) (i : ℤ) (ts : List Tree) →
      told ops style (tasks.Term position ∷ rest) (read (nodes.Int i) ts) ≡ behind_bar position (integer i ∷ told ops style rest ts)
  unfolding words
  int_told position rest i ts = refl

  pub atom_told : (position : Position) (rest : List Task) (s : List ℕ) (ts : List Tree) →
      told ops style (tasks.Term position ∷ rest) (read (nodes.Atom s) ts) ≡ atom_words ops style position (ends_list position s) s (told ops style rest ts)
  unfolding words
  atom_told position rest s ts = refl

  pub none_told : (position : Position) (rest : List Task) (s : List ℕ) (ts : List Tree) →
      told ops style (tasks.Term position ∷ rest) (read (nodes.Compound s 0) ts) ≡ called style position s (sign signs.Close ∷ told ops style rest ts)
  unfolding words
  none_told position rest s ts = refl

  pair_told : (position : Position) (rest : List Task) (s : List ℕ) (a b : Tree) (ts : List Tree) →
      told ops style (tasks.Term position ∷ rest) (read (nodes.Compound s 2) (a ∷ b ∷ ts))
      ≡ pair_words style position s (pair_form ops style s) (λ p ws. words ops style p a ws) (λ p ws. words ops style p b ws) (told ops style rest ts)
  unfolding words
  pair_told position rest s a b ts = refl

  list_is : (position : Position) (rest : List Task) (a b : Tree) (ts : List Tree) →
      list_told position ops style rest (a ∷ b ∷ ts)
      ≡ list_words position (λ p ws. words ops style p a ws) (λ p ws. words ops style p b ws) (told ops style rest ts)
  list_is (At place) rest a b ts = refl
  list_is Tail rest a b ts = refl

  pub list_of_pair : (position : Position) (rest : List Task) (s : List ℕ) (ts : List Tree) → 2 ≤ length ts → pair_form ops style s ≡ pair.List →
      list_told position ops style rest ts ≡ told ops style (tasks.Term position ∷ rest) (read (nodes.Compound s 2) ts)
  list_of_pair position rest s [] h e = absurd (omega arith)
  list_of_pair position rest s (a ∷ []) h e = absurd (omega arith)
  list_of_pair position rest s (a ∷ b ∷ ts) h e =
      list_is position rest a b ts
      ∙ ap (λ f. pair_words style position s f (λ p ws. words ops style p a ws) (λ p ws. words ops style p b ws) (told ops style rest ts)) (sym e)
      ∙ sym (pair_told position rest s a b ts)

  pub between_of_pair : (position : Position) (rest : List Task) (name : Bor (List ℕ)) (op : Infix) (ts : List Tree) → 2 ≤ length ts → pair_form ops style name.now ≡ pair.Between op →
      between_told position name op ops style rest ts
      ≡ told ops style (tasks.Term position ∷ rest) (read (nodes.Compound name.now 2) ts)
  between_of_pair position rest name op [] h e = absurd (omega arith)
  between_of_pair position rest name op (a ∷ []) h e = absurd (omega arith)
  between_of_pair position rest name op (a ∷ b ∷ ts) h e =
      let needed = needs_brackets (place_of position) (operators.Between op) in
      ap (λ ws. behind_bar position (opening needed (words ops style (At (left_of op)) a (operator style name.now ∷ words ops style (At (right_of op)) b ws)))) (closing_told needed rest ts)
      ∙ ap (λ f. pair_words style position name.now f (λ p ws. words ops style p a ws) (λ p ws. words ops style p b ws) (told ops style rest ts)) (sym e)
      ∙ sym (pair_told position rest name.now a b ts)

  pub call_of_pair : (position : Position) (rest : List Task) (s : List ℕ) (ts : List Tree) → 2 ≤ length ts → pair_form ops style s ≡ pair.Functional →
      call_told position s 1 ops style rest ts
      ≡ told ops style (tasks.Term position ∷ rest) (read (nodes.Compound s 2) ts)
  call_of_pair position rest s [] h e = absurd (omega arith)
  call_of_pair position rest s (a ∷ []) h e = absurd (omega arith)
  call_of_pair position rest s (a ∷ b ∷ ts) h e =
      ap (λ f. pair_words style position s f (λ p ws. words ops style p a ws) (λ p ws. words ops style p b ws) (told ops style rest ts)) (sym e)
      ∙ sym (pair_told position rest s a b ts)

  arguments_are : (k : ℕ) (ts : List Tree) (after : List Tree → List Word) → k ≤ length ts →
      arguments ops style k ts after ≡ others ops style (trees (take k ts)) (after (drop k ts))
  unfolding words others
  arguments_are zero ts after h = refl
  arguments_are (suc k) [] after h = absurd (omega arith)
  arguments_are (suc k) (t ∷ ts) after h = ap (λ ws. sign signs.Comma ∷ words ops style (At argument) t ws) (arguments_are k ts after (omega arith))

  many_told : (position : Position) (rest : List Task) (s : List ℕ) (k : ℕ) (a b c : Tree) (ts : List Tree) → k ≤ length ts →
      called style position s (told ops style (tasks.Term (At argument) ∷ tasks.Others (suc (suc k)) ∷ rest) (a ∷ b ∷ c ∷ ts))
      ≡ told ops style (tasks.Term position ∷ rest) (read (nodes.Compound s (suc (suc (suc k)))) (a ∷ b ∷ c ∷ ts))
  unfolding words others
  many_told position rest s k a b c ts h =
      ap (λ ws. called style position s (words ops style (At argument) a (sign signs.Comma ∷ words ops style (At argument) b (sign signs.Comma ∷ words ops style (At argument) c ws))))
      (arguments_are k ts (told ops style rest) h)

  behind_one : (position : Position) (rest : List Task) (s : List ℕ) (m : ℕ) (ts : List Tree) → 2 ≤ m → suc m ≤ length ts →
      call_told position s m ops style rest ts
      ≡ told ops style (tasks.Term position ∷ rest) (read (nodes.Compound s (suc m)) ts)
  behind_one position rest s zero ts h room = absurd (omega arith)
  behind_one position rest s (suc zero) ts h room = absurd (omega arith)
  behind_one position rest s (suc (suc k)) [] h room = absurd (omega arith)
  behind_one position rest s (suc (suc k)) (a ∷ []) h room = absurd (omega arith)
  behind_one position rest s (suc (suc k)) (a ∷ b ∷ []) h room = absurd (omega arith)
  behind_one position rest s (suc (suc k)) (a ∷ b ∷ c ∷ ts) h room = many_told position rest s k a b c ts (omega arith)

  pub call_of_many : (position : Position) (rest : List Task) (s : List ℕ) (k m : ℕ) (ts : List Tree) → k ≡ suc m → 2 ≤ m → k ≤ length ts →
      call_told position s m ops style rest ts
      ≡ told ops style (tasks.Term position ∷ rest) (read (nodes.Compound s k) ts)
  call_of_many position rest s k m ts e h room = rw e (behind_one position rest s m ts h (omega arith))

  pub term_told : (position : Position) (rest : List Task) (node : Node) (ts : List Tree) →
      told ops style (tasks.Term position ∷ rest) (read node ts) ≡ words ops style position (first (read node ts)) (told ops style rest (drop 1 (read node ts)))
  term_told position rest (nodes.Var n) ts = refl
  term_told position rest (nodes.Int i) ts = refl
  term_told position rest (nodes.Atom s) ts = refl
  term_told position rest (nodes.Compound s k) ts = refl

  only_told : (position : Position) (rest : List Task) (name : Bor (List ℕ)) (node : Node) (ts : List Tree) →
      told ops style (tasks.Only name position ∷ rest) (read node ts)
      ≡ alone_words style position name.now (alone_form ops style name.now (node_int node)) (λ p ws. words ops style p (first (read node ts)) ws) (told ops style rest (drop 1 (read node ts)))
  unfolding words
  only_told position rest name (nodes.Var n) ts = refl
  only_told position rest name (nodes.Int i) ts = refl
  only_told position rest name (nodes.Atom s) ts = refl
  only_told position rest name (nodes.Compound s k) ts = refl

  only_as : (position : Position) (rest : List Task) (name : Bor (List ℕ)) (node : Node) (ts : List Tree) (form : Alone) → alone_form ops style name.now (node_int node) ≡ form →
      alone_words style position name.now form (λ p ws. words ops style p (first (read node ts)) ws) (told ops style rest (drop 1 (read node ts)))
      ≡ told ops style (tasks.Only name position ∷ rest) (read node ts)
  only_as position rest name node ts form e =
      ap (λ f. alone_words style position name.now f (λ p ws. words ops style p (first (read node ts)) ws) (told ops style rest (drop 1 (read node ts)))) (sym e)
      ∙ sym (only_told position rest name node ts)

  pub curly_of_only : (position : Position) (rest : List Task) (name : Bor (List ℕ)) (node : Node) (ts : List Tree) → alone_form ops style name.now (node_int node) ≡ alone.Curly →
      curly_told position ops style rest (read node ts)
      ≡ told ops style (tasks.Only name position ∷ rest) (read node ts)
  curly_of_only position rest name node ts e =
      ap (λ ws. behind_bar position (sign signs.OpenCurly ∷ ws)) (term_told (At whole) (tasks.Mark signs.CloseCurly ∷ rest) node ts)
      ∙ only_as position rest name node ts alone.Curly e

  pub functional_of_only : (position : Position) (rest : List Task) (name : Bor (List ℕ)) (node : Node) (ts : List Tree) → alone_form ops style name.now (node_int node) ≡ alone.Functional →
      functional_told position name.now ops style rest (read node ts)
      ≡ told ops style (tasks.Only name position ∷ rest) (read node ts)
  functional_of_only position rest name node ts e =
      ap (called style position name.now) (term_told (At argument) (tasks.Mark signs.Close ∷ rest) node ts)
      ∙ only_as position rest name node ts alone.Functional e

  pub before_of_only : (position : Position) (rest : List Task) (name : Bor (List ℕ)) (node : Node) (ts : List Tree) (op : Prefix) → alone_form ops style name.now (node_int node) ≡ alone.Before op →
      before_told position name.now op ops style rest (read node ts)
      ≡ told ops style (tasks.Only name position ∷ rest) (read node ts)
  before_of_only position rest name node ts op e =
      let needed = needs_brackets (place_of position) (operators.Before op) in
      ap (λ ws. behind_bar position (opening needed (prefix style name.now ∷ ws))) (term_told (At (right_of_prefix op)) (closing_tasks needed rest) node ts)
      ∙ ap (λ ws. behind_bar position (opening needed (prefix style name.now ∷ words ops style (At (right_of_prefix op)) (first (read node ts)) ws))) (closing_told needed rest (drop 1 (read node ts)))
      ∙ only_as position rest name node ts (alone.Before op) e

  pub behind_of_only : (position : Position) (rest : List Task) (name : Bor (List ℕ)) (node : Node) (ts : List Tree) (op : Postfix) → alone_form ops style name.now (node_int node) ≡ alone.Behind op →
      behind_told position name op ops style rest (read node ts)
      ≡ told ops style (tasks.Only name position ∷ rest) (read node ts)
  behind_of_only position rest name node ts op e =
      let needed = needs_brackets (place_of position) (operators.Behind op) in
      ap (λ ws. behind_bar position (opening needed ws)) (term_told (At (left_of_postfix op)) (tasks.OperatorName name ∷ closing_tasks needed rest) node ts)
      ∙ ap (λ ws. behind_bar position (opening needed (words ops style (At (left_of_postfix op)) (first (read node ts)) (operator style name.now ∷ ws)))) (closing_told needed rest (drop 1 (read node ts)))
      ∙ only_as position rest name node ts (alone.Behind op) e

  no_letter : (before : Option Prefix) (behind : Option Postfix) (n : ℕ) → operated before behind false ≡ alone.Letter n → ⊥
  no_letter (Some op) behind n e = cc
  no_letter None (Some op) n e = cc
  no_letter None None n e = cc

  no_letter_of_none : (b : Bool) (before : Option Prefix) (behind : Option Postfix) (n : ℕ) → cond b alone.Curly (operated before behind false) ≡ alone.Letter n → ⊥
  no_letter_of_none true before behind n e = cc
  no_letter_of_none false before behind n e = no_letter before behind n e

  pub letter_of_only : (position : Position) (rest : List Task) (name : Bor (List ℕ)) (node : Node) (ts : List Tree) (n : ℕ) → alone_form ops style name.now (node_int node) ≡ alone.Letter n →
      letter_told position n ops style rest ts
      ≡ told ops style (tasks.Only name position ∷ rest) (read node ts)
  letter_of_only position rest name (nodes.Var v) ts n e = absurd (no_letter_of_none _ _ _ n e)
  letter_of_only position rest name (nodes.Int i) ts n e = only_as position rest name (nodes.Int i) ts (alone.Letter n) e
  letter_of_only position rest name (nodes.Atom s) ts n e = absurd (no_letter_of_none _ _ _ n e)
  letter_of_only position rest name (nodes.Compound s k) ts n e = absurd (no_letter_of_none _ _ _ n e)
