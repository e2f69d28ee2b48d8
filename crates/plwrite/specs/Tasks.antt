-- What a writer has still to write: tasks, the next one first, over the terms that are left, in their order.
use Rattle.std.specs.Prelude.{◌≡◌, ◌≤◌, ℕ, zero, suc, ◌+◌, ◌*◌, List, [], ◌∷◌, length, Bool, true, false, reverse}
use Rattle.std.specs.List.{flat_map}
use Rattle.plterm.specs.declared.node.Node.{Node}
use Rattle.plterm.specs.Tree.{Tree, compound, none, more}
use Rattle.plterm.specs.Reading.{arity, read, spelling}
use Rattle.std.specs.Borrow.{Bor}
use Rattle.plops.specs.declared.operator.Prefix.{Prefix}
use Rattle.plops.specs.declared.operator.Infix.{Infix}
use Rattle.plops.specs.declared.operator.Postfix.{Postfix}
use Rattle.plops.specs.declared.operator.Operator.TheVariants as operators
use Rattle.plops.specs.declared.table.Entry.{Entry}
use Rattle.plwrite.specs.declared.style.Style.{Style}
use Rattle.plwrite.specs.declared.place.Position.{Position}
use Rattle.plwrite.specs.declared.place.Position.TheVariants.{At, Tail}
use Rattle.plwrite.specs.declared.text.Sign.TheVariants as signs
use Rattle.plwrite.specs.declared.task.Task.{Task}
use Rattle.plwrite.specs.declared.task.Task.TheVariants as tasks
use Rattle.plwrite.specs.declared.task.Notation.{Notation}
use Rattle.plwrite.specs.declared.writer.Writer.{Writer}
use Rattle.plwrite.specs.Words.{Word, sign, operator, prefix, plain, letter_text, finished}
use Rattle.plwrite.specs.Places.{whole, argument, left_of, right_of, right_of_prefix, left_of_postfix, needs_brackets, place_of}
use Rattle.plwrite.specs.Writing.{words, behind_bar, opening, called}

-- the first of the terms, before what is said of the others
abbrev pub with_first : List Tree → (Tree → List Word → List Word) → (List Tree → List Word) → List Word
with_first [] body others = others []
with_first (t ∷ ts) body others = body t (others ts)

-- k arguments behind another, and the closing bracket
abbrev pub arguments : List Entry → Style → ℕ → List Tree → (List Tree → List Word) → List Word
arguments ops style zero ts others = sign signs.Close ∷ others ts
arguments ops style (suc k) [] others = others []
arguments ops style (suc k) (t ∷ ts) others = sign signs.Comma ∷ words ops style (At argument) t (arguments ops style k ts others)

-- the words that the tasks make of the terms
abbrev pub told : List Entry → Style → List Task → List Tree → List Word
told ops style [] ts = []
told ops style (tasks.Mark s ∷ rest) ts = sign s ∷ told ops style rest ts
told ops style (tasks.OperatorName s ∷ rest) ts = operator style s.now ∷ told ops style rest ts
told ops style (tasks.Term position ∷ rest) ts = with_first ts (words ops style position) (told ops style rest)
told ops style (tasks.Only s position ∷ rest) ts = with_first ts (λ t ws. words ops style position (compound s.now (more t none)) ws) (told ops style rest)
told ops style (tasks.Others k ∷ rest) ts = arguments ops style k ts (told ops style rest)

-- the tasks, the next one first
abbrev pub stack : Writer → List Task
stack w = reverse w.tasks.items

abbrev pub closing_tasks : Bool → List Task → List Task
closing_tasks true rest = tasks.Mark signs.Close ∷ rest
closing_tasks false rest = rest

-- the text so far, with what the tasks make of the terms
abbrev pub awaited : Notation → Writer → List Tree → List ℕ
awaited n w ts = finished w.text (told n.ops.now n.style (stack w) ts)

-- the text so far, with a task before the others
abbrev pub awaited_with : Notation → Writer → Task → List Tree → List ℕ
awaited_with n w task ts = finished w.text (told n.ops.now n.style (task ∷ stack w) ts)

-- what words a step makes of the terms that are left
abbrev pub Makes : Notation → Writer → Writer → (List Entry → Style → List Task → List Tree → List Word) → Type 0
Makes n old new made = (ts : List Tree) → awaited n new ts ≡ finished old.text (made n.ops.now n.style (stack old) ts)

-- the same where the first of these terms begins with a node that is taken off, so that its arguments stand first now
abbrev pub MakesOfNode : Notation → Writer → Writer → Node → (List Entry → Style → List Task → List Tree → List Word) → Type 0
MakesOfNode n old new node made =
    (ts : List Tree) → arity node ≤ length ts → awaited n new ts ≡ finished old.text (made n.ops.now n.style (stack old) (read node ts))

-- a functor, before its first argument and others
abbrev pub call_told : Position → List ℕ → ℕ → List Entry → Style → List Task → List Tree → List Word
call_told position s count ops style rest ts = called style position s (told ops style (tasks.Term (At argument) ∷ tasks.Others count ∷ rest) ts)

-- a functor and its only argument
abbrev pub functional_told : Position → List ℕ → List Entry → Style → List Task → List Tree → List Word
functional_told position s ops style rest ts = called style position s (told ops style (tasks.Term (At argument) ∷ tasks.Mark signs.Close ∷ rest) ts)

-- a list's first element and what is left of it
abbrev pub list_told : Position → List Entry → Style → List Task → List Tree → List Word
list_told (At place) ops style rest ts = sign signs.OpenSquare ∷ told ops style (tasks.Term (At argument) ∷ tasks.Term Tail ∷ tasks.Mark signs.CloseSquare ∷ rest) ts
list_told Tail ops style rest ts = sign signs.Comma ∷ told ops style (tasks.Term (At argument) ∷ tasks.Term Tail ∷ rest) ts

-- a term in braces
abbrev pub curly_told : Position → List Entry → Style → List Task → List Tree → List Word
curly_told position ops style rest ts = behind_bar position (sign signs.OpenCurly ∷ told ops style (tasks.Term (At whole) ∷ tasks.Mark signs.CloseCurly ∷ rest) ts)

-- operators with their operands
abbrev pub between_told : Position → Bor (List ℕ) → Infix → List Entry → Style → List Task → List Tree → List Word
between_told position name op ops style rest ts =
    let needed = needs_brackets (place_of position) (operators.Between op) in
    behind_bar position (opening needed (told ops style
    (tasks.Term (At (left_of op)) ∷ tasks.OperatorName name ∷ tasks.Term (At (right_of op)) ∷ closing_tasks needed rest) ts))

abbrev pub before_told : Position → List ℕ → Prefix → List Entry → Style → List Task → List Tree → List Word
before_told position s op ops style rest ts =
    let needed = needs_brackets (place_of position) (operators.Before op) in
    behind_bar position (opening needed (prefix style s ∷ told ops style (tasks.Term (At (right_of_prefix op)) ∷ closing_tasks needed rest) ts))

abbrev pub behind_told : Position → Bor (List ℕ) → Postfix → List Entry → Style → List Task → List Tree → List Word
behind_told position name op ops style rest ts =
    let needed = needs_brackets (place_of position) (operators.Behind op) in
    behind_bar position (opening needed (told ops style (tasks.Term (At (left_of_postfix op)) ∷ tasks.OperatorName name ∷ closing_tasks needed rest) ts))

-- a variable by its place in the alphabet
abbrev pub letter_told : Position → ℕ → List Entry → Style → List Task → List Tree → List Word
letter_told position n ops style rest ts = behind_bar position (plain (letter_text n) ∷ told ops style rest ts)

-- what was still to be written with a task before a term that begins with this node
abbrev pub WritesNode : Notation → Writer → Writer → Task → Node → Type 0
WritesNode n old new task node = MakesOfNode n old new node (λ ops style rest. told ops style (task ∷ rest))

-- at most so many tasks more
abbrev pub AddsTasks : Writer → Writer → ℕ → Type 0
AddsTasks old new k = length new.tasks.items ≤ length old.tasks.items + k

-- a bound on the tasks that are still to come
abbrev pub work : Writer → List Tree → ℕ
work w ts = 8 * length (flat_map spelling ts) + length w.tasks.items
