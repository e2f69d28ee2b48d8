-- The definitions on small programs.
use Rattle.std.proofs.Common.{◌≡◌, ℕ, pos, List, [], ◌∷◌, ◌++◌, true, false, codes, refl}
use Rattle.plterm.specs.Tree.{Tree, var, int, atom, compound, none, more}
use Rattle.plclause.specs.Clause.{Clause}
use Rattle.plload.specs.declared.error.RefusalKind.TheVariants.{NotCallable, StaticRedefined, BadDirective}
use Rattle.plops.specs.declared.operator.Kind.TheVariants.{Xfx}
use Rattle.plops.specs.declared.flag.Quotes.TheVariants.{Atom}
use Rattle.plprogram.specs.declared.change.Flag.TheVariants.{Quotes}
use Rattle.plnames.specs.Names.{rows, kept, is_fixed}
use Rattle.plload.specs.Meaning.{Adds, Runs, Declares, Operates, Sets, Passes, Refused, meaning}
use Rattle.plload.specs.Position.{line_of, column_of}
use Rattle.plprogram.specs.Program.{procedures_of, clauses_in}

abbrev one : List ℕ → Tree → Tree
one name t = compound name (more t none)

abbrev two : List ℕ → Tree → Tree → Tree
two name t u = compound name (more t (more u none))

abbrev fact : List ℕ → Clause
fact name = record { head = atom name; body = atom (codes "true"); variables = 0 }

-- a.
added : meaning (atom (codes "a")) ≡ Adds (fact (codes "a"))
unfolding rows kept
added = refl

-- 1 :- a.
number_head : meaning (two (codes ":-") (int (pos 1)) (atom (codes "a"))) ≡ Refused NotCallable
number_head = refl

-- true :- 1.: the body is judged first
bad_body_first : meaning (two (codes ":-") (atom (codes "true")) (int (pos 1))) ≡ Refused NotCallable
bad_body_first = refl

-- true.
control_head : meaning (atom (codes "true")) ≡ Refused StaticRedefined
unfolding rows kept
control_head = refl

-- -->(a, b).
grammar_rule : meaning (two (codes "-->") (atom (codes "a")) (atom (codes "b"))) ≡ Refused StaticRedefined
unfolding rows kept
grammar_rule = refl

-- :- initialization(p(V4)).
run : meaning (one (codes ":-") (one (codes "initialization") (one (codes "p") (var 4)))) ≡ Runs (one (codes "p") (var 0))
run = refl

-- :- p.
other_directive : meaning (one (codes ":-") (atom (codes "p"))) ≡ Runs (atom (codes "p"))
other_directive = refl

-- :- initialization.
bare : meaning (one (codes ":-") (atom (codes "initialization"))) ≡ Refused BadDirective
bare = refl

-- :- X.
variable_directive : meaning (one (codes ":-") (var 0)) ≡ Refused BadDirective
variable_directive = refl

-- :- initialization(X).
variable_goal : meaning (one (codes ":-") (one (codes "initialization") (var 0))) ≡ Refused BadDirective
variable_goal = refl

-- two clauses of a procedure, with one of another between them
in_order : clauses_in (procedures_of (fact (codes "p") ∷ fact (codes "q") ∷ fact (codes "p") ∷ [])) (record { name = codes "p"; arity = 0 }) ≡ fact (codes "p") ∷ fact (codes "p") ∷ []
in_order = refl

-- :- dynamic(p/1).
abbrev slash : Tree → Tree → Tree
slash n a = two (codes "/") n a

abbrev p_1 : Tree
p_1 = slash (atom (codes "p")) (int (pos 1))

dynamic_one : meaning (one (codes ":-") (one (codes "dynamic") p_1)) ≡ Declares (record { name = codes "p"; arity = 1 } ∷ [])
unfolding rows kept
dynamic_one = refl

-- :- dynamic((p/1, q/0)).
dynamic_two : meaning (one (codes ":-") (one (codes "dynamic") (two (codes ",") p_1 (slash (atom (codes "q")) (int (pos 0)))))) ≡ Declares (record { name = codes "p"; arity = 1 } ∷ record { name = codes "q"; arity = 0 } ∷ [])
unfolding rows kept
dynamic_two = refl

-- :- dynamic([p/1]).
dynamic_list : meaning (one (codes ":-") (one (codes "dynamic") (two (codes ".") p_1 (atom (codes "[]"))))) ≡ Declares (record { name = codes "p"; arity = 1 } ∷ [])
unfolding rows kept
dynamic_list = refl

-- :- dynamic([p/1|X]).
dynamic_partial : meaning (one (codes ":-") (one (codes "dynamic") (two (codes ".") p_1 (var 0)))) ≡ Refused BadDirective
dynamic_partial = refl

-- :- dynamic(write/1).
dynamic_built_in : meaning (one (codes ":-") (one (codes "dynamic") (slash (atom (codes "write")) (int (pos 1))))) ≡ Refused BadDirective
unfolding rows kept
dynamic_built_in = refl

-- :- dynamic.
dynamic_atom : meaning (one (codes ":-") (atom (codes "dynamic"))) ≡ Refused BadDirective
dynamic_atom = refl

-- :- multifile(write/1).
multifile_passes : meaning (one (codes ":-") (one (codes "multifile") (slash (atom (codes "write")) (int (pos 1))))) ≡ Passes
multifile_passes = refl

-- ?- dynamic(p/1).
query : meaning (one (codes "?-") (one (codes "dynamic") p_1)) ≡ Runs (one (codes "dynamic") p_1)
query = refl

-- :- op(700, xfx, ===>).
operator : meaning (one (codes ":-") (compound (codes "op") (more (int (pos 700)) (more (atom (codes "xfx")) (more (atom (codes "===>")) none))))) ≡ Operates 700 Xfx (codes "===>" ∷ [])
operator = refl

-- :- set_prolog_flag(double_quotes, atom).
flag : meaning (one (codes ":-") (two (codes "set_prolog_flag") (atom (codes "double_quotes")) (atom (codes "atom")))) ≡ Sets (Quotes Atom)
flag = refl

-- :- set_prolog_flag(bounded, true).
flag_read_only : meaning (one (codes ":-") (two (codes "set_prolog_flag") (atom (codes "bounded")) (atom (codes "true")))) ≡ Refused BadDirective
flag_read_only = refl

-- :- use_module(library(lists)).
library : meaning (one (codes ":-") (one (codes "use_module") (one (codes "library") (atom (codes "lists"))))) ≡ Passes
library = refl

-- :- module(m, []).
module_directive : meaning (one (codes ":-") (two (codes "module") (atom (codes "m")) (atom (codes "[]")))) ≡ Refused BadDirective
module_directive = refl

fixed_once : is_fixed (record { name = codes "once"; arity = 1 }) ≡ true
unfolding rows kept
fixed_once = refl

-- it is kept for a predicate that has no row yet
fixed_retract : is_fixed (record { name = codes "retract"; arity = 1 }) ≡ true
unfolding rows kept
fixed_retract = refl

not_fixed : is_fixed (record { name = codes "once"; arity = 2 }) ≡ false
unfolding rows kept
not_fixed = refl

-- the second byte of the third line
abbrev text : List ℕ
text = codes "a." ++ 10 ∷ (codes "b." ++ 10 ∷ codes "c :- x")

third_line : line_of text 7 ≡ 3
third_line = refl

second_column : column_of text 7 ≡ 2
second_column = refl
