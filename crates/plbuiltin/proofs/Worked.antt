-- The definitions on small inputs.
use Rattle.std.proofs.Common.{◌≡◌, ℕ, true, false, List, [], ◌∷◌, ◌++◌, map, pos, negsuc, Ok, Err, Some, None, refl}
use Rattle.std.specs.Prelude.{codes}
use Rattle.std.specs.Char.{encode_utf8}
use Rattle.std.specs.Fmt.{digits}
use Rattle.std.specs.Str.{chars}
use Rattle.plterm.specs.Tree.{Tree, var, int, atom, compound, none, more}
use Rattle.plprogram.specs.declared.settings.Settings.{Settings}
use Rattle.plprogram.specs.declared.settings.Unknown.TheVariants.{Fail}
use Rattle.plops.specs.Listing.{current_ops}
use Rattle.plops.specs.declared.operator.Kind.TheVariants.{Xfx}
use Rattle.plops.specs.declared.table.Entry.{Entry}
use Rattle.plwrite.specs.declared.style.Style.TheVariants.{Plain}
use Rattle.plerror.specs.Errors.{instantiation_error, type_error, domain_error, permission_error, representation_error, syntax_error, evaluation_error, indicator_term}
use Rattle.plbuiltin.specs.Solution.{Solution, Raises, Gives, are, are_one_of, fails, unifies, writes, sets, decides}
use Rattle.plbuiltin.specs.Flags.{asked, set_flag}
use Rattle.plbuiltin.specs.Format.{Byte, Takes, Amiss, Written, pieces, format}
use Rattle.std.specs.declared.cmp.Ordering.TheVariants as orderings
use Rattle.plterm.specs.Order.{order}
use Rattle.plterm.specs.Ground.{is_ground}
use Rattle.plnames.specs.declared.kind.Relation.{Relation}
use Rattle.plnames.specs.declared.kind.Relation.TheVariants.{Same, Different, Before, NotAfter, After, NotBefore}
use Rattle.plnames.specs.declared.kind.Order.TheVariants.{Holds, Ground}
use Rattle.plbuiltin.specs.Order.{stand, compare, on_order}
use Rattle.plnames.specs.declared.kind.Tests.TheVariants.{Variable, Bound, Atom, Integer, Atomic, Compound, Callable, ProperList}
use Rattle.plnames.specs.declared.kind.Comparison.TheVariants.{Equal, Unequal, Less, AtMost, Greater, AtLeast}
use Rattle.plnames.specs.declared.kind.Arithmetic.TheVariants.{Is, Compare}
use Rattle.platoms.specs.Evaluable.{binary_of}
use Rattle.plarith.specs.Evaluation.{eval}
use Rattle.plbuiltin.specs.Lists.{elements_of}
use Rattle.plbuiltin.specs.Tests.{holds}
use Rattle.plbuiltin.specs.Parts.{arg, both, functor, univ}
use Rattle.plnames.specs.declared.kind.Spelling.TheVariants.{Characters, Codes}
use Rattle.plnames.specs.declared.kind.Sorting.TheVariants.{Once, Keys}
use Rattle.pllex.specs.Tokens.{run_end, gap, value, item_of}
use Rattle.plnumber.specs.Numbers.{number_of}
use Rattle.plsort.specs.Sorted.{inserted, in_order, added, set_of}
use Rattle.plbuiltin.specs.Sorting.{on_sorting}
use Rattle.plbuiltin.specs.Texts.{text_in, number_text, spelled, atom_of}
use Rattle.plbuiltin.specs.Pieces.{parts, splits, sub_atom, atom_concat, whole}
use Rattle.plbuiltin.specs.Current.{current_op, current_flag, operator_terms}
use Rattle.plbuiltin.specs.Arithmetic.{compares, on_arithmetic}
use Rattle.plbuiltin.specs.Atoms.{atom_length, char_code, count_of, number_spelled, spell}

foo : Tree
foo = atom (codes "foo")

f_of_foo : Tree
unfolding foo
f_of_foo = compound (codes "f") (more foo none)

-- characters of one to four bytes
counted : (count_of [] ≡ int (pos 0)) × (count_of (codes "enchanted evening") ≡ int (pos 17))
unfolding chars
counted = (refl, refl)

counted_wide : count_of (97 ∷ 195 ∷ 169 ∷ 226 ∷ 130 ∷ 172 ∷ 240 ∷ 159 ∷ 152 ∷ 128 ∷ []) ≡ int (pos 4)
unfolding chars
counted_wide = refl

module _ (s : Settings) where
  unbound : atom_length (atom (codes "abc") ∷ var 0 ∷ []) s ≡ unifies (var 0) (int (pos 3)) s
  unfolding chars
  unbound = refl

  bound : atom_length (atom (codes "abc") ∷ int (pos 4) ∷ []) s ≡ unifies (int (pos 4)) (int (pos 3)) s
  unfolding chars
  bound = refl

  -- the atom is looked at before the length
  unbound_atom : atom_length (var 0 ∷ foo ∷ []) s ≡ Raises instantiation_error
  unbound_atom = refl

  integer_atom : atom_length (int (pos 123) ∷ foo ∷ []) s ≡ Raises (type_error (codes "atom") (int (pos 123)))
  integer_atom = refl

  compound_atom : atom_length (f_of_foo ∷ int (negsuc 0) ∷ []) s ≡ Raises (type_error (codes "atom") f_of_foo)
  unfolding f_of_foo
  compound_atom = refl

  no_integer : atom_length (foo ∷ foo ∷ []) s ≡ Raises (type_error (codes "integer") foo)
  unfolding foo
  no_integer = refl

  compound_length : atom_length (foo ∷ f_of_foo ∷ []) s ≡ Raises (type_error (codes "integer") f_of_foo)
  unfolding foo f_of_foo
  compound_length = refl

  negative : atom_length (foo ∷ int (negsuc 0) ∷ []) s ≡ Raises (domain_error (codes "not_less_than_zero") (int (negsuc 0)))
  unfolding foo
  negative = refl

-- ---- tests of what a term is

terms : List Tree
unfolding foo f_of_foo
terms = var 0 ∷ int (negsuc 0) ∷ foo ∷ f_of_foo ∷ []

variables : map (holds Variable) terms ≡ true ∷ false ∷ false ∷ false ∷ []
unfolding terms
variables = refl

bound_terms : map (holds Bound) terms ≡ false ∷ true ∷ true ∷ true ∷ []
unfolding terms
bound_terms = refl

atoms : map (holds Atom) terms ≡ false ∷ false ∷ true ∷ false ∷ []
unfolding terms
atoms = refl

integers : map (holds Integer) terms ≡ false ∷ true ∷ false ∷ false ∷ []
unfolding terms
integers = refl

atomic_terms : map (holds Atomic) terms ≡ false ∷ true ∷ true ∷ false ∷ []
unfolding terms
atomic_terms = refl

compounds : map (holds Compound) terms ≡ false ∷ false ∷ false ∷ true ∷ []
unfolding terms
compounds = refl

callable_terms : map (holds Callable) terms ≡ false ∷ false ∷ true ∷ true ∷ []
unfolding terms
callable_terms = refl

empty : Tree
empty = atom (codes "[]")

dot : Tree → Tree → Tree
dot t u = compound (codes ".") (more t (more u none))

-- a list is one whatever its elements are, and none where its end is another term
lists : map (holds ProperList) (empty ∷ dot (var 0) empty ∷ dot foo (dot foo empty) ∷ []) ≡ true ∷ true ∷ true ∷ []
unfolding elements_of empty dot foo
lists = refl

no_lists : map (holds ProperList) (var 0 ∷ foo ∷ f_of_foo ∷ dot foo (var 0) ∷ dot empty foo ∷ compound (codes ".") (more empty none) ∷ []) ≡ false ∷ false ∷ false ∷ false ∷ false ∷ false ∷ []
unfolding elements_of empty dot foo f_of_foo
no_lists = refl

-- ---- arithmetic

two : List ℕ → Tree → Tree → Tree
two f t u = compound f (more t (more u none))

-- 1 beside 1, 2 and -1
equal : map (compares Equal (pos 1)) (pos 1 ∷ pos 2 ∷ negsuc 0 ∷ []) ≡ true ∷ false ∷ false ∷ []
equal = refl

unequal : map (compares Unequal (pos 1)) (pos 1 ∷ pos 2 ∷ negsuc 0 ∷ []) ≡ false ∷ true ∷ true ∷ []
unequal = refl

less : map (compares Less (pos 1)) (pos 1 ∷ pos 2 ∷ negsuc 0 ∷ []) ≡ false ∷ true ∷ false ∷ []
less = refl

at_most : map (compares AtMost (pos 1)) (pos 1 ∷ pos 2 ∷ negsuc 0 ∷ []) ≡ true ∷ true ∷ false ∷ []
at_most = refl

greater : map (compares Greater (pos 1)) (pos 1 ∷ pos 2 ∷ negsuc 0 ∷ []) ≡ false ∷ false ∷ true ∷ []
greater = refl

at_least : map (compares AtLeast (pos 1)) (pos 1 ∷ pos 2 ∷ negsuc 0 ∷ []) ≡ true ∷ false ∷ true ∷ []
at_least = refl

module _ (s : Settings) where
  quotient : on_arithmetic Is (var 0 ∷ two (codes "//") (int (pos 7)) (int (negsuc 1)) ∷ []) s ≡ unifies (var 0) (int (negsuc 2)) s
  unfolding two eval binary_of
  quotient = refl

  modulo : on_arithmetic Is (foo ∷ two (codes "mod") (int (negsuc 6)) (int (pos 2)) ∷ []) s ≡ unifies foo (int (pos 1)) s
  unfolding two eval binary_of
  modulo = refl

  overflow : on_arithmetic Is (var 0 ∷ two (codes "+") (int (pos 9223372036854775807)) (int (pos 1)) ∷ []) s ≡ Raises (evaluation_error (codes "int_overflow"))
  unfolding two eval binary_of
  overflow = refl

  -- a functor that is not evaluable is told before a variable to its right
  no_functor : on_arithmetic Is (var 0 ∷ two (codes "+") foo (var 1) ∷ []) s ≡ Raises (type_error (codes "evaluable") (indicator_term (record { name = codes "foo"; arity = 0 })))
  unfolding two foo eval binary_of
  no_functor = refl

  comparison : on_arithmetic (Compare Less) (int (pos 1) ∷ two (codes "*") (int (pos 1)) (int (pos 2)) ∷ []) s ≡ decides true s
  unfolding two eval binary_of
  comparison = refl

  -- the left one comes first
  left_error : on_arithmetic (Compare Equal) (var 0 ∷ foo ∷ []) s ≡ Raises instantiation_error
  unfolding foo eval
  left_error = refl

  right_error : on_arithmetic (Compare Equal) (int (pos 0) ∷ two (codes "//") (int (pos 1)) (int (pos 0)) ∷ []) s ≡ Raises (evaluation_error (codes "zero_divisor"))
  unfolding two eval binary_of
  right_error = refl

-- ---- the order of terms

relations : List Relation
relations = Same ∷ Different ∷ Before ∷ NotAfter ∷ After ∷ NotBefore ∷ []

stand_less : map (λ r. stand r orderings.Less) relations ≡ false ∷ true ∷ true ∷ true ∷ false ∷ false ∷ []
unfolding relations
stand_less = refl

stand_equal : map (λ r. stand r orderings.Equal) relations ≡ true ∷ false ∷ false ∷ true ∷ false ∷ true ∷ []
unfolding relations
stand_equal = refl

stand_greater : map (λ r. stand r orderings.Greater) relations ≡ false ∷ true ∷ false ∷ false ∷ true ∷ true ∷ []
unfolding relations
stand_greater = refl

module _ (s : Settings) where
  older_before : on_order (Holds Before) (var 0 ∷ var 1 ∷ []) s ≡ decides true s
  unfolding order
  older_before = refl

  compared : compare (var 0 ∷ foo ∷ f_of_foo ∷ []) s ≡ unifies (var 0) (atom (codes "<")) s
  unfolding foo f_of_foo order
  compared = refl

  compared_bound : compare (atom (codes "=") ∷ int (pos 2) ∷ int (pos 1) ∷ []) s ≡ unifies (atom (codes "=")) (atom (codes ">")) s
  unfolding order
  compared_bound = refl

  no_order : compare (foo ∷ foo ∷ foo ∷ []) s ≡ Raises (domain_error (codes "order") foo)
  unfolding foo
  no_order = refl

  no_atom : compare (int (pos 0) ∷ foo ∷ foo ∷ []) s ≡ Raises (type_error (codes "atom") (int (pos 0)))
  no_atom = refl

  with_variable : on_order Ground (compound (codes "f") (more foo (more (var 0) none)) ∷ []) s ≡ decides false s
  unfolding foo is_ground
  with_variable = refl

  without_variable : on_order Ground (f_of_foo ∷ []) s ≡ decides true s
  unfolding foo f_of_foo is_ground
  without_variable = refl

-- ---- parts of terms

pair_of_atoms : Tree
unfolding foo
pair_of_atoms = compound (codes "g") (more (atom (codes "a")) (more foo none))

module _ (s : Settings) where
  first_argument : arg (int (pos 1)) pair_of_atoms (var 0) s ≡ unifies (var 0) (atom (codes "a")) s
  unfolding pair_of_atoms
  first_argument = refl

  last_argument : arg (int (pos 2)) pair_of_atoms (var 0) s ≡ unifies (var 0) foo s
  unfolding pair_of_atoms
  last_argument = refl

  no_argument : (arg (int (pos 0)) pair_of_atoms (var 0) s ≡ fails s) × (arg (int (pos 3)) pair_of_atoms (var 0) s ≡ fails s)
  unfolding pair_of_atoms
  no_argument = (refl, refl)

  -- variables first, then the number, then the term, then the number's domain
  argument_unbound : (arg (var 0) foo foo s ≡ Raises instantiation_error) × (arg foo (var 0) foo s ≡ Raises instantiation_error)
  unfolding foo
  argument_unbound = (refl, refl)

  argument_of_no_integer : arg foo foo foo s ≡ Raises (type_error (codes "integer") foo)
  unfolding foo
  argument_of_no_integer = refl

  argument_of_no_compound : arg (int (negsuc 0)) foo foo s ≡ Raises (type_error (codes "compound") foo)
  unfolding foo
  argument_of_no_compound = refl

  argument_below_zero : arg (int (negsuc 0)) f_of_foo foo s ≡ Raises (domain_error (codes "not_less_than_zero") (int (negsuc 0)))
  unfolding f_of_foo
  argument_below_zero = refl

-- ---- names with arguments

module _ (s : Settings) where
  functor_of_bound : functor f_of_foo (var 0) (var 1) s 2 ≡ unifies (both (var 0) (var 1)) (both (atom (codes "f")) (int (pos 1))) s
  unfolding f_of_foo
  functor_of_bound = refl

  -- the new variables are numbered from those in use on
  functor_made : functor (var 0) foo (int (pos 2)) s 5 ≡ Gives (record { left = var 0; right = compound (codes "foo") (more (var 5) (more (var 6) none)); new = 2 } ∷ []) [] s
  unfolding foo
  functor_made = refl

  functor_errors :
      (functor (var 0) (var 1) foo s 2 ≡ Raises instantiation_error)
      × (functor (var 0) f_of_foo (int (negsuc 0)) s 2 ≡ Raises (type_error (codes "atomic") f_of_foo))
      × (functor (var 0) foo (int (pos 1025)) s 2 ≡ Raises (representation_error (codes "max_arity")))
      × (functor (var 0) (int (pos 7)) (int (pos 1)) s 2 ≡ Raises (type_error (codes "callable") (int (pos 7))))
  unfolding foo f_of_foo
  functor_errors = (refl, refl, refl, refl)

  univ_of_bound : univ f_of_foo (var 0) s ≡ unifies (var 0) (dot (atom (codes "f")) (dot foo empty)) s
  unfolding f_of_foo foo dot empty
  univ_of_bound = refl

  univ_made : univ (var 0) (dot foo (dot (int (pos 1)) empty)) s ≡ unifies (var 0) (compound (codes "foo") (more (int (pos 1)) none)) s
  unfolding foo dot empty elements_of
  univ_made = refl

  -- a variable as the head or the end is met before the list, and the list before its head
  univ_errors :
      (univ (var 0) empty s ≡ Raises (domain_error (codes "non_empty_list") empty))
      × (univ (var 0) (dot foo (var 1)) s ≡ Raises instantiation_error)
      × (univ (var 0) (dot (var 1) foo) s ≡ Raises instantiation_error)
      × (univ (var 0) (dot (var 1) (dot foo empty)) s ≡ Raises instantiation_error)
      × (univ (var 0) (dot f_of_foo (dot foo (var 1))) s ≡ Raises instantiation_error)
      × (univ (var 0) (dot f_of_foo foo) s ≡ Raises (type_error (codes "list") (dot f_of_foo foo)))
      × (univ (var 0) foo s ≡ Raises (type_error (codes "list") foo))
      × (univ (var 0) (dot f_of_foo empty) s ≡ Raises (type_error (codes "atomic") f_of_foo))
      × (univ (var 0) (dot (int (pos 1)) (dot (var 1) empty)) s ≡ Raises (type_error (codes "callable") (int (pos 1))))
  unfolding foo f_of_foo dot empty elements_of
  univ_errors = (refl, refl, refl, refl, refl, refl, refl, refl, refl)

-- ---- texts

module _ (s : Settings) where
  spelled_atom : spell Codes foo (var 0) s ≡ unifies (var 0) (dot (int (pos 102)) (dot (int (pos 111)) (dot (int (pos 111)) empty))) s
  unfolding foo dot empty chars
  spelled_atom = refl

  atom_made : spell Characters (var 0) (dot (atom (codes "a")) (dot (atom (codes "b")) empty)) s ≡ unifies (var 0) (atom (codes "ab")) s
  unfolding dot empty elements_of chars encode_utf8
  atom_made = refl

  partial_text : spell Characters (var 0) (dot (atom (codes "a")) (var 1)) s ≡ Raises instantiation_error
  unfolding dot elements_of chars
  partial_text = refl

  -- a variable as the end or an element is met before the list, and the list before an element of another kind
  texts_amiss :
      (text_in Characters (dot (int (pos 1)) (var 1)) ≡ Err instantiation_error)
      × (text_in Codes (dot foo (var 1)) ≡ Err instantiation_error)
      × (text_in Characters (dot (var 1) (int (pos 1))) ≡ Err instantiation_error)
      × (text_in Characters (dot (int (pos 1)) (dot (var 1) empty)) ≡ Err instantiation_error)
      × (text_in Codes (dot foo foo) ≡ Err (type_error (codes "list") (dot foo foo)))
      × (text_in Codes foo ≡ Err (type_error (codes "list") foo))
      × (text_in Codes (dot foo (dot f_of_foo empty)) ≡ Err (type_error (codes "integer") foo))
      × (text_in Codes (dot (int (negsuc 0)) (dot foo empty)) ≡ Err (representation_error (codes "character_code")))
      × (text_in Characters (dot (atom (codes "a")) (dot foo empty)) ≡ Err (type_error (codes "character") foo))
  unfolding foo f_of_foo dot empty elements_of chars
  texts_amiss = (refl, refl, refl, refl, refl, refl, refl, refl, refl)

  -- where the integer is known, a list that is no text is unified with its own
  number_beside :
      (number_spelled Codes (var 0) (dot foo (var 1)) (text_in Codes (dot foo (var 1))) s ≡ Raises instantiation_error)
      × (number_spelled Codes (int (pos 7)) (dot foo (var 1)) (text_in Codes (dot foo (var 1))) s ≡ unifies (dot foo (var 1)) (spelled Codes (number_text (pos 7))) s)
      × (number_spelled Codes foo (var 1) (text_in Codes (var 1)) s ≡ Raises (type_error (codes "number") foo))
  unfolding foo dot empty elements_of chars digits
  number_beside = (refl, refl, refl)

  codes_of : (char_code (var 0) (int (pos 97)) s ≡ unifies (var 0) (atom (codes "a")) s) × (char_code (atom (codes "a")) (var 0) s ≡ unifies (var 0) (int (pos 97)) s)
  unfolding chars encode_utf8
  codes_of = (refl, refl)

  code_errors : (char_code (var 0) (var 1) s ≡ Raises instantiation_error) × (char_code (var 0) (int (pos 1114112)) s ≡ Raises (representation_error (codes "character_code")))
  code_errors = (refl, refl)

  number_read : number_spelled Codes (var 0) empty (text_in Codes (dot (int (pos 49)) (dot (int (pos 50)) empty))) s ≡ unifies (var 0) (int (pos 12)) s
  unfolding dot empty elements_of number_of gap item_of run_end value encode_utf8
  number_read = refl

  no_number : number_spelled Codes (var 0) empty (text_in Codes (dot (int (pos 49)) (dot (int (pos 32)) empty))) s ≡ Raises (syntax_error (codes "illegal_number"))
  unfolding dot empty elements_of number_of gap item_of run_end value encode_utf8
  no_number = refl

-- ---- lists in order

keyed : ℕ → Tree → Tree
keyed k v = compound (codes "-") (more (int (pos k)) (more v none))

module _ (s : Settings) where
  sorted_once : on_sorting Once (dot foo (dot (int (pos 1)) (dot foo empty)) ∷ var 0 ∷ []) s ≡ unifies (var 0) (dot (int (pos 1)) (dot foo empty)) s
  unfolding foo dot empty elements_of order added set_of
  sorted_once = refl

  sorted_keys : on_sorting Keys (dot (keyed 2 foo) (dot (keyed 1 foo) (dot (keyed 2 empty) empty)) ∷ var 0 ∷ []) s ≡ unifies (var 0) (dot (keyed 1 foo) (dot (keyed 2 foo) (dot (keyed 2 empty) empty))) s
  unfolding foo dot empty keyed elements_of order inserted in_order
  sorted_keys = refl

  key_errors :
      (on_sorting Keys (dot (var 1) (dot foo empty) ∷ var 0 ∷ []) s ≡ Raises instantiation_error)
      × (on_sorting Keys (dot foo (dot (var 1) empty) ∷ var 0 ∷ []) s ≡ Raises (type_error (codes "pair") foo))
      × (on_sorting Keys (dot foo (var 1) ∷ var 0 ∷ []) s ≡ Raises instantiation_error)
  unfolding foo dot empty elements_of
  key_errors = (refl, refl, refl)

-- ---- operators and flags

arrow : Tree
arrow = atom (codes "===>")

names : asked (int (pos 700)) (atom (codes "xfx")) (dot arrow (dot foo empty)) ≡ Ok (record { priority = 700; kind = Xfx; names = codes "===>" ∷ codes "foo" ∷ [] })
unfolding arrow foo dot empty elements_of
names = refl

asked_amiss :
    (asked (int (pos 700)) (var 0) arrow ≡ Err instantiation_error)
    × (asked foo (atom (codes "xfx")) (dot arrow (dot (var 0) empty)) ≡ Err instantiation_error)
    × (asked foo (int (pos 1)) arrow ≡ Err (type_error (codes "integer") foo))
    × (asked (int (pos 1201)) (atom (codes "xfx")) (dot (int (pos 1)) empty) ≡ Err (type_error (codes "atom") (int (pos 1))))
    × (asked (int (pos 1201)) foo arrow ≡ Err (domain_error (codes "operator_priority") (int (pos 1201))))
    × (asked (int (negsuc 0)) foo arrow ≡ Err (domain_error (codes "operator_priority") (int (negsuc 0))))
    × (asked (int (pos 1200)) foo arrow ≡ Err (domain_error (codes "operator_specifier") foo))
unfolding arrow foo dot empty elements_of
asked_amiss = (refl, refl, refl, refl, refl, refl, refl)

module _ (s : Settings) where
  flag_set : set_flag (atom (codes "unknown")) (atom (codes "fail")) s ≡ sets (record s { unknown = Fail })
  flag_set = refl

  flags_amiss :
      (set_flag (atom (codes "bounded")) foo s ≡ Raises (permission_error (codes "modify") (codes "flag") (atom (codes "bounded"))))
      × (set_flag foo (int (pos 1)) s ≡ Raises (domain_error (codes "prolog_flag") foo))
      × (set_flag (int (pos 1)) foo s ≡ Raises (type_error (codes "atom") (int (pos 1))))
      × (set_flag foo (var 0) s ≡ Raises instantiation_error)
  unfolding foo
  flags_amiss = (refl, refl, refl, refl)

-- ---- formats

pieces_worked : pieces false (codes "a~w~n~") ≡ Byte 97 ∷ Takes (Written Plain) ∷ Byte 10 ∷ Amiss ∷ []
pieces_worked = refl

module _ (s : Settings) where
  two_arguments : format (atom (codes "~a-~a") ∷ dot foo (dot empty empty) ∷ []) s ≡ writes (codes "foo-[]") s
  unfolding foo dot empty elements_of
  two_arguments = refl

  one_argument : format (atom (codes "<~a>") ∷ foo ∷ []) s ≡ writes (codes "<foo>") s
  unfolding foo elements_of
  one_argument = refl

  -- what is no directive is met first, wherever it stands, then the number of the arguments, and then their types from the left
  formats_amiss :
      (format (atom (codes "~a") ∷ []) s ≡ Raises (domain_error (codes "format_arguments") (atom (codes "[]"))))
      × (format (atom (codes "~a") ∷ dot foo (dot foo empty) ∷ []) s ≡ Raises (domain_error (codes "format_arguments") (dot foo (dot foo empty))))
      × (format (atom (codes "~z") ∷ empty ∷ []) s ≡ Raises (domain_error (codes "format_control") (atom (codes "~z"))))
      × (format (atom (codes "~a~z") ∷ dot (int (pos 1)) empty ∷ []) s ≡ Raises (domain_error (codes "format_control") (atom (codes "~a~z"))))
      × (format (atom (codes "~a~") ∷ empty ∷ []) s ≡ Raises (domain_error (codes "format_control") (atom (codes "~a~"))))
      × (format (atom (codes "~a ~w") ∷ dot (int (pos 1)) empty ∷ []) s ≡ Raises (domain_error (codes "format_arguments") (dot (int (pos 1)) empty)))
      × (format (atom (codes "~a") ∷ dot (int (pos 1)) (dot foo empty) ∷ []) s ≡ Raises (domain_error (codes "format_arguments") (dot (int (pos 1)) (dot foo empty))))
      × (format (atom (codes "~d~a") ∷ dot foo (dot (int (pos 1)) empty) ∷ []) s ≡ Raises (type_error (codes "integer") foo))
      × (format (atom (codes "~d") ∷ foo ∷ []) s ≡ Raises (type_error (codes "integer") foo))
      × (format (var 0 ∷ []) s ≡ Raises instantiation_error)
  unfolding foo dot empty elements_of
  formats_amiss = (refl, refl, refl, refl, refl, refl, refl, refl, refl, refl)

-- ---- parts of texts

module _ (b l r t : Tree) (s : Settings) where
  one : ℕ → ℕ → ℕ → List ℕ → Solution
  one i j k name = are (b ∷ l ∷ r ∷ t ∷ []) (int (pos i) ∷ int (pos j) ∷ int (pos k) ∷ atom name ∷ [])

  parts_of_two : parts (codes "ab") (b ∷ l ∷ r ∷ t ∷ []) ≡ one 0 0 2 [] ∷ one 0 1 1 (codes "a") ∷ one 0 2 0 (codes "ab") ∷ one 1 0 1 [] ∷ one 1 1 0 (codes "b") ∷ one 2 0 0 [] ∷ []
  unfolding one encode_utf8
  parts_of_two = refl

  parts_of_none : parts [] (b ∷ l ∷ r ∷ t ∷ []) ≡ one 0 0 0 [] ∷ []
  unfolding one
  parts_of_none = refl

  -- two bytes that are one character
  parts_of_wide : sub_atom (atom (195 ∷ 169 ∷ []) ∷ var 0 ∷ var 1 ∷ var 2 ∷ var 3 ∷ []) s ≡ Gives (parts (233 ∷ []) (var 0 ∷ var 1 ∷ var 2 ∷ var 3 ∷ [])) [] s
  unfolding chars
  parts_of_wide = refl

  splits_of_two : splits (codes "ab") (l ∷ r ∷ []) ≡ are (l ∷ r ∷ []) (atom [] ∷ atom (codes "ab") ∷ []) ∷ are (l ∷ r ∷ []) (atom (codes "a") ∷ atom (codes "b") ∷ []) ∷ are (l ∷ r ∷ []) (atom (codes "ab") ∷ atom [] ∷ []) ∷ []
  unfolding encode_utf8
  splits_of_two = refl

module _ (s : Settings) where
  joined : atom_concat (atom (codes "ab") ∷ atom (codes "c") ∷ var 0 ∷ []) s ≡ unifies (var 0) (atom (codes "abc")) s
  joined = refl

  -- an integer stands for its text
  joined_integer : atom_concat (atom (codes "ab") ∷ int (pos 1) ∷ var 0 ∷ []) s ≡ whole (atom_of (codes "ab" ++ number_text (pos 1))) (var 0) s
  joined_integer = refl

  divided_integer : atom_concat (int (pos 1) ∷ var 0 ∷ int (pos 12) ∷ []) s ≡ Gives (splits (chars (number_text (pos 12))) (atom (number_text (pos 1)) ∷ var 0 ∷ [])) [] s
  divided_integer = refl

  -- what is not known is looked for first, and then what is no text, from the left
  concat_errors :
      (atom_concat (f_of_foo ∷ var 0 ∷ var 1 ∷ []) s ≡ Raises instantiation_error)
      × (atom_concat (f_of_foo ∷ foo ∷ var 0 ∷ []) s ≡ Raises (type_error (codes "atomic") f_of_foo))
      × (atom_concat (var 0 ∷ foo ∷ f_of_foo ∷ []) s ≡ Raises (type_error (codes "atomic") f_of_foo))
  unfolding foo f_of_foo
  concat_errors = (refl, refl, refl)

  -- the text is looked at before the numbers, and each of these wholly
  part_errors :
      (sub_atom (var 0 ∷ foo ∷ foo ∷ foo ∷ int (pos 1) ∷ []) s ≡ Raises instantiation_error)
      × (sub_atom (foo ∷ foo ∷ var 0 ∷ var 1 ∷ int (pos 1) ∷ []) s ≡ Raises (type_error (codes "atom") (int (pos 1))))
      × (sub_atom (foo ∷ int (negsuc 0) ∷ foo ∷ var 0 ∷ var 1 ∷ []) s ≡ Raises (domain_error (codes "not_less_than_zero") (int (negsuc 0))))
  unfolding foo
  part_errors = (refl, refl, refl)

-- ---- the operators and the flags as they stand

minus : Entry
minus = record { name = codes "-"; as_prefix = Some (record { priority = 200; right = 200 }); as_infix = Some (record { priority = 500; left = 500; right = 499 }); as_postfix = None }

-- of a name the prefix operator comes first
operators_told : map operator_terms (current_ops (minus ∷ [])) ≡ (int (pos 200) ∷ atom (codes "fy") ∷ atom (codes "-") ∷ []) ∷ (int (pos 500) ∷ atom (codes "yfx") ∷ atom (codes "-") ∷ []) ∷ []
unfolding minus
operators_told = refl

module _ (s : Settings) where
  -- any operator of that name
  current_named : current_op (var 0) (var 1) (atom (codes "-")) (record s { operators = minus ∷ [] }) ≡ are_one_of (var 0 ∷ var 1 ∷ atom (codes "-") ∷ []) ((int (pos 200) ∷ atom (codes "fy") ∷ atom (codes "-") ∷ []) ∷ (int (pos 500) ∷ atom (codes "yfx") ∷ atom (codes "-") ∷ []) ∷ []) (record s { operators = minus ∷ [] })
  unfolding minus
  current_named = refl

  -- the priority is looked at first, and then the specifier
  current_errors :
      (current_op (int (pos 1201)) foo (int (pos 1)) s ≡ Raises (domain_error (codes "operator_priority") (int (pos 1201))))
      × (current_op foo (var 0) (var 1) s ≡ Raises (domain_error (codes "operator_priority") foo))
      × (current_op (var 0) foo (int (pos 1)) s ≡ Raises (domain_error (codes "operator_specifier") foo))
      × (current_op (int (pos 0)) (atom (codes "xfx")) (int (pos 1)) s ≡ Raises (type_error (codes "atom") (int (pos 1))))
  unfolding foo
  current_errors = (refl, refl, refl, refl)

  flag_errors :
      (current_flag foo (var 0) s ≡ Raises (domain_error (codes "prolog_flag") foo))
      × (current_flag (int (pos 1)) (var 0) s ≡ Raises (type_error (codes "atom") (int (pos 1))))
  unfolding foo
  flag_errors = (refl, refl)
