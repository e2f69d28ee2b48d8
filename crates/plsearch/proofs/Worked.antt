-- Worked programs.
use Rattle.std.proofs.Common.{◌≡◌, ℕ, List, [], ◌∷◌, codes, refl, pos, negsuc, ap, append-nil}
use Rattle.plterm.specs.Tree.{Tree, var, int, atom, compound, none, more}
use Rattle.plsubst.specs.Subst.{bind, occurs}
use Rattle.plsubst.specs.Unify.{places, differ, unify_in, unify}
use Rattle.std.specs.Fmt.{signed_decimal}
use Rattle.plwrite.specs.Writing.{words, others}
use Rattle.plops.specs.Tables.{prefix_of, infix_of, postfix_of}
use Rattle.plevent.specs.Alive.{Stamped, named, living, exists}
use Rattle.plevent.specs.Search.{View, Ask, Answer, Seen, Got, Wants, Finishes, Ceases, Ending}
use Rattle.plevent.specs.declared.request.Reply.TheVariants.{Published, Done}
use Rattle.plevent.specs.declared.request.Request.TheVariants.{Publish, HaltRun}
use Rattle.plevent.specs.declared.request.ThreadEnd.TheVariants.{True, False, Exception, Budget, Halt}
use Rattle.plevent.specs.declared.update.Update.TheVariants.{Last}
use Rattle.plops.specs.declared.flag.Quotes.TheVariants.{Codes}
use Rattle.plprogram.specs.declared.settings.Unknown.TheVariants as unknown
use Rattle.plprogram.specs.Program.{Program}
use Rattle.plnames.specs.Names.{rows, kept}
use Rattle.plbuiltin.specs.Lists.{elements_of}
use Rattle.plerror.specs.Errors.{pair}
use Rattle.plsearch.specs.Moves.{raised}
use Rattle.plsearch.specs.Rows.{row, select, meet}
use Rattle.plsearch.specs.Replies.{answered}
use Rattle.plsearch.specs.Handlers.{resume}
use Rattle.plsearch.specs.Engine.{choice, out, outs, moved, walk, visit_in, Visit}
use Rattle.plsearch.specs.Search.{main_start, start_from, start_of, search_of}

-- all that a search computes with
unfoldable pub all : ℕ
unfolding rows kept elements_of bind occurs places differ unify_in unify living exists words others prefix_of infix_of postfix_of raised row select meet answered resume choice out outs moved walk visit_in Visit start_from start_of search_of
all = 0

abbrev pub name : List ℕ → Tree
name f = atom f

abbrev pub of : List ℕ → Tree → Tree
of f t = compound f (more t none)

abbrev pub and : Tree → Tree → Tree
and a b = pair (codes ",") a b

abbrev pub with_variables : ℕ → Tree → Program
with_variables n g = record {
  procedures =
      (record { name = codes "p"; arity = 1 }, record { head = of (codes "p") (name (codes "a")); body = name (codes "true"); variables = 0 } ∷ record { head = of (codes "p") (name (codes "b")); body = name (codes "true"); variables = 0 } ∷ [])
      ∷ (record { name = codes "main"; arity = 0 }, record { head = name (codes "main"); body = g; variables = n } ∷ [])
      ∷ [];
  goals = name (codes "main") ∷ [];
  first = [];
  settings = record { operators = []; quotes = Codes; unknown = unknown.Error };
  clauses = 3;
  directives = 1;
}

abbrev pub with_goal : Tree → Program
with_goal = with_variables 1

-- main's search
abbrev pub main_search : Program → ℕ → ℕ → List Answer → Ending
main_search P = search_of P (main_start P)

abbrev pub search : Tree → ℕ → List Answer → Ending
search g = main_search (with_goal g) 1000

-- main :- write(hello), nl.
abbrev hello : Tree
hello = and (of (codes "write") (name (codes "hello"))) (name (codes "nl"))

says_hello : search hello 1000 [] ≡ record { next = Finishes True; used = 5; out = codes "hello\n" }
unfolding all
says_hello = refl

-- the fifth goal, nl, is not selected
has_four_steps : search hello 4 [] ≡ record { next = Finishes Budget; used = 4; out = codes "hello" }
unfolding all
has_four_steps = refl

-- no run has more steps than the limit
keeps_the_limit : main_search (with_goal hello) 4 1000 [] ≡ record { next = Finishes Budget; used = 4; out = codes "hello" }
unfolding all
keeps_the_limit = refl

-- main :- p(X), write(X), p(b), nl.
abbrev calls : Tree
calls = and (of (codes "p") (var 0)) (and (of (codes "write") (var 0)) (and (of (codes "p") (name (codes "b"))) (name (codes "nl"))))

writes_a : search calls 1000 [] ≡ record { next = Finishes True; used = 9; out = codes "a\n" }
unfolding all
writes_a = refl

-- main :- p(X), write(X), p(c).
abbrev tries : Tree
tries = and (of (codes "p") (var 0)) (and (of (codes "write") (var 0)) (of (codes "p") (name (codes "c"))))

writes_both : search tries 1000 [] ≡ record { next = Finishes False; used = 10; out = codes "ab" }
unfolding all
writes_both = refl

-- main :- once(p(X)), write(X), p(c).
abbrev tries_once : Tree
tries_once = and (of (codes "once") (of (codes "p") (var 0))) (and (of (codes "write") (var 0)) (of (codes "p") (name (codes "c"))))

writes_one : search tries_once 1000 [] ≡ record { next = Finishes False; used = 8; out = codes "a" }
unfolding all
writes_one = refl

-- main :- assertz(q(7)), q(X), write(X).
abbrev pub q7 : Tree
q7 = of (codes "q") (int (pos 7))

abbrev adds : Tree
adds = and (of (codes "assertz") q7) (and (of (codes "q") (var 0)) (of (codes "write") (var 0)))

abbrev pub added : List Stamped
added = record { at = named 2 0; update = Last (record { head = q7; body = name (codes "true"); variables = 0 }) } ∷ []

publishes : search adds 1000 [] ≡ record { next = Wants (Ask (Publish (Last (record { head = q7; body = name (codes "true"); variables = 0 }) ∷ []))); used = 4; out = [] }
unfolding all
publishes = refl

looks : search adds 1000 (Got Published ∷ []) ≡ record { next = Wants View; used = 6; out = [] }
unfolding all
looks = refl

writes_7 : search adds 1000 (Got Published ∷ Seen 3 added ∷ []) ≡ record { next = Finishes True; used = 7; out = signed_decimal (pos 7) }
unfolding all
writes_7 = ap (λ o. record { next = Finishes True; used = 7; out = o }) (append-nil (signed_decimal (pos 7)))

-- an answer that does not fit what was asked
goes_no_further : (search adds 1000 (Seen 3 added ∷ [])).next ≡ Ceases
unfolding all
goes_no_further = refl

-- main :- q.
no_procedure : search (name (codes "q")) 1000 (Seen 2 [] ∷ []) ≡ record {
  next = Finishes (Exception (pair (codes "error") (pair (codes "existence_error") (name (codes "procedure")) (pair (codes "/") (name (codes "q")) (int (pos 0)))) (pair (codes "/") (name (codes "q")) (int (pos 0)))));
  used = 3;
  out = [];
}
unfolding all
no_procedure = refl

-- the same where the flag unknown is fail
fails_unknown : main_search (record (with_goal (name (codes "q"))) { settings = record { operators = []; quotes = Codes; unknown = unknown.Fail } }) 1000 1000 (Seen 2 [] ∷ [])
    ≡ record { next = Finishes False; used = 3; out = [] }
unfolding all
fails_unknown = refl

-- main :- catch(halt(300), X, true): no catcher sees it
abbrev halts : Tree
halts = compound (codes "catch") (more (of (codes "halt") (int (pos 300))) (more (var 0) (more (name (codes "true")) none)))

asks_to_halt : search halts 1000 [] ≡ record { next = Wants (Ask (HaltRun 44)); used = 4; out = [] }
unfolding all
asks_to_halt = refl

halted : search halts 1000 (Got Done ∷ []) ≡ record { next = Finishes (Halt 44); used = 4; out = [] }
unfolding all
halted = refl

-- a number below 0, and none: halt/0 ends the run with 0
halts_below : (search (of (codes "halt") (int (negsuc 0))) 1000 []).next ≡ Wants (Ask (HaltRun 255))
unfolding all
halts_below = refl

halts_0 : (search (name (codes "halt")) 1000 []).next ≡ Wants (Ask (HaltRun 0))
unfolding all
halts_0 = refl

-- main :- halt(X).
halt_unbound : (search (of (codes "halt") (var 0)) 1000 []).next ≡ Finishes (Exception (pair (codes "error") (name (codes "instantiation_error")) (pair (codes "/") (name (codes "halt")) (int (pos 1)))))
unfolding all
halt_unbound = refl

abbrev assertz_1 : Tree
assertz_1 = pair (codes "/") (name (codes "assertz")) (int (pos 1))

-- main :- assertz(main).
is_static : (search (of (codes "assertz") (name (codes "main"))) 1000 []).next ≡ Finishes (Exception (pair (codes "error")
    (compound (codes "permission_error") (more (name (codes "modify")) (more (name (codes "static_procedure")) (more (pair (codes "/") (name (codes "main")) (int (pos 0))) none))))
    assertz_1))
unfolding all
is_static = refl

-- main :- assertz(X).
no_head : (search (of (codes "assertz") (var 0)) 1000 []).next ≡ Finishes (Exception (pair (codes "error") (name (codes "instantiation_error")) assertz_1))
unfolding all
no_head = refl

-- main :- assertz((3 :- true)).
bad_head : (search (of (codes "assertz") (pair (codes ":-") (int (pos 3)) (name (codes "true")))) 1000 []).next
    ≡ Finishes (Exception (pair (codes "error") (pair (codes "type_error") (name (codes "callable")) (int (pos 3))) assertz_1))
unfolding all
bad_head = refl

-- main :- assertz((q :- 4, X)): the variable of the ball is numbered anew
bad_body : (search (and (name (codes "true")) (of (codes "assertz") (pair (codes ":-") (name (codes "q")) (and (int (pos 4)) (var 0))))) 1000 []).next
    ≡ Finishes (Exception (pair (codes "error") (pair (codes "type_error") (name (codes "callable")) (and (int (pos 4)) (var 0))) assertz_1))
unfolding all
bad_body = refl

-- main :- once(X).
unbound : (search (of (codes "once") (var 0)) 1000 []).next
    ≡ Finishes (Exception (pair (codes "error") (name (codes "instantiation_error")) (pair (codes "/") (name (codes "once")) (int (pos 1)))))
unfolding all
unbound = refl

-- main :- once((write(a), 1)): nothing is written
not_callable : search (of (codes "once") (and (of (codes "write") (name (codes "a"))) (int (pos 1)))) 1000 [] ≡ record {
  next = Finishes (Exception (pair (codes "error") (pair (codes "type_error") (name (codes "callable")) (and (of (codes "write") (name (codes "a"))) (int (pos 1)))) (pair (codes "/") (name (codes "once")) (int (pos 1)))));
  used = 3;
  out = [];
}
unfolding all
not_callable = refl

abbrev either : Tree → Tree → Tree
either a b = pair (codes ";") a b

abbrev if_then : Tree → Tree → Tree
if_then c a = pair (codes "->") c a

abbrev says : List ℕ → Tree
says f = of (codes "write") (name f)

abbrev cut : Tree
cut = name (codes "!")

abbrev fails : Tree
fails = name (codes "fail")

-- main :- p(X), write(X), call(!), fail ; write(e): the cut in call/1 is local
abbrev cuts_locally : Tree
cuts_locally = either (and (of (codes "p") (var 0)) (and (of (codes "write") (var 0)) (and (of (codes "call") cut) fails))) (says (codes "e"))

writes_abe : search cuts_locally 1000 [] ≡ record { next = Finishes True; used = 18; out = codes "abe" }
unfolding all
writes_abe = refl

-- main :- p(X), write(X), !, p(c): the cut gives up the other clauses of p
abbrev cuts : Tree
cuts = and (of (codes "p") (var 0)) (and (of (codes "write") (var 0)) (and cut (of (codes "p") (name (codes "c")))))

cuts_choices : search cuts 1000 [] ≡ record { next = Finishes False; used = 9; out = codes "a" }
unfolding all
cuts_choices = refl

-- main :- (!, fail -> true ; write(e)): a cut in a condition is local
abbrev cuts_condition : Tree
cuts_condition = either (if_then (and cut fails) (name (codes "true"))) (says (codes "e"))

goes_on_with_else : search cuts_condition 1000 [] ≡ record { next = Finishes True; used = 7; out = codes "e" }
unfolding all
goes_on_with_else = refl

-- main :- (p(X) -> write(X) ; write(n)), p(c): the condition is run once
abbrev tests_once : Tree
tests_once = and (either (if_then (of (codes "p") (var 0)) (of (codes "write") (var 0))) (says (codes "n"))) (of (codes "p") (name (codes "c")))

has_one_solution : search tests_once 1000 [] ≡ record { next = Finishes False; used = 7; out = codes "a" }
unfolding all
has_one_solution = refl

-- main :- fail -> true: the missing else is a goal fail
without_else : search (if_then fails (name (codes "true"))) 1000 [] ≡ record { next = Finishes False; used = 5; out = [] }
unfolding all
without_else = refl

-- main :- \+ p(c). main :- \+ p(a).
is_not_provable : search (of (codes "\\+") (of (codes "p") (name (codes "c")))) 1000 [] ≡ record { next = Finishes True; used = 4; out = [] }
unfolding all
is_not_provable = refl

is_provable : search (of (codes "\\+") (of (codes "p") (name (codes "a")))) 1000 [] ≡ record { next = Finishes False; used = 4; out = [] }
unfolding all
is_provable = refl

-- main :- call(p, X), write(X).
adds_an_argument : search (and (pair (codes "call") (name (codes "p")) (var 0)) (of (codes "write") (var 0))) 1000 [] ≡ record { next = Finishes True; used = 6; out = codes "a" }
unfolding all
adds_an_argument = refl

-- main :- call((fail, 1), a): the argument is added first, so `,`/3 is called
adds_first : (search (pair (codes "call") (and fails (int (pos 1))) (name (codes "a"))) 1000 []).next ≡ Wants View
unfolding all
adds_first = refl

-- main :- call((fail, 1)).
not_converted : (search (of (codes "call") (and fails (int (pos 1)))) 1000 []).next
    ≡ Finishes (Exception (pair (codes "error") (pair (codes "type_error") (name (codes "callable")) (and fails (int (pos 1)))) (pair (codes "/") (name (codes "call")) (int (pos 1)))))
unfolding all
not_converted = refl

-- main :- X = a, write(X).
unifies : search (and (pair (codes "=") (var 0) (name (codes "a"))) (of (codes "write") (var 0))) 1000 [] ≡ record { next = Finishes True; used = 5; out = codes "a" }
unfolding all
unifies = refl

-- main :- catch(\+ throw(x), x, true): the ball sees the catcher behind the marker of \+
abbrev catches : Tree → Tree → Tree → Tree
catches g c r = compound (codes "catch") (more g (more c (more r none)))

catches_in_not : search (catches (of (codes "\\+") (of (codes "throw") (name (codes "x")))) (name (codes "x")) (name (codes "true"))) 1000 [] ≡ record { next = Finishes True; used = 6; out = [] }
unfolding all
catches_in_not = refl

abbrev search_3 : Tree → ℕ → List Answer → Ending
search_3 g = main_search (with_variables 3 g) 1000

-- main :- catch(p(X), Y, true), throw(X): a catcher whose goal has exited is not active
exits : (search_3 (and (catches (of (codes "p") (var 0)) (var 1) (name (codes "true"))) (of (codes "throw") (var 0))) 1000 []).next ≡ Finishes (Exception (name (codes "a")))
unfolding all
exits = refl

-- main :- catch((X = b, throw(a)), Y, write(Y)), p(X): what the goal bound is not bound for its catcher
undone : search_3 (and (catches (and (pair (codes "=") (var 0) (name (codes "b"))) (of (codes "throw") (name (codes "a")))) (var 1) (of (codes "write") (var 1))) (and (of (codes "p") (var 0)) (of (codes "write") (var 0)))) 1000 [] ≡ record { next = Finishes True; used = 11; out = codes "aa" }
unfolding all
undone = refl

-- main :- catch(1, error(type_error(X, Y), Z), write(X)): so are the errors of built-ins
catches_errors : search_3 (catches (int (pos 1)) (pair (codes "error") (pair (codes "type_error") (var 0) (var 1)) (var 2)) (of (codes "write") (var 0))) 1000 [] ≡ record { next = Finishes True; used = 4; out = codes "callable" }
unfolding all
catches_errors = refl

-- main :- throw(X).
throws_no_variable : (search (of (codes "throw") (var 0)) 1000 []).next
    ≡ Finishes (Exception (pair (codes "error") (name (codes "instantiation_error")) (pair (codes "/") (name (codes "throw")) (int (pos 1)))))
unfolding all
throws_no_variable = refl

-- main :- findall(X, p(X), L), write(L).
abbrev finds : Tree → Tree → Tree → Tree
finds t g l = compound (codes "findall") (more t (more g (more l none)))

abbrev collects : Tree
collects = and (finds (var 0) (of (codes "p") (var 0)) (var 1)) (of (codes "write") (var 1))

writes_all : main_search (with_variables 2 collects) 1000 1000 [] ≡ record { next = Finishes True; used = 6; out = codes "[a,b]" }
unfolding all
writes_all = refl

-- main :- findall(Y, p(X), [a,b]): the copies' variables are apart
abbrev a_and_b : Tree
a_and_b = pair (codes ".") (name (codes "a")) (pair (codes ".") (name (codes "b")) (name (codes "[]")))

keeps_apart : main_search (with_variables 2 (finds (var 1) (of (codes "p") (var 0)) a_and_b)) 1000 1000 [] ≡ record { next = Finishes True; used = 4; out = [] }
unfolding all
keeps_apart = refl

-- main :- findall(L, (p(X), findall(X, p(Y), L)), M), write(M).
nests : main_search (with_variables 4 (and (finds (var 2) (and (of (codes "p") (var 0)) (finds (var 0) (of (codes "p") (var 1)) (var 2))) (var 3)) (of (codes "write") (var 3)))) 1000 1000 []
    ≡ record { next = Finishes True; used = 11; out = codes "[[a,a],[b,b]]" }
unfolding all
nests = refl

-- main :- catch(findall(X, (p(X), throw(y)), L), y, true), findall(X, p(X), L), write(L): what was kept before the ball is gone
drops : main_search (with_variables 2 (and (catches (finds (var 0) (and (of (codes "p") (var 0)) (of (codes "throw") (name (codes "y")))) (var 1)) (name (codes "y")) (name (codes "true"))) collects)) 1000 1000 []
    ≡ record { next = Finishes True; used = 13; out = codes "[a,b]" }
unfolding all
drops = refl

-- main :- findall(X, p(X), a).
wants_a_list : (main_search (with_variables 1 (finds (var 0) (of (codes "p") (var 0)) (name (codes "a")))) 1000 1000 []).next
    ≡ Finishes (Exception (pair (codes "error") (pair (codes "type_error") (name (codes "list")) (name (codes "a"))) (pair (codes "/") (name (codes "findall")) (int (pos 3)))))
unfolding all
wants_a_list = refl

-- The variable of a ball is no variable of those that catch it: with t :- throw(f(_)) and r(X) :- X = a,
-- main :- catch(t, E, true), r(_), E = f(b).
abbrev with_balls : Tree → Program
with_balls g = record {
  procedures =
      (record { name = codes "t"; arity = 0 }, record { head = name (codes "t"); body = of (codes "throw") (of (codes "f") (var 0)); variables = 1 } ∷ [])
      ∷ (record { name = codes "r"; arity = 1 }, record { head = of (codes "r") (var 0); body = pair (codes "=") (var 0) (name (codes "a")); variables = 1 } ∷ [])
      ∷ (record { name = codes "main"; arity = 0 }, record { head = name (codes "main"); body = g; variables = 2 } ∷ [])
      ∷ [];
  goals = name (codes "main") ∷ [];
  first = [];
  settings = record { operators = []; quotes = Codes; unknown = unknown.Error };
  clauses = 3;
  directives = 1;
}

numbers_anew : main_search (with_balls (and (catches (name (codes "t")) (var 0) (name (codes "true"))) (and (of (codes "r") (var 1)) (pair (codes "=") (var 0) (of (codes "f") (name (codes "b"))))))) 1000 1000 [] ≡ record { next = Finishes True; used = 11; out = [] }
unfolding all
numbers_anew = refl
