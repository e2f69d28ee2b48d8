-- Worked programs that read and change clauses.
use Rattle.std.proofs.Common.{◌≡◌, ℕ, List, [], ◌∷◌, codes, refl, pos, append-nil, ap}
use Rattle.std.specs.Fmt.{signed_decimal}
use Rattle.plterm.specs.Tree.{Tree, var, int, compound, none, more}
use Rattle.plterm.specs.declared.indicator.Indicator.{Indicator}
use Rattle.plevent.specs.Alive.{named}
use Rattle.plevent.specs.Search.{Ask, Answer, Seen, Got, Next, Wants, Finishes, Ending}
use Rattle.plevent.specs.declared.request.Reply.TheVariants.{Erased, Gone}
use Rattle.plevent.specs.declared.request.Request.TheVariants.{Publish, EraseOne}
use Rattle.plevent.specs.declared.request.ThreadEnd.TheVariants.{True, False, Exception}
use Rattle.plevent.specs.declared.update.Update.TheVariants.{First, Declare, Erase}
use Rattle.plerror.specs.Errors.{pair}
use Rattle.plsearch.proofs.Worked.{all, name, of, and, with_variables, main_search, search, q7, added}

-- a search whose first clause has two variables
abbrev search_2 : Tree → List Answer → Ending
search_2 g = main_search (with_variables 2 g) 1000 1000

abbrev clause : Tree → Tree → Tree
clause h b = compound (codes "clause") (more h (more b none))

abbrev slash : Tree → Tree → Tree
slash n a = pair (codes "/") n a

abbrev error_of : Tree → Tree → ℕ → Next
error_of e n a = Finishes (Exception (pair (codes "error") e (slash n (int (pos a)))))

abbrev permission : List ℕ → List ℕ → Tree → Tree
permission a k p = compound (codes "permission_error") (more (name a) (more (name k) (more p none)))

abbrev type : List ℕ → Tree → Tree
type k t = pair (codes "type_error") (name k) t

abbrev q1 : Indicator
q1 = record { name = codes "q"; arity = 1 }

-- main :- asserta(q(7)).
adds_first : (search (of (codes "asserta") q7) 1000 []).next ≡ Wants (Ask (Publish (First (record { head = q7; body = name (codes "true"); variables = 0 }) ∷ [])))
unfolding all
adds_first = refl

-- main :- assert(X).
adds_none : (search (of (codes "assert") (var 0)) 1000 []).next ≡ error_of (name (codes "instantiation_error")) (name (codes "assert")) 1
unfolding all
adds_none = refl

-- main :- clause(p(X), Y), write(X): no view is asked for a procedure of the text
tells_static : search_2 (and (clause (of (codes "p") (var 0)) (var 1)) (of (codes "write") (var 0))) [] ≡ record { next = Finishes True; used = 5; out = codes "a" }
unfolding all
tells_static = refl

-- main :- clause(q(X), Y), write(Y).
tells : search_2 (and (clause (of (codes "q") (var 0)) (var 1)) (of (codes "write") (var 1))) (Seen 3 added ∷ []) ≡ record { next = Finishes True; used = 5; out = codes "true" }
unfolding all
tells = refl

-- main :- clause(q(8), Y).
tells_none : search_2 (clause (of (codes "q") (int (pos 8))) (var 1)) (Seen 3 added ∷ []) ≡ record { next = Finishes False; used = 3; out = [] }
unfolding all
tells_none = refl

-- main :- clause(r, Y): no procedure is no error
tells_unknown : search_2 (clause (name (codes "r")) (var 1)) (Seen 3 added ∷ []) ≡ record { next = Finishes False; used = 3; out = [] }
unfolding all
tells_unknown = refl

-- main :- clause(write(X), Y).
is_private : (search_2 (clause (of (codes "write") (var 0)) (var 1)) []).next ≡ error_of (permission (codes "access") (codes "private_procedure") (slash (name (codes "write")) (int (pos 1)))) (name (codes "clause")) 2
unfolding all
is_private = refl

-- main :- clause(X, 3): the head comes first; main :- clause(q, 3).
head_first : (search_2 (clause (var 0) (int (pos 3))) []).next ≡ error_of (name (codes "instantiation_error")) (name (codes "clause")) 2
unfolding all
head_first = refl

bad_body : (search_2 (clause (name (codes "q")) (int (pos 3))) []).next ≡ error_of (type (codes "callable") (int (pos 3))) (name (codes "clause")) 2
unfolding all
bad_body = refl

-- main :- retract(q(X)), write(X).
abbrev retracts : Tree
retracts = and (of (codes "retract") (of (codes "q") (var 0))) (of (codes "write") (var 0))

erases : search retracts 1000 (Seen 3 added ∷ []) ≡ record { next = Wants (Ask (EraseOne (named 2 0))); used = 4; out = [] }
unfolding all
erases = refl

erased : search retracts 1000 (Seen 3 added ∷ Got Erased ∷ []) ≡ record { next = Finishes True; used = 5; out = signed_decimal (pos 7) }
unfolding all
erased = ap (λ o. record { next = Finishes True; used = 5; out = o }) (append-nil (signed_decimal (pos 7)))

-- a clause that is gone is passed over
gone : search retracts 1000 (Seen 3 added ∷ Got Gone ∷ []) ≡ record { next = Finishes False; used = 4; out = [] }
unfolding all
gone = refl

-- main :- retract((q(X) :- fail)): its body does not unify
no_body : search (of (codes "retract") (pair (codes ":-") (of (codes "q") (var 0)) (name (codes "fail")))) 1000 (Seen 3 added ∷ []) ≡ record { next = Finishes False; used = 3; out = [] }
unfolding all
no_body = refl

-- main :- retract(p(X)).
not_erased : (search (of (codes "retract") (of (codes "p") (var 0))) 1000 []).next ≡ error_of (permission (codes "modify") (codes "static_procedure") (slash (name (codes "p")) (int (pos 1)))) (name (codes "retract")) 1
unfolding all
not_erased = refl

-- main :- retractall(q(X)).
abbrev clears : Tree
clears = of (codes "retractall") (of (codes "q") (var 0))

erases_all : (search clears 1000 (Seen 3 added ∷ [])).next ≡ Wants (Ask (Publish (Erase (named 2 0) ∷ [])))
unfolding all
erases_all = refl

declares_one : (search clears 1000 (Seen 2 [] ∷ [])).next ≡ Wants (Ask (Publish (Declare q1 ∷ [])))
unfolding all
declares_one = refl

-- main :- retractall(q(8)): nothing is erased, and no batch is made
erases_nothing : search (of (codes "retractall") (of (codes "q") (int (pos 8)))) 1000 (Seen 3 added ∷ []) ≡ record { next = Finishes True; used = 3; out = [] }
unfolding all
erases_nothing = refl

-- main :- dynamic((q/1, r/0)); main :- dynamic([]).
declares : (search (of (codes "dynamic") (and (slash (name (codes "q")) (int (pos 1))) (slash (name (codes "r")) (int (pos 0))))) 1000 []).next
    ≡ Wants (Ask (Publish (Declare q1 ∷ Declare (record { name = codes "r"; arity = 0 }) ∷ [])))
unfolding all
declares = refl

declares_none : search (of (codes "dynamic") (name (codes "[]"))) 1000 [] ≡ record { next = Finishes True; used = 3; out = [] }
unfolding all
declares_none = refl

-- main :- dynamic([3, q/X]): what is unknown comes first; main :- dynamic([q/1, 3, p/1]); main :- dynamic(p/1).
unknown_first : (search (of (codes "dynamic") (compound (codes ".") (more (int (pos 3)) (more (compound (codes ".") (more (slash (name (codes "q")) (var 0)) (more (name (codes "[]")) none))) none)))) 1000 []).next
    ≡ error_of (name (codes "instantiation_error")) (name (codes "dynamic")) 1
unfolding all
unknown_first = refl

names_none : (search (of (codes "dynamic") (and (slash (name (codes "q")) (int (pos 1))) (and (int (pos 3)) (slash (name (codes "p")) (int (pos 1)))))) 1000 []).next
    ≡ error_of (type (codes "predicate_indicator") (int (pos 3))) (name (codes "dynamic")) 1
unfolding all
names_none = refl

is_static : (search (of (codes "dynamic") (slash (name (codes "p")) (int (pos 1)))) 1000 []).next
    ≡ error_of (permission (codes "modify") (codes "static_procedure") (slash (name (codes "p")) (int (pos 1)))) (name (codes "dynamic")) 1
unfolding all
is_static = refl
