-- Worked programs of transactions and snapshots.
use Rattle.std.proofs.Common.{◌≡◌, ℕ, List, [], ◌∷◌, codes, refl, pos}
use Rattle.plterm.specs.Tree.{Tree, var, int, compound, none, more}
use Rattle.plclause.specs.Clause.{Clause}
use Rattle.plevent.specs.Alive.{named}
use Rattle.plevent.specs.Search.{View, Ask, Answer, Seen, Got, Next, Wants, Finishes, Ending}
use Rattle.plevent.specs.declared.request.Reply.TheVariants.{Published}
use Rattle.plevent.specs.declared.request.Request.TheVariants.{Publish, HaltRun}
use Rattle.plevent.specs.declared.request.ThreadEnd.TheVariants.{True, False, Exception}
use Rattle.plevent.specs.declared.update.Update.{Update}
use Rattle.plevent.specs.declared.update.Update.TheVariants.{Last, Erase, EraseOwn}
use Rattle.plerror.specs.Errors.{pair}
use Rattle.plsearch.proofs.Worked.{all, name, of, and, with_variables, main_search}

-- a search whose first clause has two variables
abbrev search : Tree → List Answer → Ending
search g = main_search (with_variables 2 g) 1000 1000

abbrev transaction : Tree → Tree
transaction g = of (codes "transaction") g

abbrev snapshot : Tree → Tree
snapshot g = of (codes "snapshot") g

abbrev catching : Tree → List ℕ → Tree
catching g b = compound (codes "catch") (more g (more (name b) (more (name (codes "true")) none)))

-- q of an atom, and as a clause
abbrev q : List ℕ → Tree
q f = of (codes "q") (name f)

abbrev qs : ℕ → Tree
qs x = of (codes "q") (var x)

abbrev fact : Tree → Clause
fact t = record { head = t; body = name (codes "true"); variables = 0 }

abbrev adds : Tree → Tree
adds t = of (codes "assertz") t

abbrev adds_first : Tree → Tree
adds_first t = of (codes "asserta") t

abbrev retracts : Tree → Tree
retracts t = of (codes "retract") t

abbrev writes : ℕ → Tree
writes x = of (codes "write") (var x)

abbrev throws : List ℕ → Tree
throws b = of (codes "throw") (name b)

abbrev fails : Tree
fails = name (codes "fail")

-- the database has no clause; it has q(m); it has q(m) and q(n)
abbrev empty : Answer
empty = Seen 5 []

abbrev one : Answer
one = Seen 5 (record { at = named 2 0; update = Last (fact (q (codes "m"))) } ∷ [])

abbrev two : Answer
two = Seen 5 (record { at = named 2 0; update = Last (fact (q (codes "m"))) } ∷ record { at = named 2 1; update = Last (fact (q (codes "n"))) } ∷ [])

abbrev publishing : List Update → Next
publishing us = Wants (Ask (Publish us))

-- main :- transaction((assertz(q(a)), assertz(q(b)))): one view, and one batch
abbrev adds_both : Tree
adds_both = transaction (and (adds (q (codes "a"))) (adds (q (codes "b"))))

asks_a_view : search adds_both [] ≡ record { next = Wants View; used = 3; out = [] }
unfolding all
asks_a_view = refl

publishes_both : search adds_both (empty ∷ []) ≡ record { next = publishing (Last (fact (q (codes "a"))) ∷ Last (fact (q (codes "b"))) ∷ []); used = 6; out = [] }
unfolding all
publishes_both = refl

goes_on : search adds_both (empty ∷ Got Published ∷ []) ≡ record { next = Finishes True; used = 6; out = [] }
unfolding all
goes_on = refl

-- main :- transaction(true): nothing is published
publishes_nothing : search (transaction (name (codes "true"))) (empty ∷ []) ≡ record { next = Finishes True; used = 4; out = [] }
unfolding all
publishes_nothing = refl

-- main :- transaction((assertz(q(a)), fail)).
fails_alone : search (transaction (and (adds (q (codes "a"))) fails)) (empty ∷ []) ≡ record { next = Finishes False; used = 6; out = [] }
unfolding all
fails_alone = refl

-- main :- transaction((assertz(q(a)), throw(b))).
throws_on : search (transaction (and (adds (q (codes "a"))) (throws (codes "b")))) (empty ∷ []) ≡ record { next = Finishes (Exception (name (codes "b"))); used = 6; out = [] }
unfolding all
throws_on = refl

-- main :- catch(transaction((assertz(a), throw(b))), b, true), a: a/0 does not exist, in another view
abbrev undoes : Tree
undoes = and (catching (transaction (and (adds (name (codes "a"))) (throws (codes "b")))) (codes "b")) (name (codes "a"))

asks_again : search undoes (empty ∷ []) ≡ record { next = Wants View; used = 10; out = [] }
unfolding all
asks_again = refl

-- main :- transaction((catch(transaction((assertz(a), throw(b))), b, true), a)): nor does it inside of a transaction
is_undone : search (transaction undoes) (empty ∷ []) ≡ record {
  next = Finishes (Exception (pair (codes "error") (pair (codes "existence_error") (name (codes "procedure")) (pair (codes "/") (name (codes "a")) (int (pos 0)))) (pair (codes "/") (name (codes "a")) (int (pos 0)))));
  used = 11;
  out = [];
}
unfolding all
is_undone = refl

-- main :- snapshot((assertz(q(a)), q(X), write(X))): what is added is seen, and not published
sees_its_own : search (snapshot (and (adds (q (codes "a"))) (and (qs 0) (writes 0)))) (empty ∷ []) ≡ record { next = Finishes True; used = 8; out = codes "a" }
unfolding all
sees_its_own = refl

-- main :- transaction((assertz(q(a)), snapshot(assertz(q(b))))).
drops_a_snapshot : search (transaction (and (adds (q (codes "a"))) (snapshot (adds (q (codes "b")))))) (empty ∷ []) ≡ record { next = publishing (Last (fact (q (codes "a"))) ∷ []); used = 7; out = [] }
unfolding all
drops_a_snapshot = refl

-- main :- transaction((assertz(q(a)), transaction(assertz(q(b))))): one batch, at the outer end
publishes_once : search (transaction (and (adds (q (codes "a"))) (transaction (adds (q (codes "b")))))) (empty ∷ [])
    ≡ record { next = publishing (Last (fact (q (codes "a"))) ∷ Last (fact (q (codes "b"))) ∷ []); used = 7; out = [] }
unfolding all
publishes_once = refl

-- main :- transaction(1): the view is asked for first
not_callable : search (transaction (int (pos 1))) (empty ∷ []) ≡ record {
  next = Finishes (Exception (pair (codes "error") (pair (codes "type_error") (name (codes "callable")) (int (pos 1))) (pair (codes "/") (name (codes "transaction")) (int (pos 1)))));
  used = 3;
  out = [];
}
unfolding all
not_callable = refl

-- main :- transaction((retract(q(X)), assertz(q(a)), retract(q(a)))): clauses of the database and its own
erases_its_own : search (transaction (and (retracts (qs 0)) (and (adds (q (codes "a"))) (retracts (q (codes "a")))))) (one ∷ [])
    ≡ record { next = publishing (Erase (named 2 0) ∷ Last (fact (q (codes "a"))) ∷ EraseOwn 1 ∷ []); used = 8; out = [] }
unfolding all
erases_its_own = refl

-- main :- transaction((retract(q(X)), write(X), retract(q(n)), fail)): what was erased since the call began is passed over
passes_over : search (transaction (and (retracts (qs 0)) (and (writes 0) (and (retracts (q (codes "n"))) fails)))) (two ∷ []) ≡ record { next = Finishes False; used = 10; out = codes "m" }
unfolding all
passes_over = refl

-- main :- transaction((p(X), write(X), !)), fail ; write(e): the cut is local, and there is no second solution
abbrev or_else : Tree → Tree
or_else g = pair (codes ";") (and g fails) (of (codes "write") (name (codes "e")))

cuts_locally : search (or_else (transaction (and (of (codes "p") (var 0)) (and (writes 0) (name (codes "!")))))) (empty ∷ []) ≡ record { next = Finishes True; used = 12; out = codes "ae" }
unfolding all
cuts_locally = refl

-- main :- transaction((p(X), write(X))), fail ; write(e).
is_once : search (or_else (transaction (and (of (codes "p") (var 0)) (writes 0)))) (empty ∷ []) ≡ record { next = Finishes True; used = 10; out = codes "ae" }
unfolding all
is_once = refl

-- main :- transaction((asserta(q(b)), asserta(q(a)), assertz(q(z)), q(X), write(X), fail)).
keeps_order : search (transaction (and (adds_first (q (codes "b"))) (and (adds_first (q (codes "a"))) (and (adds (q (codes "z"))) (and (qs 0) (and (writes 0) fails)))))) (one ∷ [])
    ≡ record { next = Finishes False; used = 23; out = codes "abmz" }
unfolding all
keeps_order = refl

-- main :- transaction((assertz(q(a)), q(X), write(X), assertz(q(b)), fail)): a call goes through the clauses at its start
keeps_its_view : search (transaction (and (adds (q (codes "a"))) (and (qs 0) (and (writes 0) (and (adds (q (codes "b"))) fails))))) (empty ∷ []) ≡ record { next = Finishes False; used = 12; out = codes "a" }
unfolding all
keeps_its_view = refl

-- main :- transaction((assertz(q(a)), halt)): nothing is published
halts : search (transaction (and (adds (q (codes "a"))) (name (codes "halt")))) (empty ∷ []) ≡ record { next = Wants (Ask (HaltRun 0)); used = 6; out = [] }
unfolding all
halts = refl
