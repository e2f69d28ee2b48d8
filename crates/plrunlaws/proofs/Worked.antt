-- Worked runs: a transaction that is published, and one in which the run is ended.
use Rattle.std.proofs.Common.{◌≡◌, ℕ, zero, suc, ◌<◌, ◌≤◌, true, List, [], ◌∷◌, codes, refl, ap, arith}
use Rattle.plterm.specs.Tree.{Tree, atom, compound, none, more}
use Rattle.plclause.specs.Clause.{Clause}
use Rattle.plsubst.specs.Subst.{bind, occurs}
use Rattle.plsubst.specs.Unify.{places, differ, unify_in, unify}
use Rattle.plops.specs.declared.flag.Quotes.TheVariants.{Codes}
use Rattle.plevent.specs.Alive.{living, exists}
use Rattle.plevent.specs.Reading.{reading}
use Rattle.plevent.specs.Rows.{served}
use Rattle.plevent.specs.Search.{Seen, Got}
use Rattle.plevent.specs.declared.request.Reply.{Reply}
use Rattle.plevent.specs.declared.request.ThreadEnd.{ThreadEnd}
use Rattle.plevent.specs.declared.update.Update.{Update}
use Rattle.plevent.specs.declared.update.Update.TheVariants.{Last}
use Rattle.plevent.specs.declared.act.Act.{Act}
use Rattle.plevent.specs.declared.act.Entry.{Entry}
use Rattle.plhist.specs.declared.history.Run.{Run}
use Rattle.plhist.specs.declared.history.RunEnd.{RunEnd}
use Rattle.plhist.specs.Follows.{own, Taken, answer_at, takes, HasEnded}
use Rattle.plhist.specs.Legal.{opening}
use Rattle.plnames.specs.Names.{rows, kept}
use Rattle.plprogram.specs.declared.settings.Unknown.TheVariants as unknown
use Rattle.plprogram.specs.Program.{Program}
use Rattle.pltx.specs.Own.{any_open}
use Rattle.plsearch.specs.Types.{Halted}
use Rattle.plerror.specs.Errors.{pair}
use Rattle.plsearch.specs.Moves.{raised}
use Rattle.plsearch.specs.Rows.{row, select, meet}
use Rattle.plsearch.specs.Replies.{answered}
use Rattle.plsearch.specs.Handlers.{resume}
use Rattle.plsearch.specs.Engine.{choice, out, outs, moved, walk, visit_in, Visit}
use Rattle.plsearch.specs.Search.{main_start, start_from, start_of, search_of}
use Rattle.plsearch.specs.Machines.Machine.{turn}
use Rattle.plrunlaws.specs.Standing.{Followed, at_turn, is_open}
use Rattle.plrunlaws.specs.Transactions.{Lasts, published_by, StandsAlone, LastsToTheEnd, EndsInside}
use Rattle.plrunlaws.proofs.Machines.{final-stays}
use Rattle.plrunlaws.proofs.Transactions.{transactions-stand-alone}
use Rattle.plrunlaws.proofs.Unended.{nothing-of-it-stays}

-- all that it is computed with
unfoldable all : ℕ
unfolding rows kept bind occurs places differ unify_in unify living exists raised row select meet answered resume choice out outs moved walk visit_in Visit start_from start_of search_of takes answer_at served reading own turn
all = 0

abbrev name : List ℕ → Tree
name f = atom f

abbrev of : List ℕ → Tree → Tree
of f t = compound f (more t none)

-- q of an atom, as a clause, and its addition
abbrev fact : List ℕ → Clause
fact a = record { head = of (codes "q") (name a); body = name (codes "true"); variables = 0 }

abbrev adds : List ℕ → Tree
adds a = of (codes "assertz") (of (codes "q") (name a))

abbrev transaction : Tree → Tree → Tree
transaction a b = of (codes "transaction") (pair (codes ",") a b)

-- main :- g.
abbrev program : Tree → Program
program g = record {
  procedures = (record { name = codes "main"; arity = 0 }, record { head = name (codes "main"); body = g; variables = 0 } ∷ []) ∷ [];
  goals = name (codes "main") ∷ [];
  first = [];
  settings = record { operators = []; quotes = Codes; unknown = unknown.Error };
  clauses = 1;
  directives = 1;
}

-- main :- transaction((assertz(q(a)), assertz(q(b)))).
abbrev adds_both : Program
adds_both = program (transaction (adds (codes "a")) (adds (codes "b")))

abbrev both : List Update
both = Last (fact (codes "a")) ∷ Last (fact (codes "b")) ∷ []

abbrev by_main : Act → Entry
by_main a = record { worker = 1; thread = 1; act = a }

abbrev journal : List Entry
journal = opening [] ∷ by_main Act.Start ∷ by_main (Act.Batch both) ∷ by_main (Act.End ThreadEnd.True) ∷ []

-- the view and the batch are at 2, and the end is at 3
abbrev run : Run
run = record { thread = 1; places = 2 ∷ 2 ∷ 3 ∷ []; steps = 6; «end» = RunEnd.Ended ThreadEnd.True; output = [] }

abbrev before : Taken
before = record { answers = Seen 2 [] ∷ Got Reply.Published ∷ []; low = 3; made = (2, Act.Batch both) ∷ [] }

abbrev last : Taken
last = record { answers = Seen 2 [] ∷ Got Reply.Published ∷ Got Reply.Done ∷ []; low = 4; made = (2, Act.Batch both) ∷ (3, Act.End ThreadEnd.True) ∷ [] }

follows : HasEnded (search_of adds_both (main_start adds_both) 20) 20 journal run ThreadEnd.True
unfolding all
follows = record {
  asked = record {
    earlier = 2 ∷ 2 ∷ [];
    final = 3;
    split = refl;
    start = 1;
    before = before;
    items = refl;
    asks = refl;
    last = last;
    finished = refl;
    told = refl;
    entries = refl;
  };
  ends = refl;
}

unfoldable followed : Followed
followed = record { program = adds_both; starts = main_start adds_both; limit = 20; journal = journal; run = run; came_to = ThreadEnd.True; ended = follows }

-- it takes its view at the turn 3, and is at its end at the turn 7
lasts : Lasts followed 3 7
unfolding all followed follows
lasts = record { longer = omega arith; before = refl; between = between; behind = refl }
  where
    inside : (n : ℕ) → n ≤ 3 → is_open followed (suc (suc (suc (suc n)))) ≡ true
    inside zero le = refl
    inside (suc zero) le = refl
    inside (suc (suc zero)) le = refl
    inside (suc (suc (suc zero))) le = refl
    inside (suc (suc (suc (suc n)))) le = absurd (omega (arith, le))

    between : (i : ℕ) → 3 < i → i ≤ 7 → is_open followed i ≡ true
    between zero after within = absurd (omega (arith, after))
    between (suc zero) after within = absurd (omega (arith, after))
    between (suc (suc zero)) after within = absurd (omega (arith, after))
    between (suc (suc (suc zero))) after within = absurd (omega (arith, after))
    between (suc (suc (suc (suc n)))) after within = inside n (omega (arith, within))

publishes : published_by (at_turn followed 7) ≡ both
unfolding all followed follows
publishes = refl

alone : StandsAlone followed 3 7
alone = transactions-stand-alone followed 3 7 lasts

-- main :- transaction((assertz(q(a)), halt)).
abbrev halts : Program
halts = program (transaction (adds (codes "a")) (name (codes "halt")))

abbrev halted : List Entry
halted = opening [] ∷ by_main Act.Start ∷ by_main (Act.Halt 0) ∷ []

halting : HasEnded (search_of halts (main_start halts) 20) 20 halted (record { thread = 1; places = 2 ∷ 2 ∷ []; steps = 6; «end» = RunEnd.Ended (ThreadEnd.Halt 0); output = [] }) (ThreadEnd.Halt 0)
unfolding all
halting = record {
  asked = record {
    earlier = 2 ∷ [];
    final = 2;
    split = refl;
    start = 1;
    before = record { answers = Seen 2 [] ∷ []; low = 2; made = [] };
    items = refl;
    asks = refl;
    last = record { answers = Seen 2 [] ∷ Got Reply.Done ∷ []; low = 3; made = (2, Act.Halt 0) ∷ [] };
    finished = refl;
    told = refl;
    entries = refl;
  };
  ends = refl;
}

unfoldable cut_short : Followed
cut_short = record {
  program = halts;
  starts = main_start halts;
  limit = 20;
  journal = halted;
  run = record { thread = 1; places = 2 ∷ 2 ∷ []; steps = 6; «end» = RunEnd.Ended (ThreadEnd.Halt 0); output = [] };
  came_to = ThreadEnd.Halt 0;
  ended = halting;
}

-- it takes its view at the turn 3, and ends the run with the turn 7
never_ends : LastsToTheEnd cut_short 3
unfolding all cut_short halting
never_ends = record { before = refl; behind = behind }
  where
    behind : (i : ℕ) → 3 < i → is_open cut_short i ≡ true
    behind zero after = absurd (omega (arith, after))
    behind (suc zero) after = absurd (omega (arith, after))
    behind (suc (suc zero)) after = absurd (omega (arith, after))
    behind (suc (suc (suc zero))) after = absurd (omega (arith, after))
    behind (suc (suc (suc (suc zero)))) after = refl
    behind (suc (suc (suc (suc (suc zero))))) after = refl
    behind (suc (suc (suc (suc (suc (suc zero)))))) after = refl
    behind (suc (suc (suc (suc (suc (suc (suc zero))))))) after = refl
    behind (suc (suc (suc (suc (suc (suc (suc (suc n)))))))) after =
        ap (λ run. any_open run.local.own) (final-stays halts n (Halted 0) (at_turn cut_short 8).cases (at_turn cut_short 8).run tt)

nothing_stays : EndsInside cut_short 3
nothing_stays = nothing-of-it-stays cut_short 3 never_ends
