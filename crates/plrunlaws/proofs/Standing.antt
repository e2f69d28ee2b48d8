-- Where a run stands at each turn.
use Rattle.std.proofs.Common.{◌≡◌, ℕ, suc, ◌<◌, ◌≤◌, min, List, [], ◌∷◌, ◌++◌, length, Some, refl, sym, ap, ◌∙◌, subst, arith, append_assoc}
use Rattle.std.proofs.lemmas.List.{append_cancel_left, append_cancel_right}
use Rattle.std.proofs.lemmas.List.Elements.{All-cons}
use Rattle.plevent.specs.declared.request.ThreadEnd.{ThreadEnd}
use Rattle.plevent.specs.declared.act.Act.{Act}
use Rattle.plevent.specs.Search.{Item, Answer, Wants, Finishes, item_of}
use Rattle.plhist.specs.Follows.{Taken, item_at, takes, from_start, FollowsAs}
use Rattle.plprogram.specs.Program.{Program}
use Rattle.plsearch.specs.Types.{Result, Awaits, Supply}
use Rattle.plsearch.specs.Engine.{out, outs}
use Rattle.plsearch.specs.Search.{Start, next_of, ending_of, search_of}
use Rattle.plsearch.specs.Machines.Machine.{Back, Rest, turn}
use Rattle.pltransactions.specs.Laws.{turns, machine_of, wanted, left_of}
use Rattle.pltransactions.proofs.Transactions.{turns-rest, takes-what-it-asks, waits-for-what-it-asks}
use Rattle.plrunlaws.specs.Standing.{Followed, FollowsToItsEnd, asks, answers, at_turn, IsAnswered, start_of, started, StandsAt, StandsSomewhere, StandsOnce, AsksInTurn, StaysElse, AreBelow, EntriesInOrder}
use Rattle.plrunlaws.proofs.Items.{the-same, answer-adds, takes-first, takes-more, takes-nothing, takes-none, takes-both, takes-adds, takes-count, takes-split}
use Rattle.plrunlaws.proofs.Machines.{turns-next, with_answers, Short, short, final-rest}
use Rattle.plrunlaws.proofs.Lists.{heads}

pub follows-to-its-end : FollowsToItsEnd
follows-to-its-end P s limit h run e follows is =
    (record { program = P; starts = s; limit = limit; journal = h; run = run; came_to = e; ended = subst (FollowsAs (search_of P s limit) limit h run) is follows }, refl, refl, refl, refl, refl, refl)

-- the search of a run, with some answers, is what its machine comes to from each turn on
search-from : (P : Program) (s : Start) (limit n k : ℕ) (xs : List Answer) → search_of P s limit n xs ≡ ending_of (min n limit) (Rest P (turns P k (machine_of P s (min n limit) xs)))
unfolding search_of Rest outs out
search-from P s limit n k xs = ap (ending_of (min n limit)) (turns-rest P k (machine_of P s (min n limit) xs))

pub least-same : (n : ℕ) → min n n ≡ n
least-same n = omega arith

pub search-at : (P : Program) (s : Start) (limit k : ℕ) (xs : List Answer) → search_of P s limit limit xs ≡ ending_of limit (Rest P (turns P k (machine_of P s limit xs)))
search-at P s limit k xs = subst (λ n. search_of P s limit limit xs ≡ ending_of n (Rest P (turns P k (machine_of P s n xs)))) (least-same limit) (search-from P s limit limit k xs)

-- where its machine carries a result to the outside at some turn
pub ends-with : (f : Followed) (k : ℕ) (r : Result) (run : Supply) → Rest f.program (at_turn f k) ≡ (r, run) → next_of r ≡ Finishes f.came_to
ends-with f k r run is =
    ap (λ e. next_of e.0) (sym is) ∙ ap (λ e. e.next) (sym (search-at f.program f.starts f.limit k (answers f))) ∙ ap (λ e. e.next) f.ended.ends

-- all items of the run, the last one among them
pub whole : (f : Followed) → takes (asks f) f.journal f.run.thread f.run.places (from_start (start_of f)) ≡ Some f.ended.asked.last
whole f =
    let a = f.ended.asked in
    let one : item_at f.journal f.run.thread (item_of (asks f a.before.answers)) a.final a.before ≡ Some a.last =
    ap (λ o. item_at f.journal f.run.thread o a.final a.before) a.asks ∙ a.finished in
    subst (λ gs. takes (asks f) f.journal f.run.thread gs (from_start (start_of f)) ≡ Some a.last) (sym a.split)
    (takes-both (asks f) f.journal f.run.thread a.earlier (a.final ∷ []) (from_start (start_of f)) a.before a.last a.items
    (takes-more (asks f) f.journal f.run.thread a.final [] a.before a.last a.last one (takes-nothing (asks f) f.journal f.run.thread a.last)))

pub short-of : (f : Followed) (k : ℕ) → Short f.program k (machine_of f.program f.starts f.limit (answers f))
short-of f k = short f.program k (machine_of f.program f.starts f.limit (answers f))

pub stands-somewhere : StandsSomewhere
stands-somewhere f k =
    let used = short-of f k in
    let found = takes-split (asks f) f.journal f.run.thread f.run.places (from_start (start_of f)) f.ended.asked.last used.used (at_turn f k).run.answers (whole f) used.all in (
      found.so_far,
      record {
        earlier = found.earlier;
        later = found.later;
        split = found.split;
        so_far = found.items;
        rest = found.rest;
        taken = used.all ∙ ap (λ l. l ++ (at_turn f k).run.answers) (sym found.answers);
      },
    )

-- lists of one length before others
front-same : (xs ys xs' ys' : List ℕ) → xs ++ ys ≡ xs' ++ ys' → length xs ≡ length xs' → xs ≡ xs'
front-same [] ys [] ys' is same = refl
front-same [] ys (x ∷ xs) ys' is same = absurd (omega (arith, same))
front-same (x ∷ xs) ys [] ys' is same = absurd (omega (arith, same))
front-same (x ∷ xs) ys (y ∷ xs') ys' is same =
    let both = heads x y (xs ++ ys) (xs' ++ ys') is in
    ap (λ a. a ∷ xs) both.0 ∙ ap (λ l. y ∷ l) (front-same xs ys xs' ys' both.1 (omega (arith, same)))

pub stands-once : StandsOnce
stands-once f k s s' one other =
    let begin = from_start (start_of f) in
    let same : s.answers ≡ s'.answers = append_cancel_right s.answers s'.answers (at_turn f k).run.answers (sym one.taken ∙ other.taken) in
    let count = takes-count (asks f) f.journal f.run.thread one.earlier begin s one.so_far in
    let count' = takes-count (asks f) f.journal f.run.thread other.earlier begin s' other.so_far in
    let long : length s.answers ≡ length s'.answers = ap length same in
    let earlier : one.earlier ≡ other.earlier = front-same one.earlier one.later other.earlier other.later (sym one.split ∙ other.split) (omega (arith, count, count', long)) in
    the-same s s' (sym one.so_far ∙ ap (λ gs. takes (asks f) f.journal f.run.thread gs begin) earlier ∙ other.so_far)

-- what a turn asks is what the search asks after the answers so far
asks-there : (f : Followed) (k : ℕ) (s : Taken) (q : Item) → StandsAt f k s → wanted (at_turn f k) ≡ Some q → asks f s.answers ≡ Wants q
asks-there f k s q stood is =
    let P = f.program in
    let used = short-of f k in
    let same : used.used ≡ s.answers = append_cancel_right used.used s.answers (at_turn f k).run.answers (sym used.all ∙ stood.taken) in
    let there : turns P k (machine_of P f.starts f.limit s.answers) ≡ with_answers [] (at_turn f k) = ap (λ xs. turns P k (machine_of P f.starts f.limit xs)) (sym same) ∙ used.comes in
    let waits : turns P (suc k) (machine_of P f.starts f.limit s.answers) ≡ record { mode = Back (Awaits q); cases = (at_turn f k).cases; run = record (at_turn f k).run { answers = [] } } =
    turns-next P k (machine_of P f.starts f.limit s.answers) ∙ ap (turn P) there ∙ waits-for-what-it-asks P (with_answers [] (at_turn f k)) q is refl in
    ap (λ e. e.next) (search-at P f.starts f.limit (suc k) s.answers)
    ∙ ap (λ m. next_of (Rest P m).0) waits
    ∙ ap (λ e. next_of e.0) (final-rest P (Awaits q) (at_turn f k).cases (record (at_turn f k).run { answers = [] }) tt)

pub wants-ends : {A : Type 0} (q : Item) (e : ThreadEnd) → Wants q ≡ Finishes e → A
wants-ends q e is = absurd (never is)
  where
    never : Wants q ≡ Finishes e → ⊥
    never is = cc

next-answers : (f : Followed) (k : ℕ) → (at_turn f (suc k)).run.answers ≡ left_of (wanted (at_turn f k)) (at_turn f k).run.answers
next-answers f k = ap (λ m. m.run.answers) (turns-next f.program k (machine_of f.program f.starts f.limit (answers f))) ∙ takes-what-it-asks f.program (at_turn f k)

-- what a turn asks, with the answer that it takes
pub record AskedAt (f : Followed) (k : ℕ) (s : Taken) (q : Item) : Type 0 where
  pub place : ℕ
  pub after : Taken
  pub answered : IsAnswered f q place s after
  pub stands : StandsAt f (suc k) after
  pub answer : Answer
  pub others : List Answer
  pub left : (at_turn f k).run.answers ≡ answer ∷ others
  pub takes_it : after.answers ≡ s.answers ++ answer ∷ []

pub asked-at : (f : Followed) (k : ℕ) (s : Taken) (q : Item) → StandsAt f k s → wanted (at_turn f k) ≡ Some q → AskedAt f k s q
asked-at f k s q stood is = go stood.later refl stood.rest
  where
    next : asks f s.answers ≡ Wants q
    next = asks-there f k s q stood is

    go : (later : List ℕ) → stood.later ≡ later → takes (asks f) f.journal f.run.thread later s ≡ Some f.ended.asked.last → AskedAt f k s q
    go [] at rest =
        let last = takes-none (asks f) f.journal f.run.thread s f.ended.asked.last rest in
        wants-ends q f.came_to (sym next ∙ ap (λ s. asks f s.answers) last ∙ ap (λ e. e.next) f.ended.ends)
    go (g ∷ gs) at rest =
        let one = takes-first (asks f) f.journal f.run.thread g gs s f.ended.asked.last rest in
        let after = one.0 in
        let answered : IsAnswered f q g s after = ap (λ x. item_at f.journal f.run.thread (item_of x) g s) (sym next) ∙ one.1 in
        let adds = answer-adds f.journal f.run.thread q g s after answered in
        let takes_it : after.answers ≡ s.answers ++ adds.answer ∷ [] = adds.adds.answered ∙ ap (λ l. s.answers ++ l) adds.only in
        let more = takes-adds (asks f) f.journal f.run.thread gs after f.ended.asked.last one.2 in
        let left : (at_turn f k).run.answers ≡ adds.answer ∷ more.answers =
        append_cancel_left s.answers (at_turn f k).run.answers (adds.answer ∷ more.answers)
        (sym stood.taken ∙ more.answered ∙ ap (λ l. l ++ more.answers) takes_it ∙ append_assoc s.answers (adds.answer ∷ []) more.answers) in
        let left_then : (at_turn f (suc k)).run.answers ≡ more.answers = next-answers f k ∙ ap (λ o. left_of o (at_turn f k).run.answers) is ∙ ap (left_of (Some q)) left in record {
          place = g;
          after = after;
          answered = answered;
          stands = record {
            earlier = stood.earlier ++ g ∷ [];
            later = gs;
            split = stood.split ∙ ap (λ l. stood.earlier ++ l) at ∙ sym (append_assoc stood.earlier (g ∷ []) gs);
            so_far = takes-both (asks f) f.journal f.run.thread stood.earlier (g ∷ []) (from_start (start_of f)) s after stood.so_far
                (takes-more (asks f) f.journal f.run.thread g [] s after after one.1 (takes-nothing (asks f) f.journal f.run.thread after));
            rest = one.2;
            taken = more.answered ∙ ap (λ l. after.answers ++ l) (sym left_then);
          };
          answer = adds.answer;
          others = more.answers;
          left = left;
          takes_it = takes_it;
        }

pub asks-in-turn : AsksInTurn
asks-in-turn f k s q stood is = let one = asked-at f k s q stood is in (one.place, one.after, one.answered, one.stands)

pub stays-else : StaysElse
stays-else f k s stood is = record {
  earlier = stood.earlier;
  later = stood.later;
  split = stood.split;
  so_far = stood.so_far;
  rest = stood.rest;
  taken = stood.taken ∙ ap (λ l. s.answers ++ l) (sym (next-answers f k ∙ ap (λ o. left_of o (at_turn f k).run.answers) is));
}

-- the entries so far, below the least place of the next item
pub made-below : (f : Followed) (gs : List ℕ) (s : Taken) → takes (asks f) f.journal f.run.thread gs (from_start (start_of f)) ≡ Some s → AreBelow s.low (started f s.made)
made-below f gs s items =
    let adds = takes-adds (asks f) f.journal f.run.thread gs (from_start (start_of f)) s items in
    let rises : suc (start_of f) ≤ s.low = adds.rises in
    All-cons (λ x. x.0 < s.low) (start_of f, Act.Start) s.made (omega (arith, rises)) (subst (AreBelow s.low) (sym adds.made) adds.below)

pub started-below : (f : Followed) (k : ℕ) (s : Taken) → StandsAt f k s → AreBelow s.low (started f s.made)
started-below f k s stood = made-below f stood.earlier s stood.so_far

pub entries-in-order : EntriesInOrder
entries-in-order f k s stood =
    let more = takes-adds (asks f) f.journal f.run.thread stood.later s f.ended.asked.last stood.rest in record {
      later = more.new;
      entries = f.ended.asked.entries ∙ ap (λ l. (start_of f, Act.Start) ∷ l) more.made;
      below = started-below f k s stood;
      from = more.from;
    }

pub ruleset laws = (follows-to-its-end, stands-somewhere, stands-once, asks-in-turn, stays-else, entries-in-order)
