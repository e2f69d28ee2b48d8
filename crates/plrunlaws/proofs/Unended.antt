-- A run that ends inside of a transaction or a snapshot.
use Rattle.std.proofs.Common.{◌≡◌, ℕ, zero, suc, ◌+◌, ◌<◌, Bool, true, false, All, List, [], ◌∷◌, ◌++◌, take, Option, Some, None, refl, sym, ap, ◌∙◌, subst, arith, append_assoc, append-nil, ◌-◌, ◌≤◌, ◌⊎◌, inl, inr, eq-or-lt_of_le}
use Rattle.std.proofs.lemmas.Bool.{cases_lt}
use Rattle.std.proofs.lemmas.List.{append_cancel_left, append_cancel_right}
use Rattle.std.proofs.lemmas.List.Elements.{All-nil, All-cons, All-append}
use Rattle.plevent.specs.declared.request.ThreadEnd.{ThreadEnd}
use Rattle.plevent.specs.declared.request.Request.{Request}
use Rattle.plevent.specs.declared.request.Request.TheVariants.{Finish}
use Rattle.plevent.specs.declared.request.Reply.{Reply}
use Rattle.plevent.specs.declared.act.Act.{Act}
use Rattle.plevent.specs.declared.act.Entry.{Entry}
use Rattle.plevent.specs.Reading.{Reading, reading}
use Rattle.plevent.specs.Rows.{finish_row, row, served}
use Rattle.plevent.specs.Search.{View, Ask, Answer, Next, Finishes, item_of_end, item_of, Seen, Got}
use Rattle.plhist.specs.Follows.{Taken, is_not_yet, noted, item_at, takes, from_start, last_of, own}
use Rattle.pltx.specs.Own.{any_open}
use Rattle.plsearch.specs.Types.{Result, Stop, Fail, CutTo, Throw, Halted, Spent, Awaits, Stopped, Unfit, Supply}
use Rattle.plsearch.specs.Engine.{outs}
use Rattle.plsearch.specs.Search.{next_of}
use Rattle.plsearch.specs.Machines.Machine.{Back, Rest, turn}
use Rattle.plsearch.proofs.Ends.{ends_ignore}
use Rattle.pltransactions.specs.Laws.{turns, machine_of, wanted, IsDone}
use Rattle.pltransactions.proofs.Transactions.{search-by-turns, nothing-left-open}
use Rattle.pltransactions.proofs.Opening.{opens-with-view}
use Rattle.plrunlaws.specs.Standing.{Followed, asks, answers, at_turn, is_open, started, StandsAt, act_of, start_of, AreBelow, AreFrom}
use Rattle.plrunlaws.specs.Transactions.{IsNoBatch, NoBatch, IsCutShort, LastsToTheEnd, NothingOfItStays, Lasts, EndsOrLasts}
use Rattle.plrunlaws.proofs.Items.{none-some, the-same, below-more, answer-is, item-adds, takes-first, takes-none, takes-behind, takes-adds}
use Rattle.plrunlaws.proofs.Machines.{turns-both, with_answers}
use Rattle.plrunlaws.proofs.Standing.{wants-ends, least-same, search-at, ends-with, short-of, asked-at, stands-somewhere, started-below, entries-in-order}
use Rattle.plrunlaws.proofs.Inside.{next-turn, inside-between}
use Rattle.plrunlaws.proofs.Transactions.{viewed, ceases-ends}
use Rattle.plrunlaws.proofs.Served.{served-as}
use Rattle.plrunlaws.proofs.Ends.{ends-with-its-end}
use Rattle.plevent.specs.Alive.{Stamped}
use Rattle.plrunlaws.proofs.Lists.{part-last, last-same, all-more, all-front, all-at}

-- this act, or none
abbrev pub IsThat : Act → Option (ℕ × Act) → Type 0
IsThat a None = Unit {0}
IsThat a (Some x) = x.1 ≡ a

pub served-ends : (a : Act) (q : Request) (t : ℕ) (r : Reading) → IsThat a (row q t r).1 → IsThat a (served q t r).1
served-ends a q t r h = served-as q t r (λ x. IsThat a x.1) tt tt (λ may goes. h)

finish-ends : (e : ThreadEnd) (t : ℕ) → IsThat (act_of e) (finish_row e t).1
finish-ends ThreadEnd.True t = refl
finish-ends ThreadEnd.False t = refl
finish-ends (ThreadEnd.Exception b) t = refl
finish-ends ThreadEnd.Budget t = refl
finish-ends (ThreadEnd.Halt n) t = tt

-- items that make such entries alone
pub record AddsEnds (a : Act) (s s' : Taken) : Type 0 where
  pub new : List (ℕ × Act)
  pub made : s'.made ≡ s.made ++ new
  pub ends : All (λ x. x.1 ≡ a) new

adds-none : (a : Act) (s : Taken) → AddsEnds a s s
adds-none a s = record { new = []; made = sym (append-nil s.made); ends = All-nil (λ x. x.1 ≡ a) }

adds-both : (a : Act) (s m s' : Taken) → AddsEnds a s m → AddsEnds a m s' → AddsEnds a s s'
adds-both a s m s' one more = record {
  new = one.new ++ more.new;
  made = more.made ∙ ap (λ l. l ++ more.new) one.made ∙ append_assoc s.made one.new more.new;
  ends = All-append (λ x. x.1 ≡ a) one.new more.new one.ends more.ends;
}

noted-ends : (a : Act) (b : Bool) (g : ℕ) (s s' : Taken) (q : Reply) (o : Option (ℕ × Act)) → IsThat a o → noted b g s q o ≡ Some s' → AddsEnds a s s'
noted-ends a true g s s' q o h is = none-some s' is
noted-ends a false g s s' q None h is = record { new = []; made = ap (λ s. s.made) (sym (the-same _ s' is)) ∙ sym (append-nil s.made); ends = All-nil (λ x. x.1 ≡ a) }
noted-ends a false g s s' q (Some x) h is = record {
  new = (g, x.1) ∷ [];
  made = ap (λ s. s.made) (sym (the-same _ s' is));
  ends = All-cons (λ x. x.1 ≡ a) (g, x.1) [] h (All-nil (λ x. x.1 ≡ a));
}

item-ends : (a : Act) (h : List Entry) (t : ℕ) (q : Request) (g : ℕ) (s s' : Taken) → ((r : Reading) → IsThat a (row q t r).1) → item_at h t (Some (Ask q)) g s ≡ Some s' → AddsEnds a s s'
item-ends a h t q g s s' ends is =
    let r = reading (take g h) in
    let x = served q t r in
    noted-ends a (is_not_yet x.0) g s s' x.0 x.1 (served-ends a q t r (ends r)) (answer-is h t (Ask q) g s s' is).1

end-ends : (h : List Entry) (t : ℕ) (e : ThreadEnd) (g : ℕ) (s s' : Taken) → item_at h t (item_of_end e) g s ≡ Some s' → AddsEnds (act_of e) s s'
end-ends h t ThreadEnd.True g s s' is = item-ends (Act.End ThreadEnd.True) h t (Finish ThreadEnd.True) g s s' (λ r. finish-ends ThreadEnd.True t) is
end-ends h t ThreadEnd.False g s s' is = item-ends (Act.End ThreadEnd.False) h t (Finish ThreadEnd.False) g s s' (λ r. finish-ends ThreadEnd.False t) is
end-ends h t (ThreadEnd.Exception b) g s s' is = item-ends (Act.End (ThreadEnd.Exception b)) h t (Finish (ThreadEnd.Exception b)) g s s' (λ r. finish-ends (ThreadEnd.Exception b) t) is
end-ends h t ThreadEnd.Budget g s s' is = item-ends (Act.End ThreadEnd.Budget) h t (Finish ThreadEnd.Budget) g s s' (λ r. finish-ends ThreadEnd.Budget t) is
end-ends h t (ThreadEnd.Halt n) g s s' is = none-some s' is

takes-ends : (asks : List Answer → Next) (h : List Entry) (t : ℕ) (e : ThreadEnd) (gs : List ℕ) (s s' : Taken) → ((xs : List Answer) → asks (s.answers ++ xs) ≡ Finishes e) →
    takes asks h t gs s ≡ Some s' → AddsEnds (act_of e) s s'
takes-ends asks h t e [] s s' over is = subst (AddsEnds (act_of e) s) (takes-none asks h t s s' is) (adds-none (act_of e) s)
takes-ends asks h t e (g ∷ gs) s s' over is =
    let one = takes-first asks h t g gs s s' is in
    let m = one.0 in
    let next : asks s.answers ≡ Finishes e = ap asks (sym (append-nil s.answers)) ∙ over [] in
    let first = item-adds h t (item_of (asks s.answers)) g s m one.1 in
    let m_is : m.answers ≡ s.answers ++ first.answer ∷ [] = first.adds.answered ∙ ap (λ l. s.answers ++ l) first.only in
    adds-both (act_of e) s m s' (end-ends h t e g s m (ap (λ x. item_at h t (item_of x) g s) (sym next) ∙ one.1))
    (takes-ends asks h t e gs m s' (λ xs. ap (λ l. asks (l ++ xs)) m_is ∙ ap asks (append_assoc s.answers (first.answer ∷ []) xs) ∙ over (first.answer ∷ xs)) one.2)

-- a search that has ended ignores further answers
stays-ended : (f : Followed) (s : Taken) (e : ThreadEnd) → asks f s.answers ≡ Finishes e → (xs : List Answer) → asks f (s.answers ++ xs) ≡ Finishes e
stays-ended f s e is xs = ap (λ x. x.next) (ends_ignore f.program f.starts f.limit f.limit s.answers xs e is) ∙ is

-- what is asked after the answers so far is what the machine then comes to
asks-then : (f : Followed) (k : ℕ) (s : Taken) → StandsAt f k s → asks f s.answers ≡ next_of (Rest f.program (with_answers [] (at_turn f k))).0
asks-then f k s stood =
    let P = f.program in
    let used = short-of f k in
    let same : used.used ≡ s.answers = append_cancel_right used.used s.answers (at_turn f k).run.answers (sym used.all ∙ stood.taken) in
    ap (λ e. e.next) (search-at P f.starts f.limit k s.answers) ∙ ap (λ m. next_of (Rest P m).0) (ap (λ xs. turns P k (machine_of P f.starts f.limit xs)) (sym same) ∙ used.comes)

over-rest : (f : Followed) (r : Result) (run : Supply) → Rest f.program (record { mode = Back r; cases = []; run = run }) ≡ (r, run)
unfolding Rest outs
over-rest f r run = refl

-- behind the end of its machine's turns a thread makes nothing but its end
pub ceases : (f : Followed) (s : Taken) (i : ℕ) (r : Result) (run : Supply) → StandsAt f i s → at_turn f i ≡ record { mode = Back r; cases = []; run = run } → AddsEnds (act_of f.came_to) s f.ended.asked.last
ceases f s i r run stood is =
    let over : asks f s.answers ≡ Finishes f.came_to =
    asks-then f i s stood
    ∙ ap (λ m. next_of (Rest f.program (with_answers [] m)).0) is
    ∙ ap (λ e. next_of e.0) (over-rest f r (record run { answers = [] }))
    ∙ ends-with f i r run (ap (Rest f.program) is ∙ over-rest f r run) in
    takes-ends (asks f) f.journal f.run.thread f.came_to stood.later s f.ended.asked.last (stays-ended f s f.came_to over) stood.rest

-- an end of the machine's turns that comes later than any turn
over-late : (f : Followed) → (n : ℕ) → (k : ℕ) (r : Result) (run : Supply) → at_turn f k ≡ record { mode = Back r; cases = []; run = run } → at_turn f (k + n) ≡ record { mode = Back r; cases = []; run = run }
unfolding turn
over-late f n k r run is = turns-both f.program k n (machine_of f.program f.starts f.limit (answers f)) ∙ ap (turns f.program n) is ∙ still n
  where
    still : (n : ℕ) → turns f.program n (record { mode = Back r; cases = []; run = run }) ≡ record { mode = Back r; cases = []; run = run }
    still zero = refl
    still (suc n) = still n

pub comes-to-end : (f : Followed) → (n : ℕ) × (r : Result) × (run : Supply) × (at_turn f n ≡ record { mode = Back r; cases = []; run = run })
comes-to-end f =
    let end = search-by-turns f.program f.starts f.limit f.limit (answers f) in
    (end.0, end.1, end.2, ap (λ steps. turns f.program end.0 (machine_of f.program f.starts steps (answers f))) (sym (least-same f.limit)) ∙ end.3)

-- where a result comes to the outside and something is open, there was no step left, or the run was ended
short-end : (r : Result) (e : ThreadEnd) → (IsDone r → ⊥) → next_of r ≡ Finishes e → IsCutShort e
short-end Stop e open_now is = absurd (open_now tt)
short-end Fail e open_now is = absurd (open_now tt)
short-end (CutTo l) e open_now is = absurd (open_now tt)
short-end (Throw b ls) e open_now is = absurd (open_now tt)
short-end (Halted n) e open_now is = let same : ThreadEnd.Halt n ≡ e = cc in subst IsCutShort same tt
short-end Spent e open_now is = let same : ThreadEnd.Budget ≡ e = cc in subst IsCutShort same tt
short-end (Awaits q) e open_now is = wants-ends q e is
short-end Stopped e open_now is = ceases-ends e is
short-end Unfit e open_now is = ceases-ends e is

-- so where something is open at the end of its machine's turns
open-short : (f : Followed) (n : ℕ) (r : Result) (run : Supply) → at_turn f n ≡ record { mode = Back r; cases = []; run = run } → is_open f n ≡ true → IsCutShort f.came_to
open-short f n r run is now = short-end r f.came_to not_done (ends-with f n r run (ap (Rest f.program) is ∙ over-rest f r run))
  where
    not_done : IsDone r → ⊥
    not_done done = never (sym now ∙ ap (λ m. any_open m.run.local.own) is ∙ ap any_open (nothing-left-open f.program r run (f.starts, f.limit, answers f, n, sym is) done))
      where
        never : true ≡ false → ⊥
        never is = cc

-- what begins has its end, or something is open to the end of the run
scans : (f : Followed) (k : ℕ) → is_open f k ≡ false → (n j : ℕ) (r : Result) (run : Supply) → k < j → ((i : ℕ) → k < i → i ≤ j → is_open f i ≡ true) →
    at_turn f (j + n) ≡ record { mode = Back r; cases = []; run = run } → ((j : ℕ) × Lasts f k j) ⊎ LastsToTheEnd f k
scans f k before zero j r run longer between is = inr (record { before = before; behind = behind })
  where
    over : at_turn f j ≡ record { mode = Back r; cases = []; run = run }
    over = let same : j ≡ j + 0 = omega arith in ap (at_turn f) same ∙ is

    later : (i : ℕ) → j ≤ i → is_open f i ≡ true
    later i le =
        let far : j + (i - j) ≡ i = omega (arith, le) in
        ap (is_open f) (sym far) ∙ ap (λ m. any_open m.run.local.own) (over-late f (i - j) j r run over ∙ sym over) ∙ between j longer (omega arith)

    behind : (i : ℕ) → k < i → is_open f i ≡ true
    behind i after = go (cases_lt j i)
      where
        go : ((j < i) ⊎ (i ≤ j)) → is_open f i ≡ true
        go (inl lt) = later i (omega (arith, lt))
        go (inr le) = between i after le
scans f k before (suc n) j r run longer between is = go (is_open f (suc j)) refl (scans f k before n (suc j) r run (omega (arith, longer)))
  where
    Ends : Type 0
    Ends = ((j : ℕ) × Lasts f k j) ⊎ LastsToTheEnd f k

    further : is_open f (suc j) ≡ true → (i : ℕ) → k < i → i ≤ suc j → is_open f i ≡ true
    further now i after within = one-of (eq-or-lt_of_le within)
      where
        one-of : ((i ≡ suc j) ⊎ (i < suc j)) → is_open f i ≡ true
        one-of (inl same) = ap (is_open f) same ∙ now
        one-of (inr lt) = between i after (omega (arith, lt))

    go : (b : Bool) → is_open f (suc j) ≡ b → (((i : ℕ) → k < i → i ≤ suc j → is_open f i ≡ true) → at_turn f (suc j + n) ≡ record { mode = Back r; cases = []; run = run } → Ends) → Ends
    go false closed more = inl (j, record { longer = longer; before = before; between = between; behind = closed })
    go true now more = let same : suc j + n ≡ j + suc n = omega arith in more (further now) (ap (at_turn f) same ∙ is)

pub ends-or-lasts : EndsOrLasts
ends-or-lasts f k before now =
    let end = comes-to-end f in
    let late : end.0 + suc k ≡ suc k + end.0 = omega arith in
    scans f k before end.0 (suc k) end.1 end.2 (omega arith) first (ap (at_turn f) (sym late) ∙ over-late f (suc k) end.0 end.1 end.2 end.3)
  where
    first : (i : ℕ) → k < i → i ≤ suc k → is_open f i ≡ true
    first i after within = let same : i ≡ suc k = omega (arith, after, within) in ap (is_open f) same ∙ now

-- what tells of an end is no batch
end-no-batch : (e : ThreadEnd) → IsNoBatch (act_of e)
end-no-batch ThreadEnd.True = tt
end-no-batch ThreadEnd.False = tt
end-no-batch (ThreadEnd.Exception b) = tt
end-no-batch ThreadEnd.Budget = tt
end-no-batch (ThreadEnd.Halt n) = tt

module _ (f : Followed) where
  abbrev its_end : ℕ × Act
  its_end = (f.ended.asked.final, act_of f.came_to)

  -- an item that is not the last stands before the last
  before-last : (k : ℕ) (s : Taken) → StandsAt f k s → (s ≡ f.ended.asked.last → ⊥) → s.low ≤ f.ended.asked.final
  before-last k s stood other = go (part-last stood.earlier stood.later f.ended.asked.earlier f.ended.asked.final (sym stood.split ∙ f.ended.asked.split))
    where
      low : f.ended.asked.before.low ≤ f.ended.asked.final
      low = (answer-is f.journal f.run.thread (Ask (last_of f.came_to)) f.ended.asked.final f.ended.asked.before f.ended.asked.last f.ended.asked.finished).0

      go : ((stood.later ≡ []) ⊎ ((us : List ℕ) × (f.ended.asked.earlier ≡ stood.earlier ++ us) × (stood.later ≡ us ++ f.ended.asked.final ∷ []))) → s.low ≤ f.ended.asked.final
      go (inl none) = absurd (other (takes-none (asks f) f.journal f.run.thread s f.ended.asked.last (subst (λ gs. takes (asks f) f.journal f.run.thread gs s ≡ Some f.ended.asked.last) none stood.rest)))
      go (inr some) =
          let start = from_start (start_of f) in
          let items = subst (λ gs. takes (asks f) f.journal f.run.thread gs start ≡ Some f.ended.asked.before) some.1 f.ended.asked.items in
          let rises = (takes-adds (asks f) f.journal f.run.thread some.0 s f.ended.asked.before (takes-behind (asks f) f.journal f.run.thread stood.earlier some.0 start s f.ended.asked.before stood.so_far items)).rises in
          let le = low in
          omega (arith, rises, le)

  -- its end is the last of the entries that stand from some place on
  end-last : (front later : List (ℕ × Act)) (low : ℕ) → own f.run.thread f.journal ≡ front ++ later → AreBelow low front → low ≤ f.ended.asked.final → (us : List (ℕ × Act)) × (later ≡ us ++ its_end ∷ [])
  end-last front later low owns below le = go (part-last front later (started f f.ended.asked.before.made) its_end (sym owns ∙ ends-with-its-end f))
    where
      go : ((later ≡ []) ⊎ ((us : List (ℕ × Act)) × (started f f.ended.asked.before.made ≡ front ++ us) × (later ≡ us ++ its_end ∷ []))) → (us : List (ℕ × Act)) × (later ≡ us ++ its_end ∷ [])
      go (inr some) = (some.0, some.2)
      go (inl none) =
          let made = started f f.ended.asked.before.made in
          let all : made ++ its_end ∷ [] ≡ front = sym (ends-with-its-end f) ∙ owns ∙ ap (λ l. front ++ l) none ∙ append-nil front in
          let lt : f.ended.asked.final < low = all-at (λ x. x.0 < low) made its_end [] (subst (AreBelow low) (sym all) below) in
          absurd (omega (arith, lt, le))

seen-done : (g : ℕ) (us : List Stamped) → Seen g us ≡ Got Reply.Done → ⊥
seen-done g us is = cc

pub nothing-of-it-stays : NothingOfItStays
nothing-of-it-stays f k lasts =
    let here = stands-somewhere f k in
    let before = here.0 in
    let begins : wanted (at_turn f k) ≡ Some View =
    opens-with-view f.program (at_turn f k) lasts.before (ap (λ m. any_open m.run.local.own) (sym (next-turn f k)) ∙ lasts.behind (suc k) (omega arith)) in
    let one = asked-at f k before View here.1 begins in
    let begun = one.after in
    let view = viewed f before one.place begun one.answered in
    let part = entries-in-order f (suc k) begun one.stands in
    let made : started f begun.made ≡ started f before.made = ap (started f) view.made in
    let turned = comes-to-end f in
    let n = turned.0 + suc k in
    let over = over-late f (suc k) turned.0 turned.1 turned.2 turned.3 in
    let there = stands-somewhere f n in
    let adds = (inside-between f k n begun one.stands (λ i after within. lasts.behind i after) (omega arith) there.0 there.1).adds in
    let ends = ceases f there.0 n turned.1 turned.2 there.1 over in
    let all : f.ended.asked.last.made ≡ begun.made ++ (adds.inside ++ ends.new) = ends.made ∙ ap (λ l. l ++ ends.new) adds.made ∙ append_assoc begun.made adds.inside ends.new in
    let same : adds.inside ++ ends.new ≡ part.later =
    append_cancel_left (started f begun.made) (adds.inside ++ ends.new) part.later (sym (ap (started f) all) ∙ sym f.ended.asked.entries ∙ part.entries) in
    let last_none = all-more (λ x. x.1 ≡ act_of f.came_to) (λ x. IsNoBatch x.1) ends.new (λ x is. subst IsNoBatch (sym is) (end-no-batch f.came_to)) ends.ends in
    let none : NoBatch part.later = subst NoBatch same (All-append (λ x. IsNoBatch x.1) adds.inside ends.new adds.none last_none) in
    let below = below-more before.low one.place (started f before.made) view.behind (started-below f k before here.1) in
    let goes_on : begun ≡ f.ended.asked.last → ⊥ =
    λ is. seen-done one.place (reading (take one.place f.journal)).updates (last-same before.answers f.ended.asked.before.answers (Seen one.place (reading (take one.place f.journal)).updates) (Got Reply.Done) (sym view.answers ∙ ap (λ s. s.answers) is ∙ f.ended.asked.told)) in
    let behind : one.place ≤ f.ended.asked.final = subst (λ g. g ≤ f.ended.asked.final) view.low (before-last f (suc k) begun one.stands goes_on) in
    let owns : own f.run.thread f.journal ≡ started f before.made ++ part.later = part.entries ∙ ap (λ l. l ++ part.later) made in
    let end = end-last f (started f before.made) part.later one.place owns below behind in record {
      before = before;
      place = one.place;
      begun = begun;
      stood = here.1;
      views = one.answered;
      inside = end.0;
      entries = owns ∙ ap (λ l. started f before.made ++ l) end.1 ∙ sym (append_assoc (started f before.made) end.0 (its_end f ∷ []));
      below = below;
      from = all-front (λ x. one.place ≤ x.0) end.0 (its_end f ∷ []) (subst (AreFrom one.place) end.1 (subst (λ g. AreFrom g part.later) view.low part.from));
      none = all-front (λ x. IsNoBatch x.1) end.0 (its_end f ∷ []) (subst NoBatch end.1 none);
      behind = behind;
      short = open-short f n turned.1 turned.2 over (lasts.behind n (omega arith));
    }

pub ruleset laws = (ends-or-lasts, nothing-of-it-stays)
