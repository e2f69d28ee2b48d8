-- Worked histories.
use Rattle.std.proofs.Common.{◌≡◌, ℕ, Bool, true, false, nat_eq, eqb-true, List, [], ◌∷◌, ◌++◌, Option, Some, None, refl, sym, ap, ◌∙◌, subst, arith}
use Rattle.std.specs.Option.{option_and_then}
use Rattle.plevent.specs.declared.request.ThreadEnd.{ThreadEnd}
use Rattle.plevent.specs.declared.request.Request.{Request}
use Rattle.plevent.specs.declared.request.Reply.{Reply}
use Rattle.plevent.specs.declared.update.Update.{Update}
use Rattle.plevent.specs.declared.act.Act.{Act}
use Rattle.plevent.specs.declared.act.Entry.{Entry}
use Rattle.plevent.specs.Reading.{reading}
use Rattle.plevent.specs.Rows.{served, is_workers, is_leave, is_over}
use Rattle.plevent.specs.Search.{Item, View, Ask, Answer, Seen, Got, Wants, Finishes, Search, item_of}
use Rattle.plhist.specs.declared.history.Run.{Run}
use Rattle.plhist.specs.declared.history.RunEnd.{RunEnd}
use Rattle.plhist.specs.Follows.{own, Taken, answer_at, takes, from_start, asks_of, Follows}
use Rattle.plhist.specs.Legal.{worker_of, MayAsk, IsDue, AllDue, opening, Legal, Over}

-- a search that takes a view, publishes a batch, and has then ended
abbrev erases : List Update
erases = Update.Erase (record { place = 0; number = 1 }) ∷ []

abbrev other : List Update
other = Update.EraseOwn 0 ∷ []

abbrev sought : Search
sought n [] = record { next = Wants View; used = 3; out = [] }
sought n (a ∷ []) = record { next = Wants (Ask (Request.Publish erases)); used = 4; out = 49 ∷ [] }
sought n (a ∷ b ∷ more) = record { next = Finishes ThreadEnd.True; used = 7; out = 49 ∷ [] }

abbrev start : Entry
start = record { worker = 1; thread = 1; act = Act.Start }

abbrev batch : List Update → Entry
batch us = record { worker = 1; thread = 1; act = Act.Batch us }

abbrev end : Entry
end = record { worker = 1; thread = 1; act = Act.End ThreadEnd.True }

abbrev right : List Entry
right = opening [] ∷ start ∷ batch erases ∷ end ∷ []

abbrev run : List ℕ → Run
run places = record { thread = 1; places = places; steps = 7; «end» = RunEnd.Ended ThreadEnd.True; output = 49 ∷ [] }

-- the view and the batch at 2, the end at 3
abbrev before : Taken
before = record { answers = Seen 2 [] ∷ Got Reply.Published ∷ []; low = 3; made = (2, Act.Batch erases) ∷ [] }

abbrev last : Taken
last = record { answers = Seen 2 [] ∷ Got Reply.Published ∷ Got Reply.Done ∷ []; low = 4; made = (2, Act.Batch erases) ∷ (3, Act.End ThreadEnd.True) ∷ [] }

follows : Follows sought 10 right (run (2 ∷ 2 ∷ 3 ∷ []))
unfolding takes answer_at served reading own
follows = record {
  asked = record {
    earlier = 2 ∷ 2 ∷ [];
    final = 3;
    split = refl;
    start = 1;
    before = before;
    items = refl;
    asks = refl;
    last = last;
    finished = refl;
    told = refl;
    entries = refl;
  };
  ends = refl;
}

legal : Legal [] right
unfolding served reading
legal = record {
  later = start ∷ batch erases ∷ end ∷ [];
  opens = refl;
  due = (
    record { asked = Request.Start; thread = 0; may = (omega arith, omega arith); made = refl },
    (record { asked = Request.Publish erases; thread = 1; may = refl; made = refl }, (record { asked = Request.Finish ThreadEnd.True; thread = 1; may = refl; made = refl }, tt)),
  );
}

over : Over right
unfolding reading
over = refl

-- what the claimed places come to, from the place of the start
abbrev all_but_last : List ℕ → List ℕ
all_but_last [] = []
all_but_last (x ∷ []) = []
all_but_last (x ∷ y ∷ ys) = x ∷ all_but_last (y ∷ ys)

abbrev last_place : List ℕ → ℕ
last_place [] = 0
last_place (x ∷ []) = x
last_place (x ∷ y ∷ ys) = last_place (y ∷ ys)

all_but_last-push : (xs : List ℕ) (x : ℕ) → (all_but_last (xs ++ x ∷ []) ≡ xs) × (last_place (xs ++ x ∷ []) ≡ x)
all_but_last-push [] x = (refl, refl)
all_but_last-push (y ∷ []) x = (refl, refl)
all_but_last-push (y ∷ z ∷ zs) x = let more = all_but_last-push (z ∷ zs) x in (ap (λ l. y ∷ l) more.0, more.1)

unfoldable came : List Entry → List ℕ → ℕ → Option Taken
came h places k = option_and_then (λ s. answer_at h 1 (Ask (Request.Finish ThreadEnd.True)) (last_place places) s) (takes (asks_of sought 10) h 1 (all_but_last places) (from_start k))

-- a run that follows comes to what makes its entries
follows-came : (h : List Entry) (places : List ℕ) → Follows sought 10 h (run places) → (k : ℕ) × (s : Taken) × (came h places k ≡ Some s) × (own 1 h ≡ (k, Act.Start) ∷ s.made)
unfolding came
follows-came h places f =
    let a = f.asked in
    let split = all_but_last-push a.earlier a.final in
    let earlier : all_but_last places ≡ a.earlier = ap all_but_last a.split ∙ split.0 in
    let final : last_place places ≡ a.final = ap last_place a.split ∙ split.1 in (
      a.start,
      a.last,
      ap (λ gs. option_and_then (λ s. answer_at h 1 (Ask (Request.Finish ThreadEnd.True)) (last_place places) s) (takes (asks_of sought 10) h 1 gs (from_start a.start))) earlier
          ∙ ap (option_and_then (λ s. answer_at h 1 (Ask (Request.Finish ThreadEnd.True)) (last_place places) s)) a.items
          ∙ ap (λ g. answer_at h 1 (Ask (Request.Finish ThreadEnd.True)) g a.before) final
          ∙ a.finished,
      a.entries,
    )

-- what came is one, and what the start and the entries are
one : {A : Type 0} (a b : A) → Some a ≡ Some b → a ≡ b
one a b is = cc

first_place : List (ℕ × Act) → ℕ
first_place [] = 0
first_place (x ∷ xs) = x.0

first_act : List (ℕ × Act) → Act
first_act [] = Act.Start
first_act (x ∷ xs) = x.1

tail_of : List Entry → List Entry
tail_of [] = []
tail_of (e ∷ es) = es

unlike : Act.Batch erases ≡ Act.Batch other → ⊥
unlike is = cc

behind_first : List (ℕ × Act) → List (ℕ × Act)
behind_first [] = []
behind_first (x ∷ xs) = xs

-- a journal in which the thread has these entries behind its start at place 1
not_made : (h : List Entry) (places : List ℕ) (mine : List (ℕ × Act)) → own 1 h ≡ (1, Act.Start) ∷ mine → ((s : Taken) → came h places 1 ≡ Some s → s.made ≡ mine → ⊥) → Follows sought 10 h (run places) → ⊥
unfolding first_place behind_first
not_made h places mine owns never f =
    let all = follows-came h places f in
    let same : (all.0, Act.Start) ∷ all.1.made ≡ (1, Act.Start) ∷ mine = sym all.3 ∙ owns in
    never all.1 (ap (came h places) (sym (ap first_place same)) ∙ all.2) (ap behind_first same)

-- a place that does not pass the thread's own start
too_early : Follows sought 10 right (run (1 ∷ 2 ∷ 3 ∷ [])) → ⊥
unfolding came takes answer_at served reading own
too_early = not_made right (1 ∷ 2 ∷ 3 ∷ []) ((2, Act.Batch erases) ∷ (3, Act.End ThreadEnd.True) ∷ []) refl (λ s is made. cc)

-- a place behind the batch that it was answered with
too_late : Follows sought 10 right (run (2 ∷ 3 ∷ 4 ∷ [])) → ⊥
unfolding came takes answer_at served reading own
too_late = not_made right (2 ∷ 3 ∷ 4 ∷ []) ((2, Act.Batch erases) ∷ (3, Act.End ThreadEnd.True) ∷ []) refl (λ s is made. cc)

-- places that go back
backward : Follows sought 10 right (run (3 ∷ 2 ∷ 3 ∷ [])) → ⊥
unfolding came takes answer_at served reading own
backward = not_made right (3 ∷ 2 ∷ 3 ∷ []) ((2, Act.Batch erases) ∷ (3, Act.End ThreadEnd.True) ∷ []) refl (λ s is made. cc)

-- a batch that is published twice
twice : Follows sought 10 (opening [] ∷ start ∷ batch erases ∷ batch erases ∷ end ∷ []) (run (2 ∷ 2 ∷ 4 ∷ [])) → ⊥
unfolding came takes answer_at served reading own
twice =
    not_made (opening [] ∷ start ∷ batch erases ∷ batch erases ∷ end ∷ []) (2 ∷ 2 ∷ 4 ∷ [])
    ((2, Act.Batch erases) ∷ (3, Act.Batch erases) ∷ (4, Act.End ThreadEnd.True) ∷ []) refl (λ s is made. cc)

-- a batch that is not published
never : Follows sought 10 (opening [] ∷ start ∷ end ∷ []) (run (2 ∷ 2 ∷ 2 ∷ [])) → ⊥
unfolding came takes answer_at served reading own
never = not_made (opening [] ∷ start ∷ end ∷ []) (2 ∷ 2 ∷ 2 ∷ []) ((2, Act.End ThreadEnd.True) ∷ []) refl (λ s is made. cc)

-- another batch than was asked
something_else : Follows sought 10 (opening [] ∷ start ∷ batch other ∷ end ∷ []) (run (2 ∷ 2 ∷ 3 ∷ [])) → ⊥
unfolding came takes answer_at served reading own first_act
something_else =
    not_made (opening [] ∷ start ∷ batch other ∷ end ∷ []) (2 ∷ 2 ∷ 3 ∷ [])
    ((2, Act.Batch other) ∷ (3, Act.End ThreadEnd.True) ∷ []) refl (λ s is made. unlike (ap first_act (ap (λ s. s.made) (one last s is) ∙ made)))

-- another thread's run
stranger : Follows sought 10 (opening [] ∷ start ∷ end ∷ []) (record (run (2 ∷ 2 ∷ 3 ∷ [])) { thread = 2 }) → ⊥
unfolding own
stranger f = let entries = f.asked.entries in cc

-- before the first start nobody runs, so that only Start has an act, and it names main
idle : (q : Request) (t : ℕ) (b : Bool) → nat_eq 1 t ≡ b → (is_workers q ≡ false) → (served q t (reading (opening [] ∷ []))).1 ≡ None
unfolding served reading
idle q t true is asks = rw (is, asks) refl
idle q t false is asks = rw (is, asks) refl

named : Option (ℕ × Act) → ℕ
named None = 0
named (Some x) = x.0

none_is_some : {A : Type 0} (a : A) → None ≡ Some a → ⊥
none_is_some a is = cc

first_start : (e : Entry) → IsDue (reading (opening [] ∷ [])) e → e.thread ≡ 1
unfolding served reading named
first_start e due = go due.asked due.thread due.made
  where
    go : (q : Request) (t : ℕ) → (served q t (reading (opening [] ∷ []))).1 ≡ Some (e.thread, e.act) → e.thread ≡ 1
    go Request.Start t made = sym (ap named made)
    go (Request.Publish us) t made = absurd (none_is_some (e.thread, e.act) (sym (idle (Request.Publish us) t (nat_eq 1 t) refl refl) ∙ made))
    go (Request.EraseOne x) t made = absurd (none_is_some (e.thread, e.act) (sym (idle (Request.EraseOne x) t (nat_eq 1 t) refl refl) ∙ made))
    go (Request.Finish x) t made = absurd (none_is_some (e.thread, e.act) (sym (idle (Request.Finish x) t (nat_eq 1 t) refl refl) ∙ made))
    go (Request.HaltRun n) t made = absurd (none_is_some (e.thread, e.act) (sym (idle (Request.HaltRun n) t (nat_eq 1 t) refl refl) ∙ made))
    go Request.Leave t made = absurd (none_is_some (e.thread, e.act) made)

-- a start that names another thread is not legal
starts_seven : Legal [] (opening [] ∷ record { worker = 1; thread = 7; act = Act.Start } ∷ []) → ⊥
unfolding tail_of
starts_seven legal =
    let later : legal.later ≡ record { worker = 1; thread = 7; act = Act.Start } ∷ [] = sym (ap tail_of legal.opens) in
    let due : AllDue (reading (opening [] ∷ [])) (record { worker = 1; thread = 7; act = Act.Start } ∷ []) = subst (AllDue (reading (opening [] ∷ []))) later legal.due in
    let seven : 7 ≡ 1 = first_start (record { worker = 1; thread = 7; act = Act.Start }) due.0 in
    absurd (omega (arith, seven))

-- after its end a thread has no act
ended : (q : Request) (t : ℕ) (b : Bool) → nat_eq 1 t ≡ b → (served q t (reading (opening [] ∷ start ∷ end ∷ []))).1 ≡ None
unfolding served reading
ended Request.Start t b is = refl
ended (Request.Publish us) t true is = rw is refl
ended (Request.Publish us) t false is = rw is refl
ended (Request.EraseOne x) t true is = rw is refl
ended (Request.EraseOne x) t false is = rw is refl
ended (Request.Finish e) t true is = rw is refl
ended (Request.Finish e) t false is = rw is refl
ended (Request.HaltRun n) t true is = rw is refl
ended (Request.HaltRun n) t false is = rw is refl
ended Request.Leave t true is = rw is refl
ended Request.Leave t false is = rw is refl

-- so a batch behind it is not legal
extra_batch : (us : List Update) → Legal [] (opening [] ∷ start ∷ end ∷ batch us ∷ []) → ⊥
unfolding tail_of reading
extra_batch us legal =
    let later : legal.later ≡ start ∷ end ∷ batch us ∷ [] = sym (ap tail_of legal.opens) in
    let all : AllDue (reading (opening [] ∷ [])) (start ∷ end ∷ batch us ∷ []) = subst (AllDue (reading (opening [] ∷ []))) later legal.due in
    let due : IsDue (reading (opening [] ∷ start ∷ end ∷ [])) (batch us) = all.1.1.0 in
    none_is_some (1, Act.Batch us) (sym (ended due.asked due.thread (nat_eq 1 due.thread) refl) ∙ due.made)

-- before its end, a run is not over
goes_on : is_over (reading (opening [] ∷ start ∷ batch erases ∷ [])).standing ≡ false
unfolding reading
goes_on = refl

-- a search that ends the run with 44
abbrev halting : Search
halting n [] = record { next = Wants (Ask (Request.HaltRun 44)); used = 2; out = 49 ∷ [] }
halting n (a ∷ more) = record { next = Finishes (ThreadEnd.Halt 44); used = 2; out = 49 ∷ [] }

abbrev halt : ℕ → Entry
halt n = record { worker = 1; thread = 1; act = Act.Halt n }

abbrev halted : ℕ → List Entry
halted n = opening [] ∷ start ∷ halt n ∷ []

abbrev halted_run : ℕ → List ℕ → Run
halted_run n places = record { thread = 1; places = places; steps = 2; «end» = RunEnd.Ended (ThreadEnd.Halt n); output = 49 ∷ [] }

halt_follows : Follows halting 10 (halted 44) (halted_run 44 (2 ∷ []))
unfolding takes answer_at served reading own
halt_follows = record {
  asked = record {
    earlier = [];
    final = 2;
    split = refl;
    start = 1;
    before = from_start 1;
    items = refl;
    asks = refl;
    last = record { answers = Got Reply.Done ∷ []; low = 3; made = (2, Act.Halt 44) ∷ [] };
    finished = refl;
    told = refl;
    entries = refl;
  };
  ends = refl;
}

halt_legal : Legal [] (halted 44)
unfolding served reading
halt_legal = record {
  later = start ∷ halt 44 ∷ [];
  opens = refl;
  due = (
    record { asked = Request.Start; thread = 0; may = (omega arith, omega arith); made = refl },
    (record { asked = Request.HaltRun 44; thread = 1; may = refl; made = refl }, tt),
  );
}

halt_over : Over (halted 44)
unfolding reading
halt_over = refl

-- behind a halt no request but Leave has an act, and the one entry that is legal there is that the thread has left
abbrev leave : Entry
leave = record { worker = 1; thread = 1; act = Act.Left }

stopped : (n : ℕ) (q : Request) (t : ℕ) → is_leave q ≡ false → (served q t (reading (halted n))).1 ≡ None
unfolding served reading
stopped n q t other = rw other refl

leaves : (n t : ℕ) → nat_eq 1 t ≡ false → (served Request.Leave t (reading (halted n))).1 ≡ None
unfolding served reading
leaves n t is = rw is refl

leave_is : (w t : ℕ) (a : Act) (e : Entry) → e ≡ record { worker = w; thread = t; act = a } → Some 1 ≡ Some w → ◌≡◌ {A = Option (ℕ × Act)} (Some (1, Act.Left)) (Some (t, a)) → e ≡ leave
leave_is w t a e is by made =
    let worker : 1 ≡ w = cc in
    let pair : ◌≡◌ {A = ℕ × Act} (1, Act.Left) (t, a) = cc in
    let thread : 1 ≡ t = ap (λ x. x.0) pair in
    let act : Act.Left ≡ a = ap (λ x. x.1) pair in
    is ∙ rw (← worker, ← thread, ← act) refl

left_behind : (n t : ℕ) (e : Entry) → 1 ≡ t → worker_of t (reading (halted n)).standing.threads ≡ Some e.worker → (served Request.Leave t (reading (halted n))).1 ≡ Some (e.thread, e.act) → e ≡ leave
unfolding served reading
left_behind n t e is by made =
    leave_is e.worker e.thread e.act e refl (subst (λ t. worker_of t (reading (halted n)).standing.threads ≡ Some e.worker) (sym is) by) (subst (λ t. (served Request.Leave t (reading (halted n))).1 ≡ Some (e.thread, e.act)) (sym is) made)

due_behind : (n t : ℕ) (q : Request) (e : Entry) → MayAsk (reading (halted n)).standing e.worker t q → (served q t (reading (halted n))).1 ≡ Some (e.thread, e.act) → e ≡ leave
due_behind n t q e may made = go q may made
  where
    none : (q : Request) → is_leave q ≡ false → (served q t (reading (halted n))).1 ≡ Some (e.thread, e.act) → e ≡ leave
    none q other made = absurd (none_is_some (e.thread, e.act) (sym (stopped n q t other) ∙ made))

    left : (b : Bool) → nat_eq 1 t ≡ b → worker_of t (reading (halted n)).standing.threads ≡ Some e.worker → (served Request.Leave t (reading (halted n))).1 ≡ Some (e.thread, e.act) → e ≡ leave
    left true is by made = left_behind n t e (eqb-true 1 t is) by made
    left false is by made = absurd (none_is_some (e.thread, e.act) (sym (leaves n t is) ∙ made))

    go : (q : Request) → MayAsk (reading (halted n)).standing e.worker t q → (served q t (reading (halted n))).1 ≡ Some (e.thread, e.act) → e ≡ leave
    go Request.Start may made = none Request.Start refl made
    go (Request.Publish us) may made = none (Request.Publish us) refl made
    go (Request.EraseOne x) may made = none (Request.EraseOne x) refl made
    go (Request.Finish f) may made = none (Request.Finish f) refl made
    go (Request.HaltRun k) may made = none (Request.HaltRun k) refl made
    go Request.Leave by made = left (nat_eq 1 t) refl by made

behind_halt : (n : ℕ) (e : Entry) → Legal [] (opening [] ∷ start ∷ halt n ∷ e ∷ []) → e ≡ leave
unfolding tail_of reading
behind_halt n e legal =
    let later : legal.later ≡ start ∷ halt n ∷ e ∷ [] = sym (ap tail_of legal.opens) in
    let all : AllDue (reading (opening [] ∷ [])) (start ∷ halt n ∷ e ∷ []) = subst (AllDue (reading (opening [] ∷ []))) later legal.due in
    let due : IsDue (reading (halted n)) e = all.1.1.0 in
    due_behind n due.thread due.asked e due.may due.made

-- that entry is legal, once
leave_legal : Legal [] (opening [] ∷ start ∷ halt 44 ∷ leave ∷ [])
unfolding served reading
leave_legal = record {
  later = start ∷ halt 44 ∷ leave ∷ [];
  opens = refl;
  due = (
    record { asked = Request.Start; thread = 0; may = (omega arith, omega arith); made = refl },
    (record { asked = Request.HaltRun 44; thread = 1; may = refl; made = refl }, (record { asked = Request.Leave; thread = 1; may = refl; made = refl }, tt)),
  );
}

no_act_behind : (n t : ℕ) (q : Request) (b : Bool) → nat_eq 1 t ≡ b → (served q t (reading (opening [] ∷ start ∷ halt n ∷ leave ∷ []))).1 ≡ None
unfolding served reading
no_act_behind n t Request.Start b is = refl
no_act_behind n t (Request.Publish us) b is = refl
no_act_behind n t (Request.EraseOne x) b is = refl
no_act_behind n t (Request.Finish e) b is = refl
no_act_behind n t (Request.HaltRun k) b is = refl
no_act_behind n t Request.Leave true is = rw is refl
no_act_behind n t Request.Leave false is = rw is refl

behind_leave : (n : ℕ) (e : Entry) → Legal [] (opening [] ∷ start ∷ halt n ∷ leave ∷ e ∷ []) → ⊥
unfolding tail_of reading
behind_leave n e legal =
    let later : legal.later ≡ start ∷ halt n ∷ leave ∷ e ∷ [] = sym (ap tail_of legal.opens) in
    let all : AllDue (reading (opening [] ∷ [])) (start ∷ halt n ∷ leave ∷ e ∷ []) = subst (AllDue (reading (opening [] ∷ []))) later legal.due in
    let due : IsDue (reading (opening [] ∷ start ∷ halt n ∷ leave ∷ [])) e = all.1.1.1.0 in
    none_is_some (e.thread, e.act) (sym (no_act_behind n due.thread due.asked (nat_eq 1 due.thread) refl) ∙ due.made)

-- the number of a request that ends the run
number_asked : Option Item → ℕ
number_asked (Some (Ask (Request.HaltRun n))) = n
number_asked item = 0

-- a run that tells of another number than it asked
told_otherwise : (h : List Entry) (places : List ℕ) → Follows halting 10 h (halted_run 45 places) → ⊥
unfolding number_asked
told_otherwise h places f = go f.asked.before.answers f.asked.asks
  where
    go : (answers : List Answer) → item_of (asks_of halting 10 answers) ≡ Some (Ask (Request.HaltRun 45)) → ⊥
    go [] is = let same : 44 ≡ 45 = ap number_asked is in absurd (omega (arith, same))
    go (a ∷ more) is = let same : 0 ≡ 45 = ap number_asked is in absurd (omega (arith, same))

-- a journal that notes another number than was asked
number_noted : Act → ℕ
number_noted (Act.Halt n) = n
number_noted a = 0

noted_otherwise : Follows halting 10 (halted 45) (halted_run 44 (2 ∷ [])) → ⊥
unfolding takes answer_at served reading own first_place behind_first first_act number_noted
noted_otherwise f =
    let h = halted 45 in
    let a = f.asked in
    let split = all_but_last-push a.earlier a.final in
    let earlier : [] ≡ a.earlier = ap all_but_last a.split ∙ split.0 in
    let place : 2 ≡ a.final = ap last_place a.split ∙ split.1 in
    let before : from_start 1 ≡ a.before =
    one _ _ (ap (λ gs. takes (asks_of halting 10) h 1 gs (from_start 1)) earlier ∙ ap (λ k. takes (asks_of halting 10) h 1 a.earlier (from_start k)) (ap first_place a.entries) ∙ a.items) in
    let last : record { answers = Got Reply.Done ∷ []; low = 3; made = (2, Act.Halt 44) ∷ [] } ≡ a.last =
    one _ _ (ap (λ g. answer_at h 1 (Ask (Request.HaltRun 44)) g (from_start 1)) place ∙ ap (answer_at h 1 (Ask (Request.HaltRun 44)) a.final) before ∙ a.finished) in
    let same : 44 ≡ 45 = ap (λ l. number_noted (first_act l)) (ap (λ s. s.made) last ∙ sym (ap behind_first a.entries)) in
    absurd (omega (arith, same))
