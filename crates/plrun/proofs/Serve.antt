-- What a turn of a thread leaves.
use Rattle.std.proofs.Common.{◌≡◌, ℕ, ◌≤◌, Bool, true, false, ◌||◌, not, List, [], ◌∷◌, ◌++◌, length, length-append, take, append-nil, map, Some, None, refl, sym, ap, ap₂, ◌∙◌, subst, arith, nat_eq, eq-eqb, eqb-true}
use Rattle.std.specs.List.{find, list_any}
use Rattle.std.specs.Option.{is_some}
use Rattle.std.proofs.Math.Seq.{take-append_seam}
use Rattle.plevent.specs.declared.request.ThreadEnd.{ThreadEnd}
use Rattle.plevent.specs.declared.request.Request.{Request}
use Rattle.plevent.specs.declared.request.Reply.{Reply}
use Rattle.plevent.specs.declared.update.Update.{Update}
use Rattle.plevent.specs.declared.act.Act.{Act}
use Rattle.plevent.specs.declared.act.Entry.{Entry}
use Rattle.plevent.specs.declared.standing.Thread.{Thread}
use Rattle.plevent.specs.declared.update.ClauseName.{ClauseName}
use Rattle.plevent.specs.declared.update.Update.TheVariants.{Erase}
use Rattle.plevent.specs.Alive.{before, is_alive}
use Rattle.plevent.specs.Reading.{reading, is_thread, changed_first, halted_after}
use Rattle.plevent.specs.Rows.{erase_row, served, adds, reply_to, entries_of, is_settled}
use Rattle.plevent.specs.Search.{Item, View, Ask, Seen, Got, Wants, Finishes, Search, item_of, item_of_end}
use Rattle.plhist.specs.declared.history.Run.{Run}
use Rattle.plhist.specs.declared.history.RunEnd.{RunEnd}
use Rattle.plhist.specs.Follows.{is_not_yet, last_of}
use Rattle.plhist.specs.Legal.{IsDue}
use Rattle.plhist.proofs.Alone.{main-alone}
use Rattle.plhist.proofs.OneMore.{reading-push, halted-push}
use Rattle.plworld.proofs.Push.{before-is}
use Rattle.plprogram.specs.Program.{Program}
use Rattle.plsearch.specs.Solving.{TakesOne, StandsAt, EndsAt}
use Rattle.plsolver.specs.Solver.{IsReplyTo}
use Rattle.plstore.specs.Looking.{Views}
use Rattle.plrun.specs.Going.{AreViews, Free, Going, IsClosed, IsRunning, IsHalted, IsStarted, Runs, Halts, views_of}
use Rattle.plrun.specs.Halts.{told, told_places}
use Rattle.plrun.specs.Overall.{IsHistory}
use Rattle.plrun.proofs.Grow.{sound-push}
use Rattle.plrun.proofs.Free.{is_plain}
use Rattle.plrun.proofs.Rows.{row-served, publish-due, erase-due, last-served, last-due, act_of}
use Rattle.plrun.proofs.Steps.{GoesAt, TakesAt, asks-same, going-goes, going-view, going-reply, going-act, older-views, own-views}
use Rattle.plrun.proofs.Ends.{asked-last, ended-told}
use Rattle.plsearch.specs.Halts.{HaltsWhenDone, HaltsNoSooner, IsCommon}

-- what is within a journal is within a longer one
pub longer : (h later more : List Entry) (n : ℕ) → later ≡ h ++ more → n ≤ length h → n ≤ length later
longer h later more n e le = rw e (omega (arith, le, length-append h more))

-- a view at the journal's length sees all its updates
pub before-length : (h : List Entry) → before (length h) (reading h).updates ≡ (reading h).updates
before-length h = before-is (length h) h (omega arith) ∙ ap (λ l. (reading l).updates) (ap (take (length h)) (sym (append-nil h)) ∙ take-append_seam h [])

-- a view
pub looked : (first : List Update) (search : Search) (limit : ℕ) (old new : Views → Search) (before_used used : ℕ) (out : List ℕ) (h : List Entry) (t : ℕ) (places later : List ℕ) (g : ℕ) →
    IsRunning first search limit old before_used h t places → ((v : Views) → StandsAt View (old v) before_used out) → g ≡ length h →
    ((v : Views) → AreViews h v → TakesOne (Seen g (v g)) (old v) before_used (new v) used) → later ≡ places ++ g ∷ [] → IsRunning first search limit new used h t later
looked first search limit old new before_used used out h t places later g r at now one pushed = record {
  sound = r.sound;
  going = subst (Going search limit new used h t) (sym (pushed ∙ ap (λ g. places ++ g ∷ []) now))
      (going-view search limit old new before_used used h t places (λ n le. ap (λ e. e.next) (at (views_of h) n le))
      (λ v are.
      let seen : v g ≡ (reading h).updates = are.as_far g (omega (arith, now)) ∙ ap (λ k. before k (reading h).updates) now ∙ before-length h in
      subst (λ a. TakesOne a (old v) before_used (new v) used) (ap₂ Seen now seen) (one v are)) r.going);
}

-- a request that is answered by a batch of the thread's
batched : (first : List Update) (search : Search) (limit : ℕ) (old new : Views → Search) (before_used used : ℕ) (out : List ℕ) (h h' : List Entry) (t : ℕ) (places later : List ℕ) (g : ℕ) (q : Request) (us : List Update) (is reply : Reply) →
    IsRunning first search limit old before_used h t places → ((v : Views) → StandsAt (Ask q) (old v) before_used out) → g ≡ length h → served q t (reading h) ≡ (is, Some (t, Act.Batch us)) → is_not_yet is ≡ false → IsCommon (Got is) →
    IsDue (reading h) (record { worker = 1; thread = t; act = Act.Batch us }) →
    reply ≡ reply_to h t q → h' ≡ h ++ adds h 1 t q → TakesAt h (Got reply) old before_used new used → later ≡ places ++ g ∷ [] →
    IsRunning first search limit new used h' t later
unfolding is_plain
batched first search limit old new before_used used out h h' t places later g q us is reply r at now row some common due tells grows one pushed =
    let e : Entry = record { worker = 1; thread = t; act = Act.Batch us } in
    let grown : h' ≡ h ++ e ∷ [] = grows ∙ ap (λ x. h ++ entries_of 1 x.1) row in
    let told : reply ≡ is = tells ∙ ap (λ x. x.0) row in
    subst (λ l. IsRunning first search limit new used l t later) (sym grown) (record {
      sound = sound-push first h e r.sound due refl;
      going = subst (Going search limit new used (h ++ e ∷ []) t) (sym (pushed ∙ ap (λ g. places ++ g ∷ []) now))
          (going-act search limit old new before_used used h t 1 places q is (Act.Batch us) (λ n le. ap (λ e. e.next) (at (views_of h) n le))
          (subst (λ x. TakesAt h (Got x) old before_used new used) told one) row some refl common r.going);
    })

-- a batch that is published
pub published : (first : List Update) (search : Search) (limit : ℕ) (old new : Views → Search) (before_used used : ℕ) (out : List ℕ) (h h' : List Entry) (t : ℕ) (places later : List ℕ) (g : ℕ) (us : List Update) (reply : Reply) →
    IsRunning first search limit old before_used h t places → ((v : Views) → StandsAt (Ask (Request.Publish us)) (old v) before_used out) → g ≡ length h →
    reply ≡ reply_to h t (Request.Publish us) → h' ≡ h ++ adds h 1 t (Request.Publish us) → TakesAt h (Got reply) old before_used new used → later ≡ places ++ g ∷ [] →
    IsRunning first search limit new used h' t later
published first search limit old new before_used used out h h' t places later g us reply r at now tells grows one pushed =
    batched first search limit old new before_used used out h h' t places later g (Request.Publish us) us Reply.Published reply r at now (row-served (Request.Publish us) t (reading h) refl r.going.free) refl tt
    (publish-due us t (reading h) r.going.free) tells grows one pushed

-- a clause that is to be erased: it goes by a batch, or is gone
pub erased : (first : List Update) (search : Search) (limit : ℕ) (old new : Views → Search) (before_used used : ℕ) (out : List ℕ) (h h' : List Entry) (t : ℕ) (places later : List ℕ) (g : ℕ) (x : ClauseName) (reply : Reply) →
    IsRunning first search limit old before_used h t places → ((v : Views) → StandsAt (Ask (Request.EraseOne x)) (old v) before_used out) → g ≡ length h →
    reply ≡ reply_to h t (Request.EraseOne x) → h' ≡ h ++ adds h 1 t (Request.EraseOne x) → TakesAt h (Got reply) old before_used new used → later ≡ places ++ g ∷ [] →
    IsRunning first search limit new used h' t later
erased first search limit old new before_used used out h h' t places later g x reply r at now tells grows one pushed = go (is_alive x (reading h).updates) refl
  where
    row : served (Request.EraseOne x) t (reading h) ≡ erase_row (is_alive x (reading h).updates) x t
    row = row-served (Request.EraseOne x) t (reading h) refl r.going.free

    go : (b : Bool) → is_alive x (reading h).updates ≡ b → IsRunning first search limit new used h' t later
    go true lives =
        batched first search limit old new before_used used out h h' t places later g (Request.EraseOne x) (Erase x ∷ []) Reply.Erased reply r at now (row ∙ ap (λ b. erase_row b x t) lives) refl tt
        (erase-due x t (reading h) r.going.free lives) tells grows one pushed
    go false gone =
        let is : served (Request.EraseOne x) t (reading h) ≡ (Reply.Gone, None) = row ∙ ap (λ b. erase_row b x t) gone in
        let same : h' ≡ h = grows ∙ ap (λ y. h ++ entries_of 1 y.1) is ∙ append-nil h in
        let told : reply ≡ Reply.Gone = tells ∙ ap (λ y. y.0) is in
        subst (λ l. IsRunning first search limit new used l t later) (sym same) (record {
          sound = r.sound;
          going = subst (Going search limit new used h t) (sym (pushed ∙ ap (λ g. places ++ g ∷ []) now))
              (going-reply search limit old new before_used used h t places (Request.EraseOne x) Reply.Gone (λ n le. ap (λ e. e.next) (at (views_of h) n le))
              (subst (λ y. TakesAt h (Got y) old before_used new used) told one) is refl tt r.going);
        })

-- the solver went on
pub went : (first : List Update) (search : Search) (limit : ℕ) (old new : Views → Search) (before_used used : ℕ) (h : List Entry) (t : ℕ) (places later : List ℕ) →
    IsRunning first search limit old before_used h t places → GoesAt h limit old before_used new used → later ≡ places → IsRunning first search limit new used h t later
went first search limit old new before_used used h t places later r goes same = record {
  sound = r.sound;
  going = subst (Going search limit new used h t) (sym same) (going-goes search limit old new before_used used h t places goes r.going);
}

-- main is the thread that runs
main-runs : (t : ℕ) (m : Thread) (x : Thread) → m.number ≡ 1 → find (is_thread t) (m ∷ []) ≡ Some x → (t ≡ 1) × (x ≡ m)
main-runs t m x is found = go (nat_eq m.number t) refl found
  where
    go : (b : Bool) → nat_eq m.number t ≡ b → find (is_thread t) (m ∷ []) ≡ Some x → (t ≡ 1) × (x ≡ m)
    go true same found = (sym (eqb-true m.number t same) ∙ is, grind (arith, same, found))
    go false apart found = absurd (grind (arith, apart, found))

over-ended : (m : Thread) (e : ThreadEnd) → m.worker ≡ Some 1 → not (list_any (λ t. not (is_settled t)) (record m { ended = Some e } ∷ [])) ≡ true
over-ended m e is = rw is refl

or_true : (b : Bool) → (b || true) ≡ true
or_true true = refl
or_true false = refl

told_closed : (h : List Entry) (t : ℕ) (e : ThreadEnd) → Free t (reading h).standing → IsClosed (h ++ record { worker = 1; thread = t; act = Act.End e } ∷ []) t
told_closed h t e f =
    let x : Entry = record { worker = 1; thread = t; act = Act.End e } in
    let m = main-alone h in
    let here = main-runs t m.row f.row m.number (ap (find (is_thread t)) (sym m.threads) ∙ f.found) in
    let later = (reading (h ++ x ∷ [])).standing in
    let ended : later.threads ≡ record m.row { ended = Some e } ∷ [] =
    ap (λ r. r.standing.threads) (reading-push h x) ∙ ap (changed_first (is_thread t) (λ y. record y { ended = Some e })) m.threads ∙ main_ended t m.row e (m.number ∙ sym here.0) in record {
      over = ap (λ ts. is_some later.halted || not (list_any (λ t. not (is_settled t)) ts)) ended
          ∙ ap (λ b. is_some later.halted || b) (over-ended m.row e (ap (λ y. y.worker) (sym here.1) ∙ f.started))
          ∙ or_true (is_some later.halted);
      each = ap (λ n. n ∷ []) (here.0 ∙ sym m.number) ∙ ap (map (λ x. x.number)) (sym ended);
    }
  where
    main_ended : (t : ℕ) (m : Thread) (e : ThreadEnd) → m.number ≡ t → changed_first (is_thread t) (λ y. record y { ended = Some e }) (m ∷ []) ≡ record m { ended = Some e } ∷ []
    main_ended t m e is = rw (eq-eqb m.number t is) refl

halt_closed : (h : List Entry) (t n : ℕ) → Free t (reading h).standing → IsClosed (h ++ record { worker = 1; thread = t; act = Act.Halt n } ∷ []) t
halt_closed h t n f =
    let x : Entry = record { worker = 1; thread = t; act = Act.Halt n } in
    let m = main-alone h in
    let here = main-runs t m.row f.row m.number (ap (find (is_thread t)) (sym m.threads) ∙ f.found) in
    let later = (reading (h ++ x ∷ [])).standing in
    let halted : later.halted ≡ Some n = halted-push h x ∙ ap (halted_after (Act.Halt n)) f.goes in record {
      over = ap (λ o. is_some o || not (list_any (λ t. not (is_settled t)) later.threads)) halted;
      each = ap (λ n. n ∷ []) (here.0 ∙ sym m.number) ∙ ap (map (λ x. x.number)) (sym (ap (λ r. r.standing.threads) (reading-push h x) ∙ m.threads));
    }

last_closed : (h : List Entry) (t : ℕ) (e : ThreadEnd) → Free t (reading h).standing → IsClosed (h ++ record { worker = 1; thread = t; act = act_of e } ∷ []) t
last_closed h t ThreadEnd.True f = told_closed h t ThreadEnd.True f
last_closed h t ThreadEnd.False f = told_closed h t ThreadEnd.False f
last_closed h t (ThreadEnd.Exception ball) f = told_closed h t (ThreadEnd.Exception ball) f
last_closed h t ThreadEnd.Budget f = told_closed h t ThreadEnd.Budget f
last_closed h t (ThreadEnd.Halt n) f = halt_closed h t n f

-- the request that ends the run
pub halted : (first : List Update) (search : Search) (limit : ℕ) (old new : Views → Search) (before_used used : ℕ) (out : List ℕ) (h h' : List Entry) (t : ℕ) (places later : List ℕ) (g n : ℕ) (reply : Reply) →
    HaltsWhenDone search → IsRunning first search limit old before_used h t places → ((v : Views) → StandsAt (Ask (Request.HaltRun n)) (old v) before_used out) → g ≡ length h →
    reply ≡ reply_to h t (Request.HaltRun n) → h' ≡ h ++ adds h 1 t (Request.HaltRun n) → TakesAt h (Got reply) old before_used new used → later ≡ places ++ g ∷ [] →
    IsHalted first search limit new used h' t later n
unfolding asked-last
halted first search limit old new before_used used out h h' t places later g n reply halts r at now tells grows one pushed =
    let f = r.going.free in
    let s = r.going.state in
    let is : served (Request.HaltRun n) t (reading h) ≡ (Reply.Done, Some (t, Act.Halt n)) = last-served (ThreadEnd.Halt n) t (reading h) f in
    let e : Entry = record { worker = 1; thread = t; act = Act.Halt n } in
    let grown : h' ≡ h ++ e ∷ [] = grows ∙ ap (λ x. h ++ entries_of 1 x.1) is in
    let tells_done : reply ≡ Reply.Done = tells ∙ ap (λ x. x.0) is in
    let v : Views = views_of (h ++ e ∷ []) in
    let are : AreViews h v = older-views h e v (own-views (h ++ e ∷ [])) in
    let done = subst (λ x. TakesAt h (Got x) old before_used new used) tells_done one v are in
    let within : used ≤ limit = omega (arith, r.going.within, done.0) in
    let waits : (old (views_of h) limit []).next ≡ Wants (Ask (Request.HaltRun n)) = ap (λ x. x.next) (at (views_of h) limit r.going.within) in
    let rests : search limit (s.answers ++ Got Reply.Done ∷ []) ≡ new v limit [] = r.going.rests v are limit (Got Reply.Done ∷ []) r.going.within ∙ done.1 limit [] within in
    subst (λ l. IsHalted first search limit new used l t later n) (sym grown)
    (subst (λ p. IsHalted first search limit new used (h ++ e ∷ []) t p n) (sym (pushed ∙ ap (λ g. places ++ g ∷ []) now)) (record {
      sound = sound-push first h e r.sound (last-due (ThreadEnd.Halt n) t (reading h) f) refl;
      closed = halt_closed h t n f;
      asked = asked-last search limit old before_used h t 1 places (ThreadEnd.Halt n) (ap item_of waits) is r.going;
      rests = rests;
      ends = sym (ap (λ x. x.next) rests)
          ∙ halts limit n s.answers r.going.common (asks-same search (old (views_of h)) limit before_used s.answers (Wants (Ask (Request.HaltRun n))) (r.going.rests (views_of h) (own-views h)) r.going.within waits);
      within = within;
    }))

-- what a thread asks while it goes on
abbrev pub MayWait : Request → Type 0
MayWait (Request.Publish us) = Unit {0}
MayWait (Request.EraseOne x) = Unit {0}
MayWait (Request.HaltRun n) = Unit {0}
MayWait q = ⊥

-- a request that a thread asks
pub served-by : (first : List Update) (search : Search) (limit : ℕ) (old new : Views → Search) (before_used used : ℕ) (out : List ℕ) (h h' : List Entry) (t : ℕ) (places later : List ℕ) (g : ℕ) (q : Request) (reply : Reply) →
    HaltsWhenDone search → MayWait q → IsRunning first search limit old before_used h t places → ((v : Views) → StandsAt (Ask q) (old v) before_used out) → g ≡ length h →
    reply ≡ reply_to h t q → h' ≡ h ++ adds h 1 t q → TakesAt h (Got reply) old before_used new used → later ≡ places ++ g ∷ [] → IsStarted first search limit new used h' t later
served-by first search limit old new before_used used out h h' t places later g (Request.Publish us) reply halts may r at now tells grows one pushed =
    Runs (published first search limit old new before_used used out h h' t places later g us reply r at now tells grows one pushed)
served-by first search limit old new before_used used out h h' t places later g (Request.EraseOne x) reply halts may r at now tells grows one pushed =
    Runs (erased first search limit old new before_used used out h h' t places later g x reply r at now tells grows one pushed)
served-by first search limit old new before_used used out h h' t places later g (Request.HaltRun n) reply halts may r at now tells grows one pushed =
    Halts n (halted first search limit old new before_used used out h h' t places later g n reply halts r at now tells grows one pushed)
served-by first search limit old new before_used used out h h' t places later g Request.Start reply halts never r at now tells grows one pushed = absurd never
served-by first search limit old new before_used used out h h' t places later g (Request.Finish e) reply halts never r at now tells grows one pushed = absurd never
served-by first search limit old new before_used used out h h' t places later g Request.Leave reply halts never r at now tells grows one pushed = absurd never

-- a thread that asks has not ended the run
pub still-runs : (first : List Update) (search : Search) (limit : ℕ) (rest : Views → Search) (used : ℕ) (out : List ℕ) (h : List Entry) (t : ℕ) (places : List ℕ) (q : Item) →
    ((v : Views) → StandsAt q (rest v) used out) → IsStarted first search limit rest used h t places → IsRunning first search limit rest used h t places
still-runs first search limit rest used out h t places q at (Runs r) = r
still-runs first search limit rest used out h t places q at (Halts n x) = absurd (apart q n (sym (ap (λ e. e.next) (at (views_of h) limit x.within)) ∙ x.ends))
  where
    apart : (q : Item) (n : ℕ) → Wants q ≡ Finishes (ThreadEnd.Halt n) → ⊥
    apart q n is = cc

-- the journal with main's last entry
ended_last : (first : List Update) (search : Search) (limit : ℕ) (rest : Views → Search) (used : ℕ) (out : List ℕ) (h h' : List Entry) (t : ℕ) (places : List ℕ) (e : ThreadEnd) (run : Run) →
    item_of_end e ≡ Some (Ask (last_of e)) → IsRunning first search limit rest used h t places → ((v : Views) → EndsAt limit e (rest v) used out) → h' ≡ h ++ adds h 1 t (last_of e) →
    run ≡ record { thread = t; places = places ++ length h ∷ []; steps = used; «end» = RunEnd.Ended e; output = out } → IsHistory first (λ t. search) limit h' (run ∷ [])
ended_last first search limit rest used out h h' t places e run item r says grows made =
    let f = r.going.free in
    let is : served (last_of e) t (reading h) ≡ (Reply.Done, Some (t, act_of e)) = last-served e t (reading h) f in
    let x : Entry = record { worker = 1; thread = t; act = act_of e } in
    let grown : h' ≡ h ++ x ∷ [] = grows ∙ ap (λ x. h ++ entries_of 1 x.1) is in
    let closed = last_closed h t e f in
    let sound = sound-push first h x r.sound (last-due e t (reading h) f) refl in
    subst (λ l. IsHistory first (λ t. search) limit l (run ∷ [])) (sym grown)
    (subst (λ y. IsHistory first (λ t. search) limit (h ++ x ∷ []) (y ∷ [])) (sym made) (record {
      legal = sound.legal;
      workers = sound.workers;
      over = closed.over;
      follow = (ended-told search limit rest used h t 1 places e out item says is r.going, tt);
      each = closed.each;
    }))

-- a thread that goes on comes to an end of its own, of which it tells
running_ends : (first : List Update) (search : Search) (limit : ℕ) (rest : Views → Search) (used : ℕ) (out : List ℕ) (h h' : List Entry) (t : ℕ) (places : List ℕ) (e : ThreadEnd) (run : Run) →
    HaltsNoSooner search → IsRunning first search limit rest used h t places → ((v : Views) → EndsAt limit e (rest v) used out) → h' ≡ told e t h →
    run ≡ record { thread = t; places = told_places e h places; steps = used; «end» = RunEnd.Ended e; output = out } → IsHistory first (λ t. search) limit h' (run ∷ [])
running_ends first search limit rest used out h h' t places (ThreadEnd.Halt n) run sooner r says grows made =
    let g = r.going in
    absurd (sooner limit n g.state.answers g.common (asks-same search (rest (views_of h)) limit used g.state.answers (Finishes (ThreadEnd.Halt n)) (g.rests (views_of h) (own-views h)) g.within (ap (λ e. e.next) ((says (views_of h)).1 []))))
running_ends first search limit rest used out h h' t places ThreadEnd.True run sooner r says grows made = ended_last first search limit rest used out h h' t places ThreadEnd.True run refl r says grows made
running_ends first search limit rest used out h h' t places ThreadEnd.False run sooner r says grows made = ended_last first search limit rest used out h h' t places ThreadEnd.False run refl r says grows made
running_ends first search limit rest used out h h' t places (ThreadEnd.Exception b) run sooner r says grows made = ended_last first search limit rest used out h h' t places (ThreadEnd.Exception b) run refl r says grows made
running_ends first search limit rest used out h h' t places ThreadEnd.Budget run sooner r says grows made = ended_last first search limit rest used out h h' t places ThreadEnd.Budget run refl r says grows made

-- one that has ended the run comes to that end
halted_ends : (first : List Update) (search : Search) (limit : ℕ) (rest : Views → Search) (used : ℕ) (out : List ℕ) (h h' : List Entry) (t : ℕ) (places : List ℕ) (n : ℕ) (e : ThreadEnd) (run : Run) →
    e ≡ ThreadEnd.Halt n → IsHalted first search limit rest used h t places n → ((v : Views) → EndsAt limit e (rest v) used out) → h' ≡ told e t h →
    run ≡ record { thread = t; places = told_places e h places; steps = used; «end» = RunEnd.Ended e; output = out } → IsHistory first (λ t. search) limit h' (run ∷ [])
halted_ends first search limit rest used out h h' t places n e run same x says grows made =
    let ended : EndsAt limit (ThreadEnd.Halt n) (rest (views_of h)) used out = subst (λ e. EndsAt limit e (rest (views_of h)) used out) same (says (views_of h)) in
    let is : run ≡ record { thread = t; places = places; steps = used; «end» = RunEnd.Ended (ThreadEnd.Halt n); output = out } =
    made ∙ ap (λ e. record { thread = t; places = told_places e h places; steps = used; «end» = RunEnd.Ended e; output = out }) same in
    subst (λ l. IsHistory first (λ t. search) limit l (run ∷ [])) (sym (grows ∙ ap (λ e. told e t h) same))
    (subst (λ y. IsHistory first (λ t. search) limit h (y ∷ [])) (sym is) (record {
      legal = x.sound.legal;
      workers = x.sound.workers;
      over = x.closed.over;
      follow = (record { asked = x.asked; ends = x.rests ∙ ended.1 [] }, tt);
      each = x.closed.each;
    }))

-- main's end
pub finished : (first : List Update) (search : Search) (limit : ℕ) (rest : Views → Search) (used : ℕ) (out : List ℕ) (h h' : List Entry) (t : ℕ) (places : List ℕ) (e : ThreadEnd) (run : Run) →
    HaltsNoSooner search → IsStarted first search limit rest used h t places → ((v : Views) → EndsAt limit e (rest v) used out) → h' ≡ told e t h →
    run ≡ record { thread = t; places = told_places e h places; steps = used; «end» = RunEnd.Ended e; output = out } → IsHistory first (λ t. search) limit h' (run ∷ [])
finished first search limit rest used out h h' t places e run sooner (Runs r) says grows made = running_ends first search limit rest used out h h' t places e run sooner r says grows made
finished first search limit rest used out h h' t places e run sooner (Halts n x) says grows made =
    halted_ends first search limit rest used out h h' t places n e run (same_end e n (sym (ap (λ e. e.next) ((says (views_of h)).1 [])) ∙ x.ends)) x says grows made
  where
    same_end : (e : ThreadEnd) (n : ℕ) → Finishes e ≡ Finishes (ThreadEnd.Halt n) → e ≡ ThreadEnd.Halt n
    same_end e n is = cc

-- the same for another name of the limit
pub relimit : (first : List Update) (search : ℕ → Search) (m n : ℕ) (rest : Views → Search) (used : ℕ) (h : List Entry) (t : ℕ) (places : List ℕ) → n ≡ m → IsRunning first (search m) m rest used h t places → IsRunning first (search n) n rest used h t places
relimit first search m n rest used h t places is r = subst (λ k. IsRunning first (search k) k rest used h t places) (sym is) r

-- the solver went on, by its limit
pub gone : (first : List Update) (search : ℕ → Search) (m n : ℕ) (old new : Views → Search) (before_used used : ℕ) (h : List Entry) (t : ℕ) (places later : List ℕ) →
    IsRunning first (search m) m old before_used h t places → GoesAt h m old before_used new used → later ≡ places → n ≡ m → IsRunning first (search n) n new used h t later
gone first search m n old new before_used used h t places later r goes same is = relimit first search m n new used h t later is (went first (search m) m old new before_used used h t places later r goes same)

-- the same for another name of the limit
pub started-same : (first : List Update) (search : ℕ → Search) (m n : ℕ) (rest : Views → Search) (used : ℕ) (h : List Entry) (t : ℕ) (places : List ℕ) → n ≡ m → IsStarted first (search m) m rest used h t places → IsStarted first (search n) n rest used h t places
started-same first search m n rest used h t places is r = subst (λ k. IsStarted first (search k) k rest used h t places) (sym is) r

-- one that has ended the run stays so
halted_gone : (first : List Update) (search : Search) (limit : ℕ) (old new : Views → Search) (before_used used : ℕ) (h : List Entry) (t : ℕ) (places : List ℕ) (k : ℕ) →
    IsHalted first search limit old before_used h t places k → GoesAt h limit old before_used new used → IsHalted first search limit new used h t places k
halted_gone first search limit old new before_used used h t places k x goes =
    let went_on = goes (views_of h) (own-views h) in
    let within : used ≤ limit = went_on.1 x.within in
    let same : old (views_of h) limit [] ≡ new (views_of h) limit [] = went_on.2 limit [] within in record {
      sound = x.sound;
      closed = x.closed;
      asked = x.asked;
      rests = x.rests ∙ same;
      ends = sym (ap (λ e. e.next) same) ∙ x.ends;
      within = within;
    }

-- the solver of a thread that was started went on
pub started-gone : (first : List Update) (search : ℕ → Search) (m n : ℕ) (old new : Views → Search) (before_used used : ℕ) (h : List Entry) (t : ℕ) (places later : List ℕ) →
    IsStarted first (search m) m old before_used h t places → GoesAt h m old before_used new used → later ≡ places → n ≡ m → IsStarted first (search n) n new used h t later
started-gone first search m n old new before_used used h t places later (Runs r) goes same is = Runs (gone first search m n old new before_used used h t places later r goes same is)
started-gone first search m n old new before_used used h t places later (Halts k x) goes same is =
    subst (λ j. IsStarted first (search j) j new used h t later) (sym is)
    (subst (IsStarted first (search m) m new used h t) (sym same) (Halts k (halted_gone first (search m) m old new before_used used h t places k x goes)))

pub used-within : (first : List Update) (search : Search) (limit : ℕ) (rest : Views → Search) (used : ℕ) (h : List Entry) (t : ℕ) (places : List ℕ) → IsStarted first search limit rest used h t places → used ≤ limit
used-within first search limit rest used h t places (Runs r) = r.going.within
used-within first search limit rest used h t places (Halts n x) = x.within

-- the reply to a request of a thread that goes on fits it
pub reply-fits : (h : List Entry) (t : ℕ) (q : Request) (r : Reply) → MayWait q → Free t (reading h).standing → r ≡ reply_to h t q → IsReplyTo q r
reply-fits h t (Request.Publish us) r may f tells = subst (IsReplyTo (Request.Publish us)) (sym (tells ∙ ap (λ x. x.0) (row-served (Request.Publish us) t (reading h) refl f))) refl
reply-fits h t (Request.EraseOne x) r may f tells = go (is_alive x (reading h).updates) refl
  where
    is : r ≡ (erase_row (is_alive x (reading h).updates) x t).0
    is = tells ∙ ap (λ y. y.0) (row-served (Request.EraseOne x) t (reading h) refl f)

    go : (b : Bool) → is_alive x (reading h).updates ≡ b → IsReplyTo (Request.EraseOne x) r
    go true lives = subst (IsReplyTo (Request.EraseOne x)) (sym (is ∙ ap (λ b. (erase_row b x t).0) lives)) refl
    go false gone = subst (IsReplyTo (Request.EraseOne x)) (sym (is ∙ ap (λ b. (erase_row b x t).0) gone)) refl
reply-fits h t (Request.HaltRun n) r may f tells = subst (IsReplyTo (Request.HaltRun n)) (sym (tells ∙ ap (λ x. x.0) (last-served (ThreadEnd.Halt n) t (reading h) f))) refl
reply-fits h t Request.Start r never f tells = absurd never
reply-fits h t (Request.Finish e) r never f tells = absurd never
reply-fits h t Request.Leave r never f tells = absurd never
