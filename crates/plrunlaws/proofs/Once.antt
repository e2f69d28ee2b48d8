-- A thread's end is told once: behind it the thread asks for nothing that is served.
use Rattle.std.proofs.Common.{◌≡◌, ℕ, zero, suc, ◌+◌, ◌<◌, ◌≤◌, Bool, true, false, ◌||◌, ◌&&◌, not, is_some, All, List, [], ◌∷◌, ◌++◌, length, take, fold, nat_eq, Option, Some, None, refl, sym, ap, ◌∙◌, subst, arith, append_assoc, eq-eqb, eqb-true}
use Rattle.std.specs.List.{list_any}
use Rattle.plevent.specs.declared.request.ThreadEnd.{ThreadEnd}
use Rattle.plevent.specs.declared.request.Reply.{Reply}
use Rattle.plevent.specs.declared.act.Act.{Act}
use Rattle.plevent.specs.declared.act.Entry.{Entry}
use Rattle.plevent.specs.declared.standing.Thread.{Thread}
use Rattle.plevent.specs.Alive.{change_if}
use Rattle.plevent.specs.Reading.{Reading, reading, read, blank, changed_first, is_thread, threads_after, halted_after}
use Rattle.plevent.specs.Rows.{is_halted, is_workers, is_leave, runs, served}
use Rattle.plevent.specs.Search.{Ask, Got}
use Rattle.plhist.specs.Follows.{own, own_from, own_if, Taken, replied, last_of}
use Rattle.plhist.proofs.Alone.{main-alone}
use Rattle.plhist.proofs.OneMore.{after-append}
use Rattle.plrunlaws.specs.Standing.{Followed, started, IsNoEnd, EndsOnce}
use Rattle.plrunlaws.proofs.Items.{none-some, the-same, answer-is}
use Rattle.plrunlaws.proofs.Served.{served-as}
use Rattle.plrunlaws.proofs.Standing.{made-below}
use Rattle.plrunlaws.proofs.Ends.{ends-with-its-end}
use Rattle.plrunlaws.proofs.Lists.{heads, all-parts, all-at, last-same}

-- all rows of a thread have ended
abbrev AllEnded : ℕ → List Thread → Type 0
AllEnded t [] = Unit {0}
AllEnded t (x ∷ xs) = (x.number ≡ t → is_some x.ended ≡ true) × AllEnded t xs

changed-ended : (t other : ℕ) (f : Thread → Thread) → ((x : Thread) → (f x).number ≡ x.number) → ((x : Thread) → is_some x.ended ≡ true → is_some (f x).ended ≡ true) →
    (ts : List Thread) → AllEnded t ts → AllEnded t (changed_first (is_thread other) f ts)
changed-ended t other f same keeps [] all = tt
changed-ended t other f same keeps (x ∷ xs) all = go (is_thread other x) (changed-ended t other f same keeps xs all.1)
  where
    go : (b : Bool) → AllEnded t (changed_first (is_thread other) f xs) → AllEnded t (change_if b (f x ∷ xs) (x ∷ changed_first (is_thread other) f xs))
    go true more = (λ is. keeps x (all.0 (sym (same x) ∙ is)), all.1)
    go false more = (all.0, more)

after-ended : (t w other : ℕ) (a : Act) (ts : List Thread) → AllEnded t ts → AllEnded t (threads_after w other a ts)
after-ended t w other Act.Start ts all = changed-ended t other (λ x. record x { worker = Some w }) (λ x. refl) (λ x is. is) ts all
after-ended t w other (Act.Batch us) ts all = all
after-ended t w other (Act.End e) ts all = changed-ended t other (λ x. record x { ended = Some e }) (λ x. refl) (λ x is. refl) ts all
after-ended t w other (Act.Halt n) ts all = all
after-ended t w other Act.Left ts all = changed-ended t other (λ x. record x { left = true }) (λ x. refl) (λ x is. is) ts all

fold-ended : (t : ℕ) (es : List Entry) (r : Reading) → AllEnded t r.standing.threads → AllEnded t (fold read r es).standing.threads
fold-ended t [] r all = all
fold-ended t (e ∷ es) r all = fold-ended t es (read r e) (after-ended t e.worker e.thread e.act r.standing.threads all)

after-halted : (a : Act) (o : Option ℕ) → is_some o ≡ true → is_some (halted_after a o) ≡ true
after-halted Act.Start o is = is
after-halted (Act.Batch us) o is = is
after-halted (Act.End e) o is = is
after-halted (Act.Halt m) None is = refl
after-halted (Act.Halt m) (Some n) is = refl
after-halted Act.Left o is = is

fold-halted : (es : List Entry) (r : Reading) → is_halted r.standing ≡ true → is_halted (fold read r es).standing ≡ true
fold-halted [] r is = is
fold-halted (e ∷ es) r is = fold-halted es (read r e) (after-halted e.act r.standing.halted is)

-- a thread that has ended does not run
runs-not : (t : ℕ) (ts : List Thread) → AllEnded t ts → list_any (λ x. is_thread t x && is_some x.worker && not (is_some x.ended)) ts ≡ true → ⊥
runs-not t [] all is = never is
  where
    never : false ≡ true → ⊥
    never is = cc
runs-not t (x ∷ xs) all is = runs-not t xs all.1 (sym (ap (λ b. b || list_any (λ x. is_thread t x && is_some x.worker && not (is_some x.ended)) xs) (test (is_thread t x) (is_some x.worker) (is_some x.ended) (λ same. all.0 (eqb-true x.number t same)))) ∙ is)
  where
    test : (a w e : Bool) → (a ≡ true → e ≡ true) → (a && w && not e) ≡ false
    test true true e h = ap (λ e. true && true && not e) (h refl)
    test true false e h = refl
    test false w e h = refl

-- main is the only thread, and so the entry of an end ends all rows of its thread
end-all : (t w : ℕ) (e : ThreadEnd) (row : Thread) (ts : List Thread) → ts ≡ row ∷ [] → AllEnded t (threads_after w t (Act.End e) ts)
end-all t w e row ts alone = subst (λ l. AllEnded t (threads_after w t (Act.End e) l)) (sym alone) (go (nat_eq row.number t) refl)
  where
    go : (b : Bool) → nat_eq row.number t ≡ b → AllEnded t (change_if b (record row { ended = Some e } ∷ []) (row ∷ []))
    go true is = (λ same. refl, tt)
    go false is = (λ same. absurd (never (sym (eq-eqb row.number t same) ∙ is)), tt)
      where
        never : true ≡ false → ⊥
        never is = cc

abbrev Mine : Type 0
Mine = List (ℕ × Act)

-- an entry of a thread in a journal
record IsEntry (i t : ℕ) (h : List Entry) (x : ℕ × Act) : Type 0 where
  before : List Entry
  entry : Entry
  behind : List Entry
  split : h ≡ before ++ entry ∷ behind
  place : x.0 ≡ i + length before
  thread : entry.thread ≡ t
  act : entry.act ≡ x.1

own-at : (t i : ℕ) (h : List Entry) (xs ys : Mine) (x : ℕ × Act) → own_from i t h ≡ xs ++ x ∷ ys → IsEntry i t h x
own-at t i [] xs ys x is = absurd (empty xs is)
  where
    never : (y : ℕ × Act) (l : Mine) → ◌≡◌ {A = Mine} [] (y ∷ l) → ⊥
    never y l is = cc

    empty : (xs : Mine) → ◌≡◌ {A = Mine} [] (xs ++ x ∷ ys) → ⊥
    empty [] is = never x ys is
    empty (z ∷ zs) is = never z (zs ++ x ∷ ys) is
own-at t i (e ∷ es) xs ys x is = go (nat_eq e.thread t) refl xs is (λ xs. own-at t (suc i) es xs ys x)
  where
    further : IsEntry (suc i) t es x → IsEntry i t (e ∷ es) x
    further it = let at = it.place in record {
      before = e ∷ it.before;
      entry = it.entry;
      behind = it.behind;
      split = ap (λ l. e ∷ l) it.split;
      place = omega (arith, at);
      thread = it.thread;
      act = it.act;
    }

    go : (b : Bool) → nat_eq e.thread t ≡ b → (xs : Mine) → own_if b i e.act (own_from (suc i) t es) ≡ xs ++ x ∷ ys → ((xs : Mine) → own_from (suc i) t es ≡ xs ++ x ∷ ys → IsEntry (suc i) t es x) → IsEntry i t (e ∷ es) x
    go false other xs is more = further (more xs is)
    go true mine [] is more =
        let same = (heads (i, e.act) x (own_from (suc i) t es) ys is).0 in
        let place : x.0 ≡ i = ap (λ x. x.0) (sym same) in
        record { before = []; entry = e; behind = es; split = refl; place = omega (arith, place); thread = eqb-true e.thread t mine; act = ap (λ x. x.1) same }
    go true mine (z ∷ zs) is more = further (more zs (heads (i, e.act) z (own_from (suc i) t es) (zs ++ x ∷ ys) is).1)

take-past : (xs : List Entry) (e : Entry) (ys : List Entry) (n : ℕ) → length xs < n → (more : List Entry) × (take n (xs ++ e ∷ ys) ≡ xs ++ e ∷ more)
take-past [] e ys zero lt = absurd (omega (arith, lt))
take-past [] e ys (suc n) lt = (take n ys, refl)
take-past (x ∷ xs) e ys zero lt = absurd (omega (arith, lt))
take-past (x ∷ xs) e ys (suc n) lt = let more = take-past xs e ys n (omega (arith, lt)) in (more.0, ap (λ l. x ∷ l) more.1)

-- what the journal up to a later place says
reading-past : (before : List Entry) (e : Entry) (behind : List Entry) (n : ℕ) → length before < n →
    (more : List Entry) × (reading (take n (before ++ e ∷ behind)) ≡ fold read (read (reading before) e) more)
unfolding reading
reading-past before e behind n lt =
    let some = take-past before e behind n lt in (some.0, ap (fold read blank) some.1 ∙ after-append blank before (e ∷ some.0))

-- a last request that is answered Done is one of a thread that runs
done-needs : (e : ThreadEnd) (t : ℕ) (r : Reading) (g : ℕ) (s s' : Taken) → replied (served (last_of e) t r) g s ≡ Some s' → s'.answers ≡ s.answers ++ Got Reply.Done ∷ [] →
    (runs t r.standing ≡ true) × (is_halted r.standing ≡ false)
done-needs e t r g s s' is told =
    served-as (last_of e) t r (λ x. replied x g s ≡ Some s' → (runs t r.standing ≡ true) × (is_halted r.standing ≡ false))
    (λ is. absurd (unlike (last-same s.answers s.answers (Got Reply.Stopped) (Got Reply.Done) (ap (λ s. s.answers) (the-same _ s' is) ∙ told))))
    (λ is. none-some s' is)
    (λ may goes is. (sym (ap (λ b. b || runs t r.standing) (threads-ask e)) ∙ may, clear (is_halted r.standing) goes)) is
  where
    unlike : Got Reply.Stopped ≡ Got Reply.Done → ⊥
    unlike is = cc

    threads-ask : (e : ThreadEnd) → is_workers (last_of e) ≡ false
    threads-ask ThreadEnd.True = refl
    threads-ask ThreadEnd.False = refl
    threads-ask (ThreadEnd.Exception b) = refl
    threads-ask ThreadEnd.Budget = refl
    threads-ask (ThreadEnd.Halt n) = refl

    stays : (e : ThreadEnd) → is_leave (last_of e) ≡ false
    stays ThreadEnd.True = refl
    stays ThreadEnd.False = refl
    stays (ThreadEnd.Exception b) = refl
    stays ThreadEnd.Budget = refl
    stays (ThreadEnd.Halt n) = refl

    clear : (b : Bool) → (b && not (is_leave (last_of e))) ≡ false → b ≡ false
    clear true goes = sym (ap not (stays e)) ∙ goes
    clear false goes = refl

no-end : (f : Followed) (xs ys : Mine) (x : ℕ × Act) → started f f.ended.asked.before.made ≡ xs ++ x ∷ ys → IsNoEnd x.1
unfolding own
no-end f xs ys x is = go x.1 refl
  where
    owns : (z : ℕ × Act) → own f.run.thread f.journal ≡ started f f.ended.asked.before.made ++ z ∷ [] → IsEntry 0 f.run.thread f.journal x
    owns z all = own-at f.run.thread 0 f.journal xs (ys ++ z ∷ []) x (all ∙ ap (λ l. l ++ z ∷ []) is ∙ append_assoc xs (x ∷ ys) (z ∷ []))

    it : IsEntry 0 f.run.thread f.journal x
    it = owns _ (ends-with-its-end f)

    low : (f.ended.asked.before.low ≤ f.ended.asked.final)
    low = (answer-is f.journal f.run.thread (Ask (last_of f.came_to)) f.ended.asked.final f.ended.asked.before f.ended.asked.last f.ended.asked.finished).0

    early : length it.before < f.ended.asked.final
    early =
        let below : x.0 < f.ended.asked.before.low =
        all-at (λ x. x.0 < f.ended.asked.before.low) xs x ys (subst (All (λ x. x.0 < f.ended.asked.before.low)) is (made-below f f.ended.asked.earlier f.ended.asked.before f.ended.asked.items)) in
        let place = it.place in
        let le = low in
        omega (arith, below, place, le)

    past : (more : List Entry) × (reading (take f.ended.asked.final f.journal) ≡ fold read (read (reading it.before) it.entry) more)
    past =
        let some = reading-past it.before it.entry it.behind f.ended.asked.final early in
        (some.0, ap (λ h. reading (take f.ended.asked.final h)) it.split ∙ some.1)

    needs : (runs f.run.thread (reading (take f.ended.asked.final f.journal)).standing ≡ true) × (is_halted (reading (take f.ended.asked.final f.journal)).standing ≡ false)
    needs =
        let q = f.ended.asked in
        done-needs f.came_to f.run.thread (reading (take q.final f.journal)) q.final q.before q.last (answer-is f.journal f.run.thread (Ask (last_of f.came_to)) q.final q.before q.last q.finished).1 q.told

    apart : true ≡ false → ⊥
    apart is = cc

    go : (a : Act) → x.1 ≡ a → IsNoEnd a
    go Act.Start at = tt
    go (Act.Batch us) at = tt
    go Act.Left at = tt
    go (Act.End e) at =
        let r = reading it.before in
        let alone = main-alone it.before in
        let here : AllEnded f.run.thread (read r it.entry).standing.threads =
        subst (λ t. AllEnded f.run.thread (threads_after it.entry.worker t it.entry.act r.standing.threads)) (sym it.thread)
        (subst (λ a. AllEnded f.run.thread (threads_after it.entry.worker f.run.thread a r.standing.threads)) (sym (it.act ∙ at)) (end-all f.run.thread it.entry.worker e alone.row r.standing.threads alone.threads)) in
        runs-not f.run.thread (reading (take f.ended.asked.final f.journal)).standing.threads (subst (λ r. AllEnded f.run.thread r.standing.threads) (sym past.1) (fold-ended f.run.thread past.0 (read r it.entry) here)) needs.0
    go (Act.Halt n) at =
        let r = reading it.before in
        let here : is_halted (read r it.entry).standing ≡ true = ap (λ a. is_some (halted_after a r.standing.halted)) (it.act ∙ at) ∙ some r.standing.halted in
        apart (sym (ap (λ r. is_halted r.standing) past.1 ∙ fold-halted past.0 (read r it.entry) here) ∙ needs.1)
      where
        some : (o : Option ℕ) → is_some (halted_after (Act.Halt n) o) ≡ true
        some None = refl
        some (Some m) = refl

pub ends-once : EndsOnce
ends-once f = all-parts (λ x. IsNoEnd x.1) (started f f.ended.asked.before.made) (no-end f)

pub ruleset laws = (ends-once)
