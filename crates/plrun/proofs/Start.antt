-- What Start comes to, before main runs and when all is over.
use Rattle.std.proofs.Common.{◌≡◌, ℕ, true, ◌&&◌, List, [], ◌∷◌, ◌++◌, Option, Some, None, refl, sym, ap, ap₂, ◌∙◌, subst, arith, append-nil, true≢false, inl, inr, ◌⊎◌}
use Rattle.std.specs.List.{find}
use Rattle.std.specs.Option.{is_some}
use Rattle.plterm.specs.Tree.{Tree}
use Rattle.plevent.specs.declared.request.Request.{Request}
use Rattle.plevent.specs.declared.request.Reply.{Reply}
use Rattle.plevent.specs.declared.update.Update.{Update}
use Rattle.plevent.specs.declared.act.Act.{Act}
use Rattle.plevent.specs.declared.act.Entry.{Entry}
use Rattle.plevent.specs.declared.standing.Thread.{Thread}
use Rattle.plevent.specs.declared.standing.Standing.{Standing}
use Rattle.plevent.specs.Alive.{change_if}
use Rattle.plevent.specs.Reading.{reading, new_thread, main}
use Rattle.plevent.specs.Rows.{served, served_while, start_row, adds, reply_to, entries_of, is_new, is_over}
use Rattle.plevent.specs.Search.{Search}
use Rattle.plhist.specs.declared.history.Run.{Run}
use Rattle.plhist.specs.Follows.{own, takes, from_start}
use Rattle.plhist.specs.Legal.{opening, Over}
use Rattle.plhist.proofs.Alone.{main-alone}
use Rattle.plprogram.specs.Program.{Program}
use Rattle.plsearch.specs.Search.{Start, main_start, start_with}
use Rattle.plsearch.specs.Solving.{Begins}
use Rattle.plsearch.specs.Starts.{start_in}
use Rattle.plsearch.proofs.Starts.{main-starts}
use Rattle.plstore.specs.Looking.{Views}
use Rattle.plrun.specs.Going.{IsRunning}
use Rattle.plrun.specs.Overall.{IsHistory}
use Rattle.plrun.proofs.Grow.{one-worker}
use Rattle.plrun.proofs.Rows.{start-due, start-served}

-- nothing has run yet, or all has
pub data Stage (first : List Update) (searches : List Entry → ℕ → Search) (limit : ℕ) (h : List Entry) (runs : List Run) : Type 0 where
  Before : h ≡ opening first ∷ [] → runs ≡ [] → Stage first searches limit h runs
  Behind : IsHistory first (searches h) limit h runs → Stage first searches limit h runs

first_row : (first : List Update) → served Request.Start 0 (reading (opening first ∷ [])) ≡ (Reply.Started 1 (Some main) None, Some (1, Act.Start))
unfolding served reading
first_row first = refl

start_entry : Entry
start_entry = record { worker = 1; thread = 1; act = Act.Start }

number_of : Reply → ℕ
number_of (Reply.Started n a g) = n
number_of Reply.RunOver = 0
number_of Reply.Stopped = 0
number_of (Reply.NotYet q) = 0
number_of Reply.Published = 0
number_of Reply.Done = 0
number_of Reply.Erased = 0
number_of Reply.Gone = 0
number_of Reply.Shut = 0

main_begun : (first : List Update) (search : Search) (limit : ℕ) (rest : Views → Search) (used : ℕ) → ((v : Views) → Begins search (rest v) used) → IsRunning first search limit rest used (opening first ∷ start_entry ∷ []) 1 []
unfolding takes reading own start_entry
main_begun first search limit rest used begins = record {
  sound = record {
    legal = record { later = start_entry ∷ []; opens = refl; due = (start-due 0 (reading (opening first ∷ [])) (new_thread 1 (Some main)) refl refl, tt) };
    workers = one-worker start_entry refl;
  };
  going = record {
    start = 1;
    state = from_start 1;
    common = tt;
    owns = refl;
    items = λ n le. refl;
    rests = λ v are n answers le. (begins v).1 n answers;
    within = omega (arith, (begins (λ g. [])).0);
    low = omega arith;
    free = record { row = record (new_thread 1 (Some main)) { worker = Some 1 }; found = refl; started = refl; lives = refl; goes = refl };
  };
}

over_row : (r : Standing) (m : Thread) → r.threads ≡ m ∷ [] → r.halted ≡ None → is_over r ≡ true → start_row r (find is_new r.threads) ≡ (Reply.RunOver, None)
over_row r m alone goes over = go m.worker refl
  where
    go : (w : Option ℕ) → m.worker ≡ w → start_row r (find is_new r.threads) ≡ (Reply.RunOver, None)
    go None is = absurd (true≢false (sym over ∙ rw (goes, alone) (rw is refl)))
    go (Some w) is =
        let none : find is_new r.threads ≡ None = rw alone (rw is refl) in
        ap (start_row r) none ∙ ap (λ b. (change_if b Reply.RunOver (Reply.NotYet Request.Start), None)) over

-- where a run is over, no thread is started
record Unstarted (h : List Entry) : Type 0 where
  told : Reply
  row : served Request.Start 0 (reading h) ≡ (told, None)
  never : (n : ℕ) (a : Option (List ℕ)) (g : Option Tree) → told ≡ Reply.Started n a g → ⊥

over_served : (h : List Entry) → Over h → Unstarted h
unfolding served
over_served h over = go (reading h).standing.halted refl
  where
    stopped : (n : ℕ) → (reading h).standing.halted ≡ Some n → served Request.Start 0 (reading h) ≡ (Reply.Stopped, None)
    stopped n is = ap (λ o. change_if (is_some o && true) (Reply.Stopped, None) (served_while Request.Start 0 (reading h))) is

    go : (o : Option ℕ) → (reading h).standing.halted ≡ o → Unstarted h
    go (Some n) is = record { told = Reply.Stopped; row = stopped n is; never = λ n a g same. cc }
    go None is = let m = main-alone h in record { told = Reply.RunOver; row = start-served 0 (reading h) is ∙ over_row (reading h).standing m.row m.threads is over; never = λ n a g same. cc }

-- Start was answered Started: main runs
pub begun : (first : List Update) (search : Search) (limit : ℕ) (rest : Views → Search) (used : ℕ) (h h' : List Entry) (reply : Reply) (n : ℕ) (a : Option (List ℕ)) (g : Option Tree) →
    (h ≡ opening first ∷ []) ⊎ Over h → reply ≡ reply_to h 0 Request.Start → h' ≡ h ++ adds h 1 0 Request.Start → reply ≡ Reply.Started n a g → ((v : Views) → Begins search (rest v) used) →
    IsRunning first search limit rest used h' n [] × (h ≡ opening first ∷ [])
unfolding number_of start_entry
begun first search limit rest used h h' reply n a g (inl opens) tells grows is begins =
    let row : served Request.Start 0 (reading h) ≡ (Reply.Started 1 (Some main) None, Some (1, Act.Start)) = ap (λ l. served Request.Start 0 (reading l)) opens ∙ first_row first in
    let number : 1 ≡ n = ap number_of (sym (ap (λ x. x.0) row) ∙ sym tells ∙ is) in
    let grown : h' ≡ opening first ∷ start_entry ∷ [] = grows ∙ ap₂ (λ l x. l ++ entries_of 1 x.1) opens row in
    (subst (λ l. IsRunning first search limit rest used l n []) (sym grown) (subst (λ n. IsRunning first search limit rest used (opening first ∷ start_entry ∷ []) n []) number (main_begun first search limit rest used begins)), opens)
begun first search limit rest used h h' reply n a g (inr over) tells grows is begins =
    let all = over_served h over in absurd (all.never n a g (sym (ap (λ x. x.0) all.row) ∙ sym tells ∙ is))

-- what the reply says of where the thread starts
start_told : Program → Reply → Start
start_told P (Reply.Started n a g) = start_with P (record { number = n; alias = a }) g
start_told P r = main_start P

-- and it starts there
pub begun-there : (P : Program) (h h' : List Entry) (reply : Reply) (n : ℕ) (a : Option (List ℕ)) (g : Option Tree) →
    h ≡ opening P.first ∷ [] → reply ≡ reply_to h 0 Request.Start → reply ≡ Reply.Started n a g → start_with P (record { number = n; alias = a }) g ≡ start_in P h' n
unfolding number_of start_told
begun-there P h h' reply n a g opens tells is =
    let said : Reply.Started n a g ≡ Reply.Started 1 (Some main) None = sym is ∙ tells ∙ ap (λ x. x.0) (ap (λ l. served Request.Start 0 (reading l)) opens ∙ first_row P.first) in
    ap (start_told P) said ∙ sym (main-starts P h') ∙ ap (start_in P h') (sym (ap number_of said))

-- Start was answered otherwise: the run is over
pub not_begun : (first : List Update) (h h' : List Entry) (reply : Reply) →
    (h ≡ opening first ∷ []) ⊎ Over h → reply ≡ reply_to h 0 Request.Start → h' ≡ h ++ adds h 1 0 Request.Start → ((n : ℕ) (a : Option (List ℕ)) (g : Option Tree) → reply ≡ Reply.Started n a g → ⊥) →
    Over h × (h' ≡ h)
not_begun first h h' reply (inl opens) tells grows never =
    absurd (never 1 (Some main) None (tells ∙ ap (λ x. x.0) (ap (λ l. served Request.Start 0 (reading l)) opens ∙ first_row first)))
not_begun first h h' reply (inr over) tells grows never = (over, grows ∙ ap (λ x. h ++ entries_of 1 x.1) (over_served h over).row ∙ append-nil h)

first_goes_on : (first : List Update) → Over (opening first ∷ []) → ⊥
unfolding reading
first_goes_on first over = true≢false (sym over)

-- what may be started, by the stage
pub stage-starts : (first : List Update) (searches : List Entry → ℕ → Search) (limit : ℕ) (h : List Entry) (runs : List Run) → Stage first searches limit h runs → (h ≡ opening first ∷ []) ⊎ Over h
stage-starts first searches limit h runs (Before opens none) = inl opens
stage-starts first searches limit h runs (Behind all) = inr all.over

pub stage-first : (first : List Update) (searches : List Entry → ℕ → Search) (limit : ℕ) (h : List Entry) (runs : List Run) → Stage first searches limit h runs → h ≡ opening first ∷ [] → runs ≡ []
stage-first first searches limit h runs (Before opens none) is = none
stage-first first searches limit h runs (Behind all) is = absurd (first_goes_on first (subst Over is all.over))

pub stage-over : (first : List Update) (searches : List Entry → ℕ → Search) (limit : ℕ) (h h' : List Entry) (runs : List Run) → Stage first searches limit h runs → Over h → h' ≡ h → IsHistory first (searches h') limit h' runs
stage-over first searches limit h h' runs (Before opens none) over is = absurd (first_goes_on first (subst Over opens over))
stage-over first searches limit h h' runs (Behind all) over is = subst (λ l. IsHistory first (searches l) limit l runs) (sym is) all

-- main's run is the first and the last
pub stage-run : (first : List Update) (searches : List Entry → ℕ → Search) (limit : ℕ) (h : List Entry) (runs later : List Run) (run : Run) → runs ≡ [] → later ≡ runs ++ run ∷ [] → IsHistory first (searches h) limit h (run ∷ []) → Stage first searches limit h later
stage-run first searches limit h runs later run none pushed all = Behind (subst (IsHistory first (searches h) limit h) (sym (pushed ∙ ap (λ l. l ++ run ∷ []) none)) all)
