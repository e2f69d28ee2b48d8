-- What a running thread's requests come to, and what Start does.
use Rattle.std.proofs.Common.{◌≡◌, ℕ, Bool, true, false, ◌||◌, ◌&&◌, not, List, [], ◌∷◌, Some, None, refl, ap, ap₂, ◌∙◌, arith, nat_eq}
use Rattle.std.specs.List.{find, list_any}
use Rattle.std.specs.Option.{is_some, option_and_then}
use Rattle.plevent.specs.declared.request.ThreadEnd.{ThreadEnd}
use Rattle.plevent.specs.declared.request.Request.{Request}
use Rattle.plevent.specs.declared.request.Reply.{Reply}
use Rattle.plevent.specs.declared.update.Update.{Update}
use Rattle.plevent.specs.declared.act.Act.{Act}
use Rattle.plevent.specs.declared.standing.Thread.{Thread}
use Rattle.plevent.specs.declared.standing.Standing.{Standing}
use Rattle.plevent.specs.declared.update.ClauseName.{ClauseName}
use Rattle.plevent.specs.declared.update.Update.TheVariants.{Erase}
use Rattle.plevent.specs.Alive.{change_if, is_alive}
use Rattle.plevent.specs.Reading.{Reading, is_thread}
use Rattle.plevent.specs.Rows.{row, erase_row, served, served_while, is_workers, is_leave, is_new, start_row, runs}
use Rattle.plhist.specs.Follows.{last_of}
use Rattle.plhist.specs.Legal.{MayAsk, IsDue, worker_of}
use Rattle.plrun.specs.Going.{Free}

-- the act of a thread's last request
abbrev pub act_of : ThreadEnd → Act
act_of (ThreadEnd.Halt n) = Act.Halt n
act_of e = Act.End e

runs-found : (t : ℕ) (xs : List Thread) (x : Thread) → find (is_thread t) xs ≡ Some x → is_some x.worker ≡ true → is_some x.ended ≡ false →
    list_any (λ x. is_thread t x && is_some x.worker && not (is_some x.ended)) xs ≡ true
runs-found t [] x is started lives = absurd (grind (arith, is))
runs-found t (y ∷ ys) x is started lives = go (nat_eq y.number t) refl (λ i. runs-found t ys x i started lives) is
  where
    go : (b : Bool) → nat_eq y.number t ≡ b → (find (is_thread t) ys ≡ Some x → list_any (λ x. is_thread t x && is_some x.worker && not (is_some x.ended)) ys ≡ true) →
        find (is_thread t) (y ∷ ys) ≡ Some x → list_any (λ x. is_thread t x && is_some x.worker && not (is_some x.ended)) (y ∷ ys) ≡ true
    go true same next is = grind (arith, same, is, started, lives)
    go false apart next is = grind (arith, apart, next, is)

pub free-runs : (t : ℕ) (r : Standing) → Free t r → runs t r ≡ true
free-runs t r f = runs-found t r.threads f.row f.found (ap is_some f.started) (ap is_some f.lives)

-- a request of a thread that runs has its row
pub row-served : (q : Request) (t : ℕ) (r : Reading) → is_workers q ≡ false → Free t r.standing → served q t r ≡ row q t r
unfolding served
row-served q t r workers f =
    ap (λ o. change_if (is_some o && not (is_leave q)) (Reply.Stopped, None) (served_while q t r)) f.goes
    ∙ ap₂ (λ a b. change_if (a || b) (row q t r) (Reply.NotYet q, None)) workers (free-runs t r.standing f)

started-by : (t : ℕ) (r : Standing) → Free t r → worker_of t r.threads ≡ Some 1
started-by t r f = ap (option_and_then (λ x. x.worker)) f.found ∙ f.started

pub publish-due : (us : List Update) (t : ℕ) (r : Reading) → Free t r.standing → IsDue r (record { worker = 1; thread = t; act = Act.Batch us })
publish-due us t r f = record { asked = Request.Publish us; thread = t; may = started-by t r.standing f; made = ap (λ x. x.1) (row-served (Request.Publish us) t r refl f) }

pub erase-due : (x : ClauseName) (t : ℕ) (r : Reading) → Free t r.standing → is_alive x r.updates ≡ true → IsDue r (record { worker = 1; thread = t; act = Act.Batch (Erase x ∷ []) })
erase-due x t r f lives = record {
  asked = Request.EraseOne x;
  thread = t;
  may = started-by t r.standing f;
  made = ap (λ y. y.1) (row-served (Request.EraseOne x) t r refl f ∙ ap (λ b. erase_row b x t) lives);
}

-- the last request of a thread that runs
pub last-served : (e : ThreadEnd) (t : ℕ) (r : Reading) → Free t r.standing → served (last_of e) t r ≡ (Reply.Done, Some (t, act_of e))
last-served ThreadEnd.True t r f = row-served (Request.Finish ThreadEnd.True) t r refl f
last-served ThreadEnd.False t r f = row-served (Request.Finish ThreadEnd.False) t r refl f
last-served (ThreadEnd.Exception ball) t r f = row-served (Request.Finish (ThreadEnd.Exception ball)) t r refl f
last-served ThreadEnd.Budget t r f = row-served (Request.Finish ThreadEnd.Budget) t r refl f
last-served (ThreadEnd.Halt n) t r f = row-served (Request.HaltRun n) t r refl f

last_may : (e : ThreadEnd) (t : ℕ) (r : Standing) → worker_of t r.threads ≡ Some 1 → MayAsk r 1 t (last_of e)
last_may ThreadEnd.True t r by = by
last_may ThreadEnd.False t r by = by
last_may (ThreadEnd.Exception ball) t r by = by
last_may ThreadEnd.Budget t r by = by
last_may (ThreadEnd.Halt n) t r by = by

pub last-due : (e : ThreadEnd) (t : ℕ) (r : Reading) → Free t r.standing → IsDue r (record { worker = 1; thread = t; act = act_of e })
last-due e t r f = record { asked = last_of e; thread = t; may = last_may e t r.standing (started-by t r.standing f); made = ap (λ x. x.1) (last-served e t r f) }

-- Start takes a new thread, if there is one
pub start-served : (t : ℕ) (r : Reading) → r.standing.halted ≡ None → served Request.Start t r ≡ start_row r.standing (find is_new r.standing.threads)
unfolding served
start-served t r goes = ap (λ o. change_if (is_some o && true) (Reply.Stopped, None) (served_while Request.Start t r)) goes

pub start-due : (t : ℕ) (r : Reading) (x : Thread) → r.standing.halted ≡ None → find is_new r.standing.threads ≡ Some x → IsDue r (record { worker = 1; thread = x.number; act = Act.Start })
start-due t r x goes is = record { asked = Request.Start; thread = t; may = (omega arith, omega arith); made = ap (λ y. y.1) (start-served t r goes) ∙ ap (λ o. (start_row r.standing o).1) is }
