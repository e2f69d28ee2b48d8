-- Where a thread starts, as the journal grows.
use Rattle.std.proofs.Common.{◌≡◌, ℕ, List, [], ◌∷◌, ◌++◌, map, nat_eq, true, if◌then◌else◌, Option, Some, None, refl, sym, ap, ◌∙◌, subst, append-nil, eq-eqb}
use Rattle.std.specs.List.{find}
use Rattle.plevent.specs.declared.request.ThreadEnd.{ThreadEnd}
use Rattle.plevent.specs.declared.request.Request.{Request}
use Rattle.plevent.specs.declared.update.Update.{Update}
use Rattle.plevent.specs.declared.act.Entry.{Entry}
use Rattle.plevent.specs.declared.standing.Thread.{Thread}
use Rattle.plevent.specs.Reading.{reading, is_thread}
use Rattle.plevent.specs.Rows.{adds}
use Rattle.plevent.specs.Search.{Search}
use Rattle.plhist.specs.declared.history.Run.{Run}
use Rattle.plhist.specs.Follows.{Follows}
use Rattle.plprogram.specs.Program.{Program}
use Rattle.plsearch.specs.Search.{search_of}
use Rattle.plsearch.specs.Starts.{start_at, start_in, searches}
use Rattle.plsearch.proofs.Starts.{starts-stay}
use Rattle.plstore.specs.Looking.{Views}
use Rattle.plrun.specs.Going.{IsStarted, Runs, Halts}
use Rattle.plrun.specs.Halts.{told}
use Rattle.plrun.specs.Overall.{IsHistory}

-- a thread of the journal starts where it started
pub start-stays : (P : Program) (h more : List Entry) (t : ℕ) (x : Thread) → find (is_thread t) (reading h).standing.threads ≡ Some x → start_in P h t ≡ start_in P (h ++ more) t
start-stays P h more t x found = ap (start_at P t) found ∙ sym (starts-stay P h more t x found)

first-found : (t : ℕ) (ts : List Thread) → t ∷ [] ≡ map (λ x. x.number) ts → (x : Thread) × (find (is_thread t) ts ≡ Some x)
first-found t [] is = absurd (never is)
  where
    never : ◌≡◌ {A = List ℕ} (t ∷ []) [] → ⊥
    never is = cc
first-found t (x ∷ ts) is = (x, ap (λ b. if b then Some x else find (is_thread t) ts) (eq-eqb x.number t number))
  where
    number : x.number ≡ t
    number = cc

pub thread-found : (first : List Update) (search : Search) (limit : ℕ) (rest : Views → Search) (used : ℕ) (h : List Entry) (t : ℕ) (places : List ℕ) → IsStarted first search limit rest used h t places →
    (x : Thread) × (find (is_thread t) (reading h).standing.threads ≡ Some x)
thread-found first search limit rest used h t places (Runs r) = (r.going.free.row, r.going.free.found)
thread-found first search limit rest used h t places (Halts n x) = first-found t (reading h).standing.threads x.closed.each

-- the entry that tells of its end changes nothing of where it started
pub told-stays : (P : Program) (h : List Entry) (t : ℕ) (e : ThreadEnd) (x : Thread) → find (is_thread t) (reading h).standing.threads ≡ Some x → start_in P h t ≡ start_in P (told e t h) t
told-stays P h t (ThreadEnd.Halt n) x found = refl
told-stays P h t ThreadEnd.True x found = start-stays P h (adds h 1 t (Request.Finish ThreadEnd.True)) t x found
told-stays P h t ThreadEnd.False x found = start-stays P h (adds h 1 t (Request.Finish ThreadEnd.False)) t x found
told-stays P h t (ThreadEnd.Exception b) x found = start-stays P h (adds h 1 t (Request.Finish (ThreadEnd.Exception b))) t x found
told-stays P h t ThreadEnd.Budget x found = start-stays P h (adds h 1 t (Request.Finish ThreadEnd.Budget)) t x found

-- a history of one thread, whose search is that of the thread
pub history-of : (first : List Update) (search : Search) (all : ℕ → Search) (limit : ℕ) (h : List Entry) (run : Run) → search ≡ all run.thread → IsHistory first (λ t. search) limit h (run ∷ []) → IsHistory first all limit h (run ∷ [])
history-of first search all limit h run is x = record {
  legal = x.legal;
  workers = x.workers;
  over = x.over;
  follow = (subst (λ s. Follows s limit h run) is x.follow.0, tt);
  each = x.each;
}
