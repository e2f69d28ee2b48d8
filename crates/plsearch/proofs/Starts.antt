-- Where a thread starts stays, whatever its journal gets.
use Rattle.std.proofs.Common.{◌≡◌, ℕ, Bool, true, false, if◌then◌else◌, List, [], ◌∷◌, ◌++◌, fold, nat_eq, Option, Some, None, refl, sym, ap, ◌∙◌}
use Rattle.std.specs.List.{find}
use Rattle.plevent.specs.declared.act.Act.{Act}
use Rattle.plevent.specs.declared.act.Entry.{Entry}
use Rattle.plevent.specs.declared.standing.Thread.{Thread}
use Rattle.plevent.specs.Alive.{change_if}
use Rattle.plevent.specs.Reading.{Reading, reading, read, blank, new_thread, main, changed_first, is_thread, threads_after}
use Rattle.plprogram.specs.Program.{Program}
use Rattle.plsearch.specs.Search.{Start, main_start}
use Rattle.plsearch.specs.Starts.{start_by, start_at}
use Rattle.plsearch.specs.Laws.{StartsStay, MainStarts}

-- a thread is there, and starts so
record Found (P : Program) (t : ℕ) (ts : List Thread) (s : Start) : Type 0 where
  row : Thread
  found : find (is_thread t) ts ≡ Some row
  starts : start_by P row ≡ s

find-cons : (t : ℕ) (y : Thread) (ts : List Thread) (b : Bool) → nat_eq y.number t ≡ b → find (is_thread t) (y ∷ ts) ≡ (if b then Some y else find (is_thread t) ts)
find-cons t y ts b is = ap (λ b. if b then Some y else find (is_thread t) ts) is

changed-found : (P : Program) (t other : ℕ) (f : Thread → Thread) → ((x : Thread) → (f x).number ≡ x.number) → ((x : Thread) → start_by P (f x) ≡ start_by P x) → (ts : List Thread) (s : Start) →
    Found P t ts s → Found P t (changed_first (is_thread other) f ts) s
changed-found P t other f numbers starts [] s h = absurd (never h.found)
  where
    never : ◌≡◌ {A = Option Thread} None (Some h.row) → ⊥
    never is = cc
changed-found P t other f numbers starts (y ∷ ts) s h = go (nat_eq y.number t) refl (is_thread other y) (changed-found P t other f numbers starts ts s)
  where
    first : nat_eq y.number t ≡ true → start_by P y ≡ s
    first is = let same : Some y ≡ Some h.row = sym (find-cons t y ts true is) ∙ h.found in let row : y ≡ h.row = cc in ap (start_by P) row ∙ h.starts

    behind : nat_eq y.number t ≡ false → find (is_thread t) ts ≡ Some h.row
    behind is = sym (find-cons t y ts false is) ∙ h.found

    still : (b : Bool) → nat_eq y.number t ≡ b → nat_eq (f y).number t ≡ b
    still b is = ap (λ n. nat_eq n t) (numbers y) ∙ is

    go : (b : Bool) → nat_eq y.number t ≡ b → (c : Bool) → (Found P t ts s → Found P t (changed_first (is_thread other) f ts) s) → Found P t (change_if c (f y ∷ ts) (y ∷ changed_first (is_thread other) f ts)) s
    go true is true more = record { row = f y; found = find-cons t (f y) ts true (still true is); starts = starts y ∙ first is }
    go true is false more = record { row = y; found = find-cons t y (changed_first (is_thread other) f ts) true is; starts = first is }
    go false is true more = record { row = h.row; found = find-cons t (f y) ts false (still false is) ∙ behind is; starts = h.starts }
    go false is false more =
        let rest = more (record { row = h.row; found = behind is; starts = h.starts }) in
        record { row = rest.row; found = find-cons t y (changed_first (is_thread other) f ts) false is ∙ rest.found; starts = rest.starts }

after-found : (P : Program) (t w other : ℕ) (a : Act) (ts : List Thread) (s : Start) → Found P t ts s → Found P t (threads_after w other a ts) s
after-found P t w other Act.Start ts s h = changed-found P t other (λ x. record x { worker = Some w }) (λ x. refl) (λ x. refl) ts s h
after-found P t w other (Act.Batch us) ts s h = h
after-found P t w other (Act.End e) ts s h = changed-found P t other (λ x. record x { ended = Some e }) (λ x. refl) (λ x. refl) ts s h
after-found P t w other (Act.Halt n) ts s h = h
after-found P t w other Act.Left ts s h = changed-found P t other (λ x. record x { left = true }) (λ x. refl) (λ x. refl) ts s h

fold-found : (P : Program) (t : ℕ) (es : List Entry) (r : Reading) (s : Start) → Found P t r.standing.threads s → Found P t (fold read r es).standing.threads s
fold-found P t [] r s h = h
fold-found P t (e ∷ es) r s h = fold-found P t es (read r e) s (after-found P t e.worker e.thread e.act r.standing.threads s h)

fold-both : (r : Reading) (xs ys : List Entry) → fold read r (xs ++ ys) ≡ fold read (fold read r xs) ys
fold-both r [] ys = refl
fold-both r (x ∷ xs) ys = fold-both (read r x) xs ys

pub starts-stay : StartsStay
unfolding reading
starts-stay P h more t x found =
    let there = fold-found P t more (fold read blank h) (start_by P x) (record { row = x; found = found; starts = refl }) in
    ap (λ (r : Reading). start_at P t (find (is_thread t) r.standing.threads)) (fold-both blank h more) ∙ ap (start_at P t) there.found ∙ there.starts

pub main-starts : MainStarts
unfolding reading
main-starts P h =
    let there = fold-found P 1 h blank (main_start P) (record { row = new_thread 1 (Some main); found = refl; starts = refl }) in
    ap (start_at P 1) there.found ∙ there.starts

pub ruleset laws = (starts-stay, main-starts)
