-- Main is the only thread, in every journal.
use Rattle.std.proofs.Common.{◌≡◌, ℕ, suc, Bool, true, false, List, [], ◌∷◌, fold, Option, Some, refl, sym, ◌∙◌, subst, nat_eq}
use Rattle.plevent.specs.declared.act.Act.{Act}
use Rattle.plevent.specs.declared.act.Entry.{Entry}
use Rattle.plevent.specs.declared.standing.Thread.{Thread}
use Rattle.plevent.specs.declared.standing.Standing.{Standing}
use Rattle.plevent.specs.Alive.{change_if}
use Rattle.plevent.specs.Reading.{Reading, reading, read, blank, new_thread, main, changed_first, is_thread, threads_after, halted_after}
use Rattle.std.specs.Prelude.{None}

-- main is there, and no other thread
pub record MainAlone (r : Standing) : Type 0 where
  pub row : Thread
  pub threads : r.threads ≡ row ∷ []
  pub number : row.number ≡ 1
  pub alias : row.alias ≡ Some main
  pub goal : row.goal ≡ None

alone-changed : (b : Bool) (r : Standing) (n : ℕ) (o : Option ℕ) (f : Thread → Thread) (m : MainAlone r) → ((x : Thread) → (f x).number ≡ x.number) → ((x : Thread) → (f x).alias ≡ x.alias) → ((x : Thread) → (f x).goal ≡ x.goal) →
    MainAlone (record { size = n; threads = change_if b (f m.row ∷ []) (m.row ∷ []); halted = o })
alone-changed true r n o f m numbers aliases goals = record { row = f m.row; threads = refl; number = numbers m.row ∙ m.number; alias = aliases m.row ∙ m.alias; goal = goals m.row ∙ m.goal }
alone-changed false r n o f m numbers aliases goals = record { row = m.row; threads = refl; number = m.number; alias = m.alias; goal = m.goal }

alone-after : (r : Standing) (w t n : ℕ) (o : Option ℕ) (a : Act) → MainAlone r → MainAlone (record { size = n; threads = threads_after w t a r.threads; halted = o })
alone-after r w t n o Act.Start m =
    subst (λ l. MainAlone (record { size = n; threads = changed_first (is_thread t) (λ x. record x { worker = Some w }) l; halted = o })) (sym m.threads)
    (alone-changed (nat_eq m.row.number t) r n o (λ x. record x { worker = Some w }) m (λ x. refl) (λ x. refl) (λ x. refl))
alone-after r w t n o (Act.Batch us) m = record { row = m.row; threads = m.threads; number = m.number; alias = m.alias; goal = m.goal }
alone-after r w t n o (Act.Halt k) m = record { row = m.row; threads = m.threads; number = m.number; alias = m.alias; goal = m.goal }
alone-after r w t n o Act.Left m =
    subst (λ l. MainAlone (record { size = n; threads = changed_first (is_thread t) (λ x. record x { left = true }) l; halted = o })) (sym m.threads)
    (alone-changed (nat_eq m.row.number t) r n o (λ x. record x { left = true }) m (λ x. refl) (λ x. refl) (λ x. refl))
alone-after r w t n o (Act.End e) m =
    subst (λ l. MainAlone (record { size = n; threads = changed_first (is_thread t) (λ x. record x { ended = Some e }) l; halted = o })) (sym m.threads)
    (alone-changed (nat_eq m.row.number t) r n o (λ x. record x { ended = Some e }) m (λ x. refl) (λ x. refl) (λ x. refl))

alone-fold : (r : Reading) (es : List Entry) → MainAlone r.standing → MainAlone (fold read r es).standing
alone-fold r [] m = m
alone-fold r (e ∷ es) m = alone-fold (read r e) es (alone-after r.standing e.worker e.thread (suc r.standing.size) (halted_after e.act r.standing.halted) e.act m)

pub main-alone : (h : List Entry) → MainAlone (reading h).standing
unfolding reading
main-alone h = alone-fold blank h (record { row = new_thread 1 (Some main); threads = refl; number = refl; alias = refl; goal = refl })
