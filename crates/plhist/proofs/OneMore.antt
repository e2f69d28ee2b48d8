-- What one more entry makes of a journal's reading.
use Rattle.std.proofs.Common.{◌≡◌, ℕ, Bool, true, false, List, [], ◌∷◌, ◌++◌, fold, Some, refl, sym, ap, ◌∙◌, arith, nat_eq, eqb-true, eq-eqb, true≢false}
use Rattle.plevent.specs.declared.request.ThreadEnd.{ThreadEnd}
use Rattle.plevent.specs.declared.act.Act.{Act}
use Rattle.plevent.specs.declared.act.Entry.{Entry}
use Rattle.plevent.specs.declared.standing.Thread.{Thread}
use Rattle.plevent.specs.Alive.{change_if}
use Rattle.plevent.specs.Reading.{Reading, reading, read, blank, threads_after, halted_after}
use Rattle.plhist.specs.declared.status.Status.{Status}
use Rattle.plhist.specs.Status.{end_of, status_of_end, status_of_main, status_after}
use Rattle.plhist.proofs.Alone.{main-alone}

pub after-append : (r : Reading) (xs ys : List Entry) → fold read r (xs ++ ys) ≡ fold read (fold read r xs) ys
after-append r [] ys = refl
after-append r (x ∷ xs) ys = after-append (read r x) xs ys

pub reading-push : (h : List Entry) (e : Entry) → reading (h ++ e ∷ []) ≡ read (reading h) e
unfolding reading
reading-push h e = after-append blank h (e ∷ [])

end_changed : (b : Bool) (m : Thread) (x : ThreadEnd) → m.number ≡ 1 →
    status_of_end (end_of 1 (change_if b (record m { ended = Some x } ∷ []) (m ∷ []))) ≡ change_if b (status_of_end (Some x)) (status_of_end (end_of 1 (m ∷ [])))
end_changed true m x is = rw is refl
end_changed false m x is = refl

start_changed : (b : Bool) (m : Thread) (w : ℕ) → m.number ≡ 1 →
    status_of_end (end_of 1 (change_if b (record m { worker = Some w } ∷ []) (m ∷ []))) ≡ status_of_end (end_of 1 (m ∷ []))
start_changed true m w is = rw is refl
start_changed false m w is = refl

left_changed : (b : Bool) (m : Thread) → m.number ≡ 1 →
    status_of_end (end_of 1 (change_if b (record m { left = true } ∷ []) (m ∷ []))) ≡ status_of_end (end_of 1 (m ∷ []))
left_changed true m is = rw is refl
left_changed false m is = refl

same_test : (n t : ℕ) → n ≡ 1 → nat_eq n t ≡ nat_eq t 1
same_test n t is = go (nat_eq n t) refl
  where
    go : (b : Bool) → nat_eq n t ≡ b → nat_eq n t ≡ nat_eq t 1
    go true same = same ∙ sym (eq-eqb t 1 (sym (eqb-true n t same) ∙ is))
    go false apart = apart ∙ sym (ne_of t (λ same. true≢false (sym (eq-eqb n t (is ∙ sym same)) ∙ apart)))
      where
        ne_of : (t : ℕ) → (t ≡ 1 → ⊥) → nat_eq t 1 ≡ false
        ne_of t never = grind (arith, never)

status_row : (ts : List Thread) (w t : ℕ) (a : Act) (m : Thread) → ts ≡ m ∷ [] → m.number ≡ 1 →
    status_of_end (end_of 1 (threads_after w t a ts)) ≡ status_after (nat_eq t 1) a (status_of_end (end_of 1 ts))
status_row ts w t Act.Start m alone is =
    rw alone (start_changed (nat_eq m.number t) m w is ∙ sym (quiet (nat_eq t 1) (status_of_end (end_of 1 (m ∷ [])))))
  where
    quiet : (b : Bool) (s : Status) → status_after b Act.Start s ≡ s
    quiet true s = refl
    quiet false s = refl
status_row ts w t (Act.Batch us) m alone is = sym (quiet (nat_eq t 1) (status_of_end (end_of 1 ts)))
  where
    quiet : (b : Bool) (s : Status) → status_after b (Act.Batch us) s ≡ s
    quiet true s = refl
    quiet false s = refl
status_row ts w t (Act.Halt n) m alone is = sym (quiet (nat_eq t 1) (status_of_end (end_of 1 ts)))
  where
    quiet : (b : Bool) (s : Status) → status_after b (Act.Halt n) s ≡ s
    quiet true s = refl
    quiet false s = refl
status_row ts w t Act.Left m alone is =
    rw alone (left_changed (nat_eq m.number t) m is ∙ sym (quiet (nat_eq t 1) (status_of_end (end_of 1 (m ∷ [])))))
  where
    quiet : (b : Bool) (s : Status) → status_after b Act.Left s ≡ s
    quiet true s = refl
    quiet false s = refl
status_row ts w t (Act.End e) m alone is =
    rw alone (end_changed (nat_eq m.number t) m e is ∙ ap (λ b. change_if b (status_of_end (Some e)) (status_of_end (end_of 1 (m ∷ [])))) (same_test m.number t is)
    ∙ sym (loud (nat_eq t 1) (status_of_end (end_of 1 (m ∷ [])))))
  where
    loud : (b : Bool) (s : Status) → status_after b (Act.End e) s ≡ change_if b (status_of_end (Some e)) s
    loud true s = refl
    loud false s = refl

-- one more entry, and the status of main's end
pub status-push : (h : List Entry) (e : Entry) → status_of_main (h ++ e ∷ []) ≡ status_after (nat_eq e.thread 1) e.act (status_of_main h)
status-push h e =
    let m = main-alone h in
    ap (λ r. status_of_end (end_of 1 r.standing.threads)) (reading-push h e)
    ∙ status_row (reading h).standing.threads e.worker e.thread e.act m.row m.threads m.number

-- and the number with which the run was ended
pub halted-push : (h : List Entry) (e : Entry) → (reading (h ++ e ∷ [])).standing.halted ≡ halted_after e.act (reading h).standing.halted
halted-push h e = ap (λ r. r.standing.halted) (reading-push h e)
