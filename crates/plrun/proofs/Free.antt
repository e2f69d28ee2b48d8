-- What an entry leaves of a thread's standing.
use Rattle.std.proofs.Common.{◌≡◌, ℕ, suc, Bool, true, false, List, [], ◌∷◌, ◌++◌, sym, subst, true≢false}
use Rattle.plevent.specs.declared.act.Act.{Act}
use Rattle.plevent.specs.declared.act.Entry.{Entry}
use Rattle.plevent.specs.declared.standing.Standing.{Standing}
use Rattle.plevent.specs.Reading.{reading, threads_after, halted_after}
use Rattle.plrun.specs.Going.{Free}
use Rattle.plhist.proofs.OneMore.{reading-push}

-- acts that leave their thread running
unfoldable pub is_plain : Act → Bool
is_plain Act.Start = false
is_plain (Act.Batch us) = true
is_plain (Act.End e) = false
is_plain (Act.Halt n) = false
is_plain Act.Left = false

free_plain : (t : ℕ) (r : Standing) (w u : ℕ) (a : Act) (n : ℕ) → is_plain a ≡ true → Free t r → Free t (record { size = n; threads = threads_after w u a r.threads; halted = halted_after a r.halted })
unfolding is_plain
free_plain t r w u Act.Start n is f = absurd (true≢false (sym is))
free_plain t r w u (Act.Batch us) n is f = record { row = f.row; found = f.found; started = f.started; lives = f.lives; goes = f.goes }
free_plain t r w u (Act.Halt k) n is f = absurd (true≢false (sym is))
free_plain t r w u (Act.End e) n is f = absurd (true≢false (sym is))
free_plain t r w u Act.Left n is f = absurd (true≢false (sym is))

pub free-plain : (t : ℕ) (h : List Entry) (e : Entry) → is_plain e.act ≡ true → Free t (reading h).standing → Free t (reading (h ++ e ∷ [])).standing
free-plain t h e is f = subst (λ r. Free t r.standing) (sym (reading-push h e)) (free_plain t (reading h).standing e.worker e.thread e.act (suc (reading h).standing.size) is f)
