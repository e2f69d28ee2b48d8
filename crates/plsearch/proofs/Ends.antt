-- A visit that asks for no answer that is not there ends in the same way with further answers.
use Rattle.std.proofs.Common.{◌≡◌, ℕ, zero, suc, ◌+◌, ◌<◌, ◌≤◌, ◌⊎◌, inl, inr, List, [], ◌∷◌, ◌++◌, length, refl, sym, ap, subst, arith, le_refl, min}
use Rattle.plevent.specs.Search.{Item, Ask, Answer, Finishes}
use Rattle.plevent.specs.declared.request.Request.TheVariants.{Publish}
use Rattle.plevent.specs.declared.update.Update.{Update}
use Rattle.plevent.specs.declared.request.ThreadEnd.{ThreadEnd}
use Rattle.plprogram.specs.Program.{Program}
use Rattle.plsearch.specs.Types.{Result, Stop, Fail, CutTo, Throw, Halted, Spent, Awaits, Stopped, Unfit, GoesOn, Await, Element, Asking, Resolvent, Case, Choice, Mark, Handle, Catch, Gather, Undo, Return, Keep, Again, Anew, Local, Move, Give, Go, Meeting, Select, Asks, End, Pass, Marked, Supply}
use Rattle.plsearch.specs.Rows.{select, meet}
use Rattle.plsearch.specs.Replies.{answered, founded}
use Rattle.plsearch.specs.Handlers.{resume}
use Rattle.plsearch.specs.Engine.{Ended, deeper, choice, returned, out, outs, moved, stepped, asks, publishes, met, walk, left, Visit}
use Rattle.plsearch.specs.Search.{Start, next_of, ending_of, from_start, start_of, search_of}
use Rattle.plsearch.proofs.Fuel.{Agree, Same, out-agree, visit-agree, Visit-walk}

pub Visit-left : (P : Program) (d : ℕ) (p : Resolvent) (run : Supply) → left (Visit P d p run).1 ≤ left run
unfolding Visit Agree
Visit-left P d p run = (visit-agree P (left run) (left run) (le_refl _) d p run (omega arith)).1

abbrev NotAsking : Result → Type 0
NotAsking (Awaits q) = ⊥
NotAsking Stop = Unit {0}
NotAsking Fail = Unit {0}
NotAsking (CutTo l) = Unit {0}
NotAsking (Throw b ls) = Unit {0}
NotAsking (Halted n) = Unit {0}
NotAsking Spent = Unit {0}
NotAsking Stopped = Unit {0}
NotAsking Unfit = Unit {0}

or_asks : (r : Result) → (NotAsking r) ⊎ ((q : Item) × (r ≡ Awaits q))
or_asks Stop = inl tt
or_asks Fail = inl tt
or_asks (CutTo l) = inl tt
or_asks (Throw b ls) = inl tt
or_asks (Halted n) = inl tt
or_asks Spent = inl tt
or_asks (Awaits q) = inr (q, refl)
or_asks Stopped = inl tt
or_asks Unfit = inl tt

module _ (P : Program) (further : List Answer) where
  with_more : Supply → Supply
  with_more run = record run { answers = run.answers ++ further }

  Grows : Ended → Ended → Type 0
  Grows e e' = NotAsking e.0 → e' ≡ (e.0, with_more e.1)

  Claim : ℕ → Type 0
  Claim k = (d : ℕ) (p : Resolvent) (run : Supply) → left run < k → Grows (Visit P d p run) (Visit P d p (with_more run))

  itself : (k : ℕ) → Agree (Visit P) (Visit P) k
  unfolding Agree
  itself k d p run lt = (refl, Visit-left P d p run)

  abbrev Still : (Ended → Ended) → Type 0
  Still f = (q : Item) (run : Supply) → NotAsking (f (Awaits q, run)).0 → ⊥

  -- what becomes of an end grows with it
  passed : (f : Ended → Ended) (e e' : Ended) → Still f → Grows e e' → (NotAsking e.0 → Grows (f e) (f (e.0, with_more e.1))) → Grows (f e) (f e')
  unfolding Grows with_more
  passed f e e' still g on = go (or_asks e.0)
    where
      go : (NotAsking e.0) ⊎ ((q : Item) × (e.0 ≡ Awaits q)) → Grows (f e) (f e')
      go (inl n) = subst (λ x. Grows (f e) (f x)) (sym (g n)) (on n)
      go (inr a) = λ n. absurd (still a.0 e.1 (subst (λ r. NotAsking (f (r, e.1)).0) a.1 n))

  choice-still : (ps : List Resolvent) (d : ℕ) → Still (λ e. choice (Visit P) d ps e.0 e.1)
  unfolding choice
  choice-still [] d q run n = n
  choice-still (p ∷ ps) d q run n = n

  choice-grows : (k : ℕ) → Claim k → (ps : List Resolvent) (d : ℕ) (r : Result) (run : Supply) → left run < k → NotAsking r →
      Grows (choice (Visit P) d ps r run) (choice (Visit P) d ps r (with_more run))
  unfolding choice Grows Claim with_more
  choice-grows k h (p ∷ ps) d Fail run lt n =
      let e = Visit P (suc d) p run in
      passed (λ e. choice (Visit P) d ps e.0 e.1) e (Visit P (suc d) p (with_more run)) (choice-still ps d) (h (suc d) p run lt)
      (λ n. choice-grows k h ps d e.0 e.1 (omega (arith, Visit-left P (suc d) p run)) n)
  choice-grows k h [] d Fail run lt n = λ m. refl
  choice-grows k h ps d r run lt n = λ m. refl

  out-still : (c : Case) (d : ℕ) → Still (out (Visit P) d c)
  unfolding out resume
  out-still (Choice ps) d q run n = choice-still ps d q run n
  out-still (Mark l) d q run n = n
  out-still (Handle (Catch c r) p) d q run n = n
  out-still (Handle (Gather l) p) d q run n = n
  out-still (Handle Undo p) d q run n = n

  returned-grows : (k : ℕ) → Claim k → (d : ℕ) (b : Return) (run : Supply) → left run < k → Grows (returned (Visit P) d b run) (returned (Visit P) d b (with_more run))
  unfolding Grows with_more Claim
  returned-grows k h d (Keep r w) run lt = λ n. refl
  returned-grows k h d (Again p w) run lt = h d p (record run { local = w }) lt
  returned-grows k h d (Anew p w) run lt =
      let run' : Supply = record run { local = w } in
      let e = Visit P (suc d) p run' in
      passed (λ e. choice (Visit P) d [] e.0 e.1) e (Visit P (suc d) p (with_more run')) (choice-still [] d) (h (suc d) p run' lt)
      (λ n. choice-grows k h [] d e.0 e.1 (omega (arith, Visit-left P (suc d) p run')) n)

  out-grows : (k : ℕ) → Claim k → (d : ℕ) (c : Case) (e e' : Ended) → left e.1 < k → Grows e e' → Grows (out (Visit P) d c e) (out (Visit P) d c e')
  unfolding out Grows with_more
  out-grows k h d (Choice ps) e e' lt g = passed (out (Visit P) d (Choice ps)) e e' (out-still (Choice ps) d) g (λ n. choice-grows k h ps d e.0 e.1 lt n)
  out-grows k h d (Mark l) e e' lt g = passed (out (Visit P) d (Mark l)) e e' (out-still (Mark l) d) g (λ n m. refl)
  out-grows k h d (Handle x p) e e' lt g = passed (out (Visit P) d (Handle x p)) e e' (out-still (Handle x p) d) g (λ n. returned-grows k h d (resume x p d e.0 e.1.local) e.1 lt)

  pub out-left : (d : ℕ) (c : Case) (e : Ended) → left (out (Visit P) d c e).1 ≤ left e.1
  unfolding Same
  out-left d c e = (out-agree (Visit P) (Visit P) (suc (left e.1)) (itself (suc (left e.1))) d c e (omega arith)).1

  outs-grows : (k : ℕ) → Claim k → (d : ℕ) (cs : List Case) (e e' : Ended) → left e.1 < k → Grows e e' → Grows (outs (Visit P) d cs e) (outs (Visit P) d cs e')
  unfolding outs
  outs-grows k h d [] e e' lt g = g
  outs-grows k h d (c ∷ cs) e e' lt g =
      outs-grows k h d cs (out (Visit P) (deeper cs d) c e) (out (Visit P) (deeper cs d) c e') (omega (arith, out-left (deeper cs d) c e)) (out-grows k h (deeper cs d) c e e' lt g)

  moved-grows : (k : ℕ) → Claim k → (d : ℕ) (m : Move) (run : Supply) → left run < k → Grows (moved (Visit P) d m run) (moved (Visit P) d m (with_more run))
  unfolding moved Grows with_more Claim
  moved-grows k h d (Give r w) run lt = λ n. refl
  moved-grows k h d (Go cs p w) run lt =
      outs-grows k h d cs (Visit P (deeper cs d) p (record run { local = w })) (Visit P (deeper cs d) p (with_more (record run { local = w })))
      (omega (arith, Visit-left P (deeper cs d) p (record run { local = w }))) (h (deeper cs d) p (record run { local = w }) lt)

  stepped-grows : (k : ℕ) → Claim k → (row : Local → Move) (d : ℕ) (run : Supply) (n : ℕ) → n + length run.answers ≤ k →
      Grows (stepped (Visit P) row d (record run { steps = n }) n) (stepped (Visit P) row d (with_more (record run { steps = n })) n)
  unfolding Grows with_more
  stepped-grows k h row d run zero le = λ n. refl
  stepped-grows k h row d run (suc n) le = moved-grows k h d (row run.local) (record run { steps = n }) (omega (arith, le))

  asks-grows : (k : ℕ) → Claim k → (e : Element) (es : List Element) (n : ℕ) (q : Item) (d : ℕ) (run : Supply) (xs : List Answer) → run.steps + length xs ≤ k →
      Grows (asks (Visit P) e es n q d (record run { answers = xs }) xs) (asks (Visit P) e es n q d (with_more (record run { answers = xs })) (xs ++ further))
  unfolding Grows with_more
  asks-grows k h e es n q d run [] le = λ n. absurd n
  asks-grows k h e es n q d run (a ∷ xs) le = moved-grows k h d (answered e a d es n run.local) (record run { answers = xs; below = founded e a run.below }) (omega (arith, le))

  publishes-grows : (k : ℕ) → Claim k → (on : ℕ → Supply → Ended) → ((d : ℕ) (run : Supply) → left run ≤ k → Grows (on d run) (on d (with_more run))) →
      (es : List Element) (n : ℕ) (us : List Update) (d : ℕ) (run : Supply) → left run ≤ k →
      Grows (publishes (Visit P) on es n us d run) (publishes (Visit P) on es n us d (with_more run))
  unfolding with_more
  publishes-grows k h on o es n [] d run le = o d run le
  publishes-grows k h on o es n (u ∷ us) d run le = asks-grows k h (Asking (Await (Publish (u ∷ us)) GoesOn)) es n (Ask (Publish (u ∷ us))) d run run.answers le

  met-grows : (k : ℕ) → Claim k → (on : ℕ → Supply → Ended) → ((d : ℕ) (run : Supply) → left run ≤ k → Grows (on d run) (on d (with_more run))) →
      (e : Element) (es : List Element) (n d : ℕ) (run : Supply) (m : Meeting) → left run ≤ k →
      Grows (met P (Visit P) on e es n d run m) (met P (Visit P) on e es n d (with_more run) m)
  unfolding Grows with_more out
  met-grows k h on o e es n d run (Select j t) le = stepped-grows k h (select P run.below j t d es n) d run run.steps le
  met-grows k h on o e es n d run (Asks q) le = asks-grows k h e es n q d run run.answers le
  met-grows k h on o e es n d run (End r w) le = λ n. refl
  met-grows k h on o e es n d run (Pass w) le = o d (record run { local = w }) le
  met-grows k h on o e es n d run (Marked l us w) le =
      let run' : Supply = record run { local = w } in
      passed (out (Visit P) d (Mark l)) (publishes (Visit P) on es n us (suc d) run') (publishes (Visit P) on es n us (suc d) (with_more run')) (out-still (Mark l) d) (publishes-grows k h on o es n us (suc d) run' le) (λ n m. refl)

  walk-grows : (k : ℕ) → Claim k → (es : List Element) (n d : ℕ) (run : Supply) → left run ≤ k → Grows (walk P (Visit P) es n d run) (walk P (Visit P) es n d (with_more run))
  unfolding walk Grows with_more
  walk-grows k h [] n d run le = λ n. refl
  walk-grows k h (e ∷ es) n d run le = met-grows k h (walk P (Visit P) es n) (walk-grows k h es n) e es n d run (meet e es run.local) le

  claims : (k : ℕ) → Claim k
  unfolding Claim
  claims zero d p run lt = absurd (omega arith)
  claims (suc k) d p run lt =
      subst (λ x. Grows x (Visit P d p (with_more run))) (sym (Visit-walk P d p run))
      (subst (λ x. Grows (walk P (Visit P) p.goals p.variables d run) x) (sym (Visit-walk P d p (with_more run)))
      (walk-grows k (claims k) p.goals p.variables d run (omega arith)))

  pub visit-grows : (d : ℕ) (p : Resolvent) (run : Supply) → NotAsking (Visit P d p run).0 →
      Visit P d p (record run { answers = run.answers ++ further }) ≡ ((Visit P d p run).0, record (Visit P d p run).1 { answers = (Visit P d p run).1.answers ++ further })
  unfolding Grows with_more Claim
  visit-grows d p run = claims (suc (left run)) d p run (omega arith)

  -- an end in the outermost choice grows with it
  pub outermost-grows : (e e' : Ended) → (NotAsking e.0 → e' ≡ (e.0, record e.1 { answers = e.1.answers ++ further })) → NotAsking (out (Visit P) 0 (Choice []) e).0 →
      out (Visit P) 0 (Choice []) e' ≡ ((out (Visit P) 0 (Choice []) e).0, record (out (Visit P) 0 (Choice []) e).1 { answers = (out (Visit P) 0 (Choice []) e).1.answers ++ further })
  unfolding Grows with_more
  outermost-grows e e' g = out-grows (suc (left e.1)) (claims (suc (left e.1))) 0 (Choice []) e e' (omega arith) g

ended_asks : (r : Result) (e : ThreadEnd) → next_of r ≡ Finishes e → NotAsking r
ended_asks Stop e is = tt
ended_asks Fail e is = tt
ended_asks (CutTo l) e is = tt
ended_asks (Throw b ls) e is = tt
ended_asks (Halted n) e is = tt
ended_asks Spent e is = tt
ended_asks (Awaits q) e is = cc
ended_asks Stopped e is = tt
ended_asks Unfit e is = tt

pub ends_ignore : (P : Program) (s : Start) (limit n : ℕ) (answers further : List Answer) (e : ThreadEnd) →
    (search_of P s limit n answers).next ≡ Finishes e → search_of P s limit n (answers ++ further) ≡ search_of P s limit n answers
unfolding search_of out
ends_ignore P s limit n answers further e is =
    let run = from_start P s (min n limit) answers in
    ap (ending_of (min n limit)) (outermost-grows P further (Visit P 1 (start_of s) run) (Visit P 1 (start_of s) (from_start P s (min n limit) (answers ++ further)))
    (visit-grows P further 1 (start_of s) run) (ended_asks (out (Visit P) 0 (Choice []) (Visit P 1 (start_of s) run)).0 e is))
