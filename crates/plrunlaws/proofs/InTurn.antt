-- Each batch of a thread is asked for by a turn.
use Rattle.std.proofs.Common.{◌≡◌, ℕ, zero, suc, ◌+◌, ◌⊎◌, inl, inr, Bool, true, false, All, List, [], ◌∷◌, ◌++◌, take, Option, Some, None, refl, sym, ap, ◌∙◌, subst, arith, append_assoc}
use Rattle.std.proofs.lemmas.List.{append_cancel_left}
use Rattle.plevent.specs.declared.request.ThreadEnd.{ThreadEnd}
use Rattle.plevent.specs.declared.request.Request.{Request}
use Rattle.plevent.specs.declared.update.Update.{Update}
use Rattle.plevent.specs.declared.act.Act.{Act}
use Rattle.plevent.specs.Reading.{reading}
use Rattle.plevent.specs.Rows.{served}
use Rattle.plevent.specs.Search.{Item, Ask}
use Rattle.plhist.specs.Follows.{own, Taken, from_start}
use Rattle.plsearch.specs.Types.{Result, Supply}
use Rattle.plsearch.specs.Machines.Machine.{Back}
use Rattle.pltransactions.specs.Laws.{wanted}
use Rattle.plrunlaws.specs.Standing.{Followed, asks, at_turn, is_open, IsAnswered, start_of, started, StandsAt, act_of}
use Rattle.plrunlaws.specs.Transactions.{IsAskedInTurn, EachBatchInTurn}
use Rattle.plrunlaws.proofs.Items.{takes-nothing}
use Rattle.plrunlaws.proofs.Standing.{whole, AskedAt, asked-at, stays-else, entries-in-order}
use Rattle.plrunlaws.proofs.Inside.{no-clauses, makes-of-clauses, Entered, enters}
use Rattle.plrunlaws.proofs.Unended.{ceases, comes-to-end}
use Rattle.plrunlaws.proofs.Batches.{served-makes}
use Rattle.plrunlaws.proofs.Lists.{heads, all-at}

abbrev Mine : Type 0
Mine = List (ℕ × Act)

module _ (f : Followed) (before behind : Mine) (g : ℕ) (us : List Update) (owns : own f.run.thread f.journal ≡ before ++ (g, Act.Batch us) ∷ behind) where
  abbrev entry : ℕ × Act
  entry = (g, Act.Batch us)

  -- where nothing is open: what makes a batch asks for clauses
  closed-there : (k : ℕ) (q : Request) (owner : ℕ) → wanted (at_turn f k) ≡ Some (Ask q) → (served q f.run.thread (reading (take g f.journal))).1 ≡ Some (owner, Act.Batch us) → is_open f k ≡ false
  closed-there k q owner is row = go (is_open f k) refl
    where
      go : (b : Bool) → is_open f k ≡ b → is_open f k ≡ false
      go false closed = closed
      go true now =
          let r = reading (take g f.journal) in
          absurd (no-clauses f k now (Ask q) is (makes-of-clauses r q us (served-makes q f.run.thread r owner us row).0.makes))

  no-end : (e : ThreadEnd) → Act.Batch us ≡ act_of e → ⊥
  no-end (ThreadEnd.Halt n) is = cc
  no-end ThreadEnd.True is = cc
  no-end ThreadEnd.False is = cc
  no-end (ThreadEnd.Exception b) is = cc
  no-end ThreadEnd.Budget is = cc

  -- the turn that makes it
  found : (k : ℕ) (s : Taken) (q : Item) → StandsAt f k s → wanted (at_turn f k) ≡ Some q → (one : AskedAt f k s q) → (e : Entered f q one.place s one.after) → before ≡ started f s.made → (one.place, e.act) ≡ entry → IsAskedInTurn f before g us
  found k s q stood is one e front same =
      let place : one.place ≡ g = ap (λ x. x.0) same in
      let act : e.act ≡ Act.Batch us = ap (λ x. x.1) same in
      let row : (served e.asked f.run.thread (reading (take g f.journal))).1 ≡ Some (e.owner, Act.Batch us) =
      ap (λ g. (served e.asked f.run.thread (reading (take g f.journal))).1) (sym place) ∙ e.row ∙ ap (λ a. Some (e.owner, a)) act in
      let asks : wanted (at_turn f k) ≡ Some (Ask e.asked) = is ∙ ap Some e.is in record {
        turn = k;
        so_far = s;
        stood = stood;
        made = front;
        closed = closed-there k e.asked e.owner asks row;
        asked = e.asked;
        asks = asks;
        makes = (served-makes e.asked f.run.thread (reading (take g f.journal)) e.owner us row).0.makes;
        after = one.after;
        answered = subst (λ g. IsAnswered f (Ask e.asked) g s one.after) place (subst (λ q. IsAnswered f q one.place s one.after) e.is one.answered);
        stands = one.stands;
      }

  looks : (n k : ℕ) (s : Taken) (extra : Mine) (r : Result) (run : Supply) → StandsAt f k s → before ≡ started f s.made ++ extra → at_turn f (k + n) ≡ record { mode = Back r; cases = []; run = run } → IsAskedInTurn f before g us
  looks zero k s extra r run stood front is =
      let same : k ≡ k + 0 = omega arith in
      let ends = ceases f s k r run stood (ap (at_turn f) same ∙ is) in
      let rest : ends.new ≡ extra ++ entry ∷ behind =
      append_cancel_left (started f s.made) ends.new (extra ++ entry ∷ behind)
      (sym (ap (started f) ends.made) ∙ sym f.ended.asked.entries ∙ owns ∙ ap (λ l. l ++ entry ∷ behind) front ∙ append_assoc (started f s.made) extra (entry ∷ behind)) in
      absurd (no-end f.came_to (all-at (λ x. x.1 ≡ act_of f.came_to) extra entry behind (subst (All (λ x. x.1 ≡ act_of f.came_to)) rest ends.ends)))
  looks (suc n) k s extra r run stood front is = go (wanted (at_turn f k)) refl (λ s extra. looks n (suc k) s extra r run)
    where
      at_end : at_turn f (suc k + n) ≡ record { mode = Back r; cases = []; run = run }
      at_end = let same : suc k + n ≡ k + suc n = omega arith in ap (at_turn f) same ∙ is

      Goes : Type 0
      Goes = (s : Taken) (extra : Mine) → StandsAt f (suc k) s → before ≡ started f s.made ++ extra → at_turn f (suc k + n) ≡ record { mode = Back r; cases = []; run = run } → IsAskedInTurn f before g us

      enter : (q : Item) → wanted (at_turn f k) ≡ Some q → (one : AskedAt f k s q) → Entered f q one.place s one.after → (extra : Mine) → before ≡ started f s.made ++ extra → Goes → IsAskedInTurn f before g us
      enter q asked one e extra front more = these extra front
        where
          part : (later : Mine) × (own f.run.thread f.journal ≡ started f one.after.made ++ later)
          part = let all = entries-in-order f (suc k) one.after one.stands in (all.later, all.entries)

          rest : (extra : Mine) → before ≡ started f s.made ++ extra → (one.place, e.act) ∷ part.0 ≡ extra ++ entry ∷ behind
          rest extra front =
              append_cancel_left (started f s.made) ((one.place, e.act) ∷ part.0) (extra ++ entry ∷ behind)
              (sym (append_assoc (started f s.made) ((one.place, e.act) ∷ []) part.0) ∙ ap (λ l. started f l ++ part.0) (sym e.made) ∙ sym part.1
              ∙ owns ∙ ap (λ l. l ++ entry ∷ behind) front ∙ append_assoc (started f s.made) extra (entry ∷ behind))

          these : (extra : Mine) → before ≡ started f s.made ++ extra → IsAskedInTurn f before g us
          these [] front =
              let same = heads (one.place, e.act) entry part.0 behind (rest [] front) in
              found k s q stood asked one e (front ∙ append-nil-mine (started f s.made)) same.0
            where
              append-nil-mine : (l : Mine) → l ++ [] ≡ l
              append-nil-mine [] = refl
              append-nil-mine (x ∷ xs) = ap (λ l. x ∷ l) (append-nil-mine xs)
          these (x ∷ xs) front =
              let same = heads (one.place, e.act) x part.0 (xs ++ entry ∷ behind) (rest (x ∷ xs) front) in
              more one.after xs one.stands
              (front ∙ ap (λ x. started f s.made ++ (x ∷ xs)) (sym same.0) ∙ sym (append_assoc (started f s.made) ((one.place, e.act) ∷ []) xs) ∙ ap (λ l. started f l ++ xs) (sym e.made)) at_end

      go : (o : Option Item) → wanted (at_turn f k) ≡ o → Goes → IsAskedInTurn f before g us
      go None none more = more s extra (stays-else f k s stood none) front at_end
      go (Some q) asked more = either (asked-at f k s q stood asked)
        where
          either : AskedAt f k s q → IsAskedInTurn f before g us
          either one = one-of (enters f q one.place s one.after one.answered)
            where
              one-of : ((one.after.made ≡ s.made) ⊎ Entered f q one.place s one.after) → IsAskedInTurn f before g us
              one-of (inl same) = more one.after extra one.stands (front ∙ ap (λ l. started f l ++ extra) (sym same)) at_end
              one-of (inr e) = enter q asked one e extra front more

-- at its start it has made nothing else
begins : (f : Followed) → StandsAt f 0 (from_start (start_of f))
begins f = record {
  earlier = [];
  later = f.run.places;
  split = refl;
  so_far = takes-nothing (asks f) f.journal f.run.thread (from_start (start_of f));
  rest = whole f;
  taken = refl;
}

pub each-batch-in-turn : EachBatchInTurn
each-batch-in-turn f before behind g us owns = go before refl
  where
    first : (start_of f, Act.Start) ∷ f.ended.asked.last.made ≡ before ++ (g, Act.Batch us) ∷ behind
    first = sym f.ended.asked.entries ∙ owns

    go : (xs : Mine) → before ≡ xs → IsAskedInTurn f before g us
    go [] is = absurd (never (heads _ (g, Act.Batch us) _ behind (first ∙ ap (λ l. l ++ (g, Act.Batch us) ∷ behind) is)).0)
      where
        never : ◌≡◌ {A = ℕ × Act} (start_of f, Act.Start) (g, Act.Batch us) → ⊥
        never is = let same : Act.Start ≡ Act.Batch us = ap (λ x. x.1) is in cc
    go (x ∷ xs) is =
        let same = heads (start_of f, Act.Start) x f.ended.asked.last.made (xs ++ (g, Act.Batch us) ∷ behind) (first ∙ ap (λ l. l ++ (g, Act.Batch us) ∷ behind) is) in
        let end = comes-to-end f in
        let late : 0 + end.0 ≡ end.0 = omega arith in
        looks f before behind g us owns end.0 0 (from_start (start_of f)) xs end.1 end.2 (begins f) (is ∙ ap (λ x. x ∷ xs) (sym same.0)) (ap (at_turn f) late ∙ end.3)

pub ruleset laws = (each-batch-in-turn)
