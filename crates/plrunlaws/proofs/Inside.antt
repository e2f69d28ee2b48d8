-- What a thread asks for, and what it makes, while a transaction or a snapshot is open.
use Rattle.std.proofs.Common.{◌≡◌, ℕ, zero, suc, ◌<◌, ◌≤◌, ◌⊎◌, inl, inr, Bool, true, false, List, [], ◌∷◌, ◌++◌, take, Option, Some, None, refl, sym, ap, ◌∙◌, subst, arith, append_assoc, append-nil, eq-or-lt_of_le}
use Rattle.std.proofs.lemmas.List.Elements.{All-nil, All-cons, All-append}
use Rattle.plevent.specs.declared.request.Request.{Request}
use Rattle.plevent.specs.declared.request.Reply.{Reply}
use Rattle.plevent.specs.declared.update.Update.{Update}
use Rattle.plevent.specs.declared.act.Act.{Act}
use Rattle.plevent.specs.Reading.{Reading, reading}
use Rattle.plevent.specs.Rows.{served}
use Rattle.plevent.specs.Search.{Item, View, Ask}
use Rattle.plhist.specs.Follows.{Taken, is_not_yet, noted, answered}
use Rattle.plsearch.specs.Machines.Machine.{turn}
use Rattle.pltransactions.specs.Laws.{machine_of, IsReached, wanted, IsOfClauses}
use Rattle.pltransactions.proofs.Transactions.{open-asks-no-clauses}
use Rattle.plrunlaws.specs.Batches.{MakesBatch}
use Rattle.plrunlaws.specs.Standing.{Followed, answers, at_turn, is_open, IsAnswered, StandsAt}
use Rattle.plrunlaws.specs.Transactions.{IsNoBatch, AddsNoBatch}
use Rattle.plrunlaws.proofs.Items.{none-some, the-same, from-more, answer-is, answer-adds}
use Rattle.plrunlaws.proofs.Machines.{turns-next}
use Rattle.plrunlaws.proofs.Standing.{asked-at, stands-somewhere, stands-once, stays-else}
use Rattle.plrunlaws.proofs.Batches.{served-makes}

pub reached : (f : Followed) (k : ℕ) → IsReached f.program (at_turn f k)
reached f k = (f.starts, f.limit, answers f, k, refl)

pub next-turn : (f : Followed) (k : ℕ) → at_turn f (suc k) ≡ turn f.program (at_turn f k)
next-turn f k = turns-next f.program k (machine_of f.program f.starts f.limit (answers f))

-- where something is open, no clauses are asked for
pub no-clauses : (f : Followed) (k : ℕ) → is_open f k ≡ true → (q : Item) → wanted (at_turn f k) ≡ Some q → IsOfClauses q → ⊥
no-clauses f k now q is = open-asks-no-clauses f.program (at_turn f k) q (reached f k) now is

-- what makes a batch asks for clauses
pub makes-of-clauses : (r : Reading) (q : Request) (us : List Update) → MakesBatch r q us → IsOfClauses (Ask q)
makes-of-clauses r (Request.Publish vs) us makes = tt
makes-of-clauses r (Request.EraseOne x) us makes = tt
makes-of-clauses r q us makes = absurd makes

-- an item's entry is that of its row
pub record Entered (f : Followed) (q : Item) (g : ℕ) (s s' : Taken) : Type 0 where
  pub act : Act
  pub made : s'.made ≡ s.made ++ (g, act) ∷ []
  pub asked : Request
  pub is : q ≡ Ask asked
  pub owner : ℕ
  pub row : (served asked f.run.thread (reading (take g f.journal))).1 ≡ Some (owner, act)

noted-enters : (f : Followed) (q : Request) (g : ℕ) (s s' : Taken) (b : Bool) (p : Reply) (o : Option (ℕ × Act)) → (served q f.run.thread (reading (take g f.journal))).1 ≡ o → noted b g s p o ≡ Some s' →
    (s'.made ≡ s.made) ⊎ Entered f (Ask q) g s s'
noted-enters f q g s s' true p o row is = none-some s' is
noted-enters f q g s s' false p None row is = inl (ap (λ s. s.made) (sym (the-same _ s' is)))
noted-enters f q g s s' false p (Some a) row is = inr (record { act = a.1; made = ap (λ s. s.made) (sym (the-same _ s' is)); asked = q; is = refl; owner = a.0; row = row })

pub enters : (f : Followed) (q : Item) (g : ℕ) (s s' : Taken) → IsAnswered f q g s s' → (s'.made ≡ s.made) ⊎ Entered f q g s s'
enters f q g s s' is = go q (answer-is f.journal f.run.thread q g s s' is).1
  where
    go : (q : Item) → answered f.journal f.run.thread q g s ≡ Some s' → (s'.made ≡ s.made) ⊎ Entered f q g s s'
    go View is = inl (ap (λ s. s.made) (sym (the-same _ s' is)))
    go (Ask q) is =
        let x = served q f.run.thread (reading (take g f.journal)) in noted-enters f q g s s' (is_not_yet x.0) x.0 x.1 refl is

-- what items make between two places, and how far they come
pub record Between (s s' : Taken) : Type 0 where
  pub adds : AddsNoBatch s s'
  pub rises : s.low ≤ s'.low

between-none : (s : Taken) → Between s s
between-none s = record {
  adds = record { inside = []; made = sym (append-nil s.made); from = All-nil (λ x. s.low ≤ x.0); none = All-nil (λ x. IsNoBatch x.1) };
  rises = omega arith;
}

between-both : (s m s' : Taken) → Between s m → Between m s' → Between s s'
between-both s m s' one more =
    let first = one.rises in
    let second = more.rises in record {
      adds = record {
        inside = one.adds.inside ++ more.adds.inside;
        made = more.adds.made ∙ ap (λ l. l ++ more.adds.inside) one.adds.made ∙ append_assoc s.made one.adds.inside more.adds.inside;
        from = All-append (λ x. s.low ≤ x.0) one.adds.inside more.adds.inside one.adds.from (from-more s.low m.low more.adds.inside first more.adds.from);
        none = All-append (λ x. IsNoBatch x.1) one.adds.inside more.adds.inside one.adds.none more.adds.none;
      };
      rises = omega (arith, first, second);
    }

-- an item that asks for no clauses
item-between : (f : Followed) (q : Item) (g : ℕ) (s s' : Taken) → (IsOfClauses q → ⊥) → IsAnswered f q g s s' → Between s s'
item-between f q g s s' not_of is = record { adds = go (enters f q g s s' is); rises = (answer-adds f.journal f.run.thread q g s s' is).adds.rises }
  where
    go : ((s'.made ≡ s.made) ⊎ Entered f q g s s') → AddsNoBatch s s'
    go (inl same) = record { inside = []; made = same ∙ sym (append-nil s.made); from = All-nil (λ x. s.low ≤ x.0); none = All-nil (λ x. IsNoBatch x.1) }
    go (inr e) = record {
      inside = (g, e.act) ∷ [];
      made = e.made;
      from = All-cons (λ x. s.low ≤ x.0) (g, e.act) [] (answer-is f.journal f.run.thread q g s s' is).0 (All-nil (λ x. s.low ≤ x.0));
      none = All-cons (λ x. IsNoBatch x.1) (g, e.act) [] (no-batch e.act refl) (All-nil (λ x. IsNoBatch x.1));
    }
      where
        no-batch : (a : Act) → e.act ≡ a → IsNoBatch a
        no-batch (Act.Batch us) same =
            let r = reading (take g f.journal) in
            let makes = (served-makes e.asked f.run.thread r e.owner us (e.row ∙ ap (λ a. Some (e.owner, a)) same)).0.makes in
            not_of (subst IsOfClauses (sym e.is) (makes-of-clauses r e.asked us makes))
        no-batch a same = tt

-- a turn that asks for no clauses
turn-between : (f : Followed) (i : ℕ) (s s' : Taken) → ((q : Item) → wanted (at_turn f i) ≡ Some q → IsOfClauses q → ⊥) → StandsAt f i s → StandsAt f (suc i) s' → Between s s'
turn-between f i s s' none here there = go (wanted (at_turn f i)) refl
  where
    go : (o : Option Item) → wanted (at_turn f i) ≡ o → Between s s'
    go None is = subst (Between s) (stands-once f (suc i) s s' (stays-else f i s here is) there) (between-none s)
    go (Some q) is =
        let one = asked-at f i s q here is in
        subst (Between s) (stands-once f (suc i) one.after s' one.stands there) (item-between f q one.place s one.after (none q is) one.answered)

-- from the turn behind its beginning to a turn before which something is open
pub inside-between : (f : Followed) (k n : ℕ) (begun : Taken) → StandsAt f (suc k) begun → ((i : ℕ) → k < i → i < n → is_open f i ≡ true) → k < n → (s : Taken) → StandsAt f n s → Between begun s
inside-between f k zero begun first open_there after s there = absurd (omega (arith, after))
inside-between f k (suc n) begun first open_there after s there =
    go (eq-or-lt_of_le {n = k} {m = n} (omega (arith, after))) (inside-between f k n begun first (λ i lo hi. open_there i lo (omega (arith, hi))))
  where
    go : ((k ≡ n) ⊎ (k < n)) → (k < n → (s : Taken) → StandsAt f n s → Between begun s) → Between begun s
    go (inl is) rec = subst (Between begun) (stands-once f (suc n) begun s (subst (λ m. StandsAt f (suc m) begun) is first) there) (between-none begun)
    go (inr later) rec =
        let mid = stands-somewhere f n in
        between-both begun mid.0 s (rec later mid.0 mid.1) (turn-between f n mid.0 s (no-clauses f n (open_there n later (omega arith))) mid.1 there)
