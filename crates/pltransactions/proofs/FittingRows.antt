-- The table's rows, of lists that fit: what a goal that is selected and an answer make of them fits.
use Rattle.std.specs.Prelude.{codes}
use Rattle.std.proofs.Common.{◌≡◌, ℕ, suc, ◌+◌, ◌⊎◌, inl, inr, Bool, true, false, if◌then◌else◌, List, [], ◌∷◌, length, map, Option, Some, None, refl, sym, ap, ◌∙◌, subst}
use Rattle.std.specs.List.{filter_map, cons_option}
use Rattle.std.specs.Option.{option_map}
use Rattle.plterm.specs.Tree.{Tree, var, int, atom, compound}
use Rattle.plterm.specs.Variables.{copied}
use Rattle.plterm.specs.declared.indicator.Indicator.{Indicator}
use Rattle.plsubst.specs.Subst.{bind, shift}
use Rattle.plsubst.specs.Unify.{unify}
use Rattle.plclause.specs.Clause.{Clause}
use Rattle.plclause.specs.Indicators.{indicator}
use Rattle.plclause.specs.Clausal.{clausal}
use Rattle.plclause.specs.declared.form.ClauseForm.{ClauseForm}
use Rattle.plclause.specs.declared.form.ClauseForm.TheVariants.{NoHead, BadHead, BadBody, IsClause}
use Rattle.plclause.specs.Named.{named_terms, indicator_of}
use Rattle.plevent.specs.declared.update.Living.{Living}
use Rattle.plevent.specs.declared.update.Update.{Update}
use Rattle.plevent.specs.declared.update.Update.TheVariants.{Declare}
use Rattle.plevent.specs.declared.request.Request.TheVariants.{EraseOne, HaltRun}
use Rattle.plevent.specs.Alive.{Stamped, or_else, exists, living, clauses_alive}
use Rattle.plevent.specs.Search.{Answer, Seen, Got}
use Rattle.pltx.specs.Own.{all_made, any_open, begun}
use Rattle.pltx.specs.declared.level.Isolation.{Isolation}
use Rattle.plnames.specs.declared.kind.Side.{Side}
use Rattle.plprogram.specs.Program.{Program, clauses_for}
use Rattle.plprogram.specs.declared.settings.Unknown.{Unknown}
use Rattle.plprogram.specs.declared.settings.Unknown.TheVariants as unknown
use Rattle.plerror.specs.Errors.{type_error, error_term}
use Rattle.plbuiltin.specs.Lists.{may_be_list}
use Rattle.plbuiltin.specs.Solution.{Solution, Solved, Gives, Raises as Refuses}
use Rattle.plbuiltin.specs.Solutions.{solutions}
use Rattle.plsearch.specs.Types.{Fail, Throw, Halted, Stopped, Unfit, Commit, Never, Until, Collect, Transact, Then, GoesOn, Ends, Lookup, ToCall, ToRetrieve, ToRetract, ToRetractAll, Question, Look, Begin, Await, Erase, Element, Goal, Marker, Asking, Resolvent, Case, Choice, Mark, Local, Move, Give, Go}
use Rattle.plsearch.specs.Lists.{bind_goals, levels}
use Rattle.plsearch.specs.Forms.{Form, True, False, Both, Either, IfThenElse, Not, Once, Catching, FindAll, Within, Throwing, CallWith, Cut, Halting, Adding, Retrieving, Retracting, RetractingAll, Declaring, BuiltIn, Call, NoGoal, form}
use Rattle.plsearch.specs.Running.{Runnable, Runs, Raises, runnable, called}
use Rattle.plsearch.specs.Moves.{is_true, before_rest, resolve, choose, call, raised, go_on, publishing, publish, first_of, run, beginner, opened}
use Rattle.plsearch.specs.Lookups.{clause_term, as_fact, missing, retract, all_erased, looked_up, seen, seek}
use Rattle.plsearch.specs.Rows.{finding, findall_3, gathering, beginning, call_with, branch, catching, thrown, modulo_256, halting, unless, unchangeable, added, add, no_head, no_body, unreadable, retrieving, halves, unerasable, undeclarable, user, solved, taken, offered, offer, row, select}
use Rattle.plsearch.specs.Replies.{Outcome, Served, Late, Stops, Misfits, outcome, follows, answered}
use Rattle.plsearch.specs.Engine.{deeper}
use Rattle.pltransactions.proofs.Contexts.{Choosing, Guarding, Undoing, Entry, entry, around, around-falls, undos, Fits, FitsFirst, AsksNoClauses, Stands, fits-more, leads-fits, fits-bound, fits-first, leads-undos, upto-leads}
use Rattle.pltransactions.proofs.Balls.{thrown-fits}
use Rattle.pltransactions.proofs.Fitting.{PlacesFit, CasesFit, ResultFits, MoveFits, stands-begun, stands-made}

module _ (cs : List Case) (fit : CasesFit cs) where
  abbrev Γ : List Entry
  Γ = around cs

  abbrev d : ℕ
  d = deeper cs 0

  abbrev Inner : List Entry
  Inner = entry d Choosing ∷ Γ

  abbrev Open : Local → Type 0
  Open w = Stands w.own (undos Γ)

  goes : (es : List Element) (n : ℕ) (w : Local) → FitsFirst Γ w.own es → Open w → MoveFits cs (go_on es n w)
  unfolding MoveFits
  goes es n w all is = (fit, record { list = all; open_here = is })

  go-on : (es : List Element) (n : ℕ) (w : Local) → Fits Γ es → Open w → MoveFits cs (go_on es n w)
  go-on es n w all is = goes es n w (fits-first Γ w.own es all) is

  give-up : (w : Local) → Open w → MoveFits cs (Give Fail w)
  unfolding MoveFits ResultFits
  give-up w is = is

  stops : (w : Local) → MoveFits cs (Give Stopped w)
  unfolding MoveFits ResultFits
  stops w = tt

  misfits : (w : Local) → MoveFits cs (Give Unfit w)
  unfolding MoveFits ResultFits
  misfits w = tt

  halts : (n : ℕ) (w : Local) → MoveFits cs (Give (Halted n) w)
  unfolding MoveFits ResultFits
  halts n w = tt

  -- one of two moves
  one-of : (b : Bool) (m m' : Move) → (b ≡ true → MoveFits cs m) → (b ≡ false → MoveFits cs m') → MoveFits cs (if b then m else m')
  one-of true m m' h h' = h refl
  one-of false m m' h h' = h' refl

  asks-first : (q : Question) (rest : List Element) (n : ℕ) (w : Local) → Fits Γ rest → Open w → ((any_open w.own ≡ false) ⊎ AsksNoClauses q) → MoveFits cs (go_on (Asking q ∷ rest) n w)
  unfolding FitsFirst
  asks-first (Erase x) rest n w all is may = goes (Asking (Erase x) ∷ rest) n w all is
  asks-first q rest n w all is may = goes (Asking q ∷ rest) n w (may, all) is

  throws : (b : Tree) (rest : List Element) (w : Local) → Fits Γ rest → Open w → MoveFits cs (Give (Throw b (levels rest)) w)
  unfolding MoveFits ResultFits
  throws b rest w all is = let ball = thrown-fits cs rest all in record { each = ball.each; open_here = subst (Stands w.own) ball.count is }

  raises : (e : Tree) (p : Indicator) (rest : List Element) (w : Local) → Fits Γ rest → Open w → MoveFits cs (raised e p rest w)
  unfolding raised
  raises e p rest w all is = throws (copied 0 (error_term e p)) rest w all is

  -- a list is visited in a choice at the level d
  in-choice : (ps : List Resolvent) (p : Resolvent) (w : Local) → PlacesFit Inner ps → Fits Inner p.goals → Open w → MoveFits cs (Go (Choice ps ∷ []) p w)
  unfolding MoveFits CasesFit around
  in-choice ps p w others first is = ((others, fit), record { list = fits-first Inner w.own p.goals first; open_here = is })

  chooses : (ps : List Resolvent) (w : Local) → PlacesFit Inner ps → Open w → MoveFits cs (choose ps w)
  chooses [] w all is = give-up w is
  chooses (p ∷ ps) w all is = in-choice ps p w all.1 all.0 is

  -- a goal at the level d before a list
  at-level : (t : Tree) (es : List Element) → Fits Inner es → Fits Inner (Goal d t ∷ es)
  unfolding Fits
  at-level t es all = (Γ, inl (refl, refl), all)

  further : (es : List Element) → Fits Γ es → Fits Inner es
  further es all = fits-more (entry d Choosing) Γ es refl all

  body-fits : (b : Bool) (t : Tree) (es : List Element) → Fits Inner es → Fits Inner (before_rest b d t es)
  body-fits true t es all = all
  body-fits false t es all = at-level t es all

  place-fits : (n : ℕ) (t : Tree) (rest : List Element) → Fits Γ rest → (c : Clause) (ps : List Resolvent) → PlacesFit Inner ps → PlacesFit Inner (cons_option (resolve d n t rest c) ps)
  place-fits n t rest all c ps others = go (unify t (shift n c.head))
    where
      go : (o : Option (ℕ → Tree)) →
          PlacesFit Inner (cons_option (option_map (λ σ. record { goals = before_rest (is_true c.body) d (bind σ (shift n c.body)) (bind_goals σ rest); variables = n + c.variables }) o) ps)
      go None = others
      go (Some σ) = (body-fits (is_true c.body) (bind σ (shift n c.body)) (bind_goals σ rest) (further (bind_goals σ rest) (fits-bound σ Γ rest all)), others)

  places-fit : (n : ℕ) (t : Tree) (rest : List Element) → Fits Γ rest → (xs : List Clause) → PlacesFit Inner (filter_map (resolve d n t rest) xs)
  places-fit n t rest all [] = tt
  places-fit n t rest all (x ∷ xs) = place-fits n t rest all x (filter_map (resolve d n t rest) xs) (places-fit n t rest all xs)

  calls : (n : ℕ) (t : Tree) (rest : List Element) (xs : List Clause) (w : Local) → Fits Γ rest → Open w → MoveFits cs (call d n t rest xs w)
  calls n t rest xs w all is = chooses (filter_map (resolve d n t rest) xs) w (places-fit n t rest all xs) is

  -- a term is run at a level of its own, in a choice there
  first-fits : (r : Runnable) (p : Indicator) (k : ℕ) (Δ : List Entry) (rest : List Element) → Fits (entry k Choosing ∷ Δ) rest → Fits (entry k Choosing ∷ Δ) (first_of r p k ∷ rest)
  unfolding Fits
  first-fits (Runs b) p k Δ rest all = (Δ, inl (refl, refl), all)
  first-fits (Raises e) p k Δ rest all = all

  runs : (r : Runnable) (p : Indicator) (rest : List Element) (n : ℕ) (w : Local) → Fits Inner rest → Open w → MoveFits cs (run r p [] d rest n w)
  runs r p rest n w all is = in-choice [] (record { goals = first_of r p d ∷ rest; variables = n }) w tt (first-fits r p d Γ rest all) is

  -- in a branch, in a catcher, in what collects
  in-branch : (list : List Element) (es : List Element) (n : ℕ) (w : Local) → Fits Inner list → Fits (entry (suc d) Choosing ∷ Inner) es → Open w →
      MoveFits cs (Go (Choice [] ∷ branch list n ∷ []) (record { goals = es; variables = n }) w)
  unfolding MoveFits CasesFit around
  in-branch list es n w other all is = ((tt, ((other, tt), fit)), record { list = fits-first _ w.own es all; open_here = is })

  abbrev Guarded : List Entry
  Guarded = entry (suc d) Choosing ∷ entry d Guarding ∷ Γ

  in-catcher : (c r : Tree) (list : List Element) (es : List Element) (n : ℕ) (w : Local) → Fits Γ list → Fits Guarded es → Open w →
      MoveFits cs (Go (Choice [] ∷ catching c r list n ∷ []) (record { goals = es; variables = n }) w)
  unfolding MoveFits CasesFit around
  in-catcher c r list es n w other all is = ((tt, (other, fit)), record { list = fits-first _ w.own es all; open_here = is })

  in-gatherer : (l : Tree) (list : List Element) (es : List Element) (n : ℕ) (w : Local) → Fits Γ list → Fits Guarded es → Open w →
      MoveFits cs (Go (Choice [] ∷ gathering l list n ∷ []) (record { goals = es; variables = n }) w)
  unfolding MoveFits CasesFit around
  in-gatherer l list es n w other all is = ((tt, (other, fit)), record { list = fits-first _ w.own es all; open_here = is })

  thrown-allowed : (b : Tree) (rest : List Element) (w : Local) → Fits Γ rest → Open w → MoveFits cs (thrown b rest w)
  thrown-allowed (var x) rest w all is = raises _ _ rest w all is
  thrown-allowed (int i) rest w all is = throws (copied 0 (int i)) rest w all is
  thrown-allowed (atom f) rest w all is = throws (copied 0 (atom f)) rest w all is
  thrown-allowed (compound f ts) rest w all is = throws (copied 0 (compound f ts)) rest w all is

  halting-fits : (t : Tree) (rest : List Element) (n : ℕ) (w : Local) → Fits Γ rest → Open w → MoveFits cs (halting t rest n w)
  halting-fits (var x) rest n w all is = raises _ _ rest w all is
  halting-fits (int i) rest n w all is = asks-first (Await (HaltRun (modulo_256 i)) (Ends (modulo_256 i))) rest n w all is (inr (λ of. of))
  halting-fits (atom f) rest n w all is = raises _ _ rest w all is
  halting-fits (compound f ts) rest n w all is = raises _ _ rest w all is

  -- the predicates on clauses
  publish-fits : (us : List Update) (rest : List Element) (n : ℕ) (w : Local) → Fits Γ rest → Open w → MoveFits cs (publish us rest n w)
  publish-fits us rest n w all is =
      one-of (any_open w.own) (go_on rest n (record w { own = all_made us w.own })) _
      (λ now. go-on rest n (record w { own = all_made us w.own }) all (stands-made us w.own (undos Γ) now is)) (asks us)
    where
      asks : (us : List Update) → any_open w.own ≡ false → MoveFits cs (go_on (publishing us rest) n w)
      asks [] closed = go-on rest n w all is
      asks (u ∷ us) closed = asks-first _ rest n w all is (inl closed)

  unless-fits : (o : Option Tree) (p : Indicator) (rest : List Element) (w : Local) (m : Move) → Fits Γ rest → Open w → MoveFits cs m → MoveFits cs (unless o p rest w m)
  unless-fits None p rest w m all is other = other
  unless-fits (Some e) p rest w m all is other = raises e p rest w all is

  add-fits : (P : Program) (side : Side) (p : Indicator) (c : ClauseForm) (rest : List Element) (n : ℕ) (w : Local) → Fits Γ rest → Open w → MoveFits cs (add P side p c rest n w)
  add-fits P side p NoHead rest n w all is = raises _ _ rest w all is
  add-fits P side p (BadHead h) rest n w all is = raises _ _ rest w all is
  add-fits P side p (BadBody b) rest n w all is = raises _ _ rest w all is
  add-fits P side p (IsClause c) rest n w all is = unless-fits (unchangeable P (indicator c.head)) p rest w _ all is (publish-fits (added side c ∷ []) rest n w all is)

  retracts-fit : (n : ℕ) (t : Tree) (rest : List Element) → Fits Γ rest → (xs : List Living) → PlacesFit Inner (filter_map (retract d n t rest) xs)
  unfolding Fits
  retracts-fit n t rest all [] = tt
  retracts-fit n t rest all (x ∷ xs) = place-fits n t (Asking (Erase x.name) ∷ rest) all (as_fact x.clause) (filter_map (retract d n t rest) xs) (retracts-fit n t rest all xs)

  missing-fits : (u : Unknown) (t : Tree) (rest : List Element) (w : Local) → Fits Γ rest → Open w → MoveFits cs (missing u t rest w)
  missing-fits unknown.Error t rest w all is = raises _ _ rest w all is
  missing-fits unknown.Fail t rest w all is = give-up w is

  looked-up-fits : (us : List Stamped) (u : Lookup) (rest : List Element) (n : ℕ) (w : Local) → Fits Γ rest → Open w → MoveFits cs (looked_up us u d rest n w)
  looked-up-fits us (ToCall t) rest n w all is =
      one-of (exists us (indicator t)) (call d n t rest (clauses_alive us (indicator t)) w) _ (λ there. calls n t rest (clauses_alive us (indicator t)) w all is) (λ there. missing-fits w.settings.unknown t rest w all is)
  looked-up-fits us (ToRetrieve h b) rest n w all is = calls n (clause_term h b) rest (map as_fact (clauses_alive us (indicator h))) w all is
  looked-up-fits us (ToRetract h b) rest n w all is =
      chooses (filter_map (retract d n (clause_term h b) rest) (living us (indicator h))) w (retracts-fit n (clause_term h b) rest all (living us (indicator h))) is
  looked-up-fits us (ToRetractAll h) rest n w all is = publish-fits (all_erased us n h) rest n w all is

  seek-fits : (below : List Stamped) (u : Lookup) (rest : List Element) (n : ℕ) (w : Local) → Fits Γ rest → Open w → MoveFits cs (seek below u d rest n w)
  seek-fits below u rest n w all is =
      one-of (any_open w.own) (looked_up (seen below w.own) u d rest n w) _ (λ now. looked-up-fits (seen below w.own) u rest n w all is) (λ closed. asks-first (Look u) rest n w all is (inl closed))

  retrieving-fits : (below : List Stamped) (xs : List Clause) (h b : Tree) (rest : List Element) (n : ℕ) (w : Local) → Fits Γ rest → Open w → MoveFits cs (retrieving below xs d h b rest n w)
  retrieving-fits below [] h b rest n w all is = seek-fits below (ToRetrieve h b) rest n w all is
  retrieving-fits below (x ∷ xs) h b rest n w all is = calls n (clause_term h b) rest (map as_fact (x ∷ xs)) w all is

  user-fits : (below : List Stamped) (xs : List Clause) (t : Tree) (rest : List Element) (n : ℕ) (w : Local) → Fits Γ rest → Open w → MoveFits cs (user below xs d t rest n w)
  user-fits below [] t rest n w all is = seek-fits below (ToCall t) rest n w all is
  user-fits below (x ∷ xs) t rest n w all is = calls n t rest (x ∷ xs) w all is

  -- the solutions of a built-in predicate
  taken-fits : (o : Option (ℕ → Tree)) (rest : List Element) (n m : ℕ) (w : Local) → Fits Γ rest → Open w →
      MoveFits cs (taken (option_map (λ σ. record { goals = bind_goals σ rest; variables = n + m }) o) w)
  taken-fits None rest n m w all is = give-up w is
  taken-fits (Some σ) rest n m w all is = go-on (bind_goals σ rest) (n + m) w (fits-bound σ Γ rest all) is

  solutions-fit : (rest : List Element) (n : ℕ) → Fits Γ rest → (ss : List Solution) → PlacesFit Inner (filter_map (solved rest n) ss)
  solutions-fit rest n all [] = tt
  solutions-fit rest n all (s ∷ ss) = go (unify s.left s.right) (solutions-fit rest n all ss)
    where
      go : (o : Option (ℕ → Tree)) → PlacesFit Inner (filter_map (solved rest n) ss) →
          PlacesFit Inner (cons_option (option_map (λ σ. record { goals = bind_goals σ rest; variables = n + s.new }) o) (filter_map (solved rest n) ss))
      go None others = others
      go (Some σ) others = (further (bind_goals σ rest) (fits-bound σ Γ rest all), others)

  offered-fits : (ss : List Solution) (rest : List Element) (n : ℕ) (w : Local) → Fits Γ rest → Open w → MoveFits cs (offered ss rest n w)
  offered-fits [] rest n w all is = give-up w is
  offered-fits (s ∷ []) rest n w all is = taken-fits (unify s.left s.right) rest n s.new w all is
  offered-fits (s ∷ t ∷ ss) rest n w all is = chooses (filter_map (solved rest n) (s ∷ t ∷ ss)) w (solutions-fit rest n all (s ∷ t ∷ ss)) is

  offer-fits : (x : Solved) (p : Indicator) (rest : List Element) (n : ℕ) (w : Local) → Fits Γ rest → Open w → MoveFits cs (offer x p rest n w)
  offer-fits (Refuses e) p rest n w all is = raises e p rest w all is
  offer-fits (Gives ss bytes settings) p rest n w all is = offered-fits ss rest n _ all is

  finding-fits : (t g l : Tree) (rest : List Element) (n : ℕ) (w : Local) → Fits Γ rest → Open w → MoveFits cs (finding t g l d rest n w)
  unfolding Fits
  finding-fits t g l rest n w all is =
      one-of (may_be_list l) _ (raised (type_error (codes "list") l) findall_3 rest w)
      (λ may. in-gatherer l rest (first_of (runnable g) _ (suc d) ∷ Marker (Collect t) d ∷ rest) n w all
      (first-fits (runnable g) _ (suc d) (entry d Guarding ∷ Γ) (Marker (Collect t) d ∷ rest) (Γ, inr (refl, inl (refl, refl)), all)) is)
      (λ may. raises _ _ rest w all is)

  -- a transaction or a snapshot begins
  opened-fits : (i : Isolation) (b : ℕ) (g : Tree) (rest : List Element) (n : ℕ) (w : Local) → Fits Γ rest → Open w → MoveFits cs (opened i b g d rest n w)
  unfolding MoveFits CasesFit around Fits
  opened-fits i b g rest n w all is =
      let far = suc (suc d) in
      let list = first-fits (runnable g) (beginner i) far (entry (suc d) Undoing ∷ Inner) (Marker (Transact d) (suc d) ∷ rest) (Γ, inr (refl, inl (refl, refl)), further rest all) in
      ((tt, (further rest all, (tt, fit))), record { list = fits-first _ (begun i b w.own) _ list; open_here = stands-begun i b w.own (undos Γ) is })

  beginning-fits : (i : Isolation) (g : Tree) (rest : List Element) (n : ℕ) (w : Local) → Fits Γ rest → Open w → MoveFits cs (beginning i g d rest n w)
  beginning-fits i g rest n w all is =
      one-of (any_open w.own) (opened i w.own.base g d rest n w) _ (λ now. opened-fits i w.own.base g rest n w all is) (λ closed. asks-first (Begin i g) rest n w all is (inl closed))

  -- a cut to the level k
  cuts : (k : ℕ) (t : Tree) (rest : List Element) (n : ℕ) (w : Local) → Fits Γ (Goal k t ∷ rest) → Open w → MoveFits cs (Go (Mark k ∷ []) (record { goals = rest; variables = n }) w)
  unfolding MoveFits CasesFit around Fits
  cuts k t rest n w h is =
      let there = upto-leads d Γ Choosing k h.0 (around-falls cs) h.1 in (
        ((h.0, there), fit),
        record {
          list = subst (λ Σ. FitsFirst Σ w.own rest) (sym there) (fits-first (entry k Choosing ∷ h.0) w.own rest h.2);
          open_here = subst (Stands w.own) (leads-undos Γ Choosing k h.0 h.1 ∙ ap undos (sym there)) is;
        },
      )

  row-fits : (P : Program) (below : List Stamped) (c : Form) (k : ℕ) (t : Tree) (rest : List Element) (n : ℕ) (w : Local) → Fits Γ (Goal k t ∷ rest) → Fits Γ rest → Open w →
      MoveFits cs (row P below c k t d rest n w)
  unfolding row Fits
  row-fits P below True k t rest n w h all is = go-on rest n w all is
  row-fits P below False k t rest n w h all is = give-up w is
  row-fits P below (Both a b) k t rest n w h all is = go-on (Goal k a ∷ Goal k b ∷ rest) n w (h.0, h.1, (h.0, inl (refl, refl), h.2)) is
  row-fits P below (Either a b) k t rest n w h all is =
      in-choice (record { goals = Goal k b ∷ rest; variables = n } ∷ []) (record { goals = Goal k a ∷ rest; variables = n }) w (further (Goal k b ∷ rest) h, tt) (further (Goal k a ∷ rest) h) is
  row-fits P below (IfThenElse c a e) k t rest n w h all is =
      in-branch (Goal k e ∷ rest) (Goal (suc d) c ∷ Marker Commit d ∷ Goal k a ∷ rest) n w (further (Goal k e ∷ rest) h)
      (Inner, inl (refl, refl), (Γ, inr (refl, inl (refl, refl)), further (Goal k a ∷ rest) h)) is
  row-fits P below (Not g) k t rest n w h all is =
      in-branch rest (first_of (runnable g) _ (suc d) ∷ Marker Never d ∷ rest) n w (further rest all)
      (first-fits (runnable g) _ (suc d) Inner (Marker Never d ∷ rest) (Γ, inr (refl, inl (refl, refl)), further rest all)) is
  row-fits P below (Catching g c r) k t rest n w h all is =
      in-catcher c r rest (first_of (runnable g) _ (suc d) ∷ Marker Until d ∷ rest) n w all
      (first-fits (runnable g) _ (suc d) (entry d Guarding ∷ Γ) (Marker Until d ∷ rest) (Γ, inr (refl, inl (refl, refl)), all)) is
  row-fits P below (FindAll a g l) k t rest n w h all is = finding-fits a g l rest n w all is
  row-fits P below (Within i g) k t rest n w h all is = beginning-fits i g rest n w all is
  row-fits P below (Throwing b) k t rest n w h all is = thrown-allowed b rest w all is
  row-fits P below (Once g) k t rest n w h all is = runs (runnable g) _ (Marker Commit d ∷ rest) n w (Γ, inl (refl, refl), further rest all) is
  row-fits P below (CallWith g us) k t rest n w h all is = runs (called g us) (call_with (length us)) rest n w (further rest all) is
  row-fits P below Cut k t rest n w h all is = cuts k t rest n w h is
  row-fits P below (Halting i) k t rest n w h all is = halting-fits i rest n w all is
  row-fits P below (Adding side c) k t rest n w h all is = add-fits P side (indicator t) (clausal c) rest n w all is
  row-fits P below (Retrieving hd b) k t rest n w h all is =
      unless-fits (or_else (no_head hd) (or_else (no_body b) (unreadable (indicator hd)))) (indicator t) rest w _ all is (retrieving-fits below (clauses_for P (indicator hd)) hd b rest n w all is)
  row-fits P below (Retracting c) k t rest n w h all is = unless-fits (unerasable P (halves c).0) (indicator t) rest w _ all is (seek-fits below (ToRetract (halves c).0 (halves c).1) rest n w all is)
  row-fits P below (RetractingAll hd) k t rest n w h all is = unless-fits (unerasable P hd) (indicator t) rest w _ all is (seek-fits below (ToRetractAll hd) rest n w all is)
  row-fits P below (Declaring ps) k t rest n w h all is =
      unless-fits (undeclarable P (named_terms ps)) (indicator t) rest w _ all is (publish-fits (map Declare (filter_map indicator_of (named_terms ps))) rest n w all is)
  row-fits P below (BuiltIn b us) k t rest n w h all is = offer-fits (solutions b us w.settings n) (indicator t) rest n w all is
  row-fits P below (Call p) k t rest n w h all is = user-fits below (clauses_for P p) t rest n w all is
  row-fits P below NoGoal k t rest n w h all is = give-up w is

  pub select-fits : (P : Program) (below : List Stamped) (k : ℕ) (t : Tree) (rest : List Element) (n : ℕ) (w : Local) → Fits Γ (Goal k t ∷ rest) → Open w →
      MoveFits cs (select P below k t d rest n w)
  unfolding select Fits
  select-fits P below k t rest n w h is = row-fits P below (form t) k t rest n w h (leads-fits Γ Choosing k h.0 rest refl h.1 h.2) is

  follows-fits : (o : Outcome) (t : Then) (rest : List Element) (n : ℕ) (w : Local) → Fits Γ rest → Open w → MoveFits cs (follows o t rest n w)
  follows-fits Served GoesOn rest n w all is = go-on rest n w all is
  follows-fits Served (Ends k) rest n w all is = halts k w
  follows-fits Late t rest n w all is = give-up w is
  follows-fits Stops t rest n w all is = stops w
  follows-fits Misfits t rest n w all is = misfits w

  pub answered-fits : (e : Element) (a : Answer) (rest : List Element) (n : ℕ) (w : Local) → Fits Γ rest → Open w → MoveFits cs (answered e a d rest n w)
  unfolding answered
  answered-fits (Asking (Look u)) (Seen g us) rest n w all is = looked-up-fits us u rest n w all is
  answered-fits (Asking (Begin i g)) (Seen v us) rest n w all is = opened-fits i v g rest n w all is
  answered-fits (Asking (Await q t)) (Got r) rest n w all is = follows-fits (outcome q r) t rest n w all is
  answered-fits (Asking (Erase x)) (Got r) rest n w all is = follows-fits (outcome (EraseOne x) r) GoesOn rest n w all is
  answered-fits e a rest n w all is = misfits w
