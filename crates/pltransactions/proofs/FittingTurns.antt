-- A turn of a machine that fits leaves one that fits.
use Rattle.std.specs.Prelude.{not}
use Rattle.std.proofs.Common.{◌≡◌, ℕ, zero, suc, ◌+◌, ◌<◌, ◌≤◌, ◌⊎◌, inl, inr, Bool, true, false, if◌then◌else◌, List, [], ◌∷◌, length, Option, Some, None, refl, sym, ap, ◌∙◌, subst, arith, nat_eq}
use Rattle.std.proofs.lemmas.Bool.Decides.{nat_tests}
use Rattle.std.specs.Option.{option_map}
use Rattle.plterm.specs.Tree.{Tree}
use Rattle.plterm.specs.Variables.{copied, variables}
use Rattle.plsubst.specs.Subst.{bind}
use Rattle.plsubst.specs.Unify.{unify}
use Rattle.plevent.specs.Search.{Item, Ask, Answer}
use Rattle.plevent.specs.declared.request.Request.TheVariants.{EraseOne}
use Rattle.plevent.specs.declared.update.ClauseName.{ClauseName}
use Rattle.plevent.specs.declared.update.Update.{Update}
use Rattle.plevent.specs.declared.update.Update.TheVariants.{Erase}
use Rattle.pltx.specs.Own.{State, any_open, ended_at, ended, ending_at, ending, erased_in, made, target_at}
use Rattle.pltx.specs.declared.level.Level.{Level}
use Rattle.pltx.specs.declared.level.Isolation.TheVariants.{Transaction, Snapshot}
use Rattle.pltx.specs.declared.level.Isolation.{Isolation}
use Rattle.plprogram.specs.Program.{Program}
use Rattle.plbuiltin.specs.Solution.{Solution}
use Rattle.plsearch.specs.Types.{Result, Stop, Fail, CutTo, Throw, Halted, Spent, Awaits, Stopped, Unfit, Commit, Never, Until, Collect, Transact, Question, Element, Goal, Marker, Raise, Asking, Resolvent, Case, Choice, Mark, Handle, Handler, Catch, Gather, Undo, Local, Move, Give, Go, Asks, End, Pass, Return, Keep, Again, Anew, Supply}
use Rattle.plsearch.specs.Lists.{bind_goals, levels}
use Rattle.plsearch.specs.Running.{Runnable, Runs, Raises, runnable}
use Rattle.plsearch.specs.Collecting.{copies_from, dropped, gathered}
use Rattle.plsearch.specs.Moves.{publishing}
use Rattle.plerror.specs.Errors.{error_term}
use Rattle.plsearch.specs.Rows.{catch_3, select, asked, erasing, published, meet, solved}
use Rattle.plsearch.specs.Replies.{answered, founded}
use Rattle.plsearch.specs.Handlers.{has, recovers, met_by, goes_on, undone, resume}
use Rattle.plsearch.specs.Engine.{stop_cut, mark, deeper}
use Rattle.plsearch.specs.Machines.Machine.{Mode, At, Back, Machine, move, step, ask, meets, visits, choose, return, backs, turn_in, turn}
use Rattle.pltransactions.proofs.Contexts.{Sort, Choosing, Guarding, Undoing, Entry, entry, handler_sort, upto, around, around-falls, undos, Fits, FitsFirst, Stands, either-le, upto-here, upto-past, upto-twice, fits-more, leads-fits, fits-bound, fits-first, leads-undos, upto-leads, upto-behind}
use Rattle.pltransactions.proofs.Balls.{named_with, named, HandlersFit, thrown-fits}
use Rattle.pltransactions.proofs.Fitting.{HasChoice, CasesFit, PlaceFits, CutFits, ResultFits, ModeFits, Fitting, MoveFits, stands-ended, stands-made}
use Rattle.pltransactions.proofs.FittingRows.{select-fits, answered-fits}

move-fits : (cs : List Case) → CasesFit cs → (run : Supply) (m : Move) → MoveFits cs m → Fitting (move cs run m)
unfolding MoveFits
move-fits cs fit run (Give r w) h = record { outside = fit; here = h }
move-fits cs fit run (Go new p w) h = record { outside = h.0; here = h.1 }

-- a list behind a mark
marked-outside : (cs : List Case) (l : ℕ) (Δ : List Entry) → CasesFit cs → upto l (around cs) ≡ entry l Choosing ∷ Δ → CasesFit (Mark l ∷ cs)
unfolding CasesFit
marked-outside cs l Δ fit there = ((Δ, there), fit)

marked-here : (cs : List Case) (l : ℕ) (Δ : List Entry) (x : State) (es : List Element) → upto l (around cs) ≡ entry l Choosing ∷ Δ →
    FitsFirst (entry l Choosing ∷ Δ) x es → Stands x (undos Δ) → PlaceFits (Mark l ∷ cs) x es
unfolding around
marked-here cs l Δ x es there all is = record { list = subst (λ Σ. FitsFirst Σ x es) (sym there) all; open_here = subst (λ Σ. Stands x (undos Σ)) (sym there) is }

thrown : (cs : List Case) (b : Tree) (es : List Element) (x : State) → Fits (around cs) es → Stands x (undos (around cs)) → ResultFits cs x (Throw b (levels es))
unfolding ResultFits
thrown cs b es x all is = let ball = thrown-fits cs es all in record { each = ball.each; open_here = subst (Stands x) ball.count is }

-- an inner end publishes nothing
pub inner-updates : (us : List Update) (level outer : Level) (levels : List Level) (i : Isolation) → level.kind ≡ i → published (ending_at true us (level ∷ outer ∷ levels)) ≡ []
inner-updates us level outer levels Transaction is = rw is refl
inner-updates us level outer levels Snapshot is = rw is refl

-- where updates are published, nothing is open
published-closed : (x : State) (u : Update) (us : List Update) → published (ending true x) ≡ u ∷ us → any_open (ended true x) ≡ false
published-closed x u us is = go x.levels is
  where
    none : (ls : List Update) → ls ≡ [] → ls ≡ u ∷ us → ⊥
    none ls empty is = never (sym empty ∙ is)
      where
        never : ◌≡◌ {A = List Update} [] (u ∷ us) → ⊥
        never is = cc

    go : (ls : List Level) → published (ending_at true x.updates ls) ≡ u ∷ us → any_open (ended_at true x ls) ≡ false
    go [] is = absurd (none [] refl is)
    go (l ∷ []) is = refl
    go (l ∷ m ∷ ls) is = absurd (none (published (ending_at true x.updates (l ∷ m ∷ ls))) (inner-updates x.updates l m ls l.kind refl) is)

publishing-fits : (Σ : List Entry) (x : State) (us : List Update) (es : List Element) → ((u : Update) (more : List Update) → us ≡ u ∷ more → any_open x ≡ false) → Fits Σ es → FitsFirst Σ x (publishing us es)
unfolding FitsFirst
publishing-fits Σ x [] es closed all = fits-first Σ x es all
publishing-fits Σ x (u ∷ us) es closed all = (inl (closed u us refl), all)

ask-fits : (cs : List Case) → CasesFit cs → (e : Element) (es : List Element) (n : ℕ) (q : Item) (run : Supply) (xs : List Answer) → Fits (around cs) es → Stands run.local.own (undos (around cs)) →
    Fitting (ask cs e es n q run xs)
unfolding ResultFits
ask-fits cs fit e es n q run [] all is = record { outside = fit; here = tt }
ask-fits cs fit e es n q run (a ∷ more) all is = move-fits cs fit (record run { answers = more; below = founded e a run.below }) (answered e a (deeper cs 0) es n run.local) (answered-fits cs fit e a es n run.local all is)

erasing-fits : (P : Program) (cs : List Case) → CasesFit cs → (x : ClauseName) (es : List Element) (n : ℕ) (run : Supply) → Fits (around cs) es → Stands run.local.own (undos (around cs)) →
    Fitting (meets P cs (Asking (Question.Erase x)) es n run (erasing x run.local))
unfolding ResultFits
erasing-fits P cs fit x es n run all is = go (any_open run.local.own) refl (erased_in (target_at run.local.own.base x) run.local.own.updates)
  where
    go : (b : Bool) → any_open run.local.own ≡ b → (c : Bool) →
        Fitting (meets P cs (Asking (Question.Erase x)) es n run (if not b then Asks (Ask (EraseOne x)) else (if c then End Fail run.local else Pass (record run.local { own = made (Erase x) run.local.own }))))
    go false closed c = ask-fits cs fit (Asking (Question.Erase x)) es n (Ask (EraseOne x)) run run.answers all is
    go true now true = record { outside = fit; here = is }
    go true now false = record { outside = fit; here = record { list = fits-first (around cs) _ es all; open_here = stands-made (Erase x ∷ []) run.local.own (undos (around cs)) now is } }

visits-fit : (P : Program) (cs : List Case) → CasesFit cs → (es : List Element) (n : ℕ) (run : Supply) → FitsFirst (around cs) run.local.own es → Stands run.local.own (undos (around cs)) → Fitting (visits P cs es n run)
unfolding meet FitsFirst Fits ResultFits
visits-fit P cs fit [] n run all is = record { outside = fit; here = subst (Stands run.local.own) all is }
visits-fit P cs fit (Goal k t ∷ es) n run all is = go run.steps
  where
    go : (m : ℕ) → Fitting (step cs (select P run.below k t (deeper cs 0) es n) run m)
    go zero = record { outside = fit; here = tt }
    go (suc m) = move-fits cs fit (record run { steps = m }) (select P run.below k t (deeper cs 0) es n run.local) (select-fits cs fit P run.below k t es n run.local all is)
visits-fit P cs fit (Marker Commit l ∷ es) n run all is =
    let there = upto-leads (deeper cs 0) (around cs) Choosing l all.0 (around-falls cs) all.1 in
    record {
      outside = marked-outside cs l all.0 fit there;
      here = marked-here cs l all.0 run.local.own es there (fits-first (entry l Choosing ∷ all.0) run.local.own es all.2) (subst (Stands run.local.own) (leads-undos (around cs) Choosing l all.0 all.1) is);
    }
visits-fit P cs fit (Marker Never l ∷ es) n run all is =
    let there = upto-leads (deeper cs 0) (around cs) Choosing l all.0 (around-falls cs) all.1 in
    record { outside = fit; here = record { choice = (all.0, there); open_here = subst (Stands run.local.own) (leads-undos (around cs) Choosing l all.0 all.1 ∙ ap undos (sym there)) is } }
visits-fit P cs fit (Marker Until l ∷ es) n run all is =
    record { outside = fit; here = record { list = fits-first (around cs) run.local.own es (leads-fits (around cs) Guarding l all.0 es refl all.1 (fits-more (entry l Guarding) all.0 es refl all.2)); open_here = is } }
visits-fit P cs fit (Marker (Collect t) l ∷ es) n run all is = record { outside = fit; here = is }
visits-fit P cs fit (Marker (Transact d) l ∷ es) n run all is =
    let there = upto-behind (deeper cs 0) (around cs) Undoing l (entry d Choosing) all.0 (around-falls cs) all.1 in
    let own = run.local.own in
    record {
      outside = marked-outside cs d all.0 fit there;
      here = marked-here cs d all.0 (ended true own) (publishing (published (ending true own)) es) there
          (publishing-fits _ (ended true own) (published (ending true own)) es (λ u us is. published-closed own u us is) all.2)
          (stands-ended true own (undos all.0) (subst (Stands own) (leads-undos (around cs) Undoing l (entry d Choosing ∷ all.0) all.1) is));
    }
visits-fit P cs fit (Raise b ∷ es) n run all is = record { outside = fit; here = thrown cs b es run.local.own all is }
visits-fit P cs fit (Asking (Question.Erase x) ∷ es) n run all is = erasing-fits P cs fit x es n run all is
visits-fit P cs fit (Asking q ∷ es) n run all is = ask-fits cs fit (Asking q) es n (asked q) run run.answers all.1 is

-- a result outside of a choice
unlike : (l d : ℕ) → l < d → nat_eq l d ≡ false
unlike l d lt = grind (arith, nat_tests)

itself : (d : ℕ) → nat_eq d d ≡ true
itself d = grind (arith, nat_tests)

cut-choice : (cs : List Case) (ps : List Resolvent) (x : State) (l : ℕ) → CutFits (Choice ps ∷ cs) x l → ResultFits cs x (stop_cut (deeper cs 0) (CutTo l))
unfolding around ResultFits
cut-choice cs ps x l h = go (either-le (deeper cs 0) l)
  where
    d : ℕ
    d = deeper cs 0

    first : (Δ : List Entry) → entry (deeper cs 0) Choosing ∷ around cs ≡ entry l Choosing ∷ Δ → deeper cs 0 ≡ l
    first Δ same = let one : entry (deeper cs 0) Choosing ≡ entry l Choosing = cc in ap (λ e. e.level) one

    go : ((deeper cs 0 ≤ l) ⊎ (l < deeper cs 0)) → ResultFits cs x (stop_cut (deeper cs 0) (CutTo l))
    go (inl le) =
        let here = upto-here l (entry (deeper cs 0) Choosing) (around cs) le in
        let level = first h.choice.0 (sym here ∙ h.choice.1) in
        let is : stop_cut (deeper cs 0) (CutTo l) ≡ Fail = rw (sym level, itself (deeper cs 0)) refl in
        subst (ResultFits cs x) (sym is) (subst (λ Σ. Stands x (undos Σ)) here h.open_here)
    go (inr lt) =
        let past = upto-past l (entry (deeper cs 0) Choosing) (around cs) lt in
        let is : stop_cut (deeper cs 0) (CutTo l) ≡ CutTo l = rw (unlike l (deeper cs 0) lt) refl in
        subst (ResultFits cs x) (sym is) (record { choice = (h.choice.0, sym past ∙ h.choice.1); open_here = subst (λ Σ. Stands x (undos Σ)) past h.open_here })

choice-fits : (cs : List Case) (ps : List Resolvent) (x : State) (r : Result) → ResultFits (Choice ps ∷ cs) x r → ResultFits cs x (stop_cut (deeper cs 0) r)
unfolding ResultFits around named HandlersFit
choice-fits cs ps x Stop h = h
choice-fits cs ps x Fail h = h
choice-fits cs ps x (CutTo l) h = cut-choice cs ps x l h
choice-fits cs ps x (Throw b ls) h = record { each = h.each; open_here = h.open_here }
choice-fits cs ps x (Halted n) h = tt
choice-fits cs ps x Spent h = tt
choice-fits cs ps x (Awaits q) h = tt
choice-fits cs ps x Stopped h = tt
choice-fits cs ps x Unfit h = tt

chooses-fit : (cs : List Case) (run : Supply) (ps : List Resolvent) (r : Result) → CasesFit (Choice ps ∷ cs) → ResultFits (Choice ps ∷ cs) run.local.own r → Fitting (choose cs run ps r)
unfolding CasesFit ResultFits around
chooses-fit cs run (p ∷ ps) Fail fit h = record { outside = (fit.0.1, fit.1); here = record { list = fits-first _ run.local.own p.goals fit.0.0; open_here = h } }
chooses-fit cs run [] Fail fit h = record { outside = fit.1; here = choice-fits cs [] run.local.own Fail h }
chooses-fit cs run (p ∷ ps) r fit h = record { outside = fit.1; here = choice-fits cs (p ∷ ps) run.local.own r h }
chooses-fit cs run [] r fit h = record { outside = fit.1; here = choice-fits cs [] run.local.own r h }

-- outside of a mark
mark-fits : (cs : List Case) (l : ℕ) (x : State) (r : Result) → HasChoice cs l → ResultFits (Mark l ∷ cs) x r → ResultFits cs x (mark l r)
unfolding ResultFits around named HandlersFit
mark-fits cs l x Stop has-it h = h
mark-fits cs l x Fail has-it h = record { choice = has-it; open_here = h }
mark-fits cs l x (CutTo k) has-it h =
    let there = upto-twice (deeper cs 0) k l (around cs) Choosing h.choice.0 (around-falls cs) h.choice.1 in
    record { choice = (h.choice.0, there); open_here = subst (λ Σ. Stands x (undos Σ)) (h.choice.1 ∙ sym there) h.open_here }
mark-fits cs l x (Throw b ls) has-it h = record { each = h.each; open_here = h.open_here }
mark-fits cs l x (Halted n) has-it h = tt
mark-fits cs l x Spent has-it h = tt
mark-fits cs l x (Awaits q) has-it h = tt
mark-fits cs l x Stopped has-it h = tt
mark-fits cs l x Unfit has-it h = tt

-- outside of a handler
handler-cut : (cs : List Case) (h : Handler) (p : Resolvent) (x : State) (l : ℕ) → CutFits (Handle h p ∷ cs) x l → CutFits cs x l
unfolding around
handler-cut cs h p x l fit = go (either-le (deeper cs 0) l)
  where
    no-choice : (h : Handler) → handler_sort h ≡ Choosing → ⊥
    no-choice (Catch c r) is = cc
    no-choice (Gather t) is = cc
    no-choice Undo is = cc

    first : (s : Sort) (Δ : List Entry) → entry (deeper cs 0) s ∷ around cs ≡ entry l Choosing ∷ Δ → s ≡ Choosing
    first s Δ same = let one : entry (deeper cs 0) s ≡ entry l Choosing = cc in ap (λ e. e.sort) one

    go : ((deeper cs 0 ≤ l) ⊎ (l < deeper cs 0)) → CutFits cs x l
    go (inl le) = absurd (no-choice h (first (handler_sort h) fit.choice.0 (sym (upto-here l (entry (deeper cs 0) (handler_sort h)) (around cs) le) ∙ fit.choice.1)))
    go (inr lt) =
        let past = upto-past l (entry (deeper cs 0) (handler_sort h)) (around cs) lt in
        record { choice = (fit.choice.0, sym past ∙ fit.choice.1); open_here = subst (λ Σ. Stands x (undos Σ)) past fit.open_here }

-- what goes on
unfoldable ReturnFits : List Case → Return → Type 0
ReturnFits cs (Keep r w) = ResultFits cs w.own r
ReturnFits cs (Again p w) = PlaceFits cs w.own p.goals
ReturnFits cs (Anew p w) = PlaceFits (Choice [] ∷ cs) w.own p.goals

return-fits : (cs : List Case) → CasesFit cs → (run : Supply) (b : Return) → ReturnFits cs b → Fitting (return cs run b)
unfolding ReturnFits CasesFit
return-fits cs fit run (Keep r w) h = record { outside = fit; here = h }
return-fits cs fit run (Again p w) h = record { outside = fit; here = h }
return-fits cs fit run (Anew p w) h = record { outside = (tt, fit); here = h }

resume-fits : (cs : List Case) (h : Handler) (p : Resolvent) (r : Result) (w : Local) → Fits (around cs) p.goals → ResultFits (Handle h p ∷ cs) w.own r → ReturnFits cs (resume h p (deeper cs 0) r w)
unfolding resume ReturnFits ResultFits around named HandlersFit Fits FitsFirst
resume-fits cs (Catch c r) p (Throw b ls) w all ball = go (has (deeper cs 0) ls) refl
  where
    tail : ResultFits cs w.own (Throw b ls)
    tail = record { each = ball.each.1; open_here = ball.open_here }

    recovers-fits : (x : Runnable) (es : List Element) (n : ℕ) → Fits (around cs) es → Stands w.own (undos (around cs)) → ReturnFits cs (recovers x (deeper cs 0) es n w)
    recovers-fits (Runs g) es n all is = record { list = (around cs, inl (refl, refl), fits-more (entry (deeper cs 0) Choosing) (around cs) es refl all); open_here = is }
    recovers-fits (Raises e) es n all is = thrown cs (copied 0 (error_term e catch_3)) es w.own all is

    met-fits : (o : Option (ℕ → Tree)) → Stands w.own (undos (around cs)) → ReturnFits cs (met_by o r b ls p (deeper cs 0) w)
    met-fits None is = tail
    met-fits (Some σ) is = recovers-fits (runnable (bind σ r)) (bind_goals σ p.goals) (p.variables + length (variables b)) (fits-bound σ (around cs) p.goals all) is

    go : (x : Bool) → has (deeper cs 0) ls ≡ x → ReturnFits cs (if x then met_by (unify c (copied p.variables b)) r b ls p (deeper cs 0) w else Keep (Throw b ls) w)
    go false is = tail
    go true is = met-fits (unify c (copied p.variables b)) (subst (Stands w.own) (ball.each.0 is) ball.open_here)
resume-fits cs (Catch c r) p Stop w all h = h
resume-fits cs (Catch c r) p Fail w all h = h
resume-fits cs (Catch c r) p (CutTo l) w all h = handler-cut cs (Catch c r) p w.own l h
resume-fits cs (Catch c r) p (Halted n) w all h = tt
resume-fits cs (Catch c r) p Spent w all h = tt
resume-fits cs (Catch c r) p (Awaits q) w all h = tt
resume-fits cs (Catch c r) p Stopped w all h = tt
resume-fits cs (Catch c r) p Unfit w all h = tt
resume-fits cs (Gather l) p Fail w all h = goes (gathered l (copies_from (deeper cs 0) w.kept) p.variables)
  where
    goes : (s : Solution) → ReturnFits cs (goes_on (solved p.goals p.variables s) (dropped (deeper cs 0) w))
    goes s = from (unify s.left s.right)
      where
        from : (o : Option (ℕ → Tree)) → ReturnFits cs (goes_on (option_map (λ σ. record { goals = bind_goals σ p.goals; variables = p.variables + s.new }) o) (dropped (deeper cs 0) w))
        from None = h
        from (Some σ) = record { list = fits-first (around cs) w.own (bind_goals σ p.goals) (fits-bound σ (around cs) p.goals all); open_here = h }
resume-fits cs (Gather l) p Stop w all h = h
resume-fits cs (Gather l) p (CutTo k) w all h = handler-cut cs (Gather l) p w.own k h
resume-fits cs (Gather l) p (Throw b ls) w all h = record { each = h.each.1; open_here = h.open_here }
resume-fits cs (Gather l) p (Halted n) w all h = tt
resume-fits cs (Gather l) p Spent w all h = tt
resume-fits cs (Gather l) p (Awaits q) w all h = tt
resume-fits cs (Gather l) p Stopped w all h = tt
resume-fits cs (Gather l) p Unfit w all h = tt
resume-fits cs Undo p Fail w all h = stands-ended false w.own (undos (around cs)) h
resume-fits cs Undo p (Throw b ls) w all h = go (has (deeper cs 0) ls) h.open_here
  where
    go : (x : Bool) → Stands w.own (named_with Undo x (named cs ls)) → ReturnFits cs (Keep (Throw b ls) (if x then undone w else w))
    go true is = record { each = h.each.1; open_here = stands-ended false w.own (named cs ls) is }
    go false is = record { each = h.each.1; open_here = is }
resume-fits cs Undo p Stop w all h = h
resume-fits cs Undo p (CutTo l) w all h = handler-cut cs Undo p w.own l h
resume-fits cs Undo p (Halted n) w all h = tt
resume-fits cs Undo p Spent w all h = tt
resume-fits cs Undo p (Awaits q) w all h = tt
resume-fits cs Undo p Stopped w all h = tt
resume-fits cs Undo p Unfit w all h = tt

backs-fit : (r : Result) (run : Supply) (cs : List Case) → CasesFit cs → ResultFits cs run.local.own r → Fitting (backs r run cs)
unfolding CasesFit
backs-fit r run [] fit h = record { outside = fit; here = h }
backs-fit r run (Choice ps ∷ cs) fit h = chooses-fit cs run ps r fit h
backs-fit r run (Mark l ∷ cs) fit h = record { outside = fit.1; here = mark-fits cs l run.local.own r fit.0 h }
backs-fit r run (Handle x p ∷ cs) fit h = return-fits cs fit.1 run (resume x p (deeper cs 0) r run.local) (resume-fits cs x p r run.local fit.0 h)

pub turn-fits : (P : Program) (m : Machine) → Fitting m → Fitting (turn P m)
unfolding turn
turn-fits P m fitting = go m.mode fitting.here
  where
    go : (mode : Mode) → ModeFits m.cases m.run.local.own mode → Fitting (turn_in P m.cases m.run mode)
    go (At p) h = visits-fit P m.cases fitting.outside p.goals p.variables m.run h.list h.open_here
    go (Back r) h = backs-fit r m.run m.cases fitting.outside h
