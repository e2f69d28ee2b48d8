-- Where a search waits for an answer or has ended, and what it makes of the answer.
use Rattle.std.specs.Prelude.{IfSome}
use Rattle.std.specs.Option.{option_map}
use Rattle.std.proofs.Common.{Option, None, Some, ◌≡◌, ℕ, ◌-◌, ◌≤◌, false, List, [], ◌∷◌, refl, sym, ap, ap₂, ◌∙◌, subst, arith, min, le_refl, inl, inr}
use Rattle.plevent.specs.Alive.{Stamped}
use Rattle.plevent.specs.Search.{Item, View, Ask, Answer, Wants, Finishes, Got, Ending}
use Rattle.plevent.specs.declared.request.ThreadEnd.{ThreadEnd}
use Rattle.plevent.specs.declared.request.Request.{Request}
use Rattle.plevent.specs.declared.request.Request.TheVariants.{Start, Publish, EraseOne, Finish, HaltRun, Leave}
use Rattle.plevent.specs.declared.request.Reply.{Reply}
use Rattle.plevent.specs.declared.request.Reply.TheVariants as replies
use Rattle.plevent.specs.declared.update.ClauseName.{ClauseName}
use Rattle.plstore.specs.Looking.{Views}
use Rattle.pltx.specs.Own.{any_open}
use Rattle.plprogram.specs.Program.{Program}
use Rattle.plsearch.specs.Types.{Awaits, Element, Case, Choice, Mark, Handle, Catch, Gather, Undo, Local, Supply, Asks}
use Rattle.plsearch.specs.Rows.{erasing, meet}
use Rattle.plsearch.specs.Replies.{Outcome as Heard, Served, Late, outcome, follows, answered, founded}
use Rattle.plsearch.specs.Handlers.{resume}
use Rattle.plsearch.specs.Engine.{choice, out, outs, Visit}
use Rattle.plsearch.specs.Machines.Machine.{Back, Rest, move, turn, meets}
use Rattle.plsearch.specs.Search.{ending_of, next_of}
use Rattle.plsearch.specs.Solving.{TakesOne, StandsAt, EndsAt}
use Rattle.plsearch.proofs.Turns.{Rest-turn}
use Rattle.plstack.specs.State.{goals_of}
use Rattle.plstack.specs.StaticCalls.{database_of}
use Rattle.plstack.proofs.Stacks.{depth-in}
use Rattle.plmachine.specs.declared.machine.Outcome.{Outcome}
use Rattle.plmachine.specs.declared.machine.Outcome.TheVariants as outcomes
use Rattle.plmachine.specs.declared.machine.Then.{Then as Following}
use Rattle.plmachine.specs.declared.machine.Then.TheVariants as thens
use Rattle.plmachine.specs.declared.machine.Question.{Question}
use Rattle.plmachine.specs.declared.machine.Question.TheVariants as questions
use Rattle.plmachine.specs.declared.machine.Mode.{Mode as Going}
use Rattle.plmachine.specs.declared.machine.Mode.TheVariants as modes
use Rattle.plmachine.specs.declared.machine.Machine.{Machine as Reached}
use Rattle.plmachine.specs.Machine.{below_in, cases_in, depth_of, element_of, local_of, machine, mode_of, now, result_of, run_in, then_of, IsFollowed, IsLast, IsPlain, MayAsk, MayCarry}
use Rattle.plmachine.proofs.Moves.{machine-is}
use Rattle.plsolver.specs.declared.progress.Due.TheVariants as dues
use Rattle.plsolver.specs.declared.progress.Pause.{Pause}
use Rattle.plsolver.specs.declared.progress.Progress.{Progress}
use Rattle.plsolver.specs.declared.solver.Turn.TheVariants as turns
use Rattle.plsolver.specs.Says.{Says}
use Rattle.plsolver.specs.Solver.{after_done, after_reply, next_after, rest_of, Asks as AsksFor, IsOf, IsReplyTo, IsRequestOf, PausesAt, ReplyFits, Settled, Waits, WaitsForReply, WaitsForView}
use Rattle.plsolver.proofs.Runs.{at-place}

-- ---- where it waits

-- nothing catches a question
asks-out : (P : Program) (cases : List Case) (q : Item) (run : Supply) → outs (Visit P) 0 cases (Awaits q, run) ≡ (Awaits q, run)
unfolding outs out choice resume
asks-out P [] q run = refl
asks-out P (Choice [] ∷ cases) q run = asks-out P cases q run
asks-out P (Choice (p ∷ ps) ∷ cases) q run = asks-out P cases q run
asks-out P (Mark l ∷ cases) q run = asks-out P cases q run
asks-out P (Handle (Catch c r) p ∷ cases) q run = asks-out P cases q run
asks-out P (Handle (Gather l) p ∷ cases) q run = asks-out P cases q run
asks-out P (Handle Undo p ∷ cases) q run = asks-out P cases q run

asks-rest : (P : Program) (cases : List Case) (q : Item) (run : Supply) → Rest P (record { mode = Back (Awaits q); cases = cases; run = run }) ≡ (Awaits q, run)
unfolding Rest
asks-rest P cases q run = asks-out P cases q run

-- what is asked, as an item
abbrev item_of : Reached → Question → Item → Type 0
item_of s x q = meet (element_of s.stack.env.heap x) (goals_of s.stack s.stack.goals) (local_of s) ≡ Asks q

-- an item that is asked before a list
pub stands : (P : Program) (v : Views) (s : Progress) (x : Question) (q : Item) → s.used ≤ s.limit → AsksFor s x → item_of s.machine x q → StandsAt q (rest_of P v s) s.used s.machine.out.items
unfolding rest_of turn
stands P v s x q within at asks = λ n le.
    let k : ℕ = min n s.limit in
    let few : k - (k - s.used) ≡ s.used = omega (arith, within, le) in
    let e : Element = element_of s.machine.stack.env.heap x in
    let es : List Element = goals_of s.machine.stack s.machine.stack.goals in
    ap (λ m. ending_of k (Rest P m)) (at-place P v s.machine (record { goals = e ∷ es; variables = s.machine.stack.env.count }) (subst IsPlain (sym at) tt) (ap (λ m. mode_of m s.machine.stack) at) (k - s.used) [])
    ∙ ap (ending_of k) (Rest-turn P _)
    ∙ ap (λ m. ending_of k (Rest P (meets P (cases_in P v s.machine) e es s.machine.stack.env.count (run_in v (k - s.used) [] s.machine) m))) asks
    ∙ ap (ending_of k) (asks-rest P (cases_in P v s.machine) q (run_in v (k - s.used) [] s.machine))
    ∙ ap (λ u. record { next = Wants q; used = u; out = s.machine.out.items }) few

-- what pauses the search is due
pub pause-due : {A B : Type 0} (P : Program) (s : Progress) (o : Option Pause) → (A → B) → IfSome o (λ pause. PausesAt P s pause × A) → IfSome (option_map dues.Paused o) (λ due. Settled P s due × B)
unfolding Settled
pause-due P s None f a = tt
pause-due P s (Some x) f a = (a.0, f a.1)

pub says-look : (P : Program) (s : Progress) → s.used ≤ s.limit → WaitsForView s → Says P s turns.Refresh
unfolding Says meet
says-look P s within (inl x) = (inl x, λ v. stands P v s (questions.Look x.0) View within x.1 refl)
says-look P s within (inr x) = (inr x, λ v. stands P v s (questions.Begin x.0 x.1) View within x.2 refl)

-- a clause is erased by a request where nothing is open
erasing-asks : (x : ClauseName) (w : Local) → any_open w.own ≡ false → erasing x w ≡ Asks (Ask (EraseOne x))
erasing-asks x w none = rw none refl

awaited : (s : Progress) (q : Request) → WaitsForReply s q → (x : Question) × AsksFor s x × IsRequestOf x q × item_of s.machine x (Ask q) × ((r : Reply) (d n : ℕ) (es : List Element) (w : Local) → answered (element_of s.machine.stack.env.heap x) (Got r) d es n w ≡ follows (outcome q r) (then_of (next_after x)) es n w)
unfolding meet answered
awaited s Start waits = absurd waits
awaited s (Publish us) waits = (questions.Await (Publish us) thens.GoesOn, waits, refl, refl, λ r d n es w. refl)
awaited s (EraseOne x) waits = (questions.Erase x, waits.0, refl, erasing-asks x (local_of s.machine) waits.1, λ r d n es w. refl)
awaited s (Finish e) waits = absurd waits
awaited s Leave waits = absurd waits
awaited s (HaltRun n) waits = (questions.Await (HaltRun n) (thens.Ends n), waits, refl, refl, λ r d k es w. refl)

same-question : (s : Progress) (x y : Question) → AsksFor s x → AsksFor s y → x ≡ y
same-question s x y a b = let e : modes.Ask x ≡ modes.Ask y = sym a ∙ b in cc

-- the request that waits is the one that is asked
pub says-asked : (P : Program) (s : Progress) (p : Request) (x : Question) → s.used ≤ s.limit → Waits s → AsksFor s x → IsRequestOf x p → Says P s (turns.Ask p)
unfolding Says
says-asked P s p x within waits asked by =
    let q : Request = waits.0 in
    let w = awaited s q waits.1 in
    let is : q ≡ p = same-asked x (subst (λ y. IsRequestOf y q) (same-question s w.0 x w.1 asked) w.2) by in
    subst (λ q. WaitsForReply s q × ((v : Views) → StandsAt (Ask q) (rest_of P v s) s.used s.machine.out.items)) is (waits.1, λ v. stands P v s w.0 (Ask q) within w.1 w.3)
  where
    same-asked : (x : Question) {q p : Request} → IsRequestOf x q → IsRequestOf x p → q ≡ p
    same-asked (questions.Look u) a b = absurd a
    same-asked (questions.Begin i g) a b = absurd a
    same-asked (questions.Await r next) a b = a ∙ sym b
    same-asked (questions.Erase y) a b = a ∙ sym b

-- and what asks it has a request
pub asks-request : (s : Progress) (q : Request) (x : Question) → WaitsForReply s q → AsksFor s x → IsRequestOf x q
asks-request s q x waits asks = let w = awaited s q waits in subst (λ y. IsRequestOf y q) (same-question s w.0 x w.1 asks) w.2

-- what is asked waits
pub waits-await : (s : Progress) (q : Request) (next : Following) → AsksFor s (questions.Await q next) → IsFollowed q next → Waits s
waits-await s q next asked fits = (q, go q next asked fits)
  where
    go : (q : Request) (next : Following) → AsksFor s (questions.Await q next) → IsFollowed q next → WaitsForReply s q
    go Start thens.GoesOn asked fits = absurd fits
    go Start (thens.Ends m) asked fits = absurd fits
    go (Publish us) thens.GoesOn asked fits = asked
    go (Publish us) (thens.Ends m) asked fits = absurd fits
    go (EraseOne x) thens.GoesOn asked fits = absurd fits
    go (EraseOne x) (thens.Ends m) asked fits = absurd fits
    go (Finish e) thens.GoesOn asked fits = absurd fits
    go (Finish e) (thens.Ends m) asked fits = absurd fits
    go Leave thens.GoesOn asked fits = absurd fits
    go Leave (thens.Ends m) asked fits = absurd fits
    go (HaltRun n) thens.GoesOn asked fits = absurd fits
    go (HaltRun n) (thens.Ends m) asked fits = subst (λ m. AsksFor s (questions.Await (HaltRun n) (thens.Ends m))) (sym fits) asked

pub waits-may : (s : Progress) (q : Request) (next : Following) → AsksFor s (questions.Await q next) → MayAsk s.machine.layer.own s.machine.stack s.machine.mode → Waits s
waits-may s q next asked may = waits-await s q next asked (subst (MayAsk s.machine.layer.own s.machine.stack) asked may)

-- the search has ended
pub ends : (P : Program) (v : Views) (s : Progress) (e : ThreadEnd) (r : Outcome) → s.used ≤ s.limit → s.machine.mode ≡ modes.Back r → cases_in P v s.machine ≡ [] → next_of (result_of r) ≡ Finishes e →
    EndsAt s.limit e (rest_of P v s) s.used s.machine.out.items
unfolding rest_of Rest outs
ends P v s e r within at none is = (λ answers. at_n s.used (le_refl _) answers, λ answers. at_n s.limit within answers)
  where
    at_n : (n : ℕ) → s.used ≤ n → (answers : List Answer) → rest_of P v s n answers ≡ record { next = Finishes e; used = s.used; out = s.machine.out.items }
    at_n n le answers =
        let k : ℕ = min n s.limit in
        let few : k - (k - s.used) ≡ s.used = omega (arith, within, le) in
        ap (λ m. ending_of k (Rest P m)) (machine-is P v s.machine (Back (result_of r)) [] (below_in v s.machine) (local_of s.machine) (subst IsPlain (sym at) tt) (ap (λ m. mode_of m s.machine.stack) at) none refl refl (k - s.used) answers)
        ∙ ap₂ (λ x u. record { next = x; used = u; out = s.machine.out.items }) is few

pub says-ended : (P : Program) (s : Progress) (e : ThreadEnd) (r : Outcome) → s.used ≤ s.limit → s.machine.mode ≡ modes.Back r → ((v : Views) → cases_in P v s.machine ≡ []) → next_of (result_of r) ≡ Finishes e → Says P s (turns.Ended e)
unfolding Says
says-ended P s e r within at none is = λ v. ends P v s e r within at (none v) is

-- ---- answers

-- the next answer, at what is asked
pub answer-now : (P : Program) (v : Views) (s : Reached) (x : Question) (q : Item) (a : Answer) → s.mode ≡ modes.Ask x → item_of s x q → (most left : ℕ) (answers : List Answer) →
    now P v s most left (a ∷ answers)
    ≡ ending_of most (Rest P (move (cases_in P v s) (record (run_in v left answers s) { below = founded (element_of s.stack.env.heap x) a (below_in v s) })
    (answered (element_of s.stack.env.heap x) a (depth_of s) (goals_of s.stack s.stack.goals) s.stack.env.count (local_of s))))
unfolding turn
answer-now P v s x q a at asks most left answers =
    let e : Element = element_of s.stack.env.heap x in
    let es : List Element = goals_of s.stack s.stack.goals in
    let n : ℕ = s.stack.env.count in
    let run : Supply = run_in v left (a ∷ answers) s in
    ap (λ m. ending_of most (Rest P m)) (at-place P v s (record { goals = e ∷ es; variables = n }) (subst IsPlain (sym at) tt) (ap (λ m. mode_of m s.stack) at) left (a ∷ answers))
    ∙ ap (ending_of most) (Rest-turn P _)
    ∙ ap (λ m. ending_of most (Rest P (meets P (cases_in P v s) e es n run m))) asks
    ∙ ap (λ d. ending_of most (Rest P (move (cases_in P v s) (record (run_in v left answers s) { below = founded e a (below_in v s) }) (answered e a d es n (local_of s))))) (depth-in (database_of P v s.layer.own.updates) s.stack)

pub takes : (P : Program) (v : Views) (s new : Progress) (a : Answer) → new.used ≡ s.used → new.limit ≡ s.limit →
    ((most left : ℕ) (answers : List Answer) → now P v s.machine most left (a ∷ answers) ≡ now P v new.machine most left answers) → TakesOne a (rest_of P v s) s.used (rest_of P v new) new.used
unfolding rest_of
takes P v s new a used limit ends = (
  used,
  λ n answers le.
      ends (min n s.limit) (min n s.limit - s.used) answers
      ∙ ap₂ (λ l u. ending_of (min n l) (Rest P (machine P v (min n l - u) answers new.machine))) (sym limit) (sym used),
)

-- a request that was served, or came too late
abbrev followed : Program → Views → Reached → Heard → Following → ℕ → ℕ → List Answer → Ending
followed P v s o next most left answers = ending_of most (Rest P (move (cases_in P v s) (run_in v left answers s) (follows o (then_of next) (goals_of s.stack s.stack.goals) s.stack.env.count (local_of s))))

served : (P : Program) (v : Views) (s : Reached) (next : Following) (most left : ℕ) (answers : List Answer) → followed P v s Served next most left answers ≡ now P v (record s { mode = after_done next }) most left answers
unfolding machine
served P v s thens.GoesOn most left answers = refl
served P v s (thens.Ends n) most left answers = refl

late : (P : Program) (v : Views) (s : Reached) (next : Following) (most left : ℕ) (answers : List Answer) → followed P v s Late next most left answers ≡ now P v (record s { mode = modes.Back outcomes.Fail }) most left answers
unfolding machine
late P v s next most left answers = refl

follows-as : (P : Program) (v : Views) (s : Reached) (q : Request) (next : Following) (r : Reply) → IsReplyTo q r → (most left : ℕ) (answers : List Answer) →
    followed P v s (outcome q r) next most left answers ≡ now P v (record s { mode = after_reply r next }) most left answers
follows-as P v s q next r fits most left answers = go r fits
  where
    fitting : (r : Reply) (o : Heard) → outcome q r ≡ o → followed P v s (outcome q r) next most left answers ≡ followed P v s o next most left answers
    fitting r o is = ap (λ o. followed P v s o next most left answers) is

    go : (r : Reply) → IsReplyTo q r → followed P v s (outcome q r) next most left answers ≡ now P v (record s { mode = after_reply r next }) most left answers
    go replies.Gone fits = fitting replies.Gone Late fits ∙ late P v s next most left answers
    go replies.Erased fits = fitting replies.Erased Served fits ∙ served P v s next most left answers
    go replies.Published fits = fitting replies.Published Served fits ∙ served P v s next most left answers
    go replies.Done fits = fitting replies.Done Served fits ∙ served P v s next most left answers
    go replies.Stopped fits = fitting replies.Stopped Served fits ∙ served P v s next most left answers
    go replies.RunOver fits = fitting replies.RunOver Served fits ∙ served P v s next most left answers
    go replies.Shut fits = fitting replies.Shut Served fits ∙ served P v s next most left answers
    go (replies.NotYet x) fits = fitting (replies.NotYet x) Served fits ∙ served P v s next most left answers
    go (replies.Started i a g) fits = fitting (replies.Started i a g) Served fits ∙ served P v s next most left answers

-- a request founds nothing
asks-founds : (s : Progress) (q : Request) (x : Question) → IsRequestOf x q → (r : Reply) (us : List Stamped) → founded (element_of s.machine.stack.env.heap x) (Got r) us ≡ us
asks-founds s q (questions.Look u) by r us = absurd by
asks-founds s q (questions.Begin i g) by r us = absurd by
asks-founds s q (questions.Await p next) by r us = refl
asks-founds s q (questions.Erase x) by r us = refl

pub replied : (P : Program) (v : Views) (s new : Progress) (x : Question) (r : Reply) → ReplyFits s r → AsksFor s x → new.used ≡ s.used → new.limit ≡ s.limit → new.machine ≡ record s.machine { mode = after_reply r (next_after x) } →
    TakesOne (Got r) (rest_of P v s) s.used (rest_of P v new) new.used
replied P v s new x r fits asked used limit is =
    let q : Request = fits.0 in
    let w = awaited s q fits.1 in
    let e : Element = element_of s.machine.stack.env.heap w.0 in
    takes P v s new (Got r) used limit
    (λ most left answers.
    answer-now P v s.machine w.0 (Ask q) (Got r) w.1 w.3 most left answers
    ∙ ap (λ us. ending_of most (Rest P (move (cases_in P v s.machine) (record (run_in v left answers s.machine) { below = us }) (answered e (Got r) (depth_of s.machine) (goals_of s.machine.stack s.machine.stack.goals) s.machine.stack.env.count (local_of s.machine)))))
    (asks-founds s q w.0 w.2 r (below_in v s.machine))
    ∙ ap (λ m. ending_of most (Rest P (move (cases_in P v s.machine) (run_in v left answers s.machine) m))) (w.4 r (depth_of s.machine) s.machine.stack.env.count (goals_of s.machine.stack s.machine.stack.goals) (local_of s.machine))
    ∙ follows-as P v s.machine q (next_after w.0) r fits.2 most left answers
    ∙ ap (λ y. now P v (record s.machine { mode = after_reply r (next_after y) }) most left answers) (same-question s w.0 x w.1 asked)
    ∙ ap (λ m. now P v m most left answers) (sym is))

-- what is next can be, whatever is open
abbrev Fine : Reached → Going → Type 0
Fine s m = MayAsk s.layer.own s.stack m × MayCarry s.stack m

-- after a reply what is carried or visited asks nothing, and own updates are tied as before
pub replied-of : (P : Program) (s : Progress) (new : Reached) (x : Question) (r : Reply) → AsksFor s x → IsOf P s.machine → new ≡ record s.machine { mode = after_reply r (next_after x) } → IsOf P new
replied-of P s new x r asked of is =
    subst (IsOf P) (sym is) (record {
      begun = of.begun;
      sound = record {
        tied = λ more. let t = of.sound.tied (λ last. subst IsLast asked last) in record { starts = t.starts; count = t.count; base = t.base; closed = t.closed; outer = t.outer };
        askable = (by r (next_after x)).0;
        carry = (by r (next_after x)).1;
      };
    })
  where
    done : (next : Following) → Fine s.machine (after_done next)
    done thens.GoesOn = (tt, tt)
    done (thens.Ends n) = (tt, tt)

    by : (r : Reply) (next : Following) → Fine s.machine (after_reply r next)
    by replies.Gone next = (tt, tt)
    by replies.Erased next = done next
    by replies.Published next = done next
    by replies.Done next = done next
    by replies.Stopped next = done next
    by replies.RunOver next = done next
    by replies.Shut next = done next
    by (replies.NotYet y) next = done next
    by (replies.Started i a g) next = done next
