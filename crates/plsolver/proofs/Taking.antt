-- A view that is taken: a look-up goes on in it, or a transaction or a snapshot begins on it.
use Rattle.std.proofs.Common.{◌≡◌, ℕ, ◌≤◌, false, true, List, ◌∷◌, refl, sym, ap, ap₂, ◌∙◌, subst, arith, append-nil, le_refl, reverse}
use Rattle.plevent.specs.Search.{Answer, View as ViewAsked, Seen}
use Rattle.plevent.specs.declared.update.Update.{Update}
use Rattle.plstore.specs.Looking.{Views}
use Rattle.pltx.specs.declared.level.Isolation.{Isolation}
use Rattle.plviews.specs.Views.{seen_in}
use Rattle.plviews.specs.declared.view.View.{View}
use Rattle.plprogram.specs.Program.{Program}
use Rattle.plsearch.specs.Types.{Asking, Look, Lookup, Move}
use Rattle.plsearch.specs.Moves.{opened}
use Rattle.plsearch.specs.Rows.{meet}
use Rattle.plsearch.specs.Replies.{answered}
use Rattle.plsearch.specs.Machines.Machine.{At, Rest}
use Rattle.plsearch.specs.Search.{ending_of}
use Rattle.plcode.specs.Callees.{IsProgramCode}
use Rattle.plcells.specs.declared.cell.Cell.{Cell}
use Rattle.plcells.specs.Store.{value}
use Rattle.plstack.specs.Basis.{Basis}
use Rattle.plstack.specs.Levels.{kinds_of, FitsIn}
use Rattle.plstack.specs.State.{cases_of, goals_of, kinds_in, seeing, IsFit}
use Rattle.plstack.specs.StaticCalls.{database_of}
use Rattle.plmachine.specs.declared.machine.Lookup.{Lookup as Sought}
use Rattle.plmachine.specs.declared.machine.Question.{Question}
use Rattle.plmachine.specs.declared.machine.Question.TheVariants as questions
use Rattle.plmachine.specs.declared.machine.Find.{Find}
use Rattle.plmachine.specs.declared.machine.Mode.TheVariants as modes
use Rattle.plmachine.specs.declared.machine.Machine.{Machine as Reached}
use Rattle.plmachine.specs.Lists.{Grown}
use Rattle.plmachine.specs.Machine.{cases_in, depth_of, local_of, lookup_of, looking, machine, machine_in, place_behind, run_in, IsClosed, IsLast, IsTied, IsViewed, MayAsk}
use Rattle.plmachine.specs.Seeking.{SeeksBy}
use Rattle.plmachine.specs.Within.{BeginsAt}
use Rattle.plsolver.specs.declared.progress.Progress.{Progress}
use Rattle.plsolver.specs.Solver.{Asks, IsOf, TakesView}
use Rattle.plsolver.proofs.Waiting.{answer-now}

-- the view of a place without own updates
abbrev pub bare_view : ℕ → View
bare_view g = record { place = g; count = 0 }

bare-seen : (v : Views) (g : ℕ) (own : List Update) → seen_in v own (bare_view g) ≡ v g
bare-seen v g own = append-nil (v g)

-- what is asked where nothing is open can be
pub asks-closed : (P : Program) (s : Progress) (q : Question) → Asks s q → IsOf P s.machine → MayAsk s.machine.layer.own s.machine.stack (modes.Ask q)
asks-closed P s q asks of = subst (MayAsk s.machine.layer.own s.machine.stack) asks of.sound.askable

pub asks-tied : (P : Program) (s : Progress) (q : Question) → Asks s q → IsOf P s.machine → IsTied s.machine
asks-tied P s q asks of = of.sound.tied (λ last. subst IsLast asks last)

-- a look-up goes on in a view
module _ (P : Program) (s new : Progress) (t : Reached) (u : Sought) (g : ℕ) (f : Find) (asks : Asks s (questions.Look u)) (of : IsOf P s.machine) (after : s.machine.stack.basis.latest.place ≤ g)
    (grown : Grown s.machine.stack t.stack) (frame : t ≡ record s.machine { stack = t.stack }) (seeks : SeeksBy s.machine t u (bare_view g) f)
    (is : new.machine ≡ record t { stack = seeing (bare_view g) t.stack; mode = modes.Find f }) where
  abbrev later : Reached
  later = record s.machine { stack = seeing (bare_view g) t.stack; mode = modes.Find f }

  then-is : new.machine ≡ later
  then-is = is ∙ ap (λ (m : Reached). record m { stack = seeing (bare_view g) t.stack; mode = modes.Find f }) frame

  abbrev asked : Lookup
  asked = lookup_of s.machine.stack.env.heap u

  same-cases : (v : Views) → cases_in P v later ≡ cases_in P v s.machine
  unfolding cases_of
  same-cases v = grown.extends.cases (database_of P v s.machine.layer.own.updates)

  -- the place of the list, behind what is asked
  same-place : place_behind later.stack (Asking (Look asked) ∷ goals_of later.stack later.stack.goals) ≡ place_behind s.machine.stack (Asking (Look asked) ∷ goals_of s.machine.stack s.machine.stack.goals)
  same-place = ap₂ (λ gs n. At (record { goals = Asking (Look asked) ∷ gs; variables = n })) grown.extends.visited grown.count

  found-is : (v : Views) (left : ℕ) (answers : List Answer) → machine P v left answers later ≡ machine P v left (Seen g (v g) ∷ answers) s.machine
  unfolding machine
  found-is v left answers =
      seeks.is P v left answers later refl
      ∙ ap (looking P v left answers later asked) (ap (Seen g) (bare-seen v g s.machine.layer.own.updates))
      ∙ ap₂ (λ m cs. record { mode = m; cases = cs; run = run_in v left (Seen g (v g) ∷ answers) s.machine }) same-place (same-cases v)
      ∙ sym (ap (machine_in P v left (Seen g (v g) ∷ answers) s.machine) asks)

  pub looks-in : TakesView P s new g
  looks-in = record {
    latest = ap (λ (m : Reached). m.stack.basis.latest.place) is;
    takes = λ v most left answers. sym (ap (λ m. ending_of most (Rest P m)) (ap (λ m. machine P v left answers m) then-is ∙ found-is v left answers));
  }

  pub looks-of : IsOf P new.machine
  looks-of = subst (IsOf P) (sym then-is) (record {
    begun = subst (λ (b : Basis). IsProgramCode P b.code) (sym grown.extends.basis) of.begun;
    sound = record {
      tied = λ more. record {
        starts = ap (λ (b : Basis). reverse b.starts) grown.extends.basis ∙ tied.starts;
        count = omega arith;
        base = λ open_now. let e : true ≡ false = sym open_now ∙ closed in absurd cc;
        closed = λ none. refl;
        outer = λ k ks starts. tied.outer k ks (sym (ap (λ (b : Basis). b.starts) grown.extends.basis) ∙ starts);
      };
      askable = (seeks.there s.machine.layer.own later.stack refl viewed, fits);
      carry = tt;
    };
  })
    where
      tied : IsTied s.machine
      tied = asks-tied P s (questions.Look u) asks of

      closed : IsClosed s.machine.layer.own
      closed = (asks-closed P s (questions.Look u) asks of).0

      viewed : IsViewed s.machine.layer.own later.stack (bare_view g)
      viewed = record {
        shown = record { place = le_refl g; count = le_refl 0; own = λ some. refl };
        count = omega arith;
        base = λ open_now. let e : true ≡ false = sym open_now ∙ closed in absurd cc;
      }

      fits : IsFit later.stack later.stack.goals
      fits =
          subst (λ fs. FitsIn (kinds_of (reverse fs)) (goals_of t.stack t.stack.goals)) (sym grown.extends.frames)
          (subst (FitsIn (kinds_in s.machine.stack)) (sym grown.extends.visited) (asks-closed P s (questions.Look u) asks of).2)

-- a transaction or a snapshot begins
pub begins-on : (P : Program) (s new : Progress) (i : Isolation) (c : Cell) (g : ℕ) → Asks s (questions.Begin i c) →
    BeginsAt P s.machine new.machine g (opened i g (value s.machine.stack.env.heap c) (depth_of s.machine) (goals_of s.machine.stack s.machine.stack.goals) s.machine.stack.env.count (local_of s.machine)) → TakesView P s new g
unfolding meet answered
begins-on P s new i c g asks begins = record {
  latest = begins.latest;
  takes = λ v most left answers. answer-now P v s.machine (questions.Begin i c) ViewAsked (Seen g (v g)) asks refl most left answers ∙ begins.ends v most left answers;
}

pub begins-of : (P : Program) (s new : Progress) (i : Isolation) (c : Cell) (g : ℕ) (m : Move) → IsOf P s.machine → BeginsAt P s.machine new.machine g m → IsOf P new.machine
begins-of P s new i c g m of begins = record {
  begun = subst (IsProgramCode P) (sym begins.code) of.begun;
  sound = record { tied = λ more. begins.tied; askable = begins.askable; carry = begins.carry };
}
