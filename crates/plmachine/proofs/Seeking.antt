-- Clauses that are looked up in what is open.
use Rattle.std.proofs.Common.{◌≡◌, ◌≤◌, ℕ, Bool, true, List, [], ◌∷◌, ◌++◌, length, refl, sym, ap, ap₂, ◌∙◌, subst, reverse, Some, if◌then◌else◌, le_refl, true≢false}
use Rattle.std.proofs.Math.Seq.{take-length}
use Rattle.plevent.specs.Alive.{Stamped, stamped}
use Rattle.plevent.specs.Search.{Answer, Seen}
use Rattle.plstore.specs.Looking.{Views}
use Rattle.pltx.specs.Own.{any_open}
use Rattle.plviews.specs.Layers.{Layered}
use Rattle.plviews.specs.Views.{seen_in}
use Rattle.plviews.specs.declared.view.View.{View}
use Rattle.plprogram.specs.Program.{Program}
use Rattle.plsearch.specs.Types.{Asking, Case, Element, Local, Look, Lookup, Supply}
use Rattle.plsearch.specs.Engine.{deeper}
use Rattle.plsearch.specs.Lookups.{looked_up, seek, seen}
use Rattle.plsearch.specs.Moves.{go_on}
use Rattle.plsearch.specs.Machines.Machine.{At, Machine, Rest, move, turn}
use Rattle.plsearch.specs.Replies.{answered}
use Rattle.plsearch.specs.Rows.{meet}
use Rattle.plsearch.specs.Search.{ending_of}
use Rattle.plsearch.proofs.Turns.{Rest-turn}
use Rattle.pllinks.specs.declared.link.Continuation.{Continuation}
use Rattle.plstack.specs.Basis.{Basis}
use Rattle.plstack.specs.Places.{walks_of}
use Rattle.plstack.specs.State.{cases_of, goals_of, seeing, IsFit, IsList}
use Rattle.plstack.specs.StaticCalls.{database_of}
use Rattle.plstack.proofs.Fitted.{fits-extends}
use Rattle.plstack.proofs.Stacks.{depth-in}
use Rattle.plmachine.specs.declared.machine.Lookup.{Lookup as Sought}
use Rattle.plmachine.specs.declared.machine.Find.{Find}
use Rattle.plmachine.specs.declared.machine.Mode.TheVariants as modes
use Rattle.plmachine.specs.declared.machine.Machine.{Machine as Reached}
use Rattle.plmachine.specs.Lists.{Grown}
use Rattle.plmachine.specs.Machine.{after, below_at, below_in, cases_in, depth_of, local_of, lookup_of, machine, now, run_in, IsTied, IsViewed, MovedBy}
use Rattle.plmachine.specs.Seeking.{SeeksBy}

-- something is open
seek-open : (below : List Stamped) (u : Lookup) (d : ℕ) (es : List Element) (n : ℕ) (w : Local) → any_open w.own ≡ true → looked_up (seen below w.own) u d es n w ≡ seek below u d es n w
seek-open below u d es n w some = ap (λ (b : Bool). if b then looked_up (seen below w.own) u d es n w else go_on (Asking (Look u) ∷ es) n w) (sym some)

-- a look-up before a list
abbrev asking : List Case → Supply → Lookup → List Element → ℕ → Machine
asking cs run u es n = record { mode = At (record { goals = Asking (Look u) ∷ es; variables = n }); cases = cs; run = run }

-- one whose answer comes next is made in the next turn
looked : (P : Program) (cs : List Case) (run : Supply) (u : Lookup) (es : List Element) (n g : ℕ) (us : List Stamped) →
    Rest P (move cs run (looked_up us u (deeper cs 0) es n run.local)) ≡ Rest P (asking cs (record run { answers = Seen g us ∷ run.answers }) u es n)
unfolding turn meet answered
looked P cs run u es n g us = sym (Rest-turn P (asking cs (record run { answers = Seen g us ∷ run.answers }) u es n))

-- what is seen where something is open is what is seen in the view of all own updates
all-own : (v : Views) (x : Layered) → x.place ≡ Some x.own.base → seen (below_at v x.place) x.own ≡ seen_in v x.own.updates (record { place = x.own.base; count = length x.own.updates })
all-own v x on = ap (λ p. seen (below_at v p) x.own) on ∙ ap (λ us. v x.own.base ++ stamped x.own.base 0 us) (sym (take-length x.own.updates))

-- what a look-up seeks, before a list, in the view of what is open
module _ (P : Program) (s t : Reached) (u : Sought) (g : View) (f : Find) (l : Continuation) (some : any_open s.layer.own ≡ true) (on : s.layer.place ≡ Some s.layer.own.base) (tied : IsTied s)
    (all : g ≡ record { place = s.layer.own.base; count = length s.layer.own.updates }) (there : IsList s.stack l) (fits : IsFit s.stack l) (grown : Grown s.stack t.stack) (sought : SeeksBy s t u g f) where
  abbrev found : Reached
  found = record s { stack = record (seeing g t.stack) { goals = l }; mode = modes.Find f }

  finds-cases : (v : Views) → cases_in P v found ≡ cases_in P v s
  unfolding cases_of
  finds-cases v = grown.extends.cases (database_of P v s.layer.own.updates)

  finds-viewed : IsViewed s.layer.own found.stack g
  finds-viewed = record {
    shown = record { place = le_refl g.place; count = le_refl g.count; own = λ some. refl };
    count = subst (λ (g : View). g.count ≤ length s.layer.own.updates) (sym all) (le_refl (length s.layer.own.updates));
    base = λ o. ap (λ (g : View). g.place) all;
  }

  finds-tied : IsTied found
  finds-tied = record {
    starts = ap (λ (b : Basis). reverse b.starts) grown.extends.basis ∙ tied.starts;
    count = finds-viewed.count;
    base = finds-viewed.base;
    closed = λ none. absurd (true≢false (sym some ∙ none));
    outer = λ k ks is. tied.outer k ks (sym (ap (λ (b : Basis). b.starts) grown.extends.basis) ∙ is);
  }

  finds-ends : (v : Views) (most left : ℕ) (answers : List Answer) →
      after P v s most left answers (seek (below_in v s) (lookup_of s.stack.env.heap u) (depth_of s) (goals_of s.stack l) s.stack.env.count (local_of s)) ≡ now P v found most left answers
  unfolding machine
  finds-ends v most left answers =
      let look = lookup_of s.stack.env.heap u in
      let es = goals_of s.stack l in
      let n = s.stack.env.count in
      let us = seen_in v s.layer.own.updates g in
      ap (after P v s most left answers)
      (sym (seek-open (below_in v s) look (depth_of s) es n (local_of s) some)
      ∙ ap (λ us. looked_up us look (depth_of s) es n (local_of s)) (all-own v s.layer on ∙ ap (seen_in v s.layer.own.updates) (sym all))
      ∙ ap (λ d. looked_up us look d es n (local_of s)) (sym (depth-in (database_of P v s.layer.own.updates) s.stack)))
      ∙ ap (ending_of most) (looked P (cases_in P v s) (run_in v left answers s) look es n g.place us)
      ∙ ap₂ (λ es n. ending_of most (Rest P (asking (cases_in P v s) (run_in v left (Seen g.place us ∷ answers) s) look es n))) (sym (grown.extends.lists l there).1) (sym grown.count)
      ∙ ap (λ cs. ending_of most (Rest P (asking cs (run_in v left (Seen g.place us ∷ answers) s) look (goals_of t.stack l) t.stack.env.count))) (sym (finds-cases v))
      ∙ ap (λ m. ending_of most (Rest P m)) (sym (sought.is P v left answers found refl))

  finds-moved : MovedBy P s found (λ v. seek (below_in v s) (lookup_of s.stack.env.heap u) (depth_of s) (goals_of s.stack l) s.stack.env.count (local_of s))
  finds-moved = record {
    code = ap (λ (b : Basis). b.code) grown.extends.basis;
    latest = ap (λ (g : View). g.place) all ∙ sym (tied.base some);
    place = refl;
    walks = ([], sym (ap (λ fs. walks_of (reverse fs)) grown.extends.frames));
    seeks = sought.first;
    tied = λ tied. finds-tied;
    askable = (sought.there s.layer.own found.stack refl finds-viewed, fits-extends s.stack t.stack grown.extends l there fits);
    carry = tt;
    ends = λ v ordered. finds-ends v;
  }

  pub seeks : (new : Reached) → t ≡ record s { stack = t.stack } → new ≡ record t { stack = record (seeing g t.stack) { goals = l }; mode = modes.Find f } →
      MovedBy P s new (λ v. seek (below_in v s) (lookup_of s.stack.env.heap u) (depth_of s) (goals_of s.stack l) s.stack.env.count (local_of s))
  seeks new frame is =
      subst (λ (x : Reached). MovedBy P s x (λ v. seek (below_in v s) (lookup_of s.stack.env.heap u) (depth_of s) (goals_of s.stack l) s.stack.env.count (local_of s)))
      (sym (is ∙ ap (λ (x : Reached). record x { stack = record (seeing g t.stack) { goals = l }; mode = modes.Find f }) frame)) finds-moved
