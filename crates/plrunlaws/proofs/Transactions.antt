-- What a transaction or a snapshot does to the journal of a run.
use Rattle.std.proofs.Common.{◌≡◌, ℕ, suc, ◌<◌, ◌≤◌, ◌⊎◌, inl, inr, Bool, true, false, List, [], ◌∷◌, ◌++◌, take, Some, refl, sym, ap, ◌∙◌, subst, arith, append_assoc}
use Rattle.std.proofs.lemmas.List.{append_cancel_left}
use Rattle.plevent.specs.declared.request.ThreadEnd.{ThreadEnd}
use Rattle.plevent.specs.declared.request.Request.TheVariants.{Publish}
use Rattle.plevent.specs.declared.request.Reply.{Reply}
use Rattle.plevent.specs.declared.update.Update.{Update}
use Rattle.plevent.specs.declared.act.Act.{Act}
use Rattle.plevent.specs.Reading.{Reading, reading}
use Rattle.plevent.specs.Rows.{served}
use Rattle.plevent.specs.Search.{View, Ask, Answer, Seen, Got, Ceases, Finishes}
use Rattle.plhist.specs.Follows.{own, Taken, replied}
use Rattle.pltx.specs.Own.{any_open, nothing}
use Rattle.pltx.specs.declared.level.Level.{Level}
use Rattle.plprogram.specs.Program.{Program}
use Rattle.plsearch.specs.Types.{Stopped, Transact, GoesOn, Await, Element, Marker, Asking, Resolvent, Case, Mark, Supply}
use Rattle.plsearch.specs.Moves.{publishing}
use Rattle.plsearch.specs.Rows.{meet}
use Rattle.plsearch.specs.Replies.{answered}
use Rattle.plsearch.specs.Machines.Machine.{Mode, At, Back, Machine, Rest, ask, turn}
use Rattle.pltransactions.specs.Laws.{wanted, IsEnding, at_end, its_updates}
use Rattle.pltransactions.proofs.Transactions.{outer-end-publishes}
use Rattle.pltransactions.proofs.Opening.{opens-with-view, closes-at-its-end}
use Rattle.plrunlaws.specs.Standing.{Followed, at_turn, IsAnswered, started, StandsAt, AreFrom}
use Rattle.plrunlaws.specs.Transactions.{Lasts, updates_at, published_in, with_batch, Publishes, TransactionsStandAlone}
use Rattle.plrunlaws.proofs.Items.{none-some, the-same, below-more, answer-is}
use Rattle.plrunlaws.proofs.Machines.{final-rest}
use Rattle.plrunlaws.proofs.Standing.{ends-with, AskedAt, asked-at, stands-somewhere, started-below, entries-in-order}
use Rattle.plrunlaws.proofs.Inside.{next-turn, no-clauses, Between, inside-between}
use Rattle.plrunlaws.proofs.Served.{served-as}
use Rattle.plrunlaws.proofs.Lists.{last-same}

apart : {b : Bool} → b ≡ true → b ≡ false → ⊥
apart holds fails = never (sym holds ∙ fails)
  where
    never : true ≡ false → ⊥
    never is = cc

-- the view with which it begins
pub record Viewed (f : Followed) (s : Taken) (g : ℕ) (s' : Taken) : Type 0 where
  pub behind : s.low ≤ g
  pub made : s'.made ≡ s.made
  pub low : s'.low ≡ g
  pub answers : s'.answers ≡ s.answers ++ Seen g (reading (take g f.journal)).updates ∷ []

pub viewed : (f : Followed) (s : Taken) (g : ℕ) (s' : Taken) → IsAnswered f View g s s' → Viewed f s g s'
viewed f s g s' is =
    let at = answer-is f.journal f.run.thread View g s s' is in
    let same : s' ≡ record { answers = s.answers ++ Seen g (reading (take g f.journal)).updates ∷ []; low = g; made = s.made } = sym (the-same _ s' at.1) in
    record { behind = at.0; made = ap (λ s. s.made) same; low = ap (λ s. s.low) same; answers = ap (λ s. s.answers) same }

module _ (f : Followed) (k j : ℕ) (lasts : Lasts f k j) where
  begins : wanted (at_turn f k) ≡ Some View
  begins = opens-with-view f.program (at_turn f k) lasts.before (ap (λ m. any_open m.run.local.own) (sym (next-turn f k)) ∙ lasts.between (suc k) (omega arith) (omega (arith, lasts.longer)))

  -- what it makes to its end
  stays : (begun : Taken) → StandsAt f (suc k) begun → (i : ℕ) → k < i → i ≤ suc j → (s : Taken) → StandsAt f i s → Between begun s
  stays begun first i after within s there = inside-between f k i begun first (λ n lo hi. lasts.between n lo (omega (arith, hi, within))) after s there

-- the answer to a publication
pub ceases-ends : {A : Type 0} (e : ThreadEnd) → Ceases ≡ Finishes e → A
ceases-ends e is = absurd (never is)
  where
    never : Ceases ≡ Finishes e → ⊥
    never is = cc

-- a publication is served, or the run has been ended
published-or : (t : ℕ) (us : List Update) (r : Reading) (g : ℕ) (s s' : Taken) → replied (served (Publish us) t r) g s ≡ Some s' →
    (s' ≡ with_batch g us s) ⊎ (s'.answers ≡ s.answers ++ Got Reply.Stopped ∷ [])
published-or t us r g s s' is =
    served-as (Publish us) t r (λ x. replied x g s ≡ Some s' → (s' ≡ with_batch g us s) ⊎ (s'.answers ≡ s.answers ++ Got Reply.Stopped ∷ []))
    (λ is. inr (sym (ap (λ s. s.answers) (the-same _ s' is))))
    (λ is. none-some s' is)
    (λ may goes is. inl (sym (the-same (with_batch g us s) s' is))) is

-- a machine that is to publish updates, with the answer that the run has stopped
stops : (P : Program) (us : List Update) (es : List Element) (n : ℕ) (cases : List Case) (run : Supply) (others : List Answer) → run.answers ≡ Got Reply.Stopped ∷ others →
    (turn P (record { mode = At (record { goals = Asking (Await (Publish us) GoesOn) ∷ es; variables = n }); cases = cases; run = run }))
    ≡ record { mode = Back Stopped; cases = cases; run = record run { answers = others } }
unfolding turn meet answered
stops P us es n cases run others is = ap (ask cases (Asking (Await (Publish us) GoesOn)) es n (Ask (Publish us)) run) is

module _ (f : Followed) (k : ℕ) (s : Taken) (stood : StandsAt f k s) (u : Update) (us : List Update) (es : List Element) (n : ℕ) (cases : List Case) (run : Supply)
    (at : at_turn f k ≡ record { mode = At (record { goals = publishing (u ∷ us) es; variables = n }); cases = cases; run = run }) where
  -- where updates are to be published, they are
  publishes-there : (g : ℕ) × StandsAt f (suc k) (with_batch g (u ∷ us) s)
  unfolding meet
  publishes-there = go (published-or f.run.thread (u ∷ us) (reading (take one.place f.journal)) one.place s one.after (answer-is f.journal f.run.thread (Ask (Publish (u ∷ us))) one.place s one.after one.answered).1)
    where
      one : AskedAt f k s (Ask (Publish (u ∷ us)))
      one = asked-at f k s (Ask (Publish (u ∷ us))) stood (ap wanted at)

      go : ((one.after ≡ with_batch one.place (u ∷ us) s) ⊎ (one.after.answers ≡ s.answers ++ Got Reply.Stopped ∷ [])) → (g : ℕ) × StandsAt f (suc k) (with_batch g (u ∷ us) s)
      go (inl is) = (one.place, subst (StandsAt f (suc k)) is one.stands)
      go (inr is) =
          let answer : one.answer ≡ Got Reply.Stopped = last-same s.answers s.answers one.answer (Got Reply.Stopped) (sym one.takes_it ∙ is) in
          let left : run.answers ≡ Got Reply.Stopped ∷ one.others = ap (λ m. m.run.answers) (sym at) ∙ one.left ∙ ap (λ a. a ∷ one.others) answer in
          let there : at_turn f (suc k) ≡ record { mode = Back Stopped; cases = cases; run = record run { answers = one.others } } =
          next-turn f k ∙ ap (turn f.program) at ∙ stops f.program (u ∷ us) es n cases run one.others left in
          ceases-ends f.came_to (ends-with f (suc k) Stopped (record run { answers = one.others }) (ap (Rest f.program) there ∙ final-rest f.program Stopped cases (record run { answers = one.others }) tt))

-- its end, behind which the run still stands where the view put it
module _ (f : Followed) (j : ℕ) (s : Taken) (stood : StandsAt f (suc j) s) (later : List (ℕ × Act)) (owns : own f.run.thread f.journal ≡ started f s.made ++ later) where
  published-here : (us : List Update) (es : List Element) (n : ℕ) (cases : List Case) (run : Supply) →
      at_turn f (suc j) ≡ record { mode = At (record { goals = publishing us es; variables = n }); cases = cases; run = run } → Publishes f (suc j) s us later
  published-here [] es n cases run at = tt
  published-here (u ∷ us) es n cases run at =
      let found = publishes-there f (suc j) s stood u us es n cases run at in
      let g = found.0 in
      let more = entries-in-order f (suc (suc j)) (with_batch g (u ∷ us) s) found.1 in
      let same : later ≡ (g, Act.Batch (u ∷ us)) ∷ more.later =
      append_cancel_left (started f s.made) later ((g, Act.Batch (u ∷ us)) ∷ more.later)
      (sym owns ∙ more.entries ∙ append_assoc (started f s.made) ((g, Act.Batch (u ∷ us)) ∷ []) more.later) in
      (g, more.later, same, found.1)

  ends : (m : Machine) → at_turn f j ≡ m → (mode : Mode) → m.mode ≡ mode → IsEnding mode m.cases → Publishes f (suc j) s (published_in mode m.run.local.own) later
  ends m is (Back r) at ending = tt
  ends m is (At p) at ending = marker p.goals refl ending
    where
      behind : (d l : ℕ) (es : List Element) → p.goals ≡ Marker (Transact d) l ∷ es → (ls : List Level) → m.run.local.own.levels ≡ ls → Publishes f (suc j) s (updates_at ls m.run.local.own.updates) later
      behind d l es goals [] levels = tt
      behind d l es goals (level ∷ outer ∷ ls) levels = tt
      behind d l es goals (level ∷ []) levels =
          let place : Resolvent = record { goals = es; variables = p.variables } in
          let here : m ≡ at_end d l place m.cases m.run =
          ap (λ mode. record { mode = mode; cases = m.cases; run = m.run }) at
          ∙ ap (λ goals. record { mode = At (record { goals = goals; variables = p.variables }); cases = m.cases; run = m.run }) goals in
          published-here (its_updates level.kind m.run.local.own.updates) es p.variables (Mark d ∷ m.cases) (record m.run { local = record m.run.local { own = nothing } })
          (next-turn f j ∙ ap (turn f.program) (is ∙ here) ∙ outer-end-publishes f.program d l place m.cases m.run level levels)

      marker : (goals : List Element) → p.goals ≡ goals → IsEnding (At (record { goals = goals; variables = p.variables })) m.cases → Publishes f (suc j) s (updates_at m.run.local.own.levels m.run.local.own.updates) later
      marker (Marker (Transact d) l ∷ es) goals ending = behind d l es goals m.run.local.own.levels refl
      marker es goals ending = absurd ending

pub transactions-stand-alone : TransactionsStandAlone
transactions-stand-alone f k j lasts =
    let here = stands-somewhere f k in
    let before = here.0 in
    let one = asked-at f k before View here.1 (begins f k j lasts) in
    let begun = one.after in
    let view = viewed f before one.place begun one.answered in
    let longer = lasts.longer in
    let there = stands-somewhere f (suc j) in
    let done = there.0 in
    let inside = (stays f k j lasts begun one.stands (suc j) (omega (arith, longer)) (omega arith) done there.1).adds in
    let part = entries-in-order f (suc j) done there.1 in
    let made : done.made ≡ before.made ++ inside.inside = inside.made ∙ ap (λ l. l ++ inside.inside) view.made in record {
      before = before;
      place = one.place;
      begun = begun;
      stood = here.1;
      views = one.answered;
      asks = λ i after within. no-clauses f i (lasts.between i after within);
      stays = λ i after within s at. (stays f k j lasts begun one.stands i after within s at).adds;
      done = done;
      stands = there.1;
      inside = inside.inside;
      later = part.later;
      entries = part.entries ∙ ap (λ l. started f l ++ part.later) made;
      below = below-more before.low one.place (started f before.made) view.behind (started-below f k before here.1);
      from = subst (λ g. AreFrom g inside.inside) view.low inside.from;
      none = inside.none;
      made = made;
      behind = part.from;
      publishes =
          let end = closes-at-its-end f.program (at_turn f j) (lasts.between j longer (omega arith)) (ap (λ m. any_open m.run.local.own) (sym (next-turn f j)) ∙ lasts.behind) in
          ends f j done there.1 part.later part.entries (at_turn f j) refl (at_turn f j).mode refl end;
    }

pub ruleset laws = (transactions-stand-alone)
