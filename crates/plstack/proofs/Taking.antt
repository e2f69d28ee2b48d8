-- The first of the answers that are left which fits.
use Rattle.std.proofs.Common.{◌≡◌, ℕ, ◌+◌, ◌<◌, List, [], ◌∷◌, length, filter_map, option_map, refl, sym, ap, ◌∙◌, subst, Option, Some, None, IfSome}
use Rattle.std.specs.List.{cons_option}
use Rattle.plterm.specs.Tree.{Tree}
use Rattle.plsubst.specs.Unify.{unify}
use Rattle.plcells.specs.declared.cell.Cell.{Cell}
use Rattle.plcells.specs.Store.{AreValues}
use Rattle.plbuiltin.specs.Solution.{Solution}
use Rattle.plsearch.specs.Types.{Element}
use Rattle.plsearch.specs.Lists.{bind_goals}
use Rattle.plsearch.specs.Rows.{solved}
use Rattle.plgenerator.specs.declared.generator.Found.{Found}
use Rattle.plgenerator.specs.declared.turn.Remaining.{Remaining}
use Rattle.plgenerator.specs.Answers.{left, left_if, IsRemaining, Finds, told_by}
use Rattle.plgenerator.specs.Fitting.{fitting, fitting_by}
use Rattle.plgenerator.proofs.Staying.{left_stays, turn_stays, turn_stood}
use Rattle.platoms.specs.Names.{IsTable}
use Rattle.plcells.proofs.Renaming.{Preserves-renamed}
use Rattle.plenv.specs.declared.slot.Mark.{Mark}
use Rattle.plenv.specs.Env.{Env, IsEnv, IsWithin, cut, renamed}
use Rattle.plenv.specs.Changes.{Keeps, Stays}
use Rattle.plenv.proofs.Putting.{Stays-refl, stays-grown}
use Rattle.plstack.specs.Places.{answers_left}
use Rattle.plstack.specs.Answering.{answers_if, IsSolved, TakesAnswer, TakesNone}
use Rattle.plstack.proofs.Opened.{values_stay}

-- what came behind a mark is taken back
pub taken-back : (old new back : Env) (m : Mark) → IsEnv old → IsTable new.heap.names → Keeps old new → IsWithin m old → cut m old ≡ old → back ≡ cut m new → Stays old back
taken-back old new back m is table keeps within now e =
    let kept = Preserves-renamed old.heap new.heap.names is.heap table keeps.names in
    let same : back ≡ renamed old new.heap.names = e ∙ keeps.kept m within ∙ ap (λ x. renamed x new.heap.names) now in
    subst (Stays old) (sym same) (stays-grown old (renamed old new.heap.names).heap kept.values kept.keeps is.slots)

-- those without a unifier give no place
fitting-solved : (es : List Element) (n : ℕ) (ss : List Solution) → filter_map (solved es n) (fitting ss) ≡ filter_map (solved es n) ss
fitting-solved es n [] = refl
fitting-solved es n (s ∷ ss) = go (unify s.left s.right) refl (fitting-solved es n ss)
  where
    go : (o : Option (ℕ → Tree)) → unify s.left s.right ≡ o → filter_map (solved es n) (fitting ss) ≡ filter_map (solved es n) ss →
        filter_map (solved es n) (fitting_by (unify s.left s.right) s (fitting ss)) ≡ filter_map (solved es n) (s ∷ ss)
    go None e same =
        ap (λ u. filter_map (solved es n) (fitting_by u s (fitting ss))) e
        ∙ same
        ∙ sym (ap (λ u. cons_option (option_map (λ σ. record { goals = bind_goals σ es; variables = n + s.new }) u) (filter_map (solved es n) ss)) e)
    go (Some σ) e same = ap (λ u. filter_map (solved es n) (fitting_by u s (fitting ss))) e ∙ ap (cons_option (solved es n s)) same

-- those that were passed over do not fit, and all stands for what it did
pub record Passed (old : Env) (vs : List Cell) (turn : Remaining) (now : Env) (next : Remaining) : Type 0 where
  pub stays : Stays old now
  pub turns : IsRemaining old.heap vs next
  pub same : (es : List Element) → answers_left old vs es turn ≡ answers_left old vs es next

pub passed-none : (old : Env) (vs : List Cell) (turn : Remaining) → IsRemaining old.heap vs turn → Passed old vs turn old turn
passed-none old vs turn is = record { stays = Stays-refl old; turns = is; same = λ es. refl }

module _ (old : Env) (vs : List Cell) (fit : AreValues old.heap vs) (turn : Remaining) where
  module _ (now : Env) (next : Remaining) (p : Passed old vs turn now next) where
    pub values-now : AreValues now.heap vs
    values-now = (values_stay old.heap now.heap vs p.stays.extends.values fit).0

    pub turn-now : IsRemaining now.heap vs next
    turn-now = turn_stays old.heap now.heap p.stays.extends.values vs fit next p.turns

    -- no answer fits
    pub takes-none : fitting (left now.heap vs next) ≡ [] → TakesNone old now vs turn
    takes-none e = record {
      none = λ es.
          p.same es
          ∙ ap (filter_map (solved es old.count)) (sym (left_stays old.heap now.heap p.stays.extends.values vs fit next))
          ∙ sym (fitting-solved es old.count (left now.heap vs next))
          ∙ ap (filter_map (solved es old.count)) e;
      stays = p.stays;
    }

    module _ (f : Found) (finds : Finds now.heap vs next f) where
      abbrev pub found : Solution
      found = told_by now.heap now.count f.sides

      rest-if : (o : Option Remaining) (es : List Element) → filter_map (solved es old.count) (left_if now.heap vs o) ≡ answers_if old vs es o
      rest-if None es = refl
      rest-if (Some t) es = ap (filter_map (solved es old.count)) (left_stays old.heap now.heap p.stays.extends.values vs fit t)

      stood : (o : Option Remaining) → IfSome o (IsRemaining now.heap vs) → IfSome o (IsRemaining old.heap vs)
      stood None i = tt
      stood (Some t) i = turn_stood old.heap now.heap p.stays.extends.values vs fit t i

      pub turns-then : IfSome f.rest (IsRemaining old.heap vs)
      turns-then = stood f.rest finds.rest

      pub fewer-then : IfSome f.rest (λ rest. length (left old.heap vs rest) < length (left old.heap vs next))
      fewer-then = go f.rest finds.fewer
        where
          go : (o : Option Remaining) → IfSome o (λ rest. length (left now.heap vs rest) < length (left now.heap vs next)) → IfSome o (λ rest. length (left old.heap vs rest) < length (left old.heap vs next))
          go None less = tt
          go (Some t) less = rw (sym (left_stays old.heap now.heap p.stays.extends.values vs fit t), sym (left_stays old.heap now.heap p.stays.extends.values vs fit next)) less

      -- the one that was found, before those behind it
      found-first : (es : List Element) → answers_left old vs es turn ≡ cons_option (solved es old.count (found)) (answers_if old vs es f.rest)
      found-first es =
          p.same es
          ∙ ap (filter_map (solved es old.count)) (sym (left_stays old.heap now.heap p.stays.extends.values vs fit next))
          ∙ sym (fitting-solved es old.count (left now.heap vs next))
          ∙ ap (filter_map (solved es old.count)) (finds.is now.count)
          ∙ fitting-solved es old.count (found ∷ left_if now.heap vs f.rest)
          ∙ ap (cons_option (solved es old.count (found))) (rest-if f.rest es)

      solved-by : (es : List Element) (o : Option (ℕ → Tree)) → unify found.left found.right ≡ o →
          solved es old.count (found) ≡ option_map (λ σ. record { goals = bind_goals σ es; variables = old.count + found.new }) o
      solved-by es o e = ap (option_map (λ σ. record { goals = bind_goals σ es; variables = old.count + found.new })) e

      -- it fits
      pub takes : (new : Env) → IsEnv now → IsSolved now new found → TakesAnswer old new vs turn f.rest
      takes new env u = record {
        before = now;
        solution = found;
        stays = p.stays;
        env = env;
        solves = u;
        turns = turns-then;
        places = λ es.
            found-first es
            ∙ ap (λ o. cons_option o (answers_if old vs es f.rest)) (solved-by es (Some u.unifier) u.is)
            ∙ ap (λ n. record { goals = bind_goals u.unifier es; variables = n } ∷ answers_if old vs es f.rest) (ap (λ n. n + found.new) (sym p.stays.count) ∙ sym u.made.count);
      }

      -- it does not fit
      module _ (e : unify found.left found.right ≡ None) where
        passed-one : (es : List Element) → answers_left old vs es turn ≡ answers_if old vs es f.rest
        passed-one es = found-first es ∙ ap (λ o. cons_option o (answers_if old vs es f.rest)) (solved-by es None e)

        pub passes-last : (new : Env) → Stays old new → f.rest ≡ None → TakesNone old new vs turn
        passes-last new stays last = record { none = λ es. passed-one es ∙ ap (answers_if old vs es) last; stays = stays }

        pub passes : (new : Env) → Stays old new → (rest : Remaining) → f.rest ≡ Some rest → Passed old vs turn new rest
        passes new stays rest is = record {
          stays = stays;
          turns = rw is at turns-then;
          same = λ es. passed-one es ∙ ap (answers_if old vs es) is;
        }
