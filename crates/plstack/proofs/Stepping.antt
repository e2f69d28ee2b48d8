-- A clause that fits a goal, and its body before the list behind the goal.
use Rattle.std.proofs.Common.{◌≡◌, ℕ, ◌+◌, List, [], length, refl, option_map, reverse, sym, ap, ◌∙◌, subst, arith, append-nil, Option, Some}
use Rattle.plterm.specs.Tree.{Tree}
use Rattle.plsubst.specs.Subst.{bind, shift}
use Rattle.platoms.proofs.Extending.{Extends-trans as extends-names}
use Rattle.plclause.specs.Clause.{Clause}
use Rattle.plcells.specs.declared.cell.Cell.{Cell}
use Rattle.plcells.specs.Store.{value}
use Rattle.plsearch.specs.Lists.{bind_goals}
use Rattle.plsearch.specs.Moves.{before_rest, is_true, resolve}
use Rattle.plenv.specs.Env.{Env, IsEnv}
use Rattle.plenv.specs.Changes.{Keeps}
use Rattle.pllinks.specs.declared.link.Link.{Link}
use Rattle.pllinks.specs.declared.link.Continuation.{Continuation}
use Rattle.pllinks.proofs.Changing.{items-more, items-put}
use Rattle.pllinks.specs.Links.{items_of}
use Rattle.plstack.specs.State.{State, IsState, IsList, goals_in, kinds_in, goals_of}
use Rattle.plstack.specs.Trials.{ListsBody, Resolved}
use Rattle.plstack.specs.Walks.{FitsCall}
use Rattle.plstack.proofs.Naming.{visited-env}
use Rattle.plstack.proofs.Growing.{frames-grown}
use Rattle.plstack.proofs.Hitting.{place-with}

module _ (s : State) (is : IsState s) (e : Env) (env : IsEnv e) (keeps : Keeps s.env e) (goal : Cell) (x : Clause) (body : Option Cell) (r : Resolved s.env e (value s.env.heap goal) x body) where
  abbrev σ : ℕ → Tree
  σ = r.unifier

  abbrev fitted : State
  fitted = record s { env = e }

  list-bound : (l : Continuation) → IsList s l → IsList fitted l × (goals_of fitted l ≡ bind_goals σ (goals_of s l))
  list-bound l i =
      let q = items-put (goals_in s) (length s.env.slots) s.env e σ (record { values = r.values; variables = r.variables }) (items_of s.links l) i.items in
      (record { there = i.there; items = items-more (goals_in s) e (length s.env.slots) (length e.slots) (items_of s.links l) (omega (arith, r.slots)) q.0 }, q.1)

  fitted-state : IsState fitted
  fitted-state = record {
    env = env;
    names = extends-names s.basis.code.text.names s.env.heap.names e.heap.names is.names keeps.names;
    none = is.none;
    chain = is.chain;
    frames = frames-grown (goals_in s) s.env e s.links s.links [] s.saved (sym (append-nil s.links)) keeps env.heap.names (reverse s.frames) is.frames;
    seen = is.seen;
    goals = (list-bound s.goals is.goals).0;
    fits = visited-env (kinds_in s) (goals_in s) s.env e (items_of s.links s.goals) (items_of s.links s.goals) refl is.fits;
  }

  module _ (rest : Continuation) (there : IsList s rest) (ls : List Link) (level : ℕ) (list : Continuation) (b : ListsBody s.links ls level body rest list) where
    listed : IsList (record s { env = e; links = ls }) list × (goals_of (record s { env = e; links = ls }) list ≡ before_rest (is_true x.body) level (bind σ (shift s.env.count x.body)) (goals_of fitted rest))
    listed =
        let l = b.there fitted fitted-state refl (list-bound rest there).0 (is_true x.body) (bind σ (shift s.env.count x.body)) r.left in
        (record { there = l.0.there; items = l.0.items }, l.1)

    place-is : resolve level s.env.count (value s.env.heap goal) (goals_of s rest) x ≡ Some (record { goals = goals_of (record s { env = e; links = ls }) list; variables = e.count })
    unfolding place-with
    place-is =
        ap (option_map (λ (τ : ℕ → Tree). place-with (is_true x.body) level (bind τ (shift s.env.count x.body)) (bind_goals τ (goals_of s rest)) (s.env.count + x.variables))) r.is
        ∙ ap (λ n. Some (place-with (is_true x.body) level (bind σ (shift s.env.count x.body)) (bind_goals σ (goals_of s rest)) n)) (sym r.count)
        ∙ ap (λ gs. Some (place-with (is_true x.body) level (bind σ (shift s.env.count x.body)) gs e.count)) (sym (list-bound rest there).1)
        ∙ ap (λ gs. Some (record { goals = gs; variables = e.count })) (sym listed.1)

    fits-here : FitsCall s (record s { env = e; links = ls; goals = list }) level goal rest x
    fits-here = record {
      place = place-is;
      there = record { there = listed.0.there; items = listed.0.items };
      goes = record { keeps = keeps; env = env; more = b.more; links = b.is; chain = b.chain is.chain };
    }

-- so it is on each stack with this environment and these links
pub fits-call : (e0 e : Env) (links ls : List Link) (env : IsEnv e) (keeps : Keeps e0 e) (goal : Cell) (x : Clause) (body : Option Cell) → Resolved e0 e (value e0.heap goal) x body →
    (rest : Continuation) (level : ℕ) (list : Continuation) → ListsBody links ls level body rest list →
    (s : State) → IsState s → s.env ≡ e0 → s.links ≡ links → IsList s rest → FitsCall s (record s { env = e; links = ls; goals = list }) level goal rest x
fits-call e0 e links ls env keeps goal x body r rest level list b s is se sl there =
    fits-here s is e env (subst (λ (y : Env). Keeps y e) (sym se) keeps) goal x body (subst (λ (y : Env). Resolved y e (value y.heap goal) x body) (sym se) r)
    rest there ls level list (subst (λ ks. ListsBody ks ls level body rest list) (sym sl) b)
