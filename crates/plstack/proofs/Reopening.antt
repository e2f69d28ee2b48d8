-- Cases of calls that are opened, and where nothing changed but names.
use Rattle.std.specs.Prelude.{Result as Outcomes}
use Rattle.std.proofs.Common.{Ok, Err, OnErr, ◌≡◌, ℕ, List, ◌∷◌, sym, ap, ap₂, ◌∙◌, subst}
use Rattle.plterm.specs.Tree.{Tree}
use Rattle.plclause.specs.Clause.{Clause}
use Rattle.plenv.specs.Env.{Env, IsEnv}
use Rattle.plenv.specs.Changes.{Extends as ExtendsEnv}
use Rattle.pllinks.specs.declared.link.Link.{Link}
use Rattle.pllinks.specs.declared.link.Continuation.{Continuation}
use Rattle.plstack.specs.Places.{Database}
use Rattle.plstack.specs.State.{State, IsStack, Extends, place_of}
use Rattle.plstack.specs.Calls.{Calls, StaysAt}
use Rattle.plstack.specs.Cutting.{Settles}
use Rattle.plstack.specs.Trials.{ComesBack}
use Rattle.plstack.proofs.Growing.{stack-env, extends-env}
use Rattle.plstack.proofs.Hitting.{extends-renamed}

-- what holds is what an error says
pub on_err : {T E : Type 0} (P : Type 0) (r : Outcomes T E) → P → OnErr r P
on_err P (Ok x) p = tt
on_err P (Err e) p = p

-- the place that is visited
extends-place : (s new : State) → Extends s new → new.env.count ≡ s.env.count → place_of new ≡ place_of s
extends-place s new x count = ap₂ (λ gs n. record { goals = gs; variables = n }) x.visited count

-- all is as it was but for more names
module _ (s : State) (d : ℕ) (is : IsStack s d) (e : Env) (ls : List Link) (env : IsEnv e) (b : ComesBack s.env e s.links ls) where
  abbrev pub unchanged : State
  unchanged = record { basis = s.basis; env = e; links = ls; saved = s.saved; frames = s.frames; goals = s.goals }

  env-extends : ExtendsEnv s.env e
  env-extends = subst (ExtendsEnv s.env) (sym b.env) (extends-renamed s.env e.heap.names is.0.env env.heap.names b.names)

  pub unchanged-stack : IsStack unchanged d
  unchanged-stack = subst (λ ks. IsStack (record s { env = e; links = ks }) d) (sym b.same) (stack-env s d e env-extends env is)

  pub unchanged-extends : Extends s unchanged
  unchanged-extends = subst (λ ks. Extends s (record s { env = e; links = ks })) (sym b.same) (extends-env s d e env-extends env is)

  pub unchanged-at : StaysAt s unchanged
  unchanged-at = record { cases = unchanged-extends.cases; place = extends-place s unchanged unchanged-extends (ap (λ x. x.count) b.env) }

-- where less is old
pub calls_settled : (db : Database) (s mid new : State) (t : Tree) (rest : Continuation) (cs : List Clause) → Calls db s mid t rest cs → Settles mid new → Calls db s new t rest cs
calls_settled db s mid new t rest cs c y = record { others = c.others; places = c.places ∙ ap (λ p. p ∷ c.others) (sym y.place); cases = y.cases db ∙ c.cases }
