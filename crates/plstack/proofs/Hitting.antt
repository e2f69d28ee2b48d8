-- The first clause of a call that fits.
use Rattle.std.proofs.Common.{◌≡◌, ℕ, zero, suc, ◌+◌, ◌<◌, ◌≤◌, Bool, List, [], ◌∷◌, length, map, take, drop, get_or, filter_map, option_map, refl, sym, ap, ap₂, ◌∙◌, subst, arith, reverse, append-nil, le_refl, Option, Some, None, slice_index_or}
use Rattle.std.specs.List.{cons_option}
use Rattle.std.proofs.lemmas.List.{drop_all}
use Rattle.plterm.specs.Tree.{Tree, var}
use Rattle.plsubst.specs.Subst.{bind, shift}
use Rattle.plsubst.proofs.Unify.{bind-bind}
use Rattle.platoms.specs.Names.{Table, IsTable, Extends}
use Rattle.platoms.proofs.Extending.{Extends-trans as extends-names}
use Rattle.plclause.specs.Clause.{Clause}
use Rattle.plcells.specs.declared.cell.Cell.{Cell}
use Rattle.plcells.specs.Store.{AreValues, value}
use Rattle.plsearch.specs.Types.{Element, Resolvent}
use Rattle.plsearch.specs.Lists.{bind_goals}
use Rattle.plsearch.specs.Moves.{before_rest, is_true, resolve}
use Rattle.plcode.specs.declared.clause.ClauseCode.{ClauseCode}
use Rattle.plcode.specs.declared.key.Key.{Key}
use Rattle.plcode.specs.Keys.{IsFirstKey}
use Rattle.plcode.specs.Index.{IsNext}
use Rattle.plcode.specs.Laying.{IsLaid}
use Rattle.plcode.specs.Clauses.{IsCodeOf}
use Rattle.plenv.specs.Env.{Env, IsEnv, cut, over, renamed}
use Rattle.plenv.specs.Changes.{Keeps, Extends as ExtendsEnv}
use Rattle.pllinks.specs.declared.link.Continuation.{Continuation}
use Rattle.pllinks.specs.Lists.{all_elements}
use Rattle.pllinks.specs.Links.{items_of}
use Rattle.pllinks.proofs.Changing.{bind-agree, items-agree, items-more, items-put}
use Rattle.plstack.specs.declared.fit.Found.{Found}
use Rattle.plstack.specs.declared.frame.Point.{Point}
use Rattle.plstack.specs.declared.frame.Clauses.{Clauses}
use Rattle.plstack.specs.declared.frame.Resume.TheVariants as resumes
use Rattle.plstack.specs.Places.{Database, called, places_left, kept_values}
use Rattle.plstack.specs.Frames.{IsOpen}
use Rattle.plstack.specs.State.{State, IsStack, goals_in, kinds_in, goals_of, cases_of, IsList}
use Rattle.plstack.specs.Fits.{Finds, FindsNone}
use Rattle.plstack.specs.Attempts.{IsAttempt}
use Rattle.plstack.specs.StaticCalls.{AreStatics, AtCall, further, onward}
use Rattle.plstack.proofs.Naming.{visited-env}
use Rattle.plstack.proofs.Renaming.{stays, agrees-renamed, called-renamed}
use Rattle.plstack.proofs.Growing.{cases-grown, frames-grown, stack-env}
use Rattle.plstack.proofs.Returning.{at-frame}
use Rattle.plstack.proofs.Searching.{Both, both-at, own-length, up-to}
use Rattle.plstack.proofs.Found.{index-at, renamed-kept}

-- an environment with more names
pub extends-renamed : (e : Env) (t : Table) → IsEnv e → IsTable t → Extends e.heap.names t → ExtendsEnv e (renamed e t)
extends-renamed e t is table more = record {
  values = (stays e t is table more).values;
  slots = le_refl _;
  variables = (agrees-renamed e t is table more).variables;
  count = le_refl _;
  keeps = renamed-kept e t more;
}

pub drop-split : {A : Type 0} (i : ℕ) (xs : List A) (x : A) → take 1 (drop i xs) ≡ x ∷ [] → drop i xs ≡ x ∷ drop (suc i) xs
drop-split zero [] x e = cc
drop-split zero (y ∷ ys) x e = ap (λ zs. get_or zs 0 x ∷ ys) e
drop-split (suc i) [] x e = cc
drop-split (suc i) (y ∷ ys) x e = drop-split i ys x e

unfoldable pub place-with : Bool → ℕ → Tree → List Element → ℕ → Resolvent
place-with b l t es n = record { goals = before_rest b l t es; variables = n }

module _ (s : State) (d : ℕ) (is : IsStack s d) (p : Point) (c : Clauses) (at : AtCall s p c) where
  abbrev vs : List Cell
  vs = kept_values s.saved p (resumes.Clauses c)

  pub the-call : IsOpen (goals_in s) s.env s.links s.saved p (resumes.Clauses c) (reverse at.calling.rest)
  the-call = at-frame s d is at.calling.rest p (resumes.Clauses c) at.calling.top

  pub values-there : AreValues s.env.heap vs
  values-there = subst (λ (x : Env). AreValues x.heap vs) at.now the-call.resume

  -- the environment changes, and marks are kept
  module _ (e : Env) (keeps : Keeps s.env e) (env : IsEnv e) where
    pub then-cut : cut p.marks.env e ≡ renamed s.env e.heap.names
    then-cut = keeps.kept p.marks.env the-call.mark.within ∙ ap (λ x. renamed x e.heap.names) at.now

    pub cases-stay : (db : Database) → cases_of db (record s { env = e }) ≡ cases_of db s
    unfolding cases_of
    cases-stay db = cases-grown (goals_in s) s.env e s.links s.links [] s.saved (sym (append-nil s.links)) keeps env.heap.names db (reverse s.frames) is.0.frames

  -- with more names alone
  pub renamed-stack : (t : Table) → IsTable t → Extends s.env.heap.names t → IsEnv (renamed s.env t) → IsStack (record s { env = renamed s.env t }) d
  renamed-stack t table more env = stack-env s d (renamed s.env t) (extends-renamed s.env t is.0.env table more) env is

  module _ (db : Database) (own : AreStatics s.basis.code db) (key : Key) (key_is : IsFirstKey s.env.heap.names key (map (value s.env.heap) vs))
      (lt : c.procedure < length s.basis.code.procedures) (laid : IsLaid s.basis.code.text.names s.basis.code.text.nodes) where
    abbrev ks : List ClauseCode
    ks = get_or s.basis.code.procedures c.procedure []

    abbrev xs : List Clause
    xs = (db.statics c.procedure).clauses

    abbrev name : List ℕ
    name = (db.statics c.procedure).name

    abbrev goal : Tree
    goal = called s.env.heap name vs

    abbrev es : List Element
    es = goals_of s p.list

    pub attempt : IsAttempt s.basis.code.text s.env name vs key s.basis.code.text.nodes ks xs
    attempt = record { laid = laid; nodes_are = refl; names = is.0.names; fit = values-there; key_is = key_is; own = own.own c.procedure lt }

    pub same-count : length ks ≡ length xs
    same-count = own-length s.basis.code.text name ks xs (own.own c.procedure lt)

    module _ (e : Env) (keeps : Keeps s.env e) (env : IsEnv e) where
      same-further : (l : ℕ) (cs : List Clause) → further db (record s { env = e }) l p c cs ≡ places_left l s.env goal es cs
      same-further l cs =
          ap (λ (x : Env). places_left l x (called x.heap name vs) (all_elements (goals_in s) x (items_of s.links p.list)) cs) (then-cut e keeps env)
          ∙ ap₂ (λ g gs. filter_map (resolve l s.env.count g gs) cs)
          (called-renamed s.env e.heap.names is.0.env env.heap.names keeps.names name vs values-there)
          (items-agree (goals_in s) (length s.env.slots) s.env (renamed s.env e.heap.names) (agrees-renamed s.env e.heap.names is.0.env env.heap.names keeps.names) (items_of s.links p.list) at.list.items).1

      pub none-left : FindsNone s.env goal xs c.next → (l : ℕ) → further db (record s { env = e }) l p c (drop c.next xs) ≡ []
      none-left none l = same-further l (drop c.next xs) ∙ none l es

      module _ (found : Found) (finds : Finds s.env e goal xs c.next found) where
        abbrev σ : ℕ → Tree
        σ = finds.fitted.unifier

        pub list-bound : (l : Continuation) → IsList s l → IsList (record s { env = e }) l × (goals_of (record s { env = e }) l ≡ bind_goals σ (goals_of s l))
        list-bound l i =
            let q = items-put (goals_in s) (length s.env.slots) s.env e σ (record { values = finds.fitted.values; variables = finds.fitted.variables }) (items_of s.links l) i.items in
            (record { there = i.there; items = items-more (goals_in s) e (length s.env.slots) (length e.slots) (items_of s.links l) (omega (arith, finds.fitted.place, finds.fitted.slots)) q.0 }, q.1)

        pub fitted-stack : IsStack (record s { env = e }) d
        fitted-stack = (
          record {
            env = env;
            names = extends-names s.basis.code.text.names s.env.heap.names e.heap.names is.0.names keeps.names;
            none = is.0.none;
            chain = is.0.chain;
            frames = frames-grown (goals_in s) s.env e s.links s.links [] s.saved (sym (append-nil s.links)) keeps env.heap.names (reverse s.frames) is.0.frames;
            seen = is.0.seen;
            goals = (list-bound s.goals is.0.goals).0;
            fits = visited-env (kinds_in s) (goals_in s) s.env e (items_of s.links s.goals) (items_of s.links s.goals) refl is.0.fits;
          },
          is.1,
        )

        pub place-now : found.place < length ks
        place-now = omega (arith, finds.within, same-count)

        both : Both s.basis.code.text name ks xs found.place
        both = both-at s.basis.code.text name ks xs found.place attempt.own place-now

        clause-same : both.clause ≡ finds.clause
        clause-same = ap (λ ys. get_or ys 0 finds.clause) (sym both.clause_at ∙ finds.is)

        module _ (none : ClauseCode) (next : Option ℕ) (after : IsNext key ks (found.place + 1) next) where
          abbrev k : ClauseCode
          k = slice_index_or ks found.place none

          pub code-is : IsCodeOf s.basis.code.text k finds.clause
          code-is = subst (IsCodeOf s.basis.code.text k) clause-same (subst (λ y. IsCodeOf s.basis.code.text y both.clause) (sym (index-at ks found.place none both.code both.code_at place-now)) both.own.code)

          pub slots-there : found.base + k.variables ≤ length e.slots
          slots-there = omega (arith, finds.fitted.slots, code-is.variables)

          body-same : bind σ (shift s.env.count finds.clause.body) ≡ bind (over e found.base) finds.clause.body
          unfolding bind
          body-same =
              bind-bind σ (λ y. var (s.env.count + y)) finds.clause.body
              ∙ sym (bind-agree (over e found.base) (λ y. bind σ (var (s.env.count + y))) finds.clause.variables finds.clause.body (λ y low. finds.fitted.own y low) code-is.sound.body_below)

          passes : (l : ℕ) (o : Option ℕ) → IsNext key ks (found.place + 1) o → places_left l s.env goal es (drop (found.place + 1) xs) ≡ places_left l s.env goal es (onward o xs)
          passes l None n =
              up-to s.basis.code.text s.env name vs key s.basis.code.text.nodes ks xs attempt is.0.env (found.place + 1) (length ks) n (omega (arith, place-now)) (le_refl _) l es
              ∙ ap (places_left l s.env goal es) (drop_all (length ks) xs (omega (arith, same-count)))
          passes l (Some j) n =
              up-to s.basis.code.text s.env name vs key s.basis.code.text.nodes ks xs attempt is.0.env (found.place + 1) j n.2 n.0 (omega (arith, n.1)) l es

          next-place : suc found.place ≡ found.place + 1
          next-place = omega arith

          pub left : (l : ℕ) → further db (record s { env = e }) l p c (drop c.next xs)
              ≡ record { goals = before_rest (is_true finds.clause.body) l (bind (over e found.base) finds.clause.body) (goals_of (record s { env = e }) p.list); variables = e.count }
              ∷ further db (record s { env = e }) l p c (onward next xs)
          unfolding place-with
          left l =
              let others = places_left l s.env goal es (drop (suc found.place) xs) in
              same-further l (drop c.next xs)
              ∙ finds.before l es
              ∙ ap (places_left l s.env goal es) (drop-split found.place xs finds.clause finds.is)
              ∙ ap (λ o. cons_option (option_map (λ (τ : ℕ → Tree). place-with (is_true finds.clause.body) l (bind τ (shift s.env.count finds.clause.body)) (bind_goals τ es) (s.env.count + finds.clause.variables)) o) others) finds.fitted.is
              ∙ ap (λ t. place-with (is_true finds.clause.body) l t (bind_goals σ es) (s.env.count + finds.clause.variables) ∷ others) body-same
              ∙ ap₂ (λ gs n. place-with (is_true finds.clause.body) l (bind (over e found.base) finds.clause.body) gs n ∷ others) (sym (list-bound p.list at.list).1) (sym finds.fitted.count)
              ∙ ap (λ ps. place-with (is_true finds.clause.body) l (bind (over e found.base) finds.clause.body) (goals_of (record s { env = e }) p.list) e.count ∷ ps)
              (ap (λ n. places_left l s.env goal es (drop n xs)) next-place ∙ passes l next after ∙ sym (same-further l (onward next xs)))
