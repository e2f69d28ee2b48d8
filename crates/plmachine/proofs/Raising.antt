-- An error that is raised in more cases.
use Rattle.std.proofs.Common.{◌≡◌, ℕ, List, [], ◌∷◌, ◌++◌, sym, ap, ◌∙◌, subst}
use Rattle.plterm.specs.Tree.{Tree}
use Rattle.plviews.specs.Layers.{Layered}
use Rattle.plprogram.specs.Program.{Program}
use Rattle.plsearch.specs.Types.{Throw, Raise, Case, Go}
use Rattle.plsearch.specs.Lists.{levels}
use Rattle.plsearch.specs.Rows.{meet}
use Rattle.plsearch.specs.Machines.Machine.{At, Back, Rest, turn}
use Rattle.plsearch.proofs.Turns.{Rest-turn}
use Rattle.plsearch.specs.Search.{ending_of}
use Rattle.pllinks.specs.declared.link.Continuation.{Continuation}
use Rattle.plstack.specs.Basis.{Basis}
use Rattle.plstack.specs.Levels.{kinds, AreNamed, FitsIn, Precedes}
use Rattle.plstack.specs.Places.{Database}
use Rattle.plstack.specs.State.{State, cases_of, kinds_in, walks_in, goals_of, Opens}
use Rattle.plstack.proofs.Fitted.{kinds-in, kinds-opened}
use Rattle.plstack.specs.StaticCalls.{database_of}
use Rattle.plmachine.specs.declared.machine.Outcome.{Outcome}
use Rattle.plmachine.specs.declared.machine.Mode.TheVariants as modes
use Rattle.plmachine.specs.declared.machine.Machine.{Machine as Reached}
use Rattle.plmachine.specs.Machine.{IsPlain, below_in, result_of, mode_of, local_of, cases_in, run_in, IsCarried, MayCarry, Moved}
use Rattle.plmachine.proofs.Levels.{fits_behind}
use Rattle.plmachine.proofs.Moves.{back-asks, below-as, machine-is, seeks-none, tied-as}

-- a ball with the levels of a list that fits in them
pub named-in : (s t : State) (more : List Case) (l : Continuation) (k : ℕ) (found : List ℕ) → ((cs : List Case) → FitsIn (kinds cs) (goals_of s l) → AreNamed found cs) → Opens s t more →
    Precedes (kinds more ++ kinds_in s) k (goals_of s l) → (db : Database) → AreNamed found (cases_of db t)
named-in s t more l k found named o p db =
    let same : kinds (cases_of db t) ≡ kinds more ++ kinds_in s = kinds-in db t ∙ kinds-opened s t more o.cases in
    named (cases_of db t) (subst (λ ks. FitsIn ks (goals_of s l)) (sym same) (fits_behind (kinds more ++ kinds_in s) k (goals_of s l) p))

pub raises-in : (P : Program) (s new : Reached) (st : State) (more : List Case) (list : Continuation) (ball : Tree) (r : Outcome) → result_of r ≡ Throw ball (levels (goals_of s.stack list)) → Opens s.stack st more →
    IsCarried st r → new ≡ record s { stack = st; mode = modes.Back r } →
    Moved P s new (Go more (record { goals = Raise ball ∷ goals_of s.stack list; variables = s.stack.env.count }) (local_of s))
unfolding turn meet
raises-in P s new st more list ball r is o carried made =
    let rests : new.stack.basis ≡ s.stack.basis = ap (λ x. x.stack.basis) made ∙ o.basis in
    let layer : new.layer ≡ s.layer = ap (λ x. x.layer) made in
    record {
      plain = subst (λ x. IsPlain x.mode) (sym made) tt;
      moved = record {
        code = ap (λ (b : Basis). b.code) rests;
        latest = ap (λ (b : Basis). b.latest.place) rests;
        place = ap (λ (x : Layered). x.place) layer;
        walks = ([], sym o.walks ∙ ap (λ x. walks_in x.stack) (sym made));
        seeks = seeks-none new.mode (subst (λ x. IsPlain x.mode) (sym made) tt);
        tied = tied-as s new rests layer;
        askable = back-asks new r (ap (λ x. x.mode) made);
        carry = subst (λ (x : Reached). MayCarry x.stack x.mode) (sym made) carried;
        ends = λ v ordered most left answers.
            let run = run_in v left answers s in
            let all : List Case = more ++ cases_in P v s in
            ap (ending_of most) (Rest-turn P (record { mode = At (record { goals = Raise ball ∷ goals_of s.stack list; variables = s.stack.env.count }); cases = all; run = run }))
            ∙ ap (λ m. ending_of most (Rest P m)) (sym
            (machine-is P v new (Back (result_of r)) all (below_in v s) (local_of s) (subst (λ x. IsPlain x.mode) (sym made) tt) (ap (λ x. mode_of x.mode x.stack) made) (ap (λ x. cases_in P v x) made ∙ o.cases (database_of P v s.layer.own.updates))
            (below-as v s new layer) (ap (λ x. local_of x) made) left answers
            ∙ ap (λ x. record { mode = Back x; cases = all; run = run }) is));
      };
    }
