use Rattle.std.proofs.Common.{◌≡◌, ◌++◌, ◌∙◌, List, true, false, None, subst}
use Rattle.std.proofs.lemmas.Result.{IfOk-weaker}
use Rattle.plsubst.specs.Subst.{bind}
use Rattle.plsubst.specs.Unify.{unify}
use Rattle.plcells.specs.declared.cell.Cell.{Cell}
use Rattle.plcells.specs.Store.{value}
use Rattle.plcells.specs.Putting.{standing}
use Rattle.plenv.specs.Env.{Env}
use Rattle.plenv.specs.Changes.{Puts, Unifies}
use Rattle.plenv.proofs.Keeping.{Keeps-refl, Keeps-trans}
use Rattle.plenv.proofs.Solving.{all-there, unified, ununified}
use Rattle.plenv.proofs.Terms.{all_still}
use Rattle.plenv.proofs.env.Environment.solve_in_choice.Goals as goal

pub returns-in_err-added-clause-keeps : goal.returns-in_err-added-clause-keeps
returns-in_err-added-clause-keeps c = rw c.in_err-added.ensures.err (Keeps-refl c.args.self.now)

pub put_over-requires-clause-values : goal.put_over-requires-clause-values
put_over-requires-clause-values c =
    let q = c.args.equation in
    let ws = c.in_ok-added.added.items in
    let all : c.deref.result.now ≡ q.values.items ++ ws = c.deref.ensures.value ∙ c.in_ok-append.ensures.items in
    rw all (all-there c.args.self.now c.new_values.new.self q.values.items ws q.new c.in_ok-added.ensures.ok c.requires.values)

pub returns-in_err-a-clause-keeps : goal.returns-in_err-a-clause-keeps
returns-in_err-a-clause-keeps c = Keeps-trans c.args.self.now c.new_values.new.self c.put_over.new.self c.in_ok-added.ensures.ok.extends.keeps c.in_err-a.ensures.err.extends.keeps

pub put_over-requires-2-clause-values : goal.put_over-requires-2-clause-values
put_over-requires-2-clause-values c =
    let q = c.args.equation in
    let ws = c.in_ok-added.added.items in
    let all : c.deref-2.result.now ≡ q.values.items ++ ws = c.deref-2.ensures.value ∙ c.in_ok-append.ensures.items in
    let mid : Env = c.new_values.new.self in
    let one : Env = c.put_over.new.self in
    rw all (all_still mid.heap one.heap (q.values.items ++ ws) (λ v f. (c.in_ok-a.ensures.ok.extends.values v f).0)
    (all-there c.args.self.now mid q.values.items ws q.new c.in_ok-added.ensures.ok c.requires.values))

pub returns-in_err-b-clause-keeps : goal.returns-in_err-b-clause-keeps
returns-in_err-b-clause-keeps c =
    let old : Env = c.args.self.now in
    let mid : Env = c.new_values.new.self in
    let one : Env = c.put_over.new.self in
    Keeps-trans old one c.put_over-2.new.self (Keeps-trans old mid one c.in_ok-added.ensures.ok.extends.keeps c.in_ok-a.ensures.ok.extends.keeps) c.in_err-b.ensures.err.extends.keeps

pub returns-clause-yes : goal.returns-clause-yes
returns-clause-yes c =
    let q = c.args.equation in
    let ws = c.in_ok-added.added.items in
    let old : Env = c.args.self.now in
    let mid : Env = c.new_values.new.self in
    let one : Env = c.put_over.new.self in
    let two : Env = c.put_over-2.new.self in
    let new : Env = c.unify_in_choice.new.self in
    let a = c.in_ok-a.a in
    let b = c.in_ok-b.b in
    let all : c.deref.result.now ≡ q.values.items ++ ws = c.deref.ensures.value ∙ c.in_ok-append.ensures.items in
    let all_2 : c.deref-2.result.now ≡ q.values.items ++ ws = c.deref-2.ensures.value ∙ c.in_ok-append.ensures.items in
    let left = subst (λ (xs : List Cell). Puts mid one a (bind (standing mid.heap xs) q.left)) all c.in_ok-a.ensures.ok in
    let right = subst (λ (xs : List Cell). Puts one two b (bind (standing one.heap xs) q.right)) all_2 c.in_ok-b.ensures.ok in
    IfOk-weaker c.unify_in_choice.result (λ fits. fits ≡ true → Unifies two new (value two.heap a) (value two.heap b)) _
    (λ fits u so. unified old mid one two new q ws a b c.requires c.in_ok-added.ensures.ok left right (u so)) c.unify_in_choice.ensures.yes

pub returns-clause-no : goal.returns-clause-no
returns-clause-no c =
    let q = c.args.equation in
    let ws = c.in_ok-added.added.items in
    let old : Env = c.args.self.now in
    let mid : Env = c.new_values.new.self in
    let one : Env = c.put_over.new.self in
    let two : Env = c.put_over-2.new.self in
    let new : Env = c.unify_in_choice.new.self in
    let a = c.in_ok-a.a in
    let b = c.in_ok-b.b in
    let all : c.deref.result.now ≡ q.values.items ++ ws = c.deref.ensures.value ∙ c.in_ok-append.ensures.items in
    let all_2 : c.deref-2.result.now ≡ q.values.items ++ ws = c.deref-2.ensures.value ∙ c.in_ok-append.ensures.items in
    let left = subst (λ (xs : List Cell). Puts mid one a (bind (standing mid.heap xs) q.left)) all c.in_ok-a.ensures.ok in
    let right = subst (λ (xs : List Cell). Puts one two b (bind (standing one.heap xs) q.right)) all_2 c.in_ok-b.ensures.ok in
    IfOk-weaker c.unify_in_choice.result (λ fits. fits ≡ false → unify (value two.heap a) (value two.heap b) ≡ None) _
    (λ fits n so. ununified old mid one two new q ws a b c.requires c.in_ok-added.ensures.ok left right (n so)) c.unify_in_choice.ensures.no

pub returns-clause-keeps : goal.returns-clause-keeps
returns-clause-keeps c =
    let old : Env = c.args.self.now in
    let mid : Env = c.new_values.new.self in
    let one : Env = c.put_over.new.self in
    let two : Env = c.put_over-2.new.self in
    Keeps-trans old two c.unify_in_choice.new.self
    (Keeps-trans old one two (Keeps-trans old mid one c.in_ok-added.ensures.ok.extends.keeps c.in_ok-a.ensures.ok.extends.keeps) c.in_ok-b.ensures.ok.extends.keeps) c.unify_in_choice.ensures.keeps
