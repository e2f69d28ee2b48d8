use Rattle.std.proofs.Common.{◌≡◌, true, false, None, rules, w64, FitsSigned}
use Rattle.std.proofs.lemmas.Result.{IfOk-weaker}
use Rattle.plsubst.specs.Unify.{unify}
use Rattle.plbuiltin.specs.Solution.{together}
use Rattle.plgenerator.specs.Answers.{piece_terms, sought_terms}
use Rattle.plenv.specs.Env.{Env}
use Rattle.plenv.specs.Solving.{Solves}
use Rattle.plenv.proofs.Keeping.{Keeps-trans}
use Rattle.plstack.proofs.Pieces.{number-is, piece-covers, piece-misses, piece-solves}
use Rattle.plstack.proofs.answer.fit_piece.Goals as goal

pub fit-requires-clause-covers : goal.fit-requires-clause-covers
fit-requires-clause-covers c =
    let p = c.args.piece.now in
    let mid : Env = c.atom.new.self in
    let x : FitsSigned w64 c.from.result = search rules in
    let y : FitsSigned w64 c.from-2.result = search rules in
    let z : FitsSigned w64 c.from-3.result = search rules in
    rw (number-is _ _ x c.from.ensures, number-is _ _ y c.from-2.ensures, number-is _ _ z c.from-3.ensures) (piece-covers c.args.env.now mid c.args.sought.now p c.in_ok-text.text c.in_ok-text.ensures.ok c.heap.ensures.env)

pub returns-clause-yes : goal.returns-clause-yes
returns-clause-yes c =
    let p = c.args.piece.now in
    let s = c.args.sought.now in
    let old : Env = c.args.env.now in
    let mid : Env = c.atom.new.self in
    let new : Env = c.fit.new.env in
    let x : FitsSigned w64 c.from.result = search rules in
    let y : FitsSigned w64 c.from-2.result = search rules in
    let z : FitsSigned w64 c.from-3.result = search rules in
    IfOk-weaker c.fit.result _ (λ fits. fits ≡ true → Solves old new (together (sought_terms old.heap s)) (together (piece_terms p)) 0)
    (λ fits u so. piece-solves old mid s p c.in_ok-text.text c.in_ok-text.ensures.ok c.heap.ensures.env c.requires.values new (u so)) (rw (number-is _ _ x c.from.ensures, number-is _ _ y c.from-2.ensures, number-is _ _ z c.from-3.ensures) at c.fit.ensures.yes)

pub returns-clause-no : goal.returns-clause-no
returns-clause-no c =
    let p = c.args.piece.now in
    let s = c.args.sought.now in
    let old : Env = c.args.env.now in
    let mid : Env = c.atom.new.self in
    let x : FitsSigned w64 c.from.result = search rules in
    let y : FitsSigned w64 c.from-2.result = search rules in
    let z : FitsSigned w64 c.from-3.result = search rules in
    IfOk-weaker c.fit.result _ (λ fits. fits ≡ false → unify (together (sought_terms old.heap s)) (together (piece_terms p)) ≡ None)
    (λ fits n so. piece-misses old mid s p c.in_ok-text.text c.in_ok-text.ensures.ok c.heap.ensures.env c.requires.values (n so)) (rw (number-is _ _ x c.from.ensures, number-is _ _ y c.from-2.ensures, number-is _ _ z c.from-3.ensures) at c.fit.ensures.no)

pub returns-clause-keeps : goal.returns-clause-keeps
returns-clause-keeps c = Keeps-trans c.args.env.now c.atom.new.self c.fit.new.env c.in_ok-text.ensures.ok.extends.keeps c.fit.ensures.keeps
