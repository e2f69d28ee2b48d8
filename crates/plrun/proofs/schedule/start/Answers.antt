use Rattle.std.proofs.Common.{◌∙◌, [], arith, sym, subst}
use Rattle.plevent.specs.declared.request.Request.{Request}
use Rattle.plsearch.specs.Search.{search_of}
use Rattle.plsearch.specs.Starts.{searches}
use Rattle.plsolver.specs.Solver.{rest_of, start_given}
use Rattle.plrun.specs.Going.{IsRunning, Runs}
use Rattle.plrun.proofs.Serve.{relimit}
use Rattle.plrun.proofs.Start.{begun, begun-there, not_begun}
use Rattle.plworld.proofs.Serving.{grows-in, replies-in}
use Rattle.plrun.proofs.schedule.start.Goals as goal

pub returns-in-Started-clause-begun : goal.returns-in-Started-clause-begun
returns-in-Started-clause-begun c =
    let P = c.args.program.now in
    let n = c.args.steps in
    let w = c.args.world.now in
    let s = c.in_ok-solver-in-Started.solver in
    let h = c.step.new.self.journal in
    let t = c.in-Started.number in
    let from = start_given P (record { thread = t; alias = c.in-Started.alias; goal = c.in-Started.goal }) in
    let tells = c.in_ok-number.ensures.reply ∙ replies-in w 0 Request.Start c.requires.serves in
    let all = begun P.first (search_of P from n) n (λ v. rest_of P v s) s.used w.journal h c.in_ok-number.field-0 t _ _
    c.requires.at (c.in_ok-number.ensures.reply ∙ replies-in w 0 Request.Start c.requires.serves) (grows-in w c.step.new.self 1 0 Request.Start c.requires.serves c.in_ok-number.ensures.entry) c.in-Started.is c.in_ok-solver-in-Started.ensures.begins in
    record {
      of = c.in_ok-solver-in-Started.ensures.of;
      latest = omega (arith, c.in_ok-solver-in-Started.ensures.latest);
      started = Runs (relimit P.first (λ k. searches P k h t) n s.limit (λ v. rest_of P v s) s.used h t s.places.items c.in_ok-solver-in-Started.ensures.limit
          (subst (IsRunning P.first (searches P n h t) n (λ v. rest_of P v s) s.used h t) (sym c.in_ok-solver-in-Started.ensures.places)
          (subst (λ x. IsRunning P.first (search_of P x n) n (λ v. rest_of P v s) s.used h t []) (begun-there P w.journal h c.in_ok-number.field-0 t _ _ all.1 tells c.in-Started.is) all.0)));
    }

pub returns-in-Started-clause-first : goal.returns-in-Started-clause-first
returns-in-Started-clause-first c =
    let P = c.args.program.now in
    let n = c.args.steps in
    let w = c.args.world.now in
    let s = c.in_ok-solver-in-Started.solver in
    let from = start_given P (record { thread = c.in-Started.number; alias = c.in-Started.alias; goal = c.in-Started.goal }) in
    let all = begun P.first (search_of P from n) n (λ v. rest_of P v s) s.used w.journal c.step.new.self.journal c.in_ok-number.field-0 c.in-Started.number _ _
    c.requires.at (c.in_ok-number.ensures.reply ∙ replies-in w 0 Request.Start c.requires.serves) (grows-in w c.step.new.self 1 0 Request.Start c.requires.serves c.in_ok-number.ensures.entry) c.in-Started.is c.in_ok-solver-in-Started.ensures.begins in all.1

pub returns : goal.returns
returns c = let w = c.args.world.now in record {
  begun = tt;
  limit = tt;
  first = tt;
  over = not_begun c.args.program.now.first w.journal c.step.new.self.journal c.in_ok-number.field-0
      c.requires.at (c.in_ok-number.ensures.reply ∙ replies-in w 0 Request.Start c.requires.serves) (grows-in w c.step.new.self 1 0 Request.Start c.requires.serves c.in_ok-number.ensures.entry) c.in_default.not-Started;
  serves = c.step.ensures.stays ∙ c.requires.serves;
}
