use Rattle.std.proofs.Common.{◌∙◌, sym, ap, None}
use Rattle.plevent.specs.Alive.{change_if, named}
use Rattle.plevent.specs.declared.update.ClauseName.{ClauseName}
use Rattle.plrecords.specs.Kept.{clause_of, here}
use Rattle.pltx.proofs.Knowing.{own-clause}
use Rattle.pltx.proofs.overlay.Overlay.clause.Goals as goal

pub returns-then-alive : goal.returns-then-alive
returns-then-alive c = λ b h.
    let o = c.args.self.now in
    let m = c.args.m in
    let n = c.args.number in
    let name = c.draft_name-name.ensures in
    let alive = sym (ap (λ (x : ClauseName). here m x o.draft) name) ∙ sym c.alive.ensures ∙ c.if-alive.true in
    c.clause.ensures ∙ ap (λ (x : ClauseName). clause_of x o.draft) name
    ∙ sym (ap (λ v. change_if v (clause_of (named n 0) o.draft) None) alive) ∙ own-clause b m n o.updates.items o.draft c.requires.draft h

pub returns : goal.returns
returns c = λ b h.
    let o = c.args.self.now in
    let m = c.args.m in
    let n = c.args.number in
    let alive = sym (ap (λ (x : ClauseName). here m x o.draft) c.draft_name-name.ensures) ∙ sym c.alive.ensures ∙ c.if-alive.false in
    sym (ap (λ v. change_if v (clause_of (named n 0) o.draft) None) alive) ∙ own-clause b m n o.updates.items o.draft c.requires.draft h
