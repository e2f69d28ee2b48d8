use Rattle.std.proofs.Common.{ap, subst, sym, ◌≡◌, ◌∙◌, List}
use Rattle.plevent.specs.declared.update.Update.{Update}
use Rattle.pltx.specs.Own.{all_made}
use Rattle.plsearch.specs.Moves.{publish}
use Rattle.plstack.specs.Places.{Database, IsOwnSoFar}
use Rattle.plstack.specs.State.{cases_of, goals_of, IsFit, IsList}
use Rattle.plmachine.specs.declared.machine.Machine.{Machine}
use Rattle.plmachine.specs.declared.machine.Mode.TheVariants as modes
use Rattle.plmachine.specs.Machine.{local_of, Moved}
use Rattle.plmachine.proofs.Updating.{makes}
use Rattle.plmachine.proofs.machine.Machine.publish_swept.Goals as goal

-- ---- what is open takes them

pub go_on-requires-clause-list : goal.go_on-requires-clause-list
go_on-requires-clause-list c = subst (λ (s : Machine). IsList s.stack c.args.rest) (sym c.make_swept.ensures.frame) c.requires.rest

pub go_on-requires-clause-fits : goal.go_on-requires-clause-fits
go_on-requires-clause-fits c = subst (λ (s : Machine). IsFit s.stack c.args.rest) (sym c.make_swept.ensures.frame) c.requires.fits

pub returns-then-is_open-clause-ok : goal.returns-then-is_open-clause-ok
returns-then-is_open-clause-ok c P head w at =
    let s = c.args.self.now in
    let l = c.args.rest in
    let made = c.in_ok-make_swept.ensures.ok head w at in
    makes P s c.go_on.new.self w.updates.items l (sym c.if-is_open.ensures) c.requires.tied
    (subst (λ (m : Machine). (db : Database) (own : List Update) → IsOwnSoFar m.stack.basis.latest db own → cases_of (record db { own = own }) m.stack ≡ cases_of db m.stack) made c.go_on.ensures.own)
    (c.go_on.ensures.is ∙ ap (λ (m : Machine). record m { stack = record m.stack { goals = l }; mode = modes.Visit }) made)

-- ---- the journal takes them

pub returns-clause-ok : goal.returns-clause-ok
returns-clause-ok c P head w at =
    let s = c.args.self.now in
    let t = c.take_swept-updates.new.self in
    let moves : Machine → List Update → Type 0 = λ m us. Moved P m c.publish_batch.new.self (publish us (goals_of m.stack c.args.rest) m.stack.env.count (local_of m)) in
    let taken : moves (record s { mode = modes.Visit }) w.updates.items = subst (λ m. moves m w.updates.items) c.take_swept-updates.ensures.frame (subst (moves t) (c.take_swept-updates.ensures.is head w at) (c.publish_batch.ensures P)) in
    let moved = taken.moved in
    record {
      plain = taken.plain;
      moved = record {
        code = moved.code;
        latest = moved.latest;
        place = moved.place;
        walks = moved.walks;
        seeks = moved.seeks;
        tied = λ t. moved.tied (record { starts = t.starts; count = t.count; base = t.base; closed = t.closed; outer = t.outer });
        askable = moved.askable;
        carry = moved.carry;
        ends = moved.ends;
      };
    }
