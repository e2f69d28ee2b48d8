use Rattle.std.proofs.Common.{◌≡◌, length, arith}
use Rattle.plstack.specs.declared.frame.Frame.TheVariants.{Open}
use Rattle.plstack.specs.declared.frame.Resume.TheVariants as resumes
use Rattle.plstack.proofs.Ending.{moves-on}
use Rattle.plstack.proofs.Stacks.{changed-last, inside}
use Rattle.plstack.proofs.Walking.{replaced, replaced-stack}
use Rattle.plstack.proofs.stack.Stack.replace_walk.Goals as goal

pub invariant_of-self : goal.invariant_of-self
invariant_of-self c =
    let at = c.requires.walking in
    let walking = rw (← c.self.view_is) at at.2 in
    let seen = rw (← c.self.view_is) at c.requires.seen in
    let many : c.len-last.result ≡ length c.self.inside.frames.items = omega (arith, c.len-last.ensures, c.self.inside.frames.ok.0) in
    let pushed = changed-last c.self.inside.frames.items walking.rest (Open at.0 (resumes.Walk at.1)) (Open at.0 (resumes.Walk (record at.1 { spot = c.args.spot }))) c.index_mut.result.now c.stand_at.new.frame c.len-last.result walking.top many c.index_mut.ensures.value (c.stand_at.ensures at.0 at.1) in
    replaced-stack (inside c.self.inside) c.self.inside.depth c.self.invariant at.0 at.1 walking walking.rest (Open at.0 (resumes.Walk at.1)) walking.top c.args.spot seen _ pushed

pub returns-clause-goes : goal.returns-clause-goes
returns-clause-goes c = λ p w is db.
    let walking = rw (← c.self.view_is) at is in
    let seen = rw (← c.self.view_is) at c.requires.seen in
    let many : c.len-last.result ≡ length c.self.inside.frames.items = omega (arith, c.len-last.ensures, c.self.inside.frames.ok.0) in
    let pushed = changed-last c.self.inside.frames.items walking.rest (Open p (resumes.Walk w)) (Open p (resumes.Walk (record w { spot = c.args.spot }))) c.index_mut.result.now c.stand_at.new.frame c.len-last.result walking.top many c.index_mut.ensures.value (c.stand_at.ensures p w) in
    rw (← c.self.view_is) (replaced (inside c.self.inside) c.self.inside.depth c.self.invariant p w walking walking.rest (Open p (resumes.Walk w)) walking.top c.args.spot seen _ pushed db)

pub returns-clause-walking : goal.returns-clause-walking
returns-clause-walking c = λ p w is.
    let walking = rw (← c.self.view_is) at is in
    let many : c.len-last.result ≡ length c.self.inside.frames.items = omega (arith, c.len-last.ensures, c.self.inside.frames.ok.0) in
    record { rest = walking.rest; top = changed-last c.self.inside.frames.items walking.rest (Open p (resumes.Walk w)) (Open p (resumes.Walk (record w { spot = c.args.spot }))) c.index_mut.result.now c.stand_at.new.frame c.len-last.result walking.top many c.index_mut.ensures.value (c.stand_at.ensures p w) }

pub returns-clause-moves : goal.returns-clause-moves
returns-clause-moves c = λ p w is.
    let walking = rw (← c.self.view_is) at is in
    let many : c.len-last.result ≡ length c.self.inside.frames.items = omega (arith, c.len-last.ensures, c.self.inside.frames.ok.0) in
    let pushed = changed-last c.self.inside.frames.items walking.rest (Open p (resumes.Walk w)) (Open p (resumes.Walk (record w { spot = c.args.spot }))) c.index_mut.result.now c.stand_at.new.frame c.len-last.result walking.top many c.index_mut.ensures.value (c.stand_at.ensures p w) in
    rw (← c.self.view_is) (moves-on (inside c.self.inside) _ p w walking walking.rest (Open p (resumes.Walk w)) walking.top c.args.spot pushed)
