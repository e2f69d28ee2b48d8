use Rattle.std.proofs.Common.{◌≡◌, ℕ, subst, inl, inr}
use Rattle.plstore.specs.declared.query.Query.{Query}
use Rattle.plstore.specs.Looking.{found}
use Rattle.plstack.proofs.Walking.{at-walking}
use Rattle.plmachine.proofs.Moves.{on_ok_map}
use Rattle.plsolver.specs.Fetching.{like}
use Rattle.plsolver.specs.Going.{head_at, LooksBehind}
use Rattle.plsolver.proofs.Asked.{asked-walking}
use Rattle.plsolver.proofs.Seeking.{clause-told, next-told, walk-base, walk-clause}
use Rattle.plsolver.proofs.progress.Progress.fetched_walk.Goals as goal

pub walked_behind-requires-clause-at : goal.walked_behind-requires-clause-at
walked_behind-requires-clause-at c =
    let w = c.in-Some.at.walk in
    let fits = c.requires.fits in
    let b = walk-base c.args.self.now.machine c.in-Some.at.point w c.in-Some.ensures.some c.in-Seek.view c.in-Seek.field-1 (inl c.in-Seek.is) fits.0 fits.1 fits.2 in
    (c.in-Some.at.point, w, (at-walking c.args.self.now.machine.stack fits.2.point c.in-Some.at.point fits.2.walk w fits.2.at c.in-Some.ensures.some), (b.0, subst (LooksBehind w.spot c.in-Seek.view) b.1 (inl c.in-Seek.is)))

pub returns-in-Seek-clause-ok : goal.returns-in-Seek-clause-ok
returns-in-Seek-clause-ok c =
    let s = c.args.self.now.machine in
    let w = c.in-Some.at.walk in
    on_ok_map c.walked_behind.result
    (λ keeps P v ordered g q on told.
    let b = walk-base s c.in-Some.at.point w c.in-Some.ensures.some c.in-Seek.view c.in-Seek.field-1 (inl c.in-Seek.is) g q on in
    keeps P v b.0 c.in-Some.at.point w (at-walking s.stack on.point c.in-Some.at.point on.walk w on.at c.in-Some.ensures.some) ordered (subst (LooksBehind w.spot c.in-Seek.view) b.1 (inl c.in-Seek.is))
    (next-told v c.in-Seek.view.place q (head_at s w) b.0 c.args.found c.next_in.result b.2 (subst (λ (k : ℕ). c.args.found ≡ found (v k) q) b.3 told) c.next_in.ensures))
    c.walked_behind.ensures.ok

pub returns-in-Seek-clause-asked : goal.returns-in-Seek-clause-asked
returns-in-Seek-clause-asked c =
    let s = c.args.self.now.machine in
    let w = c.in-Some.at.walk in
    on_ok_map c.walked_behind.result
    (λ asked v ordered g q on told.
    let b = walk-base s c.in-Some.at.point w c.in-Some.ensures.some c.in-Seek.view c.in-Seek.field-1 (inl c.in-Seek.is) g q on in
    asked-walking v s c.walked_behind.new.self.machine c.in-Some.at.point w c.in-Some.ensures.some g q (like (head_at s w) b.0) on b.2
    (asked v b.0 c.in-Some.at.point w (at-walking s.stack on.point c.in-Some.at.point on.walk w on.at c.in-Some.ensures.some) ordered (subst (LooksBehind w.spot c.in-Seek.view) b.1 (inl c.in-Seek.is))
    (next-told v c.in-Seek.view.place q (head_at s w) b.0 c.args.found c.next_in.result b.2 (subst (λ (k : ℕ). c.args.found ≡ found (v k) q) b.3 told) c.next_in.ensures)))
    c.walked_behind.ensures.asked

pub walked_behind-requires-in-At-clause-at : goal.walked_behind-requires-in-At-clause-at
walked_behind-requires-in-At-clause-at c =
    let w = c.in-Some.at.walk in
    let fits = c.requires.fits in
    let b = walk-base c.args.self.now.machine c.in-Some.at.point w c.in-Some.ensures.some c.in-At.view c.in-At.field-2 (inr (c.in-At.field-1, c.in-At.is)) fits.0 fits.1 fits.2 in
    (c.in-Some.at.point, w, (at-walking c.args.self.now.machine.stack fits.2.point c.in-Some.at.point fits.2.walk w fits.2.at c.in-Some.ensures.some), (b.0, subst (LooksBehind w.spot c.in-At.view) b.1 (inr (c.in-At.field-1, c.in-At.is))))

pub returns-in-At-clause-ok : goal.returns-in-At-clause-ok
returns-in-At-clause-ok c =
    let s = c.args.self.now.machine in
    let w = c.in-Some.at.walk in
    on_ok_map c.walked_behind-in-At.result
    (λ keeps P v ordered g q on told.
    let b = walk-base s c.in-Some.at.point w c.in-Some.ensures.some c.in-At.view c.in-At.field-2 (inr (c.in-At.field-1, c.in-At.is)) g q on in
    keeps P v b.0 c.in-Some.at.point w (at-walking s.stack on.point c.in-Some.at.point on.walk w on.at c.in-Some.ensures.some) ordered (subst (LooksBehind w.spot c.in-At.view) b.1 (inr (c.in-At.field-1, c.in-At.is)))
    (next-told v c.in-At.view.place q (head_at s w) b.0 c.args.found c.next_in-in-At.result b.2 (subst (λ (k : ℕ). c.args.found ≡ found (v k) q) b.3 told) c.next_in-in-At.ensures))
    c.walked_behind-in-At.ensures.ok

pub returns-in-At-clause-asked : goal.returns-in-At-clause-asked
returns-in-At-clause-asked c =
    let s = c.args.self.now.machine in
    let w = c.in-Some.at.walk in
    on_ok_map c.walked_behind-in-At.result
    (λ asked v ordered g q on told.
    let b = walk-base s c.in-Some.at.point w c.in-Some.ensures.some c.in-At.view c.in-At.field-2 (inr (c.in-At.field-1, c.in-At.is)) g q on in
    asked-walking v s c.walked_behind-in-At.new.self.machine c.in-Some.at.point w c.in-Some.ensures.some g q (like (head_at s w) b.0) on b.2
    (asked v b.0 c.in-Some.at.point w (at-walking s.stack on.point c.in-Some.at.point on.walk w on.at c.in-Some.ensures.some) ordered (subst (LooksBehind w.spot c.in-At.view) b.1 (inr (c.in-At.field-1, c.in-At.is)))
    (next-told v c.in-At.view.place q (head_at s w) b.0 c.args.found c.next_in-in-At.result b.2 (subst (λ (k : ℕ). c.args.found ≡ found (v k) q) b.3 told) c.next_in-in-At.ensures)))
    c.walked_behind-in-At.ensures.asked

pub returns-in-Known-clause-ok : goal.returns-in-Known-clause-ok
returns-in-Known-clause-ok c =
    let s = c.args.self.now.machine in
    let k = c.in-Known in
    on_ok_map c.walked.result
    (λ keeps P v ordered g q on told.
    let b = walk-clause s c.in-Some.at.point c.in-Some.at.walk c.in-Some.ensures.some k.field-0 k.field-1 k.field-2 k.is g q on in
    keeps P v k.field-0 k.field-1 k.field-2 c.in-Some.at.point c.in-Some.at.walk (at-walking s.stack on.point c.in-Some.at.point on.walk c.in-Some.at.walk on.at c.in-Some.ensures.some) ordered k.is b.1.0 (clause-told v k.field-0.place q k.field-1 c.args.found c.clause_in.result b.1.1 (subst (λ (k : ℕ). c.args.found ≡ found (v k) q) b.0 told) c.clause_in.ensures))
    c.walked.ensures.ok

pub returns-in-Known-clause-asked : goal.returns-in-Known-clause-asked
returns-in-Known-clause-asked c =
    let s = c.args.self.now.machine in
    let k = c.in-Known in
    on_ok_map c.walked.result
    (λ asked v ordered g q on told.
    let b = walk-clause s c.in-Some.at.point c.in-Some.at.walk c.in-Some.ensures.some k.field-0 k.field-1 k.field-2 k.is g q on in
    asked-walking v s c.walked.new.self.machine c.in-Some.at.point c.in-Some.at.walk c.in-Some.ensures.some g q (Query.Clause k.field-1) on b.1.1 (asked v k.field-0 k.field-1 k.field-2 c.in-Some.at.point c.in-Some.at.walk (at-walking s.stack on.point c.in-Some.at.point on.walk c.in-Some.at.walk on.at c.in-Some.ensures.some) k.is b.1.0))
    c.walked.ensures.asked

pub walked-requires-clause-at : goal.walked-requires-clause-at
walked-requires-clause-at c =
    let w = c.in-Some.at.walk in
    let fits = c.requires.fits in
    let k = c.in-Known in
    (c.in-Some.at.point, w, at-walking c.args.self.now.machine.stack fits.2.point c.in-Some.at.point fits.2.walk w fits.2.at c.in-Some.ensures.some, (k.field-0, k.field-1, k.field-2, k.is))
