use Rattle.std.proofs.Common.{refl, arith, false}
use Rattle.plcode.specs.declared.clause.ClauseCode.{ClauseCode}
use Rattle.plcode.specs.declared.key.Key.TheVariants.{Any}
use Rattle.plstack.proofs.Finding.{found-within, index-any}
use Rattle.plstack.proofs.call.first_hit.Goals as goal

abbrev nothing : ClauseCode
nothing = record { head = 0; arity = 0; key = Any; body = 0; variables = 0; is_fact = false }

pub offset_bounds-clauses-found : goal.offset_bounds-clauses-found
offset_bounds-clauses-found c =
    let a = c.requires.attempt in
    let within = found-within _ _ _ _ _ _ _ _ _ _ _ a.3 ((rw c.in-Some.is at c.in_ok-found.ensures.some) a.0 a.1 a.2 a.3) in
    omega (arith, within, rw c.clauses.ensures at c.clauses.type_inv.1)

pub bounds-clauses-found : goal.bounds-clauses-found
bounds-clauses-found c =
    let a = c.requires.attempt in
    rw c.clauses.ensures (found-within _ _ _ _ _ _ _ _ _ _ _ a.3 ((rw c.in-Some.is at c.in_ok-found.ensures.some) a.0 a.1 a.2 a.3))

pub overflow_add-found : goal.overflow_add-found
overflow_add-found c =
    let a = c.requires.attempt in
    let within = found-within _ _ _ _ _ _ _ _ _ _ _ a.3 ((rw c.in-Some.is at c.in_ok-found.ensures.some) a.0 a.1 a.2 a.3) in
    omega (arith, within, rw c.clauses.ensures at c.clauses.type_inv.0)

pub next-requires : goal.next-requires
next-requires c =
    let a = c.requires.attempt in
    let within = found-within _ _ _ _ _ _ _ _ _ _ _ a.3 ((rw c.in-Some.is at c.in_ok-found.ensures.some) a.0 a.1 a.2 a.3) in
    omega (arith, within)

pub returns-clause-some : goal.returns-clause-some
returns-clause-some c = λ t n xs a.
    let finds = (rw c.in-Some.is at c.in_ok-found.ensures.some) t n xs a in
    record {
      found = c.in-Some.found;
      finds = finds;
      base = refl;
      clause = λ d. rw c.clauses.ensures (index-any _ _ d nothing (found-within _ _ _ _ _ _ _ _ _ _ _ a finds));
      next = c.next.ensures;
    }
