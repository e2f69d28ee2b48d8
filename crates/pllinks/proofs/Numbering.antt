-- The number of a list.
use Rattle.std.proofs.Common.{◌≡◌, ℕ, ◌+◌, ◌≤◌, List, [], ◌∷◌, ◌++◌, length, length-append, refl, sym, subst, arith, append-nil, inl, inr}
use Rattle.pllinks.specs.declared.item.Portion.TheVariants as items
use Rattle.pllinks.specs.declared.link.Link.{Link}
use Rattle.pllinks.specs.declared.link.Continuation.{Continuation}
use Rattle.pllinks.specs.Links.{link_to, IsDone, IsChain, Numbers}
use Rattle.pllinks.proofs.Arena.{list_at-new, chain-push}

pub numbers_rest : (links : List Link) (l : Continuation) → l.rest ≤ length links → IsDone l.run → Numbers links links l l.rest
numbers_rest links l le is = record { more = []; is = sym (append-nil links); chain = λ c. c; there = le; items = inr (is, refl) }

pub numbers_new : (old new : List Link) (l : Continuation) (n : ℕ) → l.rest ≤ length old → new ≡ old ++ link_to old (items.Clause l.run) l.rest ∷ [] → n ≡ length old + 1 → Numbers old new l n
numbers_new old new l n le is at = record {
  more = link_to old (items.Clause l.run) l.rest ∷ [];
  is = is;
  chain = λ c. subst IsChain (sym is) (chain-push old (items.Clause l.run) l.rest c le);
  there = rw is (omega (arith, at, length-append old (link_to old (items.Clause l.run) l.rest ∷ [])));
  items = inl (rw is (list_at-new old (link_to old (items.Clause l.run) l.rest) n (omega (arith, at))));
}
