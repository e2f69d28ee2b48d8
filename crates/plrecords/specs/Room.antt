-- Room for more links, taken before anything changes.
use Rattle.std.specs.Prelude.{ℕ, ◌≤◌, ◌+◌, vec_len}
use Rattle.std.specs.Vec.{vec_capacity}
use Rattle.plrecords.specs.declared.links.Links.{Links}

-- there is room for n more links
pub record HasLinkRoom (n : ℕ) (l : Links) : Type 0 where
  pub next : vec_len l.next + n ≤ vec_capacity l.next
  pub places : vec_len l.places + n ≤ vec_capacity l.places
