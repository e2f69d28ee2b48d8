-- Chains of records: what they link.
use Rattle.std.specs.Prelude.{List}
use Rattle.plterm.specs.declared.indicator.Indicator.{Indicator}
use Rattle.plevent.specs.Alive.{is_of}
use Rattle.plstore.specs.declared.chain.Chain.{Chain}
use Rattle.plstore.specs.declared.chain.Chain.TheVariants.{Procedure, Slot}
use Rattle.plrecords.specs.declared.ends.Ends.{Ends}
use Rattle.plrecords.specs.declared.links.Links.{Links}
use Rattle.plrecords.specs.declared.record.Record.{Record}
use Rattle.plrecords.specs.Links.{Class, IsIndexed}
use Rattle.plrecords.specs.Runs.{HasRuns}
use Rattle.plrecords.specs.Slots.{in_slot}

-- the chain of a class: its links and ends are those of the records, and the runs of erased ones that are noted are there
pub record IsChain (c : Class) (rs : List Record) (l : Links) (e : Ends) : Type 0 where
  pub indexed : IsIndexed c rs l.next.items e
  pub runs : HasRuns c rs l.places.items

-- what a chain of a procedure passes
abbrev pub in_chain : Indicator → Chain → Class
in_chain p Procedure = is_of p
in_chain p (Slot n) = in_slot n
