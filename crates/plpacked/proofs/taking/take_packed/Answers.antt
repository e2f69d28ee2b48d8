use Rattle.plcells.specs.Store.{value}
use Rattle.plpacked.proofs.taking.take_packed.Goals as goal

pub of_bytes-requires : goal.of_bytes-requires
of_bytes-requires c = (value c.args.heap.now c.args.v, record { limits = c.in_ok-bytes_of.ensures.limits; is = c.in_ok-bytes_of.ensures.bytes })
