use Rattle.plrunlaws.proofs.Batches.{each-batch-is-asked}
use Rattle.plrunlaws.proofs.each_batch_is_asked.Goals as goal

-- src/lib.rt:9:1
pub returns : goal.returns
returns c = each-batch-is-asked
