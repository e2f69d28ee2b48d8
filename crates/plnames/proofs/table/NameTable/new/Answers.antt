use Rattle.std.proofs.Common.{◌∙◌, [], ap, fold, map}
use Rattle.plnames.specs.Names.{kept, rows}
use Rattle.plnames.specs.Entries.{entry_row, kept_row, put, whole_row}
use Rattle.plnames.proofs.Entries.{all_put}
use Rattle.plnames.proofs.table.NameTable.new.Goals as goal

pub invariant_of-result : goal.invariant_of-result
unfolding rows kept
invariant_of-result c = record {
  whole = c.in_ok-kinds-2.ensures
      ∙ ap (λ es. fold put es (map kept_row kept)) (c.in_ok-kinds.ensures ∙ ap (λ es. fold put (map entry_row es) (map whole_row rows)) c.new.ensures.empty)
      ∙ all_put;
}
