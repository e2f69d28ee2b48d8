use Rattle.std.proofs.Common.{◌≡◌, ◌++◌, map, filter, not}
use Rattle.plevent.specs.declared.update.Update.TheVariants.{Last}
use Rattle.plprogram.specs.Program.{procedures_of}
use Rattle.plload.specs.Draft.{is_dynamic}
use Rattle.plload.proofs.draft.part.Given as goal

abbrev pub invariant-loop-clause : goal.invariant-loop-clause
invariant-loop-clause l = record {
  procedures : l.procedures ≡ procedures_of (filter (λ c. not (is_dynamic l.declared.keys c)) l.yielded);
  first : l.first.items ≡ l.initial.first.items ++ map Last (filter (is_dynamic l.declared.keys) l.yielded);
}
