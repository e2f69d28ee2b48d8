use Rattle.std.proofs.Common.{◌≡◌, ◌≤◌, ◌+◌, ◌==◌, take, fold, count_by, if◌then◌else◌}
use Rattle.plload.proofs.position.position_of.Given as goal

abbrev pub invariant-loop-byte : goal.invariant-loop-byte
invariant-loop-byte l = record {
  line : l.line ≡ 1 + count_by (λ b. b == 10) (take l.byte-index l.before);
  column : l.column ≡ fold (λ column b. if b == 10 then 1 else column + 1) 1 (take l.byte-index l.before);
  few_lines : l.line ≤ 1 + l.byte-index;
  few_columns : l.column ≤ 1 + l.byte-index;
}
