use Rattle.std.proofs.Common.{map}
use Rattle.plnames.specs.Names.{rows}
use Rattle.platoms.proofs.Extending.{Extends-trans}
use Rattle.plcode.specs.Callees.{row_callee}
use Rattle.plcode.proofs.program.program_callees.Goals as goal

pub returns : goal.returns
unfolding rows
returns c =
    let r = c.in_ok-put_rows.ensures in
    let a = c.in_ok-add_procedures.ensures in
    record {
      callees = (c.add_procedures.new.entries.items, (a.entries (map row_callee rows) r.entries, c.in_ok-callees.ensures));
      extends = Extends-trans c.args.names.now c.put_rows.new.names c.add_procedures.new.names r.extends a.extends;
      table = a.table;
    }
