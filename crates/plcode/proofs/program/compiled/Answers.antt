use Rattle.plcode.specs.Steps.{text}
use Rattle.plcode.proofs.Stays.{names_code}
use Rattle.plcode.proofs.Programs.{procedures_more, callees_of}
use Rattle.plcode.proofs.program.compiled.Goals as goal

pub returns : goal.returns
returns c =
    let P = c.args.program.now in
    let made = c.in_ok-procedures.ensures in
    let kss = c.in_ok-procedures.procedures.items in
    let d = text c.compile_procedures.new.code in
    let e = c.in_ok-callees.ensures in
    let s = c.program_callees.new.names in
    let entries = e.callees in
    record {
      code = names_code d s e.extends made.code e.table;
      own = made.own;
      procedures = procedures_more P d kss made.code made.procedures s e.extends;
      callees = callees_of P d kss made.code made.procedures entries.0 c.in_ok-callees.callees s e.extends e.table entries.1.0 entries.1.1;
    }
