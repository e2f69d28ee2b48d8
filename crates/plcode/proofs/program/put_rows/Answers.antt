use Rattle.std.proofs.Common.{◌<◌, List, [], length, arith, refl, subst, sym}
use Rattle.platoms.proofs.Extending.{Extends-refl, Extends-trans}
use Rattle.plcode.specs.declared.callee.Entry.{Entry}
use Rattle.plcode.specs.Callees.{AreEntries}
use Rattle.plcode.proofs.Programs.{row_more}
use Rattle.plcode.proofs.program.put_rows.Goals as goal

pub loop-name-init : goal.loop-name-init
loop-name-init c = let P : List Entry → Type 0 = AreEntries c.args.names.now [] in record {
  table = c.requires.table;
  extends = Extends-refl c.args.names.now;
  entries = subst P (sym c.requires.none) tt;
}

pub loop-name-preserved : goal.loop-name-preserved
loop-name-preserved c =
    let s = c.loop-name.names in
    let t = c.number_of_text.new.names in
    let i = c.loop-name.invariant in
    let e = c.in_ok-number.ensures in
    let lt : c.loop-name.name-index < length c.args.rows.now = omega arith in
    record {
      table = e.table;
      extends = Extends-trans c.args.names.now s t i.extends e.extends;
      entries = row_more s t e.extends i.table c.loop-name.entries.items c.push.new.self.items _ _ c.in_ok-push.ensures.items c.args.rows.now c.loop-name.name-index _ lt i.entries
          refl e.number c.kind_callee.ensures;
    }
