use Rattle.std.proofs.Common.{◌++◌, ◌∙◌, [], refl, sym, bytes_eq}
use Rattle.std.proofs.lemmas.Slice.Eq.{bytes_eq-Decides}
use Rattle.platoms.proofs.Layers.{stands-behind, there-before}
use Rattle.platoms.proofs.Tables.{get-is}
use Rattle.platoms.proofs.atoms.Atoms.put.Goals as goal

pub returns-in-Some-clause-put : goal.returns-in-Some-clause-put
returns-in-Some-clause-put c =
    let at = c.in-Some.ensures.some in
    there-before bytes_eq bytes_eq-Decides [] c.self.inside.base c.self.inside.own.keys c.args.self.now c.args.name c.in-Some.place c.self.view_is at.0 at.1

pub returns-clause-is : goal.returns-clause-is
returns-clause-is c =
    let own = c.insert_full.new.self.keys in
    let s = c.in_ok-place.ensures.stored in
    let r = get-is own c.in_ok-place.place s.0 [] s.1 in
    stands-behind bytes_eq bytes_eq-Decides [] c.self.inside.base own (c.self.inside.base ++ own) c.self.inside.below c.args.name c.in_ok-place.place refl c.self.invariant.0 r.0 (r.1 ∙ sym ((bytes_eq-Decides c.args.name s.0).0 s.2))
