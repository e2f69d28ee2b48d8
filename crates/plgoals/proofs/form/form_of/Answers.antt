use Rattle.std.proofs.Common.{◌∙◌, sym}
use Rattle.plgoals.proofs.Calling.{form-is}
use Rattle.plgoals.proofs.form.form_of.Goals as goal

pub returns-in-Control-clause-is : goal.returns-in-Control-clause-is
returns-in-Control-clause-is c = c.construct.ensures.is _ ∙ sym (form-is c.args.heap.now c.args.code.now.callees c.args.number c.args.args.now _ c.requires.kinds c.requires.callable (sym c.callee_by.ensures ∙ c.in-Control.is))

pub returns-in-BuiltIn-clause-is : goal.returns-in-BuiltIn-clause-is
returns-in-BuiltIn-clause-is c = sym (form-is c.args.heap.now c.args.code.now.callees c.args.number c.args.args.now _ c.requires.kinds c.requires.callable (sym c.callee_by.ensures ∙ c.in-BuiltIn.is))

pub returns-in-Static-clause-is : goal.returns-in-Static-clause-is
returns-in-Static-clause-is c = sym (form-is c.args.heap.now c.args.code.now.callees c.args.number c.args.args.now _ c.requires.kinds c.requires.callable (sym c.callee_by.ensures ∙ c.in-Static.is))

pub returns-in-Unknown-clause-is : goal.returns-in-Unknown-clause-is
returns-in-Unknown-clause-is c = sym (form-is c.args.heap.now c.args.code.now.callees c.args.number c.args.args.now _ c.requires.kinds c.requires.callable (sym c.callee_by.ensures ∙ c.in-Unknown.is))
