use Rattle.std.proofs.Common.{◌≡◌, ◌∙◌, sym, ap, ap₂, codes, Some, None, option_map}
use Rattle.clap.specs.Words.{first_of, found_of, rows_of}
use Rattle.clap.proofs.WalkLemmas.{first_value-rows}
use Rattle.plwords.specs.Forms.{form_of, texts}
use Rattle.plwords.specs.Arguments.{with_path}
use Rattle.plwords.specs.Commands.{shown}
use Rattle.plwords.proofs.arguments.command_in.Goals as goal

pub returns-in_err-form : goal.returns-in_err-form
returns-in_err-form c =
    let f = found_of c.args.matches.now in
    let rows = rows_of f in
    let name = c.get_str-name.ensures ∙ first_value-rows f (codes "form") in
    let steps = c.get_str-steps.ensures ∙ first_value-rows f (codes "steps") in
    let goal = c.get_str-goal.ensures ∙ first_value-rows f (codes "goal") in
    let form : None ≡ form_of (first_of (codes "form") rows) (first_of (codes "steps") rows) (first_of (codes "goal") rows) =
    ap (option_map texts) (sym c.in_err-form.was) ∙ rw (name, steps, goal) at c.form_of.ensures in
    ap (option_map shown) c.from_residual.ensures ∙ ap (λ o. with_path o (first_of (codes "program") rows)) form

pub returns-in_err-path : goal.returns-in_err-path
returns-in_err-path c =
    let f = found_of c.args.matches.now in
    let rows = rows_of f in
    let name = c.get_str-name.ensures ∙ first_value-rows f (codes "form") in
    let steps = c.get_str-steps.ensures ∙ first_value-rows f (codes "steps") in
    let goal = c.get_str-goal.ensures ∙ first_value-rows f (codes "goal") in
    let form : Some (texts c.in_ok-form.form) ≡ form_of (first_of (codes "form") rows) (first_of (codes "steps") rows) (first_of (codes "goal") rows) =
    ap (option_map texts) (sym c.in_ok-form.was) ∙ rw (name, steps, goal) at c.form_of.ensures in
    let path : None ≡ first_of (codes "program") rows = ap (option_map (λ s. s.now)) (sym c.in_err-path.was) ∙ c.get_str.ensures ∙ first_value-rows f (codes "program") in
    ap (option_map shown) c.from_residual-in_err-path.ensures ∙ ap₂ with_path form path

pub returns : goal.returns
returns c =
    let f = found_of c.args.matches.now in
    let rows = rows_of f in
    let name = c.get_str-name.ensures ∙ first_value-rows f (codes "form") in
    let steps = c.get_str-steps.ensures ∙ first_value-rows f (codes "steps") in
    let goal = c.get_str-goal.ensures ∙ first_value-rows f (codes "goal") in
    let form : Some (texts c.in_ok-form.form) ≡ form_of (first_of (codes "form") rows) (first_of (codes "steps") rows) (first_of (codes "goal") rows) =
    ap (option_map texts) (sym c.in_ok-form.was) ∙ rw (name, steps, goal) at c.form_of.ensures in
    let path : Some c.in_ok-path.path.now ≡ first_of (codes "program") rows = ap (option_map (λ s. s.now)) (sym c.in_ok-path.was) ∙ c.get_str.ensures ∙ first_value-rows f (codes "program") in
    ap₂ with_path form path
