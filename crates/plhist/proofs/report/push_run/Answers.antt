use Rattle.std.proofs.Common.{◌≡◌, ◌∙◌, ℕ, List, ◌++◌, ap, append_assoc, codes, decimal}
use Rattle.plevent.specs.Reading.{reading}
use Rattle.plhist.specs.Report.{alias_of, alias_text, run_end_text, closing}
use Rattle.plhist.proofs.report.push_run.Goals as goal

-- eight parts, added one by one
joined : (o p d a q e n u z x1 x2 x3 x4 x5 x6 x7 x8 : List ℕ) → x1 ≡ o ++ p → x2 ≡ x1 ++ d → x3 ≡ x2 ++ a → x4 ≡ x3 ++ q → x5 ≡ x4 ++ e → x6 ≡ x5 ++ n → x7 ≡ x6 ++ u → x8 ≡ x7 ++ z →
    x8 ≡ o ++ (p ++ d ++ a ++ q ++ e ++ n ++ u ++ z)
joined o p d a q e n u z x1 x2 x3 x4 x5 x6 x7 x8 h1 h2 h3 h4 h5 h6 h7 h8 = rw (h8, h7, h6, h5, h4, h3, h2, h1) (simp append_assoc)

pub returns : goal.returns
returns c = λ h.
    let run = c.args.run.now in
    joined c.args.text.now.items (codes "% thread ") (decimal run.thread) (alias_text (alias_of run.thread (reading h).standing.threads)) (codes ": ") (run_end_text c.args.ops.now run.«end») (codes "\n") run.output (closing run.output)
    _ _ _ _ _ _ _ _
    c.in_ok-extend_from_slice.ensures.items
    (c.in_ok-extend_from_slice-2.ensures.items ∙ ap (λ l. c.extend_from_slice.new.self.items ++ l) (c.as_bytes.ensures.value ∙ c.format.ensures.text ∙ ap decimal c.get.ensures))
    (c.in_ok-extend_from_slice-3.ensures.items ∙ ap (λ l. c.extend_from_slice-2.new.self.items ++ l) (c.as_bytes-2.ensures.value ∙ c.alias.ensures h))
    c.in_ok-extend_from_slice-4.ensures.items
    c.in_ok-push_run_end.ensures
    c.in_ok-extend_from_slice-5.ensures.items
    (c.in_ok-extend_from_slice-6.ensures.items ∙ ap (λ l. c.extend_from_slice-5.new.self.items ++ l) c.as_slice-output.ensures)
    (c.in_ok-push_closing.ensures ∙ ap (λ l. c.extend_from_slice-6.new.self.items ++ closing l) c.as_slice-output.ensures)
