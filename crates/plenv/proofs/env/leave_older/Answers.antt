use Rattle.std.proofs.Common.{◌≡◌, ◌≤◌, ◌++◌, ◌-◌, ap₂, append-nil, sym, length, length-take, length-drop, take, drop, ap, ◌∙◌, arith}
use Rattle.std.proofs.lemmas.List.{take_all, drop_all}
use Rattle.plenv.specs.Changes.{older}
use Rattle.plenv.proofs.Freeing.{left-older}
use Rattle.plenv.proofs.env.leave_older.Goals as goal

pub returns : goal.returns
returns c =
    let t = c.args.noted.now in
    let same = c.deref_mut.ensures.value in
    let read = c.deref_mut.result.now in
    let moved = c.move_older-kept.new.noted in
    let part : length moved ≡ length (take (length read - c.args.from) (drop c.args.from read)) = c.move_older-kept.auto.noted in
    let len : length moved ≡ length t.items - c.args.from = omega (arith, part, length-take (length read - c.args.from) (drop c.args.from read), length-drop c.args.from read, ap length same) in
    c.truncate.ensures.items
    ∙ left-older t.items read moved _ _ c.args.from c.move_older-kept.result _ c.args.slots same (omega (arith, t.ok.0)) c.requires len (omega (arith, part, c.move_older-kept.ensures.within)) c.move_older-kept.ensures.moved

pub returns-then-len-from : goal.returns-then-len-from
returns-then-len-from c =
    let t = c.args.noted.now in
    let few : length t.items ≤ c.args.from = omega (arith, c.if-len-from.true, c.len.ensures, t.ok.0) in
    sym (ap₂ (λ xs ys. xs ++ older c.args.slots ys) (take_all c.args.from t.items few) (drop_all c.args.from t.items few) ∙ append-nil t.items)
