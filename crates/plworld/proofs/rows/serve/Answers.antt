use Rattle.std.proofs.Common.{◌≡◌, ℕ, Bool, true, false, ◌&&◌, not, List, None, sym, ◌∙◌, ap}
use Rattle.std.proofs.lemmas.Result.{IfOk-weaker}
use Rattle.plevent.specs.declared.request.Request.{Request}
use Rattle.plevent.specs.declared.request.Reply.{Reply}
use Rattle.plevent.specs.declared.act.Entry.{Entry}
use Rattle.plevent.specs.declared.standing.Standing.{Standing}
use Rattle.plevent.specs.Alive.{change_if}
use Rattle.plevent.specs.Reading.{reading}
use Rattle.plevent.specs.Rows.{is_halted, is_leave, served, served_while}
use Rattle.plrecords.specs.Kept.{Kept}
use Rattle.plworld.specs.Worlds.{IsWorld}
use Rattle.plworld.proofs.rows.serve.Goals as goal

-- the row, by whether the request is stopped
served-by : (b : Bool) (h : List Entry) (s : Standing) (k : Kept) (q : Request) (t : ℕ) → IsWorld h s k → (is_halted s && not (is_leave q)) ≡ b → change_if b (Reply.Stopped, None) (served_while q t (reading h)) ≡ served q t (reading h)
unfolding served
served-by b h s k q t w e = ap (λ b. change_if b (Reply.Stopped, None) (served_while q t (reading h))) (sym e ∙ ap (λ s. is_halted s && not (is_leave q)) w.standing)

pub returns-then-stops : goal.returns-then-stops
returns-then-stops c = λ h w. served-by true h _ _ c.args.request c.args.thread w (sym c.stops.ensures ∙ c.if-stops.true)

pub returns : goal.returns
returns c =
    let s = c.args.standing.now in
    let k = c.args.store.now in
    let q = c.args.request in
    let t = c.args.thread in
    IfOk-weaker c.serve_while.result (λ r. (h : List Entry) → IsWorld h s k → r ≡ served_while q t (reading h)) (λ r. (h : List Entry) → IsWorld h s k → r ≡ served q t (reading h))
    (λ r e h w. e h w ∙ served-by false h s k q t w (sym c.stops.ensures ∙ c.if-stops.false)) c.serve_while.ensures
