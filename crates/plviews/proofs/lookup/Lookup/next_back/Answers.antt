use Rattle.std.proofs.Common.{◌∙◌, sym, ap, take}
use Rattle.plevent.specs.Alive.{stamped}
use Rattle.plstore.specs.Like.{next_like_of}
use Rattle.pltx.specs.Walks.{cursor_at, own_backs}
use Rattle.plviews.proofs.Seen.{no-backs}
use Rattle.plviews.proofs.Telling.{none-there}
use Rattle.plviews.proofs.lookup.Lookup.next_back.Goals as goal

pub returns-then-count-eq0-clause-like : goal.returns-then-count-eq0-clause-like
returns-then-count-eq0-clause-like c = λ b h.
    let l = c.args.self.now in
    let p = l.pred.now in
    sym (ap (λ n. next_like_of l.key.now (cursor_at b c.args.cursor) (own_backs (stamped b 0 (take n l.own.now.updates)) p)) c.if-count-eq0.true
    ∙ ap (next_like_of l.key.now (cursor_at b c.args.cursor)) (no-backs b p) ∙ none-there l.key.now (cursor_at b c.args.cursor))
