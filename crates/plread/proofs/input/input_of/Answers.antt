use Rattle.std.proofs.Common.{arith, drop, ◌+◌, ◌∙◌}
use Rattle.plread.proofs.Inputs.{named_at, added, front_at, all_made, one_seen, all_seen}
use Rattle.plread.proofs.input.input_of.Goals as goal

pub sign_of-requires : goal.sign_of-requires
sign_of-requires c = named_at c.args.text.now c.args.tokens.now c.tokens.token-index _ c.requires (omega arith)

pub tokens-preserved : goal.tokens-preserved
tokens-preserved c =
    let front = front_at c.args.tokens.now c.tokens.token-index _ (omega arith) in
    record {
      signs =
          added c.args.quotes c.args.text.now c.tokens.words c.sign_of.new.words c.tokens.variables c.sign_of.new.variables c.tokens.last c.tokens.made.items c.push.new.self.items c.in_ok-sign.sign _ (drop c.tokens.token-index c.args.tokens.now) (drop (c.tokens.token-index + 1) c.args.tokens.now) c.is_joined-joined.result _
          front c.tokens.invariant.signs c.in_ok-sign.ensures.words c.in_ok-sign.ensures.sign c.is_joined-joined.ensures c.in_ok-sign.ensures.seen c.in_ok-push.ensures.items;
      names = one_seen c.args.text.now c.tokens.variables c.sign_of.new.variables _ (drop c.tokens.token-index c.args.tokens.now) (drop (c.tokens.token-index + 1) c.args.tokens.now) _ front c.tokens.invariant.names c.in_ok-sign.ensures.seen;
    }

pub returns : goal.returns
returns c = record {
  signs = all_made c.args.quotes c.args.text.now c.tokens.words c.tokens.variables c.tokens.last c.tokens.made.items c.args.tokens.now c.tokens.token-index _ (omega arith) c.tokens.invariant.signs;
  names = c.into_names.ensures ∙ all_seen c.args.text.now c.tokens.variables _ c.args.tokens.now c.tokens.token-index (omega arith) c.tokens.invariant.names;
}
