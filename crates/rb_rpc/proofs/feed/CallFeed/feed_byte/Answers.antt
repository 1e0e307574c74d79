use Rattle.std.proofs.Common.{ℕ, ◌+◌, ◌*◌, ◌%◌, ◌^◌, ◌∷◌, [], ◌++◌, ap, sym, subst, ◌∙◌, arith}
use Rattle.rb_rpc.specs.Stages.{stage_after}
use Rattle.rb_rpc.specs.Feeds.{StandsForCall}
use Rattle.rb_rpc.proofs.CallFeeds.{part_more, word_more, none_more}
use Rattle.rb_rpc.proofs.feed.CallFeed.feed_byte.Goals as goal

pub returns-then-self-lt3-clause-after : goal.returns-then-self-lt3-clause-after
returns-then-self-lt3-clause-after c = λ fed h.
    subst (λ (n : ℕ). StandsForCall (record { seen = c.args.self.now.seen + 1; number = c.args.self.now.number * 256 % 2 ^ 32 + n; stage = c.args.self.now.stage }) (fed ++ c.args.byte ∷ []))
    (sym c.from.ensures) (part_more c.args.self.now fed c.args.byte h c.requires (omega arith) c.if-self-lt3.true)

pub returns-then-self-lt3-clause-none : goal.returns-then-self-lt3-clause-none
returns-then-self-lt3-clause-none c = λ fed h. none_more c.args.self.now fed c.args.byte h c.requires (omega arith)

pub returns-else-self-lt3-clause-after : goal.returns-else-self-lt3-clause-after
returns-else-self-lt3-clause-after c = λ fed h.
    word_more c.args.self.now fed c.args.byte c.after-self.result h c.requires (omega arith) (omega arith)
    (c.after-self.ensures ∙ ap (λ (n : ℕ). stage_after c.args.self.now.stage (c.args.self.now.number * 256 % 2 ^ 32 + n)) c.from.ensures)

pub returns-else-self-lt3-clause-none : goal.returns-else-self-lt3-clause-none
returns-else-self-lt3-clause-none c = λ fed h. none_more c.args.self.now fed c.args.byte h c.requires (omega arith)
