use Rattle.std.proofs.Common.{length, sym, subst, ◌∙◌}
use Rattle.rb_rpc.specs.Verdict.{EndsWithin}
use Rattle.rb_rpc.specs.declared.call.Verdict.{Verdict}
use Rattle.rb_rpc.specs.FeedLaws.{max_head}
use Rattle.rb_rpc.proofs.CallFeeds.{ends_rightly, ends_within, ends_short}
use Rattle.rb_rpc.proofs.feed.CallFeed.end.Goals as goal

pub returns-clause-verdict : goal.returns-clause-verdict
returns-clause-verdict c = λ fed stands. c.verdict.ensures ∙ ends_rightly c.args.self.now fed stands

pub returns-clause-within : goal.returns-clause-within
returns-clause-within c = λ fed stands. subst (λ (v : Verdict). EndsWithin v (length fed)) (sym c.verdict.ensures) (ends_within c.args.self.now fed stands)

pub returns-clause-short : goal.returns-clause-short
returns-clause-short c = λ fed stands. subst (λ (v : Verdict). EndsWithin v max_head) (sym c.verdict.ensures) (ends_short c.args.self.now fed stands)
