use Rattle.std.proofs.Common.{ℕ, List, ◌++◌, sym, ap, subst, ◌∙◌}
use Rattle.rb_rpc.specs.Feeds.{arguments_of}
use Rattle.rb_connections.specs.Reading.{AreKept}
use Rattle.rb_connections.proofs.Feeding.{rest_is}
use Rattle.rb_connections.proofs.reading.Intake.feed_data.Goals as goal

pub returns-clause-data : goal.returns-clause-data
returns-clause-data c = λ content h.
    let all = ap (λ (xs : List ℕ). arguments_of content ++ xs) (rest_is c.args.bytes.now c.feed-count.result) ∙ sym (c.feed-count.ensures.arguments content h.head_is) in
    record {
      head_is = c.feed-count.ensures.after content h.head_is;
      kept_are = subst (λ (xs : List ℕ). AreKept c.keep-self.new.kept c.keep-self.result xs) all (c.keep-self.ensures.kept (arguments_of content) h.kept_are);
    }
