use Rattle.rb_laws.proofs.Reflections.{replies_are_at_most_twice, strangers_are_sent_at_most_twice}
use Rattle.rb_laws.proofs.laws.strangers_are_sent_at_most_twice.Goals as goal

pub returns-clause-replies : goal.returns-clause-replies
returns-clause-replies c = replies_are_at_most_twice

pub returns-clause-runs : goal.returns-clause-runs
returns-clause-runs c = strangers_are_sent_at_most_twice
