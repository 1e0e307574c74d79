use Rattle.std.proofs.Common.{sym, ◌∙◌}
use Rattle.rb_engine.proofs.Reached.{off_records}
use Rattle.rb_engine.proofs.showing.record_datagram.Goals as goal

pub returns-then-not-is_on : goal.returns-then-not-is_on
returns-then-not-is_on c = off_records _ c.args.tape.now (sym c.is_on.ensures ∙ c.if-not-is_on.true) c.requires.within
