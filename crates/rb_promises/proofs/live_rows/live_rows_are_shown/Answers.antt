use Rattle.rb_promises.proofs.LiveDumps.{dumps_are_answered, live_rows_are_shown}
use Rattle.rb_promises.proofs.live_rows.live_rows_are_shown.Goals as goal

pub returns-clause-answered : goal.returns-clause-answered
returns-clause-answered c = dumps_are_answered

pub returns-clause-shown : goal.returns-clause-shown
returns-clause-shown c = live_rows_are_shown c.written_replies_are_read.ensures
