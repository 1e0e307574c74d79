use Rattle.rb_laws.proofs.ForwardEnds.{replies_end_their_own, deadlines_end_one}
use Rattle.rb_laws.proofs.LaterReplies.{udp_callers_are_told}
use Rattle.rb_laws.proofs.laws.calls_end_by_their_own.Goals as goal

pub returns-clause-replies : goal.returns-clause-replies
returns-clause-replies c = replies_end_their_own

pub returns-clause-deadlines : goal.returns-clause-deadlines
returns-clause-deadlines c = deadlines_end_one

pub returns-clause-over_udp : goal.returns-clause-over_udp
returns-clause-over_udp c = udp_callers_are_told
