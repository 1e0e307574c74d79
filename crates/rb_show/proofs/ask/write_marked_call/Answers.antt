use Rattle.std.proofs.Common.{arith, length, ap}
use Rattle.rb_show.proofs.Calls.{call_some}
use Rattle.rb_show.proofs.ask.write_marked_call.Goals as goal

pub fragment_header-header-requires-clause-some : goal.fragment_header-header-requires-clause-some
fragment_header-header-requires-clause-some g c =
    omega (arith, call_some c.args.ask.now c.args.xid, c.len-len.ensures.len, ap length c.in_ok-call.ensures.call)

pub fragment_header-header-requires-clause-few : goal.fragment_header-header-requires-clause-few
fragment_header-header-requires-clause-few g c = omega (arith, c.len-len.ensures.within, c.in_ok-call.ensures.cap)
