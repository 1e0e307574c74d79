use Rattle.std.proofs.Common.{◌≡◌, drop}
use Rattle.rb_sockets.specs.Following.{put_all_but, all_but}
use Rattle.rb_sockets.proofs.follow.without.Given as goal

-- the hosts so far, and what is left behind them, are those of all
abbrev pub invariant-loop-host : goal.invariant-loop-host
invariant-loop-host l = put_all_but l.other (drop l.host-index l.hosts) l.left ≡ all_but l.other l.hosts
