use Rattle.std.proofs.Common.{◌-◌}
use Rattle.rb_policy.proofs.DrainCalls.{Made}
use Rattle.rb_policy.proofs.drains.drain.Given as goal

-- the calls so far
abbrev pub invariant-calls : goal.invariant-calls
invariant-calls g l = Made g.S.Drains.comes l.most l.share l.fn.socket l.socket l.drain

-- how many more there may be
abbrev pub decreases-calls : goal.decreases-calls
decreases-calls g l = l.most - l.drain.calls
