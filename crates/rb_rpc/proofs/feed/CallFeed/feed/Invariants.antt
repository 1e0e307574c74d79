use Rattle.std.proofs.Common.{◌≤◌, ◌-◌, length, take}
use Rattle.rb_rpc.proofs.CallFeeds.{HasFed}
use Rattle.rb_rpc.proofs.feed.CallFeed.feed.Given as goal

abbrev pub invariant-head : goal.invariant-head
invariant-head l = record { within : l.count ≤ length l.bytes; fed : HasFed l.fn.self l.self (take l.count l.bytes) }

abbrev pub decreases-head : goal.decreases-head
decreases-head l = length l.bytes - l.count
