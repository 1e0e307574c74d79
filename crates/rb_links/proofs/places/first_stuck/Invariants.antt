use Rattle.std.proofs.Common.{◌≡◌, drop, map}
use Rattle.rb_forward.specs.Deadlines.{sooner_of, soonest_of}
use Rattle.rb_links.specs.Stands.{stuck_of}
use Rattle.rb_links.proofs.places.first_stuck.Given as goal

-- the first moment so far, and those of the connections that are left, are those of all
abbrev pub invariant-loop-link : goal.invariant-loop-link
invariant-loop-link l = sooner_of l.first (soonest_of (map stuck_of (drop l.link-index l.links))) ≡ soonest_of (map stuck_of l.links)
