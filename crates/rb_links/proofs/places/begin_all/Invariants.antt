use Rattle.std.proofs.Common.{◌≡◌, ◌++◌, map, take, drop}
use Rattle.rb_links.specs.Served.{in_pass}
use Rattle.rb_links.proofs.places.begin_all.Given as goal

-- for those so far it has begun
abbrev pub invariant-loop-link : goal.invariant-loop-link
invariant-loop-link l = l.links ≡ map in_pass (take l.link-index l.fn.links) ++ drop l.link-index l.fn.links
