-- Of those so far the line was looked at.
use Rattle.std.proofs.Common.{◌≡◌, ◌++◌, map, take, drop}
use Rattle.rb_evidence.specs.Walks.{place_after}
use Rattle.rb_evidence.proofs.sight.look_at.Given as goal

abbrev pub invariant-loop-place : goal.invariant-loop-place
invariant-loop-place l = l.sights ≡ map (place_after l.fn.line) (take l.place-index l.fn.sights) ++ drop l.place-index l.fn.sights
