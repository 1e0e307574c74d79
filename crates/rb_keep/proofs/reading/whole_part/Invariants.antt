use Rattle.std.proofs.Common.{◌≡◌, ◌≤◌, ℕ, take, length}
use Rattle.rb_keep.specs.Reading.{whole_part}
use Rattle.rb_keep.proofs.reading.whole_part.Given as goal

abbrev pub invariant-feed : goal.invariant-feed
invariant-feed l = (l.end ≤ length l.text) × (whole_part (take l.end l.text) ≡ whole_part l.text)

abbrev pub decreases-feed : goal.decreases-feed
decreases-feed l = l.end
