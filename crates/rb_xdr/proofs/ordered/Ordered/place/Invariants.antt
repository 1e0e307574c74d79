use Rattle.std.proofs.Common.{◌≡◌, ◌+◌, ◌≤◌, length}
use Rattle.rb_xdr.specs.Ordered.{count_upto, looks}
use Rattle.rb_xdr.proofs.ordered.Ordered.place.Given as goal

-- the count is that of the place before the part that is left, or one in it
abbrev pub invariant-halves : goal.invariant-halves
invariant-halves l = record {
  some : 1 ≤ l.size;
  within : l.base + l.size ≤ length l.self.entries;
  low : l.base ≤ count_upto l.number l.self.entries;
  high : count_upto l.number l.self.entries ≤ l.base + l.size;
  looked : l.looks + looks l.size ≡ looks (length l.self.entries) + 1;
}

abbrev pub decreases-halves : goal.decreases-halves
decreases-halves l = l.size
