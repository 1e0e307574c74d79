use Rattle.std.specs.Prelude.{vec_len, vec_capacity}
use Rattle.std.proofs.Common.{◌≡◌}
use Rattle.rb_links.proofs.places.free_places.Given as goal

-- as many places as rounds, in memory for all
abbrev pub invariant-places : goal.invariant-places
invariant-places l = record {
  len : vec_len l.places ≡ l._i;
  memory : vec_capacity l.places ≡ l.fn.count;
}
