use Rattle.std.specs.Prelude.{vec_len, vec_capacity}
use Rattle.std.proofs.Common.{◌≡◌}
use Rattle.rb_links.proofs.places.no_sights.Given as goal

-- as many places as rounds, in memory for all
abbrev pub invariant-sights : goal.invariant-sights
invariant-sights l = record {
  len : vec_len l.sights ≡ l._i;
  memory : vec_capacity l.sights ≡ l.fn.count;
}
