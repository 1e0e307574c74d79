use Rattle.std.proofs.Common.{◌≡◌, replicate}
use Rattle.std.specs.Prelude.{vec_len, vec_capacity}
use Rattle.rb_policy.specs.declared.recent.TheConstants.{PLACES}
use Rattle.rb_policy.specs.Recents.{nothing_of}
use Rattle.rb_policy.proofs.recent.Table.new.Given as goal

abbrev pub invariant-places : goal.invariant-places
invariant-places l = record {
  len : vec_len l.places ≡ l._i;
  memory : vec_capacity l.places ≡ PLACES;
  places : l.places.items ≡ replicate l._i (nothing_of l.fn.most);
}
