use Rattle.std.proofs.Common.{◌≡◌, ◌<◌, ◌≤◌, ◌+◌, ◌-◌, ◌*◌, ◌/◌, ℕ, List, ◌++◌, length, take, drop}
use Rattle.rb_xdr.specs.Meter.{PaysAtMost}
use Rattle.rb_rpc.specs.Records.{fragment_size}
use Rattle.rb_model.specs.Connections.{longest_fragment}
use Rattle.rb_connections.specs.Costs.{next_cost}
use Rattle.rb_connections.specs.Giving.{CanMake, fitting_front}
use Rattle.rb_connections.specs.Slots.{IsEmptyDraft}
use Rattle.rb_connections.specs.StandsFor.{rest_in, stamp_of_rest}
use Rattle.rb_connections.proofs.giving.write_fragments.Given as goal

abbrev pub invariant-fragments : goal.invariant-fragments
invariant-fragments l = record {
  whole : l.count ≡ longest_fragment * (l.count / longest_fragment);
  within : l.count ≤ length l.room;
  rest_is : rest_in l.registry l.buffer.bytes l.rest ≡ drop (fragment_size * (l.count / longest_fragment)) (rest_in l.registry l.buffer.bytes l.fn.rest);
  some : 0 < length (rest_in l.registry l.buffer.bytes l.rest);
  written : fitting_front (length l.room) (rest_in l.registry l.buffer.bytes l.fn.rest) ≡ take l.count l.room ++ fitting_front (length l.room - l.count) (rest_in l.registry l.buffer.bytes l.rest);
  stamp : stamp_of_rest l.rest ≡ stamp_of_rest l.fn.rest;
  made : CanMake l.registry l.rest;
  window : l.window ≡ l.initial.window;
  draft : IsEmptyDraft l.initial.meter.tie l.draft;
  cost : PaysAtMost l.initial.meter l.meter (l.count / longest_fragment * next_cost l.registry l.fn.rest);
}

abbrev pub decreases-fragments : goal.decreases-fragments
decreases-fragments l = length l.room - l.count
