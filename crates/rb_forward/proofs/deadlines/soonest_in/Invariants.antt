use Rattle.std.specs.Map.{values_of}
use Rattle.std.proofs.Common.{◌≡◌, ℕ, ◌+◌, ◌*◌, ◌≤◌, length, Option, None}
use Rattle.rb_xdr.specs.Places.{to_come}
use Rattle.rb_forward.specs.Deadlines.{TellsMoment}
use Rattle.rb_forward.proofs.Soonest.{soonest_from}
use Rattle.rb_forward.proofs.deadlines.soonest_in.Given as goal

abbrev pub invariant-values : goal.invariant-values
invariant-values g l = record {
  soonest : (m : g.row.T.Denot → Option ℕ) → TellsMoment g.F.Fn l.moment m → soonest_from m l.soonest (values_of (to_come l.table.entries l.place)) ≡ soonest_from m None (values_of l.table.entries);
  tie : l.meter.tie ≡ l.fn.meter.tie;
  rises : l.fn.meter.steps ≤ l.meter.steps;
  steps : l.meter.steps + 2 * length (to_come l.table.entries l.place) ≤ l.fn.meter.steps + 2 * length l.table.entries;
}

abbrev pub decreases-values : goal.decreases-values
decreases-values g l = length (to_come l.table.entries l.place)
