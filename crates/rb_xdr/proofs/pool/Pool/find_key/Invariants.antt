use Rattle.std.proofs.Common.{◌≡◌, ◌+◌, ◌*◌, ◌≤◌, Bool, length}
use Rattle.std.specs.Prelude.{find, IfSome, IsSome}
use Rattle.rb_xdr.specs.Pool.{value_at}
use Rattle.rb_xdr.specs.Places.{to_come}
use Rattle.rb_xdr.specs.Search.{IsTestOf}
use Rattle.rb_xdr.proofs.pool.Pool.find_key.Given as goal

abbrev pub invariant-entries : goal.invariant-entries
invariant-entries g l = record {
  found : (p : g.row.T.Denot → Bool) → IsTestOf g.F.Fn l.test p → find (λ e. p e.1) (to_come l.self.entries l.place) ≡ find (λ e. p e.1) l.self.entries;
  there : IfSome l.place (λ key. IsSome (value_at l.self.entries key));
  tie : l.meter.tie ≡ l.fn.meter.tie;
  rises : l.fn.meter.steps ≤ l.meter.steps;
  steps : l.meter.steps + 2 * length (to_come l.self.entries l.place) ≡ l.fn.meter.steps + 2 * length l.self.entries;
}

abbrev pub decreases-entries : goal.decreases-entries
decreases-entries g l = length (to_come l.self.entries l.place)
