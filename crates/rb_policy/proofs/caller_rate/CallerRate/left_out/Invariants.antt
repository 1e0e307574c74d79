use Rattle.std.proofs.Common.{◌≡◌, ◌+◌, min, take}
use Rattle.std.specs.Prelude.{sum_by}
use Rattle.rb_policy.specs.CallerRates.{greatest, left_out_in}
use Rattle.rb_policy.proofs.caller_rate.CallerRate.left_out.Given as goal

abbrev pub invariant-loop-place : goal.invariant-loop-place
invariant-loop-place l = record {
  sum : l.sum ≡ min (l.self.others.left_out + sum_by left_out_in (take l.place-index l.self.places)) greatest;
}
