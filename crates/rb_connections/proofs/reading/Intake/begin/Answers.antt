use Rattle.std.proofs.Common.{arith, ◌≤◌, length, ap}
use Rattle.std.proofs.lemmas.List.{length-take}
use Rattle.rb_rpc.specs.Feeds.{arguments_of}
use Rattle.rb_model.specs.Calls.{longest_kept}
use Rattle.rb_connections.proofs.reading.Intake.begin.Goals as goal

pub returns-clause-data : goal.returns-clause-data
unfolding longest_kept
returns-clause-data c = λ content h.
    let few : length c.args.kept.now.bytes ≤ longest_kept = omega (arith, ap length h.kept_is, length-take longest_kept (arguments_of content)) in
    record {
      head_is = h.head_is;
      kept_are = record { bytes_are = h.kept_is; room_is = omega (arith, c.saturating_sub.ensures, c.len.ensures.len, few); cap = h.cap };
    }
