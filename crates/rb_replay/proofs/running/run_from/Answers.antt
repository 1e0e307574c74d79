use Rattle.std.proofs.Common.{[], refl}
use Rattle.rb_replay.specs.Running.{first_state}
use Rattle.rb_replay.proofs.running.run_from.Goals as goal

pub returns-clause-within : goal.returns-clause-within
returns-clause-within c =
    let b = c.args.beginning.now in
    c.in_ok-ran.ensures.within (first_state b) c.in_ok-core.ensures.made (record {
      reached = record { limits = b.limits; listener = b.listener; first_xid = b.first_xid; now = b.moment; events = []; is = refl };
      good = c.in_ok-core.ensures.good;
      limits_are = refl;
      none = refl;
    })
