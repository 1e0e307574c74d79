use Rattle.rb_promises.proofs.ServedCores.{core_serves}
use Rattle.rb_promises.proofs.answers.serve_events.Goals as goal

pub returns-in-Ok-clause-served : goal.returns-in-Ok-clause-served
returns-in-Ok-clause-served c =
    core_serves c.runs_are_served.ensures c.args.limits c.args.listener c.args.first_xid c.args.now c.args.events.now c.in_ok-core.core c.replay.new.core c.new-outputs.result c.replay.new.out
    c.in_ok-core.ensures.made c.new-outputs.ensures.items c.in-Ok.ensures.all
