use Rattle.std.proofs.Common.{sym, ◌∙◌}
use Rattle.rb_policy.proofs.DrainCalls.{none_made, made_more}
use Rattle.rb_policy.proofs.drains.drain.Goals as goal

pub calls-init : goal.calls-init
calls-init g c = none_made g.S.Drains.comes _ _ _ _ c.new-drain.ensures

pub calls-preserved : goal.calls-preserved
calls-preserved g c =
    made_more g.S.Drains.comes c.args.most c.args.share c.args.socket.now c.calls.socket c.call-came.new.self c.calls.drain c.after-drain.result c.call-came.result
    c.calls.invariant (sym c.goes_on.ensures ∙ c.calls-test.true) c.call-came.ensures c.after-drain.ensures
