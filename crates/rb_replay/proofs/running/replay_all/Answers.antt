use Rattle.rb_replay.specs.Running.{IsReplayFault, PrintsRun}
use Rattle.rb_replay.proofs.Inputs.{ok_as_read, err_as_read}
use Rattle.rb_replay.proofs.running.replay_all.Goals as goal

pub returns-clause-ok : goal.returns-clause-ok
returns-clause-ok g c = ok_as_read _ _ _ (λ given. PrintsRun c.args.beginning.now c.args.meter.now c.replay_text.new.meter g.W.Write.contents c.args.out.now c.replay_text.new.out given) c.in_ok-text.ensures.bytes (rw c.deref.ensures.value at c.replay_text.ensures.ok)

pub returns-clause-refused : goal.returns-clause-refused
returns-clause-refused g c = err_as_read _ _ _ (IsReplayFault c.args.beginning.now) c.in_ok-text.ensures.bytes (rw c.deref.ensures.value at c.replay_text.ensures.err)
