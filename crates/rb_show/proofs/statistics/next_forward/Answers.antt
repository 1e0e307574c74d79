use Rattle.std.proofs.Common.{ℕ}
use Rattle.rb_show.specs.Statistics.{read_call}
use Rattle.rb_show.specs.Counts.{call_line}
use Rattle.rb_show.specs.Fronts.{items_from}
use Rattle.rb_show.specs.Telling.{give}
use Rattle.rb_show.specs.Stages.{version_of, called_from, after_version}
use Rattle.rb_show.proofs.Fronts.{pauses_then}
use Rattle.rb_show.proofs.Stages.{forward_next}
use Rattle.rb_show.proofs.statistics.next_forward.Goals as goal

pub returns-in-Ok : goal.returns-in-Ok
returns-in-Ok c = λ rows mappings.
    rw c.stage_after_called.ensures (forward_next c.args.form rows mappings c.args.bytes.now c.in-Ok.used c.args.text.now.items c.next_item.new.text.items c.args.counted c.args.found c.args.shown c.in-Ok.next (rw c.version_of-rpcbind.ensures at c.in-Ok.ensures))

pub returns-in-Err : goal.returns-in-Err
returns-in-Err c = λ rows mappings.
    let paused = rw c.version_of-rpcbind.ensures at c.in-Err.ensures in (
      paused.0,
      pauses_then (called_from c.args.form (version_of c.args.counted) c.args.found c.args.shown) (after_version c.args.form c.args.counted) c.args.bytes.now c.in-Err.pause
          (pauses_then (items_from read_call (call_line c.args.form (version_of c.args.counted)) c.args.shown) (λ (called : ℕ). give (c.args.found, called)) c.args.bytes.now c.in-Err.pause paused.1),
    )
