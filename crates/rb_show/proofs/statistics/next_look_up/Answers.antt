use Rattle.std.proofs.Common.{ℕ}
use Rattle.rb_show.specs.Statistics.{read_addr}
use Rattle.rb_show.specs.Counts.{addr_line}
use Rattle.rb_show.specs.Fronts.{items_from}
use Rattle.rb_show.specs.Stages.{version_of, called_from, found_from, after_version}
use Rattle.rb_show.proofs.Fronts.{pauses_then}
use Rattle.rb_show.proofs.Stages.{look_up_next}
use Rattle.rb_show.proofs.statistics.next_look_up.Goals as goal

pub returns-in-Ok : goal.returns-in-Ok
returns-in-Ok c = λ rows mappings.
    rw c.stage_after_found.ensures (look_up_next c.args.form rows mappings c.args.bytes.now c.in-Ok.used c.args.text.now.items c.next_item.new.text.items c.args.counted c.args.shown c.in-Ok.next (rw c.version_of-rpcbind.ensures at c.in-Ok.ensures))

pub returns-in-Err : goal.returns-in-Err
returns-in-Err c = λ rows mappings.
    let paused = rw c.version_of-rpcbind.ensures at c.in-Err.ensures in (
      paused.0,
      pauses_then (found_from c.args.form (version_of c.args.counted) c.args.shown) (after_version c.args.form c.args.counted) c.args.bytes.now c.in-Err.pause
          (pauses_then (items_from read_addr (addr_line c.args.form (version_of c.args.counted)) c.args.shown) (λ (found : ℕ). called_from c.args.form (version_of c.args.counted) found 0) c.args.bytes.now c.in-Err.pause paused.1),
    )
