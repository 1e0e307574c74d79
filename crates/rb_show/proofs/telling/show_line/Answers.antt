use Rattle.std.proofs.Common.{ℕ}
use Rattle.rb_show.specs.declared.show.Shown.TheVariants as shown
use Rattle.rb_show.specs.Telling.{give}
use Rattle.rb_show.specs.Stages.{lines_from}
use Rattle.rb_show.proofs.Fronts.{pauses_then}
use Rattle.rb_show.proofs.Stages.{line_next}
use Rattle.rb_show.proofs.telling.show_line.Goals as goal

pub returns-in-Ok : goal.returns-in-Ok
returns-in-Ok c = λ rows mappings.
    rw c.stage_after_line.ensures (line_next c.args.form rows mappings c.args.bytes.now c.in-Ok.used c.args.text.now.items c.next_line.new.text.items c.args.list c.args.shown c.in-Ok.next c.in-Ok.ensures)

pub returns-in-Err : goal.returns-in-Err
returns-in-Err c = λ rows mappings.
    (c.in-Err.ensures.0, pauses_then (lines_from c.args.form c.args.list c.args.shown) (λ (n : ℕ). give (shown.Rows n)) c.args.bytes.now c.in-Err.pause c.in-Err.ensures.1)
