use Rattle.std.proofs.Common.{◌<◌, [], length, sym, ap, ◌∙◌, arith}
use Rattle.rb_show.specs.Summary.{shown_row, add_netid}
use Rattle.rb_show.proofs.SummaryRows.{fold_more}
use Rattle.rb_show.proofs.summary.netids_of.Goals as goal

pub loop-row-preserved : goal.loop-row-preserved
loop-row-preserved c =
    let within : c.loop-row.row-index < length c.args.rows.now = omega arith in
    c.in_ok-add_netid.ensures ∙ ap (λ seen. add_netid c.args.prog seen (shown_row c.row-item.result)) c.loop-row.invariant ∙ sym (fold_more (add_netid c.args.prog) [] c.args.rows.now c.loop-row.row-index c.row-item.result within c.row-item.is)
