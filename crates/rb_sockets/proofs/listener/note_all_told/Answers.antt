use Rattle.std.proofs.Common.{arith, ◌∙◌, ap, sym}
use Rattle.std.specs.Prelude.{slice_set}
use Rattle.std.proofs.lemmas.List.Edits.{map_over_more}
use Rattle.rb_sockets.specs.News.{told_of}
use Rattle.rb_sockets.proofs.listener.note_all_told.Goals as goal

pub loop-listener-preserved : goal.loop-listener-preserved
loop-listener-preserved c =
    ap (slice_set c.loop-listener.listeners c.loop-listener.listener-index) (c.note_told.ensures ∙ ap told_of (sym c.listener-item.is))
    ∙ map_over_more told_of c.args.listeners.now c.loop-listener.listeners c.loop-listener.listener-index c.listener-item.result (omega arith) c.loop-listener.invariant c.listener-item.is
