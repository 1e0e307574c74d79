use Rattle.std.proofs.Common.{arith}
use Rattle.rb_connections.proofs.OneSlot.{giving_phase}
use Rattle.rb_connections.proofs.Progress.{pending_few}
use Rattle.rb_connections.proofs.slot.Slot.pending_len.Goals as goal

pub returns-in-Owing-clause-len : goal.returns-in-Owing-clause-len
returns-in-Owing-clause-len c = λ registry x h.
    let w = giving_phase registry c.in-Owing.giving _ _ _ x.phase c.in-Owing.is h.phase in
    let count = pending_few registry _ _ _ w.0 w.2 in
    rw w.1 (omega (arith, count))
