use Rattle.rb_xdr.proofs.PoolLemmas.{All-without}
use Rattle.rb_connections.specs.Slots.{AreSpare}
use Rattle.rb_connections.proofs.connections.take_buffers.Goals as goal

pub returns-clause-buffers : goal.returns-clause-buffers
returns-clause-buffers c =
    rw c.remove.ensures.entries (All-without (AreSpare c.args.spare.now.tie) c.args.spare.now.entries c.in-Some.key c.requires.buffers)
