use Rattle.rb_xdr.proofs.PoolLemmas.{All-without}
use Rattle.rb_forward.specs.Table.{IsSpare}
use Rattle.rb_forward.proofs.buffers.take_buffer.Goals as goal

pub returns-clause-buffers : goal.returns-clause-buffers
returns-clause-buffers c =
    rw c.remove.ensures.entries (All-without (IsSpare c.args.spare.now.tie) c.args.spare.now.entries c.in-Some.key c.requires.buffers)
