use Rattle.std.proofs.Common.{length-append, arith}
use Rattle.rb_rpc.specs.CallBytes.{call_bytes}
use Rattle.rb_forward.proofs.Heads.{length-head}
use Rattle.rb_forward.proofs.buffers.write_call.Goals as goal

pub returns-clause-count : goal.returns-clause-count
returns-clause-count c =
    rw (c.in-Ok-extend.ensures.puts.ok, c.in-Ok.ensures.ok, c.requires.spare)
    (omega (arith, length-append (call_bytes c.args.head.now) c.args.args.now, length-head c.args.head.now c.requires.head))
