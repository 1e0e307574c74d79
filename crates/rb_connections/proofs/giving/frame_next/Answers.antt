use Rattle.std.proofs.Common.{arith}
use Rattle.rb_connections.proofs.WrittenParts.{no_room}
use Rattle.rb_connections.proofs.giving.frame_next.Goals as goal

pub unreachable-requires : goal.unreachable-requires
unreachable-requires c =
    no_room c.args.registry.now c.args.buffer.now.bytes c.args.rest _ c.write_next.new.room _ _ c.write_next.result
    (omega arith) c.write_next.ensures.writes c.in-Ended.is
