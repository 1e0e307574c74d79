use Rattle.std.proofs.Common.{◌∙◌, arith}
use Rattle.rb_connections.proofs.Fragments.{written_fragment}
use Rattle.rb_connections.proofs.giving.write_fragment.Goals as goal

pub returns-clause-written : goal.returns-clause-written
returns-clause-written c = λ some.
    written_fragment c.args.part.now c.copy_from_slice.new.self c.copy_from_slice-2.new.self c.args.room.now c.args.last
    (c.copy_from_slice.ensures.after ∙ c.fragment_header.ensures) c.copy_from_slice-2.ensures.after
    (omega (arith, c.if-room-end.false))
