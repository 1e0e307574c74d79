use Rattle.rb_connections.proofs.giving.write_next.Goals as goal

pub returns-in-Held-clause-writes : goal.returns-in-Held-clause-writes
returns-in-Held-clause-writes c = rw c.in-Held.is (c.write_held.ensures.writes c.args.registry.now)

pub returns-in-Listed-clause-writes : goal.returns-in-Listed-clause-writes
returns-in-Listed-clause-writes c = rw c.in-Listed.is (c.write_list.ensures.writes c.args.buffer.now.bytes)
