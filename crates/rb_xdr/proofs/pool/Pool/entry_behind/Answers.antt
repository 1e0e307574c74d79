use Rattle.std.proofs.Common.{is_some, sym, ap}
use Rattle.rb_xdr.proofs.Walks.{step, next_entry}
use Rattle.rb_xdr.proofs.pool.Pool.entry_behind.Goals as goal

pub value-requires : goal.value-requires
value-requires g c = ap is_some (step c.args.self.now.entries c.args.place c.in_ok-key.key c.in_ok-key.ensures.distinct (sym c.in_ok-key.ensures.key)).found

pub returns-clause-next : goal.returns-clause-next
returns-clause-next g c = next_entry c.args.self.now.entries c.args.place c.in_ok-key.key _ c.in_ok-key.ensures.distinct (sym c.in_ok-key.ensures.key) c.value.ensures
