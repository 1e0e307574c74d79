use Rattle.rb_xdr.proofs.Tables.{HasDistinctKeys-entries_at}
use Rattle.rb_xdr.proofs.pool.Pool.first.Goals as goal

pub returns-clause-distinct : goal.returns-clause-distinct
returns-clause-distinct g c = rw (← c.self.view_is) (HasDistinctKeys-entries_at _ _ c.self.invariant.distinct)
