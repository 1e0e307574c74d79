use Rattle.std.proofs.Common.{is_some, sym, ap, ◌∙◌}
use Rattle.rb_xdr.specs.Pool.{Pool, value_at}
use Rattle.rb_xdr.proofs.Tables.{value_at-table}
use Rattle.rb_xdr.proofs.pool.Pool.value.Goals as goal

pub index-requires : goal.index-requires
index-requires g c = ap is_some (sym (value_at-table _ _ _ _ _ c.self.invariant c.args.key)) ∙ (ap (λ (p : Pool g.row.T.Denot). is_some (value_at p.entries c.args.key)) c.self.view_is ∙ c.requires)

pub returns : goal.returns
returns g c = rw (← c.self.view_is, value_at-table _ _ _ _ _ c.self.invariant c.args.key) c.index.ensures
