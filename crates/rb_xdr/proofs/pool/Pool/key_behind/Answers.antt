use Rattle.std.proofs.Common.{is_some, sym, ap, ◌∙◌}
use Rattle.std.specs.Prelude.{IsSome}
use Rattle.rb_xdr.specs.Pool.{Pool, value_at}
use Rattle.rb_xdr.proofs.Tables.{filled, value_at-table, behind-entries_at, HasDistinctKeys-entries_at}
use Rattle.rb_xdr.proofs.pool.Pool.key_behind.Goals as goal

pub next-requires : goal.next-requires
next-requires g c =
    let there : IsSome (value_at c.args.self.now.entries c.in-Some.key) = rw c.in-Some.is at c.requires in
    c.self.invariant.filled c.in-Some.key
    ∙ ap is_some (sym (value_at-table _ _ _ _ _ c.self.invariant c.in-Some.key))
    ∙ ap (λ (p : Pool g.row.T.Denot). is_some (value_at p.entries c.in-Some.key)) c.self.view_is
    ∙ there

pub returns-in-None-clause-distinct : goal.returns-in-None-clause-distinct
returns-in-None-clause-distinct g c = rw (← c.self.view_is) (HasDistinctKeys-entries_at _ _ c.self.invariant.distinct)

pub returns-in-Some-clause-key : goal.returns-in-Some-clause-key
returns-in-Some-clause-key g c =
    rw (c.in-Some.is, ← c.self.view_is, behind-entries_at _ _ c.in-Some.key (filled _ _ _ _ _ c.self.invariant)) c.next.ensures

pub returns-in-Some-clause-distinct : goal.returns-in-Some-clause-distinct
returns-in-Some-clause-distinct g c = rw (← c.self.view_is) (HasDistinctKeys-entries_at _ _ c.self.invariant.distinct)
