use Rattle.std.proofs.Common.{[], ◌∷◌, ◌++◌, length, length-append, ap, ◌∙◌, arith}
use Rattle.std.specs.Map.{values_of}
use Rattle.rb_xdr.specs.Pool.{Pool}
use Rattle.rb_xdr.proofs.PoolLemmas.{values_of-push}
use Rattle.rb_xdr.proofs.Tables.{value_at-table, length-table, IsTable-push, push-entries, HasDistinctKeys-entries_at}
use Rattle.rb_xdr.proofs.pool.Pool.add.Goals as goal

pub insert_reserved-key-requires : goal.insert_reserved-key-requires
insert_reserved-key-requires g c =
    omega (arith, c.self.invariant.within_cap, length-table _ _ _ _ _ c.self.invariant, ap (λ (p : Pool g.row.T.Denot). length p.entries) c.self.view_is, ap (λ (p : Pool g.row.T.Denot). p.cap) c.self.view_is, c.requires.room)

pub push-requires-clause-fits : goal.push-requires-clause-fits
push-requires-clause-fits g c =
    omega (arith, c.self.invariant.count, c.self.invariant.within_cap, c.self.invariant.has_room, length-table _ _ _ _ _ c.self.invariant, ap (λ (p : Pool g.row.T.Denot). length p.entries) c.self.view_is, ap (λ (p : Pool g.row.T.Denot). p.cap) c.self.view_is, c.requires.room)

pub invariant_of-self : goal.invariant_of-self
invariant_of-self g c =
    rw (c.push.ensures, c.insert_reserved-key.ensures.capacity)
    (IsTable-push _ _ _ _ _ c.self.invariant _ _ _ c.insert_reserved-key.ensures.was_vacant c.insert_reserved-key.ensures.updates.changed c.insert_reserved-key.ensures.updates.others
    c.insert_reserved-key.ensures.len (omega (arith, length-table _ _ _ _ _ c.self.invariant, ap (λ (p : Pool g.row.T.Denot). length p.entries) c.self.view_is, ap (λ (p : Pool g.row.T.Denot). p.cap) c.self.view_is, c.requires.room)))

pub returns-clause-entry : goal.returns-clause-entry
returns-clause-entry g c =
    rw (c.push.ensures, c.insert_reserved-key.ensures.capacity, push-entries _ _ _ _ _ c.self.invariant _ _ _ c.insert_reserved-key.ensures.was_vacant c.insert_reserved-key.ensures.updates.changed c.insert_reserved-key.ensures.updates.others)
    (ap (λ (p : Pool g.row.T.Denot). record p { entries = p.entries ++ (c.insert_reserved-key.result, c.args.value) ∷ [] }) c.self.view_is)

pub returns-clause-fresh : goal.returns-clause-fresh
returns-clause-fresh g c = rw (← c.self.view_is, value_at-table _ _ _ _ _ c.self.invariant c.insert_reserved-key.result) c.insert_reserved-key.ensures.was_vacant

pub returns-clause-last : goal.returns-clause-last
returns-clause-last g c =
    ap (λ (p : Pool g.row.T.Denot). values_of p.entries) (returns-clause-entry g c) ∙ values_of-push c.args.self.now.entries _ c.args.value

pub returns-clause-more : goal.returns-clause-more
returns-clause-more g c =
    ap (λ (p : Pool g.row.T.Denot). length p.entries) (returns-clause-entry g c) ∙ length-append c.args.self.now.entries _

pub returns-clause-distinct : goal.returns-clause-distinct
returns-clause-distinct g c = HasDistinctKeys-entries_at _ _ (invariant_of-self g c).distinct
