use Rattle.std.proofs.Common.{◌≡◌, true, false}
use Rattle.rb_xdr.proofs.Walks.{nothing_behind}
use Rattle.rb_xdr.proofs.pool.Pool.entry_after.Goals as goal
use Rattle.rb_xdr.proofs.pool.Pool.entry_after.Goals.{in-Some, in_default, in_default-via-in-Some+else-not-holds, in_default-via-in_default}

pub returns-clause-next : goal.returns-clause-next
returns-clause-next g c = elim c.match-place.branch [
  | in-Some w ↦ rw (w.next-is, w.in-Some.is) (nothing_behind c.args.self.now.entries w.in-Some.key (λ h. let clash : false ≡ true = w.if-not-holds.ensures.1 h in cc))
  | in_default w ↦ rw w.next-is (elim w.in_default.branch [
    | in_default-via-in-Some+else-not-holds v ↦ rw (v.in-Some.is, ← v.place-is) w.entry_behind-next.ensures.next
    | in_default-via-in_default v ↦ rw (← v.place-is) w.entry_behind-next.ensures.next
  ])
]
