use Rattle.std.specs.List.{AllZip}
use Rattle.std.specs.Map.{values_of}
use Rattle.std.specs.Fmt.{digits}
use Rattle.std.proofs.Common.{◌≡◌, ◌+◌, ℕ, List, [], ◌∷◌, length, refl, ap, arith}
use Rattle.rb_uaddr.specs.Uaddr.{text_of, port_bytes}
use Rattle.rb_registry.specs.Registry.{Registry, slots_of as rows_of}
use Rattle.rb_registry.specs.Slots.{is_dropped, held_in as held_of_rows}
use Rattle.rb_stats.specs.Statistics.{stat, items_of, keys_of}
use Rattle.rb_forward.specs.StandsFor.{slots_of as calls_of, held_in as held_of_calls}
use Rattle.rb_forward.specs.Forwards.{no_forwards}
use Rattle.rb_forward.proofs.Stands.{held_alike}
use Rattle.rb_answers.specs.Callers.{own_rows}
use Rattle.rb_connections.specs.declared.slot.Slot.{Slot}
use Rattle.rb_connections.specs.StandsFor.{StandsForConnection, held_in}
use Rattle.rb_core.proofs.laws.worked_held.Goals as goal

no_slots : (registry : Registry) (slots : List Slot) → AllZip (StandsForConnection registry) slots [] → held_in slots ≡ 0
no_slots registry [] z = refl
no_slots registry (slot ∷ slots) z = absurd z

pub returns : goal.returns
unfolding own_rows text_of port_bytes is_dropped stat items_of keys_of digits
returns c core h =
    let connections = no_slots core.books.registry (values_of core.connections.slots) h.connections.all in
    let rows : held_of_rows (rows_of core.books.registry) ≡ 1302 = ap held_of_rows h.ledger.registry.slots in
    let two : length core.books.stats.two.addrinfo + length core.books.stats.two.rmtinfo ≡ 0 = rw h.ledger.stats.two refl in
    let three : length core.books.stats.three.addrinfo + length core.books.stats.three.rmtinfo ≡ 0 = rw h.ledger.stats.three refl in
    let four : length core.books.stats.four.addrinfo + length core.books.stats.four.rmtinfo ≡ 0 = rw h.ledger.stats.four refl in
    let calls : held_of_calls (calls_of core.books.forwards) ≡ 0 = held_alike core.books.forwards.first_xid (calls_of core.books.forwards) no_forwards h.ledger.forwards.all in
    let reply : length core.reply ≡ 0 = ap (λ (xs : List ℕ). length xs) h.reply in
    omega (arith, connections, rows, two, three, four, calls, reply)
