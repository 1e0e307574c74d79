-- Each connection for which a call is forwarded awaits it, after a call too.
use Rattle.std.proofs.Common.{◌≡◌, ℕ, Bool, true, false, refl, sym, ◌∙◌}
use Rattle.rb_address.specs.declared.who.Who.{Who}
use Rattle.rb_address.specs.declared.caller.Caller.TheVariants.{Udp}
use Rattle.rb_forward.specs.StandsFor.{Table as Entries, slots_of}
use Rattle.rb_forward.specs.Table.{is_waiting, NoneWaitsAnew, OnlyWaitsAnew}
use Rattle.rb_connections.specs.StandsFor.{Table}
use Rattle.rb_connections.specs.Awaits.{NoneIsFreed}
use Rattle.rb_core.specs.Awaits.{AreAwaited}

-- what waits now waited before
waited : (before now : Bool) → (before ≡ false → now ≡ false) → now ≡ true → before ≡ true
waited true now none is = refl
waited false now none is = let clash : true ≡ false = sym is ∙ none refl in absurd cc

pub awaited_by_table : (entries : Entries) (old new : Table) → AreAwaited entries old → NoneIsFreed old new → AreAwaited entries new
awaited_by_table entries old new are freed = λ id waits. freed id (are id waits)

pub awaited_by_entries : (old new : Entries) (table : Table) → AreAwaited old table → NoneWaitsAnew (slots_of old) (slots_of new) → AreAwaited new table
awaited_by_entries old new table are anew = λ id waits. are id (waited (is_waiting id (slots_of old)) (is_waiting id (slots_of new)) (anew id) waits)

-- a caller over UDP is no connection
pub awaited_by_udp : (old new : Entries) (who : Who) (longest : ℕ) (table : Table) → AreAwaited old table → OnlyWaitsAnew (Udp who longest) (slots_of old) (slots_of new) → AreAwaited new table
awaited_by_udp old new who longest table are anew = awaited_by_entries old new table are (λ id. anew id refl)
