-- That each connection for which a call is forwarded awaits it.
use Rattle.std.specs.Prelude.{◌≡◌, ℕ, true, false}
use Rattle.rb_forward.specs.StandsFor.{Table as Entries, slots_of}
use Rattle.rb_forward.specs.Table.{is_waiting}
use Rattle.rb_connections.specs.StandsFor.{Table}
use Rattle.rb_connections.specs.Awaits.{is_free}

-- Each connection for which a call is forwarded awaits it.
-- AWAIT-2
abbrev pub AreAwaited : Entries → Table → Type 0
AreAwaited entries table = (id : ℕ) → is_waiting id (slots_of entries) ≡ true → is_free id table ≡ false
