-- What a turn serves, and what it leaves.
use Rattle.std.specs.Prelude.{ℕ, nat_le, Bool, false, ◌||◌, Option, Some, None}
use Rattle.rb_links.specs.declared.places.Places.{Places}
use Rattle.rb_sockets.specs.declared.sockets.Sockets.{Sockets}
use Rattle.rb_sockets.specs.Watching.{is_at_once, of_datagrams}

-- whether the next deadline has come at a moment, if there is one
abbrev pub is_due : Option ℕ → ℕ → Bool
is_due None moment = false
is_due (Some deadline) moment = nat_le deadline moment

-- whether connections or datagrams are left that may have come in time
-- DUE-2
abbrev pub leaves_some : Places → Sockets → Bool
leaves_some places sockets = places.rounds.are_left || of_datagrams is_at_once sockets
