-- Programs that belong to somebody: who may set their rows.
use Rattle.std.specs.Prelude.{ℕ, ◌==◌, nat_le, Bool, false, not, ◌&&◌, ◌||◌, List}
use Rattle.std.specs.List.{list_any}
use Rattle.rb_address.specs.declared.who.Owner.{Owner}
use Rattle.rb_address.specs.declared.who.Owner.TheVariants.{Unknown, Uid}
use Rattle.rb_registry.specs.declared.row.Row.{Row}
use Rattle.rb_answers.specs.declared.reserved.Reservation.{Reservation}

-- the program is one of the reservation's
abbrev pub is_covered : ℕ → Reservation → Bool
is_covered prog r = nat_le r.first prog && nat_le prog r.last

-- some reservation covers the program
abbrev pub is_reserved : List Reservation → ℕ → Bool
is_reserved reserved prog = list_any (is_covered prog) reserved

-- the reservation covers the program, and is for this uid
abbrev pub is_reserved_by : ℕ → ℕ → Reservation → Bool
is_reserved_by prog uid r = is_covered prog r && r.uid == uid

-- uid 0, or a uid for which the program is reserved
abbrev pub is_its_owner : List Reservation → ℕ → Owner → Bool
is_its_owner reserved prog Unknown = false
is_its_owner reserved prog (Uid uid) = uid == 0 || list_any (is_reserved_by prog uid) reserved

-- RESERVE-1: A row of a reserved program is set by uid 0, or by a uid for which the program is reserved, alone.
unfoldable pub may_own : List Reservation → Row → Bool
may_own reserved row = not (is_reserved reserved row.prog) || is_its_owner reserved row.prog row.owner
