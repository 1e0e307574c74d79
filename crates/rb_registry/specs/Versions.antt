-- The rows of one version of a program, and how the index leads from one to the next.
use Rattle.std.specs.Prelude.{◌≡◌, ◌≤◌, ◌<◌, ℕ, ◌+◌, ◌*◌, ◌^◌, ◌==◌, nat_lt, Bool, false, ◌&&◌, is_none, if◌then◌else◌, List, [], ◌∷◌, length, drop, map, filter, find, Option, Some, None, option_map}
use Rattle.std.specs.Borrow.{Bor}
use Rattle.std.specs.List.{list_any}
use Rattle.std.specs.Map.{values_of}
use Rattle.rb_xdr.specs.Ordered.{looks}
use Rattle.rb_xdr.specs.Pool.{value_at}
use Rattle.rb_xdr.specs.Places.{to_come}
use Rattle.rb_address.specs.declared.netid.Netid.{Netid}
use Rattle.rb_address.specs.declared.netid.Netid.TheVariants.{Tcp, Udp, Tcp6, Udp6, Local}
use Rattle.rb_address.specs.Netids.{is_netid}
use Rattle.rb_registry.specs.declared.row.Row.{Row}
use Rattle.rb_registry.specs.declared.slot.Slot.{Slot}
use Rattle.rb_registry.specs.declared.versions.Version.{Version}
use Rattle.rb_registry.specs.Rows.{is_of_version}
use Rattle.rb_registry.specs.Registry.{Registry, rows_of, rows_passed}
use Rattle.rb_registry.specs.Index.{rank, ranks}

-- the live rows of the version after a cursor
abbrev pub versions_left : ℕ → ℕ → Registry → Option ℕ → List Row
versions_left prog vers kept cursor =
    filter (is_of_version prog vers) (drop (rows_passed kept kept.stamp cursor) (rows_of kept))

-- there are five at most, one for each netid
abbrev pub VersionsAreFew : Registry → Type 0
VersionsAreFew kept = (prog vers : ℕ) (cursor : Option ℕ) → vers < 2 ^ 32 → length (versions_left prog vers kept cursor) ≤ 5

-- those of a version that was found
abbrev pub rows_after : Version → Registry → Option ℕ → List Row
rows_after version kept cursor = versions_left version.prog version.vers kept cursor

-- what it costs to find them: a look where one likely is and a search for each netid, and a look at what it finds
-- LOOKUP-4: The rows of one version are searched for, in a list of the rows as they are now among
-- 256 live or retained ones or more: a search for each netid finds them. Other lists walk the
-- rows.
abbrev pub version_cost : Registry → ℕ
version_cost kept = 5 * looks (length (rows_of kept)) + 10

-- what it costs to come from one to the next: the own rows, of which there are 12 at most, are walked
abbrev pub next_cost : ℕ
next_cost = 28

-- and to come to five and to the end
abbrev pub most_next : ℕ
most_next = 6 * next_cost

-- the cursor has passed more rows
abbrev pub PassesMore : Registry → Option ℕ → Option ℕ → Type 0
PassesMore kept cursor next = rows_passed kept kept.stamp cursor + 1 ≤ rows_passed kept kept.stamp next

-- ---- among the entries

-- a live row of the version
abbrev pub is_version_now : ℕ → ℕ → Slot → Bool
is_version_now prog vers slot = is_none slot.removed && is_of_version prog vers slot.row

-- those that are there, under their keys
abbrev pub versions_in : ℕ → ℕ → List (ℕ × Slot) → List (ℕ × Row)
versions_in prog vers [] = []
versions_in prog vers (e ∷ rest) =
    if is_version_now prog vers e.1 then (e.0, e.1.row) ∷ versions_in prog vers rest else versions_in prog vers rest

-- the next one after a place is this one, or there is none
abbrev pub IsNextOf : ℕ → ℕ → List (ℕ × Slot) → Option ℕ → Option (ℕ × Bor Row) → Type 0
IsNextOf prog vers entries place None = versions_in prog vers (to_come entries place) ≡ []
IsNextOf prog vers entries place (Some next) =
    versions_in prog vers (to_come entries place) ≡ (next.0, next.1.now) ∷ versions_in prog vers (to_come entries (Some next.0))

-- an own row of the version
abbrev pub is_own_version : ℕ → ℕ → Slot → Bool
is_own_version prog vers slot = slot.added == 0 && is_version_now prog vers slot

-- none comes after the place
abbrev pub HasNoOwn : ℕ → ℕ → List (ℕ × Slot) → Option ℕ → Type 0
HasNoOwn prog vers entries place = list_any (is_own_version prog vers) (values_of (to_come entries place)) ≡ false

-- a live row of the version that a later change than that one added
abbrev pub is_later_version : ℕ → ℕ → ℕ → Slot → Bool
is_later_version prog vers after slot = is_version_now prog vers slot && nat_lt after slot.added

-- and on that netid
abbrev pub is_later_on : ℕ → ℕ → ℕ → Netid → Slot → Bool
is_later_on prog vers after netid slot = is_later_version prog vers after slot && is_netid slot.row.netid netid

-- the change that added a row, and its key
abbrev pub place_of : ℕ × Slot → ℕ × ℕ
place_of e = (e.1.added, e.0)

-- that of the first entry that passes a test
abbrev pub first_place : (Slot → Bool) → List (ℕ × Slot) → Option (ℕ × ℕ)
first_place test entries = option_map place_of (find (λ e. test e.1) entries)

-- the row under a key, if a later change added it
abbrev pub later_of : ℕ → ℕ → Option Slot → Option (ℕ × ℕ)
later_of after key None = None
later_of after key (Some slot) = if nat_lt after slot.added then Some (slot.added, key) else None

abbrev pub later_at : ℕ → List (ℕ × Slot) → Option ℕ → Option (ℕ × ℕ)
later_at after entries None = None
later_at after entries (Some key) = later_of after key (value_at entries key)

-- the change that added the live row on a netid, and its key, if a change did
abbrev pub place_on : ℕ → ℕ → List (ℕ × Slot) → Netid → Option (ℕ × ℕ)
place_on prog vers entries netid = later_at 0 entries (value_at (ranks entries) (rank prog netid vers))

-- the version has these of the rows that are there
pub record IsFoundIn (kept : Registry) (version : Version) : Type 0 where
  pub places : version.places ≡ map (place_on version.prog version.vers kept.entries) (Tcp ∷ Udp ∷ Tcp6 ∷ Udp6 ∷ Local ∷ [])
  pub small : version.vers < 2 ^ 32

-- a place, if the row there was added by a later change than that one
abbrev pub later_than : ℕ → Option (ℕ × ℕ) → Option (ℕ × ℕ)
later_than after None = None
later_than after (Some place) = if nat_lt after place.0 then Some place else None

-- the one of two that was added by the earlier change
abbrev pub earlier_of : Option (ℕ × ℕ) → Option (ℕ × ℕ) → Option (ℕ × ℕ)
earlier_of None other = other
earlier_of (Some best) None = Some best
earlier_of (Some best) (Some other) = if nat_lt other.0 best.0 then Some other else Some best

-- the change that added the row before a place, 0 before all rows
abbrev pub added_at : List (ℕ × Slot) → Option ℕ → Option ℕ
added_at entries None = Some 0
added_at entries (Some key) = option_map (λ slot. slot.added) (value_at entries key)
