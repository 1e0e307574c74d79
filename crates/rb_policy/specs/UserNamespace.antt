-- Which uid of the kernel's tables names nobody, as the daemon's user namespace does not map all users.
use Rattle.std.specs.Prelude.{ℕ, ◌^◌, Bool, false, if◌then◌else◌, List, codes, Option, Some, None, bytes_eq}
use Rattle.rb_address.specs.Reading.{cut, plain_number, ◌>>=◌}

-- TRUST-13: A user namespace maps all users if its map is the one line `0 0 4294967295`, as the kernel spells it, and in no other case.
abbrev pub maps_all : Option (List ℕ) → Bool
maps_all None = false
maps_all (Some map) = bytes_eq map (codes "         0          0 4294967295\n")

-- the number that the first line is
abbrev pub uid_shown : List ℕ → Option ℕ
uid_shown text = do
  first ← cut 10 text
  plain_number (2 ^ 32) first.0

-- 65534, if the system does not tell
abbrev pub or_nobody : Option ℕ → ℕ
or_nobody None = 65534
or_nobody (Some uid) = uid

abbrev pub overflow_uid : Option (List ℕ) → ℕ
overflow_uid None = 65534
overflow_uid (Some text) = or_nobody (uid_shown text)

-- TRUST-13
abbrev pub unmapped_uid : Option (List ℕ) → Option (List ℕ) → Option ℕ
unmapped_uid map overflow = if maps_all map then None else Some (overflow_uid overflow)
