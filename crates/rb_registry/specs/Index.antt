-- The index of the live rows, by rank.
use Rattle.std.specs.Prelude.{◌≡◌, ◌<◌, ℕ, ◌+◌, ◌-◌, ◌*◌, ◌^◌, nat_le, Bool, ◌&&◌, is_none, if◌then◌else◌, List, [], ◌∷◌, length, map, Option, Some, None, option_map}
use Rattle.std.specs.Option.{option_or}
use Rattle.rb_xdr.specs.Pool.{Pool, value_at, HasDistinctKeys}
use Rattle.rb_xdr.specs.Ordered.{Ordered, last_upto}
use Rattle.rb_address.specs.declared.netid.Netid.{Netid}
use Rattle.rb_address.specs.declared.netid.Netid.TheVariants.{Tcp, Udp, Tcp6, Udp6, Local}
use Rattle.rb_registry.specs.declared.row.Row.{Row}
use Rattle.rb_registry.specs.declared.slot.Slot.{Slot}
use Rattle.rb_registry.specs.Rows.{Change, covers}
use Rattle.rb_address.specs.Netids.{is_netid}

-- ---- ranks

abbrev pub netid_number : Netid → ℕ
netid_number Tcp = 0
netid_number Udp = 1
netid_number Tcp6 = 2
netid_number Udp6 = 3
netid_number Local = 4

-- where a row stands among others: by program, then by netid, then by version
unfoldable pub rank : ℕ → Netid → ℕ → ℕ
rank prog netid vers = (prog * 8 + netid_number netid) * 2 ^ 32 + vers

abbrev pub rank_of : Row → ℕ
rank_of row = rank row.prog row.netid row.vers

-- ---- the index

-- the keys of the live rows under their ranks, in the order of the rows
abbrev pub ranks : List (ℕ × Slot) → List (ℕ × ℕ)
ranks [] = []
ranks (e ∷ rest) = if is_none e.1.removed then (rank_of e.1.row, e.0) ∷ ranks rest else ranks rest

-- each version is a number of 32 bits
abbrev pub AreRanked : List (ℕ × Slot) → Type 0
AreRanked [] = Unit {0}
AreRanked (e ∷ rest) = (e.1.row.vers < 2 ^ 32) × AreRanked rest

-- The index has the key of each live row under its rank, and no other. No two live rows have the same rank.
-- LOOKUP-3: Rows are looked for in an index of the live ones, by program, netid and version, and
-- never walked for: two searches at most. A SET and an UNSET keep it: a SET costs two searches and
-- a step for each live row at most, an UNSET as much for each netid that it names.
pub record IsIndexed (entries : List (ℕ × Slot)) (index : List (ℕ × ℕ)) : Type 0 where
  pub ranked : AreRanked entries
  pub distinct : HasDistinctKeys (ranks entries)
  pub same : (number : ℕ) → value_at index number ≡ value_at (ranks entries) number
  pub count : length index ≡ length (ranks entries)

-- the key of the greatest version of the program on that netid
abbrev pub key_from : ℕ → Option (ℕ × ℕ) → Option ℕ
key_from least None = None
key_from least (Some e) = if nat_le least e.0 then Some e.1 else None

abbrev pub newest_key : ℕ → Netid → List (ℕ × ℕ) → Option ℕ
newest_key prog netid index = key_from (rank prog netid 0) (last_upto (rank prog netid (2 ^ 32 - 1)) index)

-- that of the exact version, else of the greatest one
abbrev pub found_key : ℕ → ℕ → Netid → List (ℕ × ℕ) → Option ℕ
found_key prog vers netid index = option_or (value_at index (rank prog netid vers)) (newest_key prog netid index)

-- the row under such a key
abbrev pub row_under : List (ℕ × Slot) → Option ℕ → Option Row
row_under entries None = None
row_under entries (Some key) = option_map (λ (slot : Slot). slot.row) (value_at entries key)

-- ---- a removal, netid by netid

-- live, covered by the next change, and on one of these netids
abbrev pub goes_where : (Netid → Bool) → Change → Slot → Bool
goes_where on change slot = is_none slot.removed && (covers slot.row change && on slot.row.netid)

abbrev pub mark_where : (Netid → Bool) → ℕ → Change → Slot → Slot
mark_where on stamp change slot = if goes_where on change slot then record slot { removed = Some (stamp + 1) } else slot

abbrev pub marked_where : (Netid → Bool) → ℕ → Change → List (ℕ × Slot) → List (ℕ × Slot)
marked_where on stamp change entries = map (λ e. (e.0, mark_where on stamp change e.1)) entries

abbrev pub with_marks_where : (Netid → Bool) → ℕ → Change → Pool Slot → Pool Slot
with_marks_where on stamp change pool = record pool { entries = marked_where on stamp change pool.entries }

-- on one netid
abbrev pub with_marks_on : Netid → ℕ → Change → Pool Slot → Pool Slot
with_marks_on netid stamp change pool = with_marks_where (λ other. is_netid other netid) stamp change pool

-- the same table, with other entries
pub record IsSameBut (old new : Ordered) : Type 0 where
  pub cap : new.cap ≡ old.cap
  pub tie : new.tie ≡ old.tie
