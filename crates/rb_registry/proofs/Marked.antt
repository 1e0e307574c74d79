-- What a removal marks.
use Rattle.std.specs.Prelude.{ℕ, ◌+◌, Bool, ◌&&◌, if◌then◌else◌, List, map, count_by, Some}
use Rattle.std.specs.Map.{values_of}
use Rattle.rb_xdr.specs.Pool.{Pool}
use Rattle.rb_registry.specs.declared.slot.Slot.{Slot}
use Rattle.rb_registry.specs.Slots.{is_live_at}
use Rattle.rb_registry.specs.Rows.{Change, covers}

-- live, and covered by the next change
abbrev pub goes : ℕ → Change → Slot → Bool
goes stamp change slot = is_live_at stamp slot && covers slot.row change

-- a slot after the next change, which removes its row if that is live and it covers it
abbrev pub with_mark : ℕ → Change → Slot → Slot
with_mark stamp change slot = if goes stamp change slot then record slot { removed = Some (stamp + 1) } else slot

abbrev pub entries_with_marks : ℕ → Change → List (ℕ × Slot) → List (ℕ × Slot)
entries_with_marks stamp change entries = map (λ e. (e.0, with_mark stamp change e.1)) entries

abbrev pub count_going : ℕ → Change → List (ℕ × Slot) → ℕ
count_going stamp change entries = count_by (goes stamp change) (values_of entries)

abbrev pub with_marks : ℕ → Change → Pool Slot → Pool Slot
with_marks stamp change pool = record pool { entries = entries_with_marks stamp change pool.entries }
