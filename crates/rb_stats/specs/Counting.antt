-- What calls on `Stats` count, spell and cost.
use Rattle.std.specs.Prelude.{◌≡◌, ℕ, ◌+◌, ◌-◌, ◌*◌, List, [], ◌∷◌, ◌++◌, length, slice_index}
use Rattle.rb_xdr.specs.Kept.{Kept}
use Rattle.rb_stats.specs.declared.key.Version.{Version}
use Rattle.rb_stats.specs.declared.key.Version.TheVariants.{Two, Three, Four}
use Rattle.rb_stats.specs.Statistics.{Note, Stat, stat_spelling, statistics}
use Rattle.rb_stats.specs.Stats.{Stats, StandsForHistory, key_count}

abbrev pub stat_at : Version → Stats → Stat
stat_at Two kept = kept.two
stat_at Three kept = kept.three
stat_at Four kept = kept.four

-- how often a procedure of a version was called
abbrev pub calls_at : Version → ℕ → Stats → ℕ
calls_at version proc kept = slice_index (stat_at version kept).info proc

-- whatever the old ones stand for, the new ones stand for that and this note
abbrev pub HasNoted : Note → Stats → Stats → Type 0
HasNoted note old new = (notes : List Note) → StandsForHistory old notes → StandsForHistory new (notes ++ note ∷ [])

unfoldable pub spelling : Stats → List ℕ
spelling kept = stat_spelling kept.two ++ (stat_spelling kept.three ++ stat_spelling kept.four)

-- their spelling is that of the statistics of what they stand for
abbrev pub SpellsHistory : Stats → Type 0
SpellsHistory kept = (notes : List Note) → StandsForHistory kept notes → spelling kept ≡ statistics notes

-- three walks over the keys, and one step for each byte that was put
abbrev pub put_cost : Stats → Kept → Kept → ℕ
put_cost kept old new = 6 * key_count kept + (length new.bytes - length old.bytes) + 4
