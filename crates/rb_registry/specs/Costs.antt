-- What calls of a registry cost, in counted steps.
use Rattle.std.specs.Prelude.{ℕ, ◌+◌, ◌*◌, if◌then◌else◌, length}
use Rattle.rb_xdr.specs.Ordered.{Ordered, looks}
use Rattle.rb_address.specs.declared.netid.Netid.{Netid}
use Rattle.rb_registry.specs.declared.row.Which.{Which}
use Rattle.rb_registry.specs.declared.row.Which.TheVariants.{All, Inet, One}
use Rattle.rb_registry.specs.declared.removal.Removal.{Removal}
use Rattle.rb_registry.specs.Rows.{is_among}
use Rattle.rb_registry.specs.Registry.{Registry, rows_of}

-- ---- of the calls

-- two searches in the index, what moves in it, and 1 for the table of rows
-- LOOKUP-3
abbrev pub set_cost : Registry → ℕ
set_cost kept = 2 * looks kept.limit + length (rows_of kept) + 2

-- how many netids a removal names
abbrev pub count_named : Which → ℕ
count_named All = 5
count_named Inet = 2
count_named (One only) = 1

-- as much for each netid that is named
-- LOOKUP-3
abbrev pub unset_cost : Registry → Which → ℕ
unset_cost kept which = count_named which * set_cost kept

-- ---- of a removal, if the index has this many numbers

-- of the row on one netid: two searches, what moves, and 1 for the table
abbrev pub removal_cost : ℕ → ℕ
removal_cost count = 2 * looks count + count + 2

abbrev pub mark_cost_on : Netid → Removal → Ordered → ℕ
mark_cost_on netid removal index =
    if is_among netid removal.which then removal_cost (length index.entries) else 0
