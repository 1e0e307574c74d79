use Rattle.std.specs.Prelude.{⊤}
use Rattle.rb_address.proofs.OnLiterals.{rb_address_on_literals}
use Rattle.rb_registry.specs.Rows.{is_among, may_remove, covers, is_on, is_row, is_change_left, has_place, removes_some, find_exact, versions, greatest, find_row}
use Rattle.rb_registry.specs.Slots.{is_live_at, is_dropped}
use Rattle.rb_registry.specs.Items.{owner_text}

-- What is unfolded to compute the definitions of this crate, and of those below, on literals.
unfoldable pub rb_registry_on_literals : ⊤
unfolding rb_address_on_literals
    is_among may_remove covers is_on is_row is_change_left has_place removes_some find_exact
    versions greatest find_row
    is_live_at is_dropped
    owner_text
rb_registry_on_literals = tt
