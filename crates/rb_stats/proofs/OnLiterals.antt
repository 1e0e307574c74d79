use Rattle.std.specs.Prelude.{⊤}
use Rattle.rb_xdr.proofs.OnLiterals.{rb_xdr_on_literals}
use Rattle.rb_address.proofs.OnLiterals.{rb_address_on_literals}
use Rattle.rb_stats.specs.Statistics.{number_of, is_key, is_in, keys_of, items_of, stat, item_spelling, stat_spelling, statistics}

-- What is unfolded to compute the definitions of this crate, and of those below, on literals.
unfoldable pub rb_stats_on_literals : ⊤
unfolding rb_xdr_on_literals rb_address_on_literals
    number_of is_key is_in keys_of items_of stat item_spelling stat_spelling statistics
rb_stats_on_literals = tt
