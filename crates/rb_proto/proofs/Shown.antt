-- What books show of a ledger that they stand for.
use Rattle.std.proofs.Common.{◌≡◌, refl}
use Rattle.rb_stats.specs.Statistics.{statistics}
use Rattle.rb_stats.specs.Counting.{spelling}
use Rattle.rb_answers.specs.Ledger.{Ledger}
use Rattle.rb_proto.specs.Ledger.{Books, StandsForLedger}
use Rattle.rb_answers.specs.Results.{shown_of}
use Rattle.rb_proto.specs.Showing.{shown_in}

pub shown_where_standing : (books : Books) (l : Ledger) → StandsForLedger books l → shown_in books ≡ shown_of l
unfolding spelling statistics
shown_where_standing books l h = rw (h.registry.rows, h.stats.two, h.stats.three, h.stats.four) refl
