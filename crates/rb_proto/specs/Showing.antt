-- What books show.
use Rattle.std.specs.Prelude.{ℕ, List}
use Rattle.rb_registry.specs.Registry.{rows_of}
use Rattle.rb_stats.specs.Counting.{spelling}
use Rattle.rb_answers.specs.declared.answers.Results.{Results}
use Rattle.rb_answers.specs.Results.{Shown, result_bytes}
use Rattle.rb_proto.specs.Ledger.{Books}

abbrev pub shown_in : Books → Shown
shown_in books = record { rows = rows_of books.registry; statistics = spelling books.stats }

abbrev pub results_at : Books → Results → List ℕ
results_at books given = result_bytes (shown_in books) given
