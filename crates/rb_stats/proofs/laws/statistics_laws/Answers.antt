use Rattle.rb_stats.proofs.Items.{greatest_stays}
use Rattle.rb_stats.proofs.Sizes.{few_keys, short_lists, short_statistics}
use Rattle.rb_stats.proofs.laws.statistics_laws.Goals as goal

pub returns : goal.returns
returns c = record {
  greatest_of_notes = λ test xs more. greatest_stays test xs more;
  greatest_of_counts = λ test xs more. greatest_stays test xs more;
  lists_are_short = short_lists;
  keys_are_few = few_keys;
  statistics_are_short = short_statistics;
}
