-- The books that stand for what calls left behind.
use Rattle.rb_registry.specs.Registry.{StandsForChanges}
use Rattle.rb_stats.specs.Stats.{StandsForHistory}
use Rattle.rb_forward.specs.StandsFor.{StandsForForwards}
use Rattle.rb_answers.specs.Ledger.{Ledger}
pub use Rattle.rb_proto.specs.declared.books.Books.{Books}

-- each of the books stands for its part
pub record StandsForLedger (books : Books) (l : Ledger) : Type 0 where
  pub registry : StandsForChanges books.registry l.own l.changes
  pub stats : StandsForHistory books.stats l.history
  pub forwards : StandsForForwards books.forwards l.forwards
