-- What a core holds, and the states that it stands for.
use Rattle.std.specs.Prelude.{◌≡◌, ◌≤◌, ℕ, List, [], length}
use Rattle.rb_proto.specs.declared.books.Books.{Books}
use Rattle.rb_proto.specs.Ledger.{StandsForLedger}
use Rattle.rb_model.specs.Calls.{longest_reply}
use Rattle.rb_model.specs.State.{Setting, State}
use Rattle.rb_connections.specs.StandsFor.{Table, StandsForConnections, AreWithin}

-- `steps_before` is what the meter showed as the last event began, and `tie` is the number of that meter
pub record CoreView : Type 0 where
  pub setting : Setting
  pub clock : ℕ
  pub connections : Table
  pub books : Books
  pub reply : List ℕ
  pub arguments : List ℕ
  pub steps_before : ℕ
  pub tie : ℕ

-- What a core holds stands for a state. The changes of rows, the history of calls and whole lists are not held, and
-- between two events no arguments are. What is held of a connection and of the reply has its limit. A state has nothing
-- like `steps_before`.
-- LOOK-1
pub record StandsFor (held : CoreView) (s : State) : Type 0 where
  pub setting : held.setting ≡ s.setting
  pub clock : held.clock ≡ s.clock
  pub conns : held.connections.conns ≡ s.setting.limits.conns
  pub connections : StandsForConnections held.books.registry held.connections s.connections
  pub within : AreWithin held.connections.slots
  pub limit : held.books.registry.limit ≡ s.setting.limits.rows
  pub ledger : StandsForLedger held.books s.ledger
  pub forwards : held.books.forwards.cap ≡ s.setting.limits.forwards
  pub first_xid : held.books.forwards.first_xid ≡ s.setting.first_xid
  pub reply : held.reply ≡ s.reply
  pub short : length held.reply ≤ longest_reply
  pub arguments : held.arguments ≡ []
