-- Room for a row, and a message that is served once there is room, by what is held.
use Rattle.std.specs.Prelude.{◌≡◌, ℕ, List}
use Rattle.rb_xdr.specs.Kept.{Kept}
use Rattle.rb_rpc.specs.declared.call.Verdict.{Verdict}
use Rattle.rb_proto.specs.declared.books.Books.{Books}
use Rattle.rb_answers.specs.declared.context.Context.{Context}
use Rattle.rb_answers.specs.Ledger.{Ledger}
use Rattle.rb_proto.specs.Ledger.{StandsForLedger}
use Rattle.rb_model.specs.declared.message.Message.{Message}
use Rattle.rb_model.specs.declared.served.Served.{Served}
use Rattle.rb_model.specs.Calls.{Outcome, outcome, message_with}
use Rattle.rb_model.specs.Losses.{removals_in_the_way, evict}
use Rattle.rb_model.specs.State.{Connections}
use Rattle.rb_model.specs.Served.{served_in}
use Rattle.rb_connections.specs.StandsFor.{Table, StandsForConnections}

-- The connections that are in the way of the message's row become Lost, and the ledger stays.
abbrev pub Evicts : Context → Message → Table → Books → Table → Books → Type 0
Evicts context message connections books new_connections new_books =
    (c : Connections) (l : Ledger)
    → StandsForConnections books.registry connections c → StandsForLedger books l
    → StandsForConnections new_books.registry new_connections
    (evict (removals_in_the_way context message c.all l) c)
    × StandsForLedger new_books l

-- A message is served as the model's `outcome` says, once there is room for its row, for all connections and each
-- ledger that were stood for before.
pub record ServesInRoom (context : Context) (message : Message) (arguments : List ℕ) (table : Table) (old : Books) (left : Table) (new : Books) (given : Outcome) : Type 0 where
  pub gives : (c : Connections) (l : Ledger) → StandsForConnections old.registry table c
      → StandsForLedger old l → given ≡ (outcome context message arguments l).0
  pub ledger : (c : Connections) (l : Ledger) → StandsForConnections old.registry table c
      → StandsForLedger old l → StandsForLedger new (outcome context message arguments l).1
  pub connections : (c : Connections) (l : Ledger) → StandsForConnections old.registry table c
      → StandsForLedger old l → StandsForConnections new.registry left (evict (removals_in_the_way context message c.all l) c)

-- The same of the message on which this is the verdict; `arguments` are the bytes after its head.
abbrev pub ServesVerdict : Context → Verdict → List ℕ → Table → Books → Table → Books → Served → Kept → Type 0
ServesVerdict context verdict arguments table old left new served out =
    ServesInRoom context (message_with verdict arguments) arguments table old left new
    (served_in new.registry served out.bytes)
