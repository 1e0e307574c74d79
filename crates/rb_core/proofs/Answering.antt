-- What serving a message leaves, from what its parts do.
use Rattle.std.specs.Prelude.{All}
use Rattle.std.proofs.Common.{◌≡◌, ◌≤◌, false, ℕ, List, sym, ap, subst, ◌∙◌}
use Rattle.rb_address.specs.declared.caller.Caller.{Caller}
use Rattle.rb_registry.specs.Cursors.{GoesOn}
use Rattle.rb_proto.specs.declared.books.Books.{Books}
use Rattle.rb_answers.specs.declared.context.Context.{Context}
use Rattle.rb_proto.specs.Books.{ActsAs, SameFrame}
use Rattle.rb_answers.specs.Ledger.{Ledger}
use Rattle.rb_model.specs.declared.message.Message.{Message}
use Rattle.rb_model.specs.Calls.{Outcome, outcome}
use Rattle.rb_model.specs.Losses.{asks_room}
use Rattle.rb_laws.proofs.Crowding.{none_evicted, not_asked}
use Rattle.rb_connections.specs.StandsFor.{Table}
use Rattle.rb_connections.specs.Slots.{StaysTable}
use Rattle.rb_connections.specs.Listings.{CanContinueAll, stamps_of}
use Rattle.rb_connections.proofs.ListsGoOn.{lists_on, stands_on, stamps_low}
use Rattle.rb_core.specs.StandsFor.{CoreView}
use Rattle.rb_core.specs.Core.{context_of}
use Rattle.rb_core.specs.Eviction.{Evicts, ServesInRoom}
use Rattle.rb_core.proofs.Steps.{Served, same_registry}

-- what a call sees, of what is held by its other name
pub sees : (view now : CoreView) (context : Context) (caller : Caller) → view ≡ now → context ≡ context_of now caller → context ≡ context_of view caller
sees view now context caller same is = is ∙ ap (λ (h : CoreView). context_of h caller) (sym same)

-- The registry tells the lists that are given once a message was served too.
pub lists_then : (table : Table) (mid books : Books) → GoesOn mid.registry books.registry → books.registry.floor ≡ mid.registry.floor → CanContinueAll mid.registry table → CanContinueAll books.registry table
lists_then table mid books cursors floor told =
    lists_on mid.registry books.registry cursors table (subst (λ (f : ℕ). All (λ n. f ≤ n) (stamps_of table)) (sym floor) (stamps_low mid.registry table told)) told

module _ (view : CoreView) (caller : Caller) (context : Context) (is : context ≡ context_of view caller) where
  pub served_by : (message : Message) (arguments : List ℕ) (table : Table) (books : Books) (given : Outcome) → ServesInRoom context message arguments view.connections view.books table books given
      → SameFrame view.books books → StaysTable view.connections table → Served (context_of view caller) view message arguments table books given
  served_by message arguments table books given acts frame stays =
      subst (λ (x : Context). Served x view message arguments table books given) is (record { acts = acts; frame = frame; stays = stays })

-- if a message adds no row, no room needs to be made
pub nothing_evicts : (context : Context) (message : Message) (before : Table) (old : Books) → ((l : Ledger) → asks_room context message l ≡ false) → Evicts context message before old before old
nothing_evicts context message before old none = λ c l z h. (rw (not_asked context message c.all l (none l), none_evicted c) z, h)

module _ (context : Context) (message : Message) (arguments : List ℕ) (before : Table) (old : Books) (given : Outcome) where
  -- once room was made
  pub serves_in_room : (table : Table) (mid books : Books) → GoesOn mid.registry books.registry → books.registry.floor ≡ mid.registry.floor → CanContinueAll mid.registry table
      → Evicts context message before old table mid → ActsAs (outcome context message arguments) mid books given → ServesInRoom context message arguments before old table books given
  serves_in_room table mid books cursors floor told makes acts = record {
    gives = λ c l z h. acts.gives l (makes c l z h).1;
    ledger = λ c l z h. acts.stands l (makes c l z h).1;
    connections = λ c l z h. stands_on mid.registry books.registry cursors table _ low told (makes c l z h).0;
  }
    where
      low : All (λ n. books.registry.floor ≤ n) (stamps_of table)
      low = subst (λ (f : ℕ). All (λ n. f ≤ n) (stamps_of table)) (sym floor) (stamps_low mid.registry table told)

  -- if the message adds no row, and no row changes
  pub serves_without_room : (books : Books) → ((l : Ledger) → asks_room context message l ≡ false) → books.registry ≡ old.registry
      → ActsAs (outcome context message arguments) old books given → ServesInRoom context message arguments before old before books given
  serves_without_room books none same acts = record {
    gives = λ c l z h. acts.gives l h;
    ledger = λ c l z h. acts.stands l h;
    connections = λ c l z h. same_registry old.registry books.registry before _ same (rw (not_asked context message c.all l (none l), none_evicted c) z);
  }
