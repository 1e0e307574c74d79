-- A core that stands for a state stands for it once the due connection is Lost.
use Rattle.std.proofs.Common.{◌≡◌, ℕ, Option, Some, None, refl, ap, ◌∙◌}
use Rattle.rb_model.specs.declared.types.Expired.{Expired}
use Rattle.rb_model.specs.declared.types.Told.{Told}
use Rattle.rb_model.specs.State.{State}
use Rattle.rb_model.specs.Losses.{expire_first}
use Rattle.rb_model.specs.Ending.{lost_as, expire_connection, expired_as}
use Rattle.rb_connections.specs.Slots.{Acts, StaysTable}
use Rattle.rb_connections.specs.StandsFor.{Table, StandsForConnections}
use Rattle.rb_core.specs.StandsFor.{CoreView, StandsFor}

pub due_closed : (old : CoreView) (table : Table) (found : Option ℕ) (result : Expired) → result ≡ lost_as found → StaysTable old.connections table
    → Acts (StandsForConnections old.books.registry) (expire_first old.clock) old.connections table found → Acts StandsFor expire_connection old (record old { connections = table }) result
unfolding expire_connection
due_closed old table found result is stays acts = record {
  gives = λ s h. is ∙ ap lost_as (acts.gives s.connections h.connections) ∙ rw h.clock refl;
  stands = λ s h. record {
    setting = h.setting;
    clock = h.clock;
    conns = stays.conns ∙ h.conns;
    within = stays.within h.within;
    connections = rw (← h.clock) (acts.stands s.connections h.connections);
    limit = h.limit;
    ledger = h.ledger;
    forwards = h.forwards;
    first_xid = h.first_xid;
    reply = h.reply;
    short = h.short;
    arguments = h.arguments;
  };
}

-- if no entry ended, and this came of the connections
pub none_ended_then : (old mid new : CoreView) (act : State → Option Told × State) (result : Expired) → Acts StandsFor act old mid None → Acts StandsFor expire_connection mid new result
    → Acts StandsFor (λ s. expired_as (act s)) old new result
none_ended_then old mid new act result acts then = record { gives = λ s h. (goes (act s) (acts.gives s h) (acts.stands s h)).0; stands = λ s h. (goes (act s) (acts.gives s h) (acts.stands s h)).1 }
  where
    goes : (r : Option Told × State) → None ≡ r.0 → StandsFor mid r.1 → (result ≡ (expired_as r).0) × StandsFor new (expired_as r).1
    goes (None, t) e z = (then.gives t z, then.stands t z)
    goes (Some told, t) e z = absurd cc
