-- One connection's slot beside the connection that it stands for.
use Rattle.std.specs.Prelude.{min, take}
use Rattle.std.proofs.Common.{◌≡◌, ℕ, ◌+◌, ◌-◌, ◌<◌, ◌≤◌, List, [], ◌++◌, length, Option, Some, None, refl, sym, ap, ◌∙◌, arith}
use Rattle.std.proofs.lemmas.Bool.{lt-ltb, le-ltb}
use Rattle.std.proofs.lemmas.Grind.{common_steps}
use Rattle.rb_xdr.specs.Kept.{Kept}
use Rattle.rb_address.specs.declared.who.Who.{Who}
use Rattle.rb_rpc.specs.Records.{first_record, data_of, BeginsWithRecord}
use Rattle.rb_rpc.specs.Verdict.{verdict}
use Rattle.rb_rpc.specs.declared.call.Verdict.{Verdict}
use Rattle.rb_model.specs.State.{Owed, Phase, Connection}
use Rattle.rb_model.specs.State.Phase.{Idle, Reading, Owing, Awaiting, Lost}
use Rattle.rb_model.specs.Connections.{Taking, taking_of, taking_on, since_when_fed, fed_in, pending_in, phase_when_given, with_given, give, pending_of}
use Rattle.rb_model.specs.Connections.Taking.{TakesNone, Ends}
use Rattle.rb_connections.specs.declared.slot.Slot.{Slot}
use Rattle.rb_connections.specs.declared.slot.Stage.{Stage}
use Rattle.rb_connections.specs.declared.slot.Stage.TheVariants as stages
use Rattle.rb_connections.specs.declared.slot.Received.{Received}
use Rattle.rb_connections.specs.StandsFor.{IsGiving, IsReading, StandsForPhase, StandsForConnection}
use Rattle.rb_registry.specs.Registry.{Registry}
use Rattle.rb_connections.specs.Reading.{Fed, Reader, fed_until}
use Rattle.rb_connections.specs.declared.giving.Giving.{Giving}
use Rattle.rb_connections.specs.Slots.{Acts, received_of, connection_after, take_piece, arguments_after, arguments_taken}
use Rattle.rb_connections.proofs.Phases.{by_phase}

-- ---- the phase by the stage

pub idle_phase : (registry : Registry) (stage : Stage) (buffer window : Kept) (phase : Phase) → stage ≡ stages.Idle → StandsForPhase registry stage buffer window phase
    → (phase ≡ Idle) × (buffer.bytes ≡ []) × (window.bytes ≡ [])
idle_phase registry stage buffer window phase is h = grind arith

pub reading_phase : (registry : Registry) (reader : Reader) (stage : Stage) (buffer window : Kept) (phase : Phase) → stage ≡ stages.Reading reader → StandsForPhase registry stage buffer window phase
    → (fed : List ℕ) × (phase ≡ Reading fed) × IsReading reader buffer fed × (window.bytes ≡ [])
reading_phase registry reader stage buffer window phase is h = grind arith

pub giving_phase : (registry : Registry) (giving : Giving) (stage : Stage) (buffer window : Kept) (phase : Phase) → stage ≡ stages.Owing giving → StandsForPhase registry stage buffer window phase
    → (o : Owed) × (phase ≡ Owing o) × IsGiving registry giving buffer.bytes window o
giving_phase registry giving stage buffer window phase is h = grind arith

pub lost_phase : (registry : Registry) (stage : Stage) (buffer window : Kept) (phase : Phase) → stage ≡ stages.Lost → StandsForPhase registry stage buffer window phase → phase ≡ Lost
lost_phase registry stage buffer window phase is h = grind (arith, common_steps, by_phase registry buffer window)

pub awaiting_phase : (registry : Registry) (stage : Stage) (buffer window : Kept) (phase : Phase) → stage ≡ stages.Awaiting → StandsForPhase registry stage buffer window phase → phase ≡ Awaiting
awaiting_phase registry stage buffer window phase is h = grind (arith, common_steps, by_phase registry buffer window)

-- ---- a piece that is taken

-- What a piece comes to on the connections that a slot stands for.
pub record Took (registry : Registry) (old new : Slot) (clock : ℕ) (piece : List ℕ) (result : Received) (c : Connection) : Type 0 where
  pub taken : Taking
  pub is : taking_of c.phase piece ≡ taken
  pub gives : result ≡ received_of piece c taken
  pub stands : StandsForConnection registry new (connection_after clock c taken)

pub feeding_acts : (registry : Registry) (old new : Slot) (clock : ℕ) (piece : List ℕ) (result : Received)
    → ((c : Connection) → StandsForConnection registry old c → Took registry old new clock piece result c) → Acts (StandsForConnection registry) (take_piece clock piece) old new result
unfolding take_piece
feeding_acts registry old new clock piece result took = grind arith

-- with what is held of arguments after it
pub taken_arguments : (before after piece : List ℕ) (c : Connection) (t : Taking) → taking_of c.phase piece ≡ t → after ≡ arguments_after before t → after ≡ arguments_taken before piece c
taken_arguments before after piece c t is kept = kept ∙ ap (arguments_after before) (sym is)

-- nothing is taken of nothing
pub nothing_of_nothing : (phase : Phase) → taking_of phase [] ≡ TakesNone
unfolding taking_of
nothing_of_nothing phase = grind arith

pub nothing_where_owing : (phase : Phase) (o : Owed) (piece : List ℕ) → phase ≡ Owing o → taking_of phase piece ≡ TakesNone
unfolding taking_of
nothing_where_owing phase o piece is = rw is refl

pub nothing_where_awaiting : (phase : Phase) (piece : List ℕ) → phase ≡ Awaiting → taking_of phase piece ≡ TakesNone
unfolding taking_of
nothing_where_awaiting phase piece is = rw is refl

pub nothing_where_lost : (phase : Phase) (piece : List ℕ) → phase ≡ Lost → taking_of phase piece ≡ TakesNone
unfolding taking_of
nothing_where_lost phase piece is = rw is refl

pub some_where_fed : (phase : Phase) (fed piece : List ℕ) → fed_in phase ≡ Some fed → (piece ≡ [] → ⊥) → taking_of phase piece ≡ taking_on fed piece
unfolding taking_of
some_where_fed phase fed piece is some = grind arith

-- a record that is one fragment is taken whole
pub taken_whole : (content piece : List ℕ) → BeginsWithRecord content piece → taking_on [] piece ≡ Ends (4 + length content) content
taken_whole content piece begins = grind arith

-- ---- how a record ends in a piece

pub not_ended : (fed piece : List ℕ) (m : Option ℕ) (r : Fed) → r ≡ fed_until fed piece m → r.verdict ≡ None → m ≡ None
not_ended fed piece m r is ended = grind arith

-- with this verdict on its data
pub record EndsAt (fed piece : List ℕ) (m : Option ℕ) (said : Verdict) : Type 0 where
  pub at : ℕ
  pub is : m ≡ Some at
  pub says : said ≡ verdict (data_of (take at (fed ++ piece)))

pub has_ended : (fed piece : List ℕ) (m : Option ℕ) (r : Fed) (said : Verdict) → r ≡ fed_until fed piece m → r.verdict ≡ Some said → EndsAt fed piece m said
has_ended fed piece m r said is ended = grind arith

pub counts_to : (fed piece : List ℕ) (n : ℕ) (m : Option ℕ) (r : Fed) → r ≡ fed_until fed piece m → m ≡ Some n → r.count ≡ n - length fed
counts_to fed piece n m r is some = ap (λ (f : Fed). f.count) (is ∙ ap (fed_until fed piece) some)

pub ended_then : (fed piece : List ℕ) (c : Connection) (count n : ℕ) (who : Who) (said : Verdict) → first_record (fed ++ piece) ≡ Some n → count ≡ n - length fed → who ≡ c.who
    → said ≡ verdict (data_of (take n (fed ++ piece))) → record { count = count; ended = Some (record { who = who; verdict = said }) } ≡ received_of piece c (taking_on fed piece)
ended_then fed piece c count n who said is counts from says = rw (is, counts, from, says) refl

pub since_of_idle : (clock since : ℕ) (phase : Phase) → phase ≡ Idle → since_when_fed clock since phase ≡ clock
since_of_idle clock since phase is = rw is refl

pub since_of_reading : (clock since : ℕ) (phase : Phase) (fed : List ℕ) → phase ≡ Reading fed → since_when_fed clock since phase ≡ since
since_of_reading clock since phase fed is = rw is refl

-- ---- bytes that are given

-- No byte is given.
pub none_given : (registry : Registry) (old : Slot) (clock n : ℕ) → ((c : Connection) → StandsForConnection registry old c → min n (length (pending_in c.phase)) ≡ 0) → Acts (StandsForConnection registry) (give clock n) old old tt
unfolding give with_given
none_given registry old clock n none = grind arith

-- nothing is pending unless a reply is owed
pub nothing_pending : (registry : Registry) (stage : Stage) (buffer window : Kept) (phase : Phase) → ((x : Giving) → stage ≡ stages.Owing x → ⊥) → StandsForPhase registry stage buffer window phase → pending_in phase ≡ []
nothing_pending registry stage buffer window phase other h = grind arith

pub goes_on_giving : (registry : Registry) (giving : Giving) (buffer window : Kept) (more : ℕ) (o : Owed) → IsGiving registry giving buffer.bytes window (record o { given = o.given + more })
    → StandsForPhase registry (stages.Owing giving) buffer window (phase_when_given more (Owing o))
goes_on_giving registry giving buffer window more o g = rw (lt-ltb (o.given + more) (length o.marked) g.shows.owes) g

pub is_given : (registry : Registry) (buffer window : Kept) (more : ℕ) (o : Owed) → length o.marked ≤ o.given + more → buffer.bytes ≡ [] → window.bytes ≡ []
    → StandsForPhase registry stages.Idle buffer window (phase_when_given more (Owing o))
is_given registry buffer window more o all b w = rw (le-ltb (o.given + more) (length o.marked) all) (b, w)

module _ (registry : Registry) (old new : Slot) (clock n more : ℕ) (giving_is : Giving)
    (stage : old.stage ≡ stages.Owing giving_is)
    (counted : (o : Owed) → IsGiving registry giving_is old.buffer.bytes old.window o → more ≡ min n (length (pending_of o)))
    (some : 0 < more)
    (number : new.number ≡ old.number) (who : new.who ≡ old.who) (since : new.since ≡ clock)
    (goes_on : (o : Owed) → IsGiving registry giving_is old.buffer.bytes old.window o → StandsForPhase registry new.stage new.buffer new.window (phase_when_given more (Owing o))) where
  pub some_given : Acts (StandsForConnection registry) (give clock n) old new tt
  unfolding give with_given
  some_given = grind arith
