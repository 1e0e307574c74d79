-- A run on a page: what each event and its output make of what passed before (RFC 5531 sections 8 and 11, RFC 1833). Begin at
-- `Passes`, and read upwards. There is no step of the model in it: what was registered and what was counted follow
-- from the messages and their answers, and these from the page of answers. Which calls are forwarded, how they end, when
-- connections close and what is refused is on the page of ends, Ends.antt.
use Rattle.std.specs.Prelude.{◌≡◌, ◌⊎◌, ◌<◌, ◌≤◌, ⊤, ℕ, max, Bool, true, false, if◌then◌else◌, List, [], ◌∷◌, ◌++◌, length, take, Contains}
use Rattle.rb_xdr.specs.Xdr.{AreBytes}
use Rattle.rb_address.specs.declared.who.Who.{Who}
use Rattle.rb_rpc.specs.declared.call.CallHead.{CallHead}
use Rattle.rb_address.specs.declared.caller.Caller.{Caller}
use Rattle.rb_address.specs.declared.caller.Caller.TheVariants.{Tcp, Udp}
use Rattle.rb_rpc.specs.Grammar.{IsNoCall}
use Rattle.rb_rpc.specs.RecordLaws.{IsMarked, HasNoRecord}
use Rattle.rb_registry.specs.declared.row.Row.{Row}
use Rattle.rb_stats.specs.Statistics.{Note}
use Rattle.rb_arguments.specs.declared.request.Request.{Request}
use Rattle.rb_answers.specs.declared.context.Context.{Context}
use Rattle.rb_answers.specs.declared.listener.Listener.{Listener}
use Rattle.rb_answers.specs.Ledger.{Ledger, rows_in}
use Rattle.rb_model.specs.declared.message.Message.{Message}
use Rattle.rb_model.specs.declared.message.Message.TheVariants as says
use Rattle.rb_model.specs.declared.types.Limits.{Limits}
use Rattle.rb_model.specs.Grammar.{BeginsWithRequest, HasUnreadableArguments, IsRefused}
use Rattle.rb_model.specs.Calls.{Outcome}
use Rattle.rb_model.specs.Calls.Outcome.{NoCall, Reply, Forwarded, Silent}
use Rattle.rb_model.specs.HistoryLaws.{notes_of}
use Rattle.rb_model.specs.Sessions.{Session, replies_to, with_last_outcome, IsFinal, AwaitsLast, IsFront, AllGiven}
use Rattle.rb_model.specs.Step.{Event, Output, Output as outputs, longest_to}
use Rattle.rb_model.specs.Step.Event.{Open, Bytes, Pending, Gave, Closed, Datagram, Forward, Expire, ZeroStats}
use Rattle.rb_model.specs.Step.Output.{Opened, Refused, TooMuch, Took, TookAndLost, IsPending, Done, Ready}
use Rattle.rb_promises.specs.Sets.{AsksToSet, IsAccepted, IsAddedTo, SetsARow}
use Rattle.rb_promises.specs.Unsets.{IsRemovedFrom, RemovesARow}
use Rattle.rb_promises.specs.LookUps.{HasHosts}
use Rattle.rb_promises.specs.Answers.{IsCounted, Answers}

-- What passed so far: the last moment, what the calls left, the number of each connection that was opened, with who is at its
-- other end, and for each number the bytes taken and given and the calls in them.
pub record Account : Type 0 where
  pub clock : ℕ
  pub ledger : Ledger
  pub opened : List (ℕ × Who)
  pub sessions : ℕ → Session

-- ---- messages

-- what a call of this caller sees
abbrev pub context_at : Limits → Listener → ℕ → Caller → Context
context_at limits listener clock caller = record {
  announced = listener.announced;
  terms = listener.terms;
  reserved = listener.reserved;
  limit = limits.rows;
  forwards = limits.forwards;
  clock = clock;
  caller = caller;
}

-- the bytes say so
abbrev pub Says : List ℕ → Message → Type 0
Says content says.NoCall = IsNoCall content
Says content (says.Refused head) = IsRefused head.xid head.status content
Says content (says.Garbage head) = HasUnreadableArguments head content
Says content (says.Asked call) = BeginsWithRequest call content

-- the rows stay as they are
pub record KeepsRows (l new : Ledger) : Type 0 where
  pub own : new.own ≡ l.own
  pub changes : new.changes ≡ l.changes

-- What a call of a procedure leaves: a SET that is accepted adds its row, an UNSET takes those that it covers away, and no other
-- call changes the rows.
pub data LeavesRows (context : Context) (head : CallHead) (request : Request) (l new : Ledger) : Type 0 where
  Adds : (row : Row) → AsksToSet context head request row → IsAccepted context l row → IsAddedTo head row l new → LeavesRows context head request l new
  Removes : RemovesARow context head request l → IsRemovedFrom context head request l new → LeavesRows context head request l new
  Neither : ¬ (SetsARow context head request l) → ¬ (RemovesARow context head request l) → KeepsRows l new → LeavesRows context head request l new

abbrev pub Leaves : Context → Message → Ledger → Ledger → Type 0
Leaves context says.NoCall l new = KeepsRows l new
Leaves context (says.Refused head) l new = KeepsRows l new
Leaves context (says.Garbage head) l new = KeepsRows l new
Leaves context (says.Asked call) l new = (counted : Ledger) × IsCounted call.head l counted × LeavesRows context call.head call.request counted new

-- The message was answered as the page says, of what the calls before it left, and is counted.
pub record IsAnswered (context : Context) (content : List ℕ) (said : Outcome) (l new : Ledger) : Type 0 where
  pub as_said : HasHosts context → AreBytes content → Answers context l content said
  pub message : Message
  pub is_said : AreBytes content → Says content message
  pub leaves : Leaves context message l new
  pub history : new.history ≡ l.history ++ notes_of context message said (rows_in l)

-- ---- outputs

-- what the sender of a datagram gets
abbrev pub sent_back : Outcome → Output
sent_back NoCall = outputs.Silent
sent_back (Reply reply stamp) = outputs.Replied reply
sent_back Forwarded = outputs.Forwarded
sent_back Silent = outputs.Silent

-- how many bytes were taken up to the end of a record; a connection is given up if that is no call
abbrev pub took : ℕ → Outcome → Output
took n NoCall = TookAndLost n
took n (Reply reply stamp) = Took n
took n Forwarded = Took n
took n Silent = Took n

abbrev pub is_refusal : Output → Bool
is_refusal (Refused fault) = true
is_refusal TooMuch = true
is_refusal other = false

-- ---- moments and openings

abbrev pub moment_after : Event → ℕ → ℕ
moment_after (Open now who) clock = max clock now
moment_after (Bytes now id piece) clock = max clock now
moment_after (Gave now id n) clock = max clock now
moment_after (Datagram now who content) clock = max clock now
moment_after (Forward now from message) clock = max clock now
moment_after (Expire now) clock = max clock now
moment_after other clock = clock

-- a refused event leaves the moment, and one that is earlier counts as the last one
abbrev pub clock_after : Event → Output → ℕ → ℕ
clock_after event output clock = if is_refusal output then clock else moment_after event clock

abbrev pub opened_by : Event → Output → List (ℕ × Who)
opened_by (Open now who) (Opened id) = (id, who) ∷ []
opened_by event output = []

-- ---- what passes on a connection

-- the session of this number is now this one, and the others are as they were
pub record BecomesAt (id : ℕ) (new : Session) (a b : Account) : Type 0 where
  pub here : b.sessions id ≡ new
  pub others : (other : ℕ) → ¬ (other ≡ id) → b.sessions other ≡ a.sessions other

abbrev pub NothingPasses : Account → Account → Type 0
NothingPasses a b = (id : ℕ) → b.sessions id ≡ a.sessions id

abbrev pub IsOfConnection : Event → Type 0
IsOfConnection (Bytes now id piece) = ⊤
IsOfConnection (Pending id) = ⊤
IsOfConnection (Gave now id n) = ⊤
IsOfConnection other = ⊥

-- nothing is asked, taken or given by such an event
abbrev pub IsBesides : Event → Type 0
IsBesides (Bytes now id piece) = ⊥
IsBesides (Pending id) = ⊥
IsBesides (Gave now id n) = ⊥
IsBesides (Datagram now who content) = ⊥
IsBesides other = ⊤

-- what statistics have after such an event: nothing, if they begin anew; else what they had, with a note more if a forwarded call
-- ended
abbrev pub AddsNotes : List Note → List Note → Type 0
AddsNotes history new = (ends : List Note) × (new ≡ history ++ ends)

abbrev pub AreNotedBesides : Event → List Note → List Note → Type 0
AreNotedBesides ZeroStats history new = new ≡ []
AreNotedBesides (Closed id) history new = AddsNotes history new
AreNotedBesides (Forward now from message) history new = AddsNotes history new
AreNotedBesides (Expire now) history new = AddsNotes history new
AreNotedBesides other history new = new ≡ history

-- ---- one event

module _ (limits : Limits) (listener : Listener) (a : Account) (event : Event) (output : Output) (b : Account) where
  pub data Happens : Type 0 where
    -- A datagram is answered, and nothing passes on connections.
    ADatagram : (now : ℕ) (who : Who) (content : List ℕ) (said : Outcome) → event ≡ Datagram now who content → output ≡ sent_back said
        → IsAnswered (context_at limits listener (max a.clock now) (Udp who (longest_to listener.terms who (length content)))) content said a.ledger b.ledger
        → NothingPasses a b → Happens
    -- The first n bytes of a piece end a record, and its data is answered. All replies before it were given.
    ARecord : (now id n : ℕ) (piece content : List ℕ) (who : Who) (said : Outcome) → event ≡ Bytes now id piece → n ≤ length piece → output ≡ took n said
        → AllGiven (a.sessions id) → Contains a.opened (id, who)
        → (AreBytes ((a.sessions id).unfinished ++ take n piece) → IsMarked ((a.sessions id).unfinished ++ take n piece) content)
        → IsAnswered (context_at limits listener (max a.clock now) (Tcp id who)) content said a.ledger b.ledger
        → BecomesAt id (record (a.sessions id) {
          taken = (a.sessions id).taken ++ take n piece;
          unfinished = [];
          calls = (a.sessions id).calls ++ record { content = content; said = said } ∷ [];
        }) a b → Happens
    -- A piece is taken whole, and ends no record. All replies before it were given.
    MoreBytes : (now id : ℕ) (piece : List ℕ) → event ≡ Bytes now id piece → 0 < length piece → output ≡ Took (length piece) → AllGiven (a.sessions id)
        → (AreBytes ((a.sessions id).unfinished ++ piece) → HasNoRecord ((a.sessions id).unfinished ++ piece)) → b.ledger ≡ a.ledger
        → BecomesAt id (record (a.sessions id) {
          taken = (a.sessions id).taken ++ piece;
          unfinished = (a.sessions id).unfinished ++ piece;
        }) a b → Happens
    -- Nothing is taken: a reply is owed or awaited, or there is nothing to take.
    NoBytes : (now id : ℕ) (piece : List ℕ) → event ≡ Bytes now id piece → output ≡ Took 0 → (piece ≡ []) ⊎ ¬ (AllGiven (a.sessions id))
        → b.ledger ≡ a.ledger → NothingPasses a b → Happens
    -- What is pending comes next in the replies; nothing is pending only if all that there are were given.
    ALook : (id : ℕ) (bytes : List ℕ) → event ≡ Pending id → output ≡ IsPending bytes
        → IsFront ((a.sessions id).given ++ bytes) (replies_to (a.sessions id).calls)
        → (bytes ≡ [] → (a.sessions id).given ≡ replies_to (a.sessions id).calls) → b.ledger ≡ a.ledger → NothingPasses a b → Happens
    -- Bytes are given, which come next in the replies.
    Gives : (now id : ℕ) (bytes : List ℕ) → event ≡ Gave now id (length bytes) → output ≡ Done
        → IsFront ((a.sessions id).given ++ bytes) (replies_to (a.sessions id).calls) → b.ledger ≡ a.ledger
        → BecomesAt id (record (a.sessions id) { given = (a.sessions id).given ++ bytes }) a b → Happens
    -- A forwarded call ends, for which a connection waits, which is told so.
    AnEnd : (id : ℕ) (said : Outcome) → IsBesides event → output ≡ Ready id → IsFinal said → AwaitsLast (a.sessions id).calls
        → KeepsRows a.ledger b.ledger → AreNotedBesides event a.ledger.history b.ledger.history
        → BecomesAt id (record (a.sessions id) { calls = with_last_outcome said (a.sessions id).calls }) a b → Happens
    -- The others pass nothing.
    Besides : IsBesides event → KeepsRows a.ledger b.ledger → AreNotedBesides event a.ledger.history b.ledger.history → NothingPasses a b → Happens
    -- What is of no live connection, or gives more than is pending, is refused and changes nothing.
    ARefusal : IsOfConnection event → is_refusal output ≡ true → b.ledger ≡ a.ledger → NothingPasses a b → Happens

  -- The event has this output after what passed, and so much passed then.
  pub record Passes : Type 0 where
    pub clock : b.clock ≡ clock_after event output a.clock
    pub opened : b.opened ≡ a.opened ++ opened_by event output
    pub happens : Happens

-- ---- runs

-- these events had these outputs one after another, and so much had passed then
pub data Passed (limits : Limits) (listener : Listener) : Account → List (Event × Output) → Account → Type 0 where
  NoMore : (a : Account) → Passed limits listener a [] a
  OneMore : (a : Account) (event : Event) (output : Output) (next b : Account) (later : List (Event × Output)) → Passes limits listener a event output next
      → Passed limits listener next later b → Passed limits listener a ((event, output) ∷ later) b
