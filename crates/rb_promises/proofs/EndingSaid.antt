-- A live connection is Lost for the reasons that the page of ends says.
use Rattle.std.specs.Prelude.{◌↔◌}
use Rattle.std.proofs.Common.{◌≡◌, ◌⊎◌, inl, inr, ℕ, ◌-◌, Bool, true, false, Option, Some, None, Result, List, [], ◌∷◌, ◌++◌, length, take, refl, sym, ap, subst, ◌∙◌, append-nil, length-append, arith}
use Rattle.std.proofs.lemmas.Option.{same_Some}
use Rattle.rb_address.specs.declared.who.Owner.{Owner}
use Rattle.rb_rpc.specs.declared.call.CallHead.{CallHead}
use Rattle.rb_address.specs.declared.caller.Caller.{Caller}
use Rattle.rb_address.specs.declared.caller.Caller.TheVariants.{Tcp}
use Rattle.rb_arguments.specs.declared.kind.Kind.{Kind}
use Rattle.rb_rpc.specs.Feeds.{arguments_of}
use Rattle.rb_rpc.specs.Records.{first_record, data_of}
use Rattle.rb_registry.specs.declared.row.Row.{Row}
use Rattle.rb_registry.specs.declared.row.Which.{Which}
use Rattle.rb_registry.specs.Rows.{Change}
use Rattle.rb_registry.specs.Rows.Change.{Added, Removed}
use Rattle.rb_stats.specs.Statistics.Note.{WasSet, WasUnset}
use Rattle.rb_arguments.specs.declared.mapping.Mapping.{Mapping}
use Rattle.rb_arguments.specs.declared.procedure.MappingProcedure.TheVariants as mappings
use Rattle.rb_arguments.specs.declared.procedure.RpcbProcedure.TheVariants as rpcbs
use Rattle.rb_arguments.specs.declared.remote.RemoteCall.{RemoteCall}
use Rattle.rb_arguments.specs.declared.request.Request.{Request}
use Rattle.rb_arguments.specs.declared.request.Request.TheVariants as requests
use Rattle.rb_answers.specs.declared.context.Context.{Context}
use Rattle.rb_answers.specs.Answers.{accepts, accepts_row, change_if, set_row, adds, adds_row, row_asked, row_to_set, accepts_removal, removal_of, owner_in, unset_rows, getport, getaddr, getversaddr, answer_to, answer}
use Rattle.rb_answers.specs.Forwarding.{forward_call}
use Rattle.rb_answers.specs.Ledger.{Ledger, rows_in, version_of, with_call_noted}
use Rattle.rb_model.specs.declared.message.Message.{Message}
use Rattle.rb_model.specs.declared.message.Message.TheVariants as says
use Rattle.rb_model.specs.declared.types.CoreFault.{CoreFault}
use Rattle.rb_model.specs.declared.types.CoreFault.TheVariants.{Gone}
use Rattle.rb_model.specs.declared.types.Taken.{Taken}
use Rattle.rb_model.specs.Calls.{Outcome, Outcome as outcomes, is_no_call, message_of, outcome}
use Rattle.rb_model.specs.ChangeLaws.{Brought, record_on, change_by}
use Rattle.rb_model.specs.Closings.{EndsNoCall as EndsRecord, EndsAtDeadline, Brings, EndsForRoom as GivesWay, ClosesExactly}
use Rattle.rb_model.specs.Connections.{fed_in, live_connection}
use Rattle.rb_model.specs.Laws.{IsLive, IsLost}
use Rattle.rb_model.specs.Losses.{asks_room}
use Rattle.rb_model.specs.State.{State, Connection, at_moment}
use Rattle.rb_model.specs.Step.{sender, Event, Output, context_in, serve, bytes, output_or, show_taken, step, IsReached}
use Rattle.rb_model.specs.Step.Event.{Open, Bytes, Pending, Gave, Closed, NextLost, Datagram, Unsent, Sent, Forward, Expire, ZeroStats}
use Rattle.rb_model.specs.Step.Output.{Refused, Took, TookAndLost}
use Rattle.rb_laws.proofs.Changes.{step-appends}
use Rattle.rb_laws.proofs.Closings.{connections_close_exactly}
use Rattle.rb_laws.proofs.ExactTaking.{fed-none}
use Rattle.rb_laws.proofs.Happenings.{Arriving, arriving, said_in, answered_in}
use Rattle.rb_laws.proofs.Happenings.Arriving.{NotThere, NotTaken, ReadOn, Ended}
use Rattle.rb_laws.proofs.LedgerSteps.{ledger_from, step-ledger}
use Rattle.rb_laws.proofs.Reached.{live-sound}
use Rattle.rb_model.specs.Sessions.{Session}
use Rattle.rb_promises.specs.Ends.{BringsNoCall, MakesRoom}
use Rattle.rb_promises.proofs.PassedSteps.{taking_is}

-- ---- which calls add a row

-- the changes as they were, or one more: a row is added exactly if the call asks for room
data Effect (asks : Bool) (old new : List Change) : Type 0 where
  Same : asks ≡ false → new ≡ old → Effect asks old new
  Set : (row : Row) → asks ≡ true → new ≡ old ++ Added row ∷ [] → Effect asks old new
  Unset : (prog vers : ℕ) (which : Which) (owner : Owner) → asks ≡ false → new ≡ old ++ Removed prog vers which owner ∷ [] → Effect asks old new

set-effect : (context : Context) (head : CallHead) (o : Option Row) (l : Ledger) → Effect (adds context (rows_in l) (length l.changes) o) l.changes (set_row context head o l).1.changes
unfolding set_row accepts_row
set-effect context head None l = Same refl refl
set-effect context head (Some row) l = by_test (accepts context (rows_in l) (length l.changes) row)
  where
    by_test : (b : Bool) → Effect b l.changes (change_if b (Added row) (WasSet (version_of head.vers)) l).1.changes
    by_test true = Set row refl refl
    by_test false = Same refl refl

unset-effect : (context : Context) (head : CallHead) (prog vers : ℕ) (o : Option Which) (l : Ledger) → Effect false l.changes (unset_rows context head prog vers o l).1.changes
unfolding unset_rows
unset-effect context head prog vers None l = Same refl refl
unset-effect context head prog vers (Some which) l = by_test (accepts_removal context l (removal_of context head prog vers which))
  where
    by_test : (b : Bool) → Effect false l.changes (change_if b (removal_of context head prog vers which) (WasUnset (version_of head.vers)) l).1.changes
    by_test true = Unset prog vers which (owner_in context head) refl refl
    by_test false = Same refl refl

getport-same : (context : Context) (head : CallHead) (m : Mapping) (l : Ledger) → (getport context head m l).1.changes ≡ l.changes
unfolding getport
getport-same context head m l = grind arith

forward-same : (context : Context) (xid : ℕ) (kind : Kind) (remote : RemoteCall) (arguments : List ℕ) (l : Ledger) → (forward_call context xid kind remote arguments l).1.changes ≡ l.changes
unfolding forward_call
forward-same context xid kind remote arguments l = grind arith

answer-effect : (context : Context) (head : CallHead) (request : Request) (arguments : List ℕ) (l : Ledger)
    → Effect (adds context (rows_in l) (length l.changes) (row_asked context head request)) l.changes (answer_to context head request arguments l).1.changes
unfolding getaddr getversaddr
answer-effect context head (requests.Mapping mappings.Set m) arguments l = set-effect context head _ l
answer-effect context head (requests.Mapping mappings.Unset m) arguments l = unset-effect context head m.prog m.vers _ l
answer-effect context head (requests.Mapping mappings.Getport m) arguments l = Same refl (getport-same context head m l)
answer-effect context head (requests.Rpcb rpcbs.Set r) arguments l = set-effect context head _ l
answer-effect context head (requests.Rpcb rpcbs.Unset r) arguments l = unset-effect context head r.prog r.vers _ l
answer-effect context head (requests.Rpcb rpcbs.Getaddr r) arguments l = Same refl refl
answer-effect context head (requests.Rpcb rpcbs.Getversaddr r) arguments l = Same refl refl
answer-effect context head (requests.Rpcb rpcbs.Getaddrlist r) arguments l = Same refl refl
answer-effect context head (requests.Void procedure) arguments l = Same refl refl
answer-effect context head (requests.Uaddr2taddr text) arguments l = Same refl refl
answer-effect context head (requests.Taddr2uaddr netbuf) arguments l = Same refl refl
answer-effect context head (requests.Forward kind remote) arguments l = Same refl (forward-same context head.xid kind remote arguments l)

outcome-effect : (context : Context) (message : Message) (arguments : List ℕ) (l : Ledger) → Effect (asks_room context message l) l.changes (outcome context message arguments l).1.changes
unfolding outcome answer with_call_noted adds_row row_to_set
outcome-effect context says.NoCall arguments l = Same refl refl
outcome-effect context (says.Refused head) arguments l = Same refl refl
outcome-effect context (says.Garbage head) arguments l = Same refl refl
outcome-effect context (says.Asked call) arguments l = answer-effect context call.head call.request arguments (with_call_noted call.head l)

-- ---- what was added

not_longer : (xs : List Change) (x : Change) → xs ≡ xs ++ x ∷ [] → ⊥
not_longer xs x e = omega (arith, ap (λ (ys : List Change). length ys) e, length-append xs (x ∷ []))

last_of : List Change → Option Change
last_of [] = None
last_of (x ∷ []) = Some x
last_of (x ∷ y ∷ xs) = last_of (y ∷ xs)

last_is : (xs : List Change) (x : Change) → last_of (xs ++ x ∷ []) ≡ Some x
unfolding last_of
last_is [] x = refl
last_is (y ∷ []) x = refl
last_is (y ∷ z ∷ xs) x = last_is (z ∷ xs) x

not_removed : (xs : List Change) (row : Row) (prog vers : ℕ) (which : Which) (owner : Owner) → xs ++ Added row ∷ [] ≡ xs ++ Removed prog vers which owner ∷ [] → ⊥
not_removed xs row prog vers which owner e =
    let same : Some (Added row) ≡ Some (Removed prog vers which owner) = sym (last_is xs (Added row)) ∙ ap last_of e ∙ last_is xs (Removed prog vers which owner) in
    absurd cc

-- a row was added, so the call asked for room
asked_for : (asks : Bool) (old new : List Change) (row : Row) → Effect asks old new → new ≡ old ++ Added row ∷ [] → asks ≡ true
asked_for asks old new row (Same not same) e = absurd (not_longer old (Added row) (sym same ∙ e))
asked_for asks old new row (Set other is same) e = is
asked_for asks old new row (Unset prog vers which owner not same) e = absurd (not_removed old row prog vers which owner (sym e ∙ same))

-- the call asked for room, so a row was added
abbrev AddsOne : List Change → List Change → Type 0
AddsOne old new = (row : Row) × (new ≡ old ++ Added row ∷ [])

added_by : (asks : Bool) (old new : List Change) → Effect asks old new → asks ≡ true → AddsOne old new
added_by asks old new (Same not same) e = absurd cc
added_by asks old new (Set row is same) e = (row, same)
added_by asks old new (Unset prog vers which owner not same) e = absurd cc

-- ---- no call

no-call-says : (context : Context) (message : Message) (arguments : List ℕ) (ledger : Ledger) → (outcome context message arguments ledger).0 ≡ outcomes.NoCall → message ≡ says.NoCall
unfolding outcome
no-call-says context message arguments ledger is = grind arith

said-none : (s : State) (at id : ℕ) (c : Connection) (record_bytes : List ℕ) → said_in s at id c record_bytes ≡ outcomes.NoCall → message_of (data_of record_bytes) ≡ says.NoCall
unfolding serve
said-none s at id c record_bytes is = no-call-says _ (message_of (data_of record_bytes)) _ _ is

none-said : (s : State) (at id : ℕ) (c : Connection) (record_bytes : List ℕ) → message_of (data_of record_bytes) ≡ says.NoCall → said_in s at id c record_bytes ≡ outcomes.NoCall
unfolding serve outcome
none-said s at id c record_bytes is = ap (λ (m : Message). (outcome (context_in (at_moment at s) (Tcp id c.who)) m (arguments_of (data_of record_bytes)) s.ledger).0) is

-- ---- an event that brings bytes

module _ (s : State) (at k : ℕ) (piece : List ℕ) where
  abbrev event : Event
  event = Bytes at k piece

  out_is : (r : Result Taken CoreFault × State) → bytes s at k piece ≡ r → (step s event).0 ≡ (output_or show_taken r).0
  unfolding step
  out_is r e = ap (λ (x : Result Taken CoreFault × State). (output_or show_taken x).0) e

  ledger_is : (r : Result Taken CoreFault × State) → bytes s at k piece ≡ r → (step s event).1.ledger ≡ (output_or show_taken r).1.ledger
  unfolding step
  ledger_is r e = ap (λ (x : Result Taken CoreFault × State). (output_or show_taken x).1.ledger) e

  record_effect : (c : Connection) (record_bytes : List ℕ)
      → Effect (asks_room (context_in (at_moment at s) (Tcp k c.who)) (message_of (data_of record_bytes)) s.ledger) s.ledger.changes (answered_in s at k c record_bytes).ledger.changes
  unfolding serve
  record_effect c record_bytes = outcome-effect (context_in (at_moment at s) (Tcp k c.who)) (message_of (data_of record_bytes)) (arguments_of (data_of record_bytes)) s.ledger

  -- what an event of bytes does, as far as it is said here
  data Bringing : Type 0 where
    Keeps : ((n : ℕ) → ¬ ((step s event).0 ≡ TookAndLost n)) → (step s event).1.ledger.changes ≡ s.ledger.changes → Bringing
    EndsOne : (c : Connection) (fed : List ℕ) (n : ℕ) → live_connection k s.connections.all ≡ Some c → fed_in c.phase ≡ Some fed → first_record (fed ++ piece) ≡ Some n
        → (step s event).0 ≡ show_taken (record { count = n - length fed; lost = is_no_call (said_in s at k c (take n (fed ++ piece))) })
        → (step s event).1.ledger ≡ (answered_in s at k c (take n (fed ++ piece))).ledger → Bringing

  not_lost : (output : Output) → (step s event).0 ≡ output → ((n : ℕ) → output ≡ TookAndLost n → ⊥) → (n : ℕ) → ¬ ((step s event).0 ≡ TookAndLost n)
  not_lost output is other n e = other n (sym is ∙ e)

  brings_by : (r : Result Taken CoreFault × State) → bytes s at k piece ≡ r → Arriving s at k piece r → Bringing
  brings_by r e (NotThere none is) =
      Keeps (not_lost (Refused Gone) (out_is r e ∙ ap (λ (x : Result Taken CoreFault × State). (output_or show_taken x).0) is) (λ n e. absurd cc))
      (ap (λ (l : Ledger). l.changes) (ledger_is r e ∙ ap (λ (x : Result Taken CoreFault × State). (output_or show_taken x).1.ledger) is))
  brings_by r e (NotTaken c there why is) =
      Keeps (not_lost (Took 0) (out_is r e ∙ ap (λ (x : Result Taken CoreFault × State). (output_or show_taken x).0) is) (λ n e. absurd cc))
      (ap (λ (l : Ledger). l.changes) (ledger_is r e ∙ ap (λ (x : Result Taken CoreFault × State). (output_or show_taken x).1.ledger) is))
  brings_by r e (ReadOn c fed there feeds none is) =
      Keeps (not_lost (Took (length piece)) (out_is r e ∙ ap (λ (x : Result Taken CoreFault × State). (output_or show_taken x).0) is) (λ n e. absurd cc))
      (ap (λ (l : Ledger). l.changes) (ledger_is r e ∙ ap (λ (x : Result Taken CoreFault × State). (output_or show_taken x).1.ledger) is))
  brings_by r e (Ended c fed n there feeds some is) =
      EndsOne c fed n there feeds some (out_is r e ∙ ap (λ (x : Result Taken CoreFault × State). (output_or show_taken x).0) is)
      (ledger_is r e ∙ ap (λ (x : Result Taken CoreFault × State). (output_or show_taken x).1.ledger) is)

  what_it_brings : Bringing
  what_it_brings = brings_by (bytes s at k piece) refl (arriving s at k piece)

lost_shown : (n : ℕ) (said : Outcome) (m : ℕ) → show_taken (record { count = n; lost = is_no_call said }) ≡ TookAndLost m → said ≡ outcomes.NoCall
lost_shown n outcomes.NoCall m e = refl
lost_shown n (outcomes.Reply reply stamp) m e = absurd cc
lost_shown n outcomes.Forwarded m e = absurd cc
lost_shown n outcomes.Silent m e = absurd cc

-- ---- an event that adds a row

-- a message came, and asks for room
record Bringer (s : State) (event : Event) : Type 0 where
  now : ℕ
  caller : Caller
  content : List ℕ
  brings : Brings s event now caller content
  asks : asks_room (context_in (at_moment now s) caller) (message_of content) s.ledger ≡ true

asks_at : (s : State) (n now : ℕ) (k caller : Caller) (b content : List ℕ) → n ≡ now → k ≡ caller → b ≡ content → asks_room (context_in (at_moment n s) k) (message_of b) s.ledger ≡ true
    → asks_room (context_in (at_moment now s) caller) (message_of content) s.ledger ≡ true
asks_at s n now k caller b content p q r asks = sym (rw (p, q, r) refl) ∙ asks

module _ (s : State) where
  -- the ledger after a message
  abbrev after_message : ℕ → Caller → List ℕ → Ledger
  after_message now caller content = (outcome (context_in (at_moment now s) caller) (message_of content) (arguments_of content) s.ledger).1

  message_adds : (one : Event) (now : ℕ) (caller : Caller) (content : List ℕ) → (step s one).1.ledger ≡ after_message now caller content
      → asks_room (context_in (at_moment now s) caller) (message_of content) s.ledger ≡ true → AddsOne s.ledger.changes (step s one).1.ledger.changes
  message_adds one now caller content is asks =
      let (row, adds) = added_by _ _ _ (outcome-effect (context_in (at_moment now s) caller) (message_of content) (arguments_of content) s.ledger) asks in
      (row, ap (λ (l : Ledger). l.changes) is ∙ adds)

  adds_by : (reached : IsReached s) (event : Event) (now : ℕ) (caller : Caller) (content : List ℕ) → Brings s event now caller content
      → asks_room (context_in (at_moment now s) caller) (message_of content) s.ledger ≡ true → AddsOne s.ledger.changes (step s event).1.ledger.changes
  adds_by reached (Datagram at who bytes) now caller content (p, q, r) asks =
      message_adds (Datagram at who bytes) at (sender s who bytes) bytes (step-ledger s (Datagram at who bytes)) (asks_at s now at caller (sender s who bytes) content bytes p q r asks)
  adds_by reached (Bytes at k piece) now caller content (p, b) asks =
      let content_of : List ℕ = data_of (take b.n (b.fed ++ piece)) in
      let none : first_record b.fed ≡ None = fed-none b.connection.phase (live-sound s reached k b.connection b.live) b.fed b.takes in
      let m : Brought = record { now = at; caller = Tcp k b.connection.who; content = content_of } in
      let brings : record_on at k piece (live_connection k s.connections.all) ≡ Some m = rw (b.live, taking_is b.connection.phase b.fed piece b.n b.takes none b.ends) refl in
      message_adds (Bytes at k piece) at (Tcp k b.connection.who) content_of (step-ledger s (Bytes at k piece) ∙ ap (ledger_from s) brings)
      (asks_at s now at caller (Tcp k b.connection.who) content content_of p b.caller_is b.content_is asks)
  adds_by reached (Open at who) now caller content brings asks = absurd brings
  adds_by reached (Pending k) now caller content brings asks = absurd brings
  adds_by reached (Gave at k n) now caller content brings asks = absurd brings
  adds_by reached (Closed k) now caller content brings asks = absurd brings
  adds_by reached NextLost now caller content brings asks = absurd brings
  adds_by reached Unsent now caller content brings asks = absurd brings
  adds_by reached (Sent number) now caller content brings asks = absurd brings
  adds_by reached (Forward at from message) now caller content brings asks = absurd brings
  adds_by reached (Expire at) now caller content brings asks = absurd brings
  adds_by reached ZeroStats now caller content brings asks = absurd brings

  none_adds : (event : Event) (row : Row) → change_by s event ≡ [] → (step s event).1.ledger.changes ≡ s.ledger.changes ++ Added row ∷ [] → ⊥
  none_adds event row none adds =
      not_longer s.ledger.changes (Added row)
      (sym (step-appends s event ∙ ap (λ (xs : List Change). s.ledger.changes ++ xs) none ∙ append-nil s.ledger.changes) ∙ adds)

  brought_back : (event : Event) (row : Row) → (step s event).1.ledger.changes ≡ s.ledger.changes ++ Added row ∷ [] → Bringer s event
  brought_back (Datagram at who bytes) row adds = record {
    now = at;
    caller = sender s who bytes;
    content = bytes;
    brings = (refl, refl, refl);
    asks = asked_for _ _ _ row (outcome-effect (context_in (at_moment at s) (sender s who bytes)) (message_of bytes) (arguments_of bytes) s.ledger)
        (ap (λ (l : Ledger). l.changes) (sym (step-ledger s (Datagram at who bytes))) ∙ adds);
  }
  brought_back (Bytes at k piece) row adds = by_brought (what_it_brings s at k piece)
    where
      by_brought : Bringing s at k piece → Bringer s (Bytes at k piece)
      by_brought (Keeps other same) = absurd (not_longer s.ledger.changes (Added row) (sym same ∙ adds))
      by_brought (EndsOne c fed n there feeds some out ledger) = record {
        now = at;
        caller = Tcp k c.who;
        content = data_of (take n (fed ++ piece));
        brings = (refl, record { connection = c; live = there; fed = fed; takes = feeds; n = n; ends = some; caller_is = refl; content_is = refl });
        asks = asked_for _ _ _ row (record_effect s at k piece c (take n (fed ++ piece))) (ap (λ (l : Ledger). l.changes) (sym ledger) ∙ adds);
      }
  brought_back (Open at who) row adds = absurd (none_adds (Open at who) row refl adds)
  brought_back (Pending k) row adds = absurd (none_adds (Pending k) row refl adds)
  brought_back (Gave at k n) row adds = absurd (none_adds (Gave at k n) row refl adds)
  brought_back (Closed k) row adds = absurd (none_adds (Closed k) row refl adds)
  brought_back NextLost row adds = absurd (none_adds NextLost row refl adds)
  brought_back Unsent row adds = absurd (none_adds Unsent row refl adds)
  brought_back (Sent number) row adds = absurd (none_adds (Sent number) row refl adds)
  brought_back (Forward at from message) row adds = absurd (none_adds (Forward at from message) row refl adds)
  brought_back (Expire at) row adds = absurd (none_adds (Expire at) row refl adds)
  brought_back ZeroStats row adds = absurd (none_adds ZeroStats row refl adds)

-- ---- both ways

module _ (s : State) (reached : IsReached s) (id : ℕ) (c : Connection) (there : IsLive s id c) where
  some_is : {A : Type 0} (x y : A) → Some x ≡ Some y → x ≡ y
  some_is x y e = cc

  none-there : ◌≡◌ {A = Option Connection} None (Some c) → ⊥
  none-there e = cc

  none-fed : {fed : List ℕ} → ◌≡◌ {A = Option (List ℕ)} None (Some fed) → ⊥
  none-fed e = cc

  none-first : {n : ℕ} → ◌≡◌ {A = Option ℕ} None (Some n) → ⊥
  none-first e = cc

  -- the record that came was no call
  no_call_shown : (at : ℕ) (piece fed : List ℕ) (n : ℕ) → fed_in c.phase ≡ Some fed → first_record (fed ++ piece) ≡ Some n → message_of (data_of (take n (fed ++ piece))) ≡ says.NoCall
      → Arriving s at id piece (bytes s at id piece) → (m : ℕ) × ((step s (Bytes at id piece)).0 ≡ TookAndLost m)
  unfolding step
  no_call_shown at piece fed n takes ends no_call (NotThere gone is) = absurd (none-there (sym gone ∙ there))
  no_call_shown at piece fed n takes ends no_call (NotTaken d here (inl none) is) =
      absurd (none-fed (sym none ∙ ap (λ (x : Connection). fed_in x.phase) (same_Some d c (sym here ∙ there)) ∙ takes))
  no_call_shown at piece fed n takes ends no_call (NotTaken d here (inr empty) is) =
      let none : first_record fed ≡ None = fed-none c.phase (live-sound s reached id c there) fed takes in
      absurd (none-first (sym none ∙ ap first_record (sym (ap (λ (xs : List ℕ). fed ++ xs) empty ∙ append-nil fed)) ∙ ends))
  no_call_shown at piece fed n takes ends no_call (ReadOn d other here feeds none is) =
      let same : other ≡ fed = some_is other fed (sym feeds ∙ ap (λ (x : Connection). fed_in x.phase) (same_Some d c (sym here ∙ there)) ∙ takes) in
      absurd (none-first (sym none ∙ ap (λ (xs : List ℕ). first_record (xs ++ piece)) same ∙ ends))
  no_call_shown at piece fed n takes ends no_call (Ended d other m here feeds some is) =
      let who : d ≡ c = same_Some d c (sym here ∙ there) in
      let same : other ≡ fed = some_is other fed (sym feeds ∙ ap (λ (x : Connection). fed_in x.phase) who ∙ takes) in
      let count : m ≡ n = some_is m n (sym some ∙ ap (λ (xs : List ℕ). first_record (xs ++ piece)) same ∙ ends) in
      let bytes_are : take m (other ++ piece) ≡ take n (fed ++ piece) = ap (λ (k : ℕ). take k (other ++ piece)) count ∙ ap (λ (xs : List ℕ). take n (xs ++ piece)) same in
      let said : said_in s at id d (take m (other ++ piece)) ≡ outcomes.NoCall =
      ap (λ (xs : List ℕ). said_in s at id d xs) bytes_are ∙ none-said s at id d (take n (fed ++ piece)) no_call in
      (m - length other, ap (λ (x : Result Taken CoreFault × State). (output_or show_taken x).0) is ∙ ap (λ (o : Outcome). show_taken (record { count = m - length other; lost = is_no_call o })) said)

  -- the same event with its output and what had passed
  module _ (event : Event) (t u : ℕ → Session) where
    abbrev next : State
    next = (step s event).1

    no_call_told : EndsRecord id c event → BringsNoCall s t event (step s event).0 next u id
    no_call_told e =
        let shown = subst (λ (x : Event). (m : ℕ) × ((step s x).0 ≡ TookAndLost m)) (sym e.is) (no_call_shown e.now e.piece e.fed e.n e.takes e.ends e.no_call (arriving s e.now id e.piece)) in
        record { now = e.now; piece = e.piece; n = shown.0; is = e.is; told = shown.1 }

    told_no_call : BringsNoCall s t event (step s event).0 next u id → EndsRecord id c event
    told_no_call e = by_brought (what_it_brings s e.now id e.piece)
      where
        told : (step s (Bytes e.now id e.piece)).0 ≡ TookAndLost e.n
        told = ap (λ (x : Event). (step s x).0) (sym e.is) ∙ e.told

        by_brought : Bringing s e.now id e.piece → EndsRecord id c event
        by_brought (Keeps other same) = absurd (other e.n told)
        by_brought (EndsOne d fed n here feeds some out ledger) =
            let who : d ≡ c = same_Some d c (sym here ∙ there) in
            let said = lost_shown (n - length fed) (said_in s e.now id d (take n (fed ++ e.piece))) e.n (sym out ∙ told) in
            record {
              now = e.now;
              piece = e.piece;
              is = e.is;
              fed = fed;
              takes = ap (λ (x : Connection). fed_in x.phase) (sym who) ∙ feeds;
              n = n;
              ends = some;
              no_call = said-none s e.now id d (take n (fed ++ e.piece)) said;
            }

    way_told : GivesWay s c event → MakesRoom s t event (step s event).0 next u c
    way_told e =
        let (row, adds) = adds_by s reached event e.now e.caller e.content e.brings e.asks in
        record { row = row; adds = adds; full = e.full; stamp = e.stamp; lists = e.lists; before = e.before }

    told_way : MakesRoom s t event (step s event).0 next u c → GivesWay s c event
    told_way e =
        let b : Bringer s event = brought_back s event e.row e.adds in
        record { now = b.now; caller = b.caller; content = b.content; brings = b.brings; asks = b.asks; full = e.full; stamp = e.stamp; lists = e.lists; before = e.before }

    pub lost_as_said : IsLost next id ↔ (BringsNoCall s t event (step s event).0 next u id ⊎ EndsAtDeadline s id c event ⊎ MakesRoom s t event (step s event).0 next u c)
    lost_as_said =
        let closes : ClosesExactly s event id c = connections_close_exactly s reached event id c there in
        (λ is. forth (closes.lost.0 is), λ why. closes.lost.1 (back why))
      where
        forth : EndsRecord id c event ⊎ EndsAtDeadline s id c event ⊎ GivesWay s c event → BringsNoCall s t event (step s event).0 next u id ⊎ EndsAtDeadline s id c event ⊎ MakesRoom s t event (step s event).0 next u c
        forth (inl e) = inl (no_call_told e)
        forth (inr (inl e)) = inr (inl e)
        forth (inr (inr e)) = inr (inr (way_told e))

        back : BringsNoCall s t event (step s event).0 next u id ⊎ EndsAtDeadline s id c event ⊎ MakesRoom s t event (step s event).0 next u c → EndsRecord id c event ⊎ EndsAtDeadline s id c event ⊎ GivesWay s c event
        back (inl e) = inl (told_no_call e)
        back (inr (inl e)) = inr (inl e)
        back (inr (inr e)) = inr (inr (told_way e))
