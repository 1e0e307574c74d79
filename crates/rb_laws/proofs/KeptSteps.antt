-- In each state that a run reaches, the live rows and the retained ones are together no more than there may be.
use Rattle.std.specs.Prelude.{take, ⊤}
use Rattle.std.specs.List.{list_any}
use Rattle.std.proofs.Common.{◌≡◌, ◌≤◌, ◌<◌, ℕ, ◌+◌, max, Bool, true, false, cond, nat_lt, eqb, Option, Some, None, Result, Ok, Err, List, [], ◌∷◌, ◌++◌, length, map, refl, sym, ap, subst, ◌∙◌, append-nil, arith}
use Rattle.std.proofs.lemmas.Bool.{ltb-true, ltb-false}
use Rattle.std.proofs.lemmas.Grind.{common_steps}
use Rattle.rb_rpc.specs.declared.call.CallHead.{CallHead}
use Rattle.rb_address.specs.declared.who.Who.{Who}
use Rattle.rb_address.specs.declared.caller.Caller.{Caller}
use Rattle.rb_address.specs.declared.caller.Caller.TheVariants.{Tcp}
use Rattle.rb_rpc.specs.Records.{data_of}
use Rattle.rb_rpc.specs.Feeds.{arguments_of}
use Rattle.rb_registry.specs.declared.row.Row.{Row}
use Rattle.rb_registry.specs.declared.row.Which.{Which}
use Rattle.rb_address.specs.declared.who.Owner.{Owner}
use Rattle.rb_registry.specs.Rows.Change.{Added, Removed}
use Rattle.rb_registry.specs.Rows.{Change}
use Rattle.rb_stats.specs.Statistics.Note.{WasSet, WasUnset}
use Rattle.rb_arguments.specs.declared.kind.Kind.{Kind}
use Rattle.rb_forward.specs.declared.types.Ended.{Ended as EntryEnd}
use Rattle.rb_forward.specs.Forwards.{can_be_sent}
use Rattle.rb_answers.specs.declared.context.Context.{Context}
use Rattle.rb_arguments.specs.declared.mapping.Mapping.{Mapping}
use Rattle.rb_arguments.specs.declared.procedure.MappingProcedure.TheVariants as mappings
use Rattle.rb_arguments.specs.declared.procedure.RpcbProcedure.TheVariants as rpcbs
use Rattle.rb_arguments.specs.declared.remote.RemoteCall.{RemoteCall}
use Rattle.rb_arguments.specs.declared.request.Request.{Request}
use Rattle.rb_arguments.specs.declared.request.Request.TheVariants as requests
use Rattle.rb_answers.specs.Answers.{owner_in, accepts, accepts_row, accepts_removal, adds, adds_row, row_asked, row_to_set, removal_of, change_if, set_row, unset_rows, getport, getaddr, getversaddr, answer_to, answer}
use Rattle.rb_answers.specs.Callers.{own_rows}
use Rattle.rb_answers.specs.declared.listener.Listener.{Listener}
use Rattle.rb_answers.specs.Forwarding.{forward_call, target_replied, fell_due, caller_dropped, call_sent}
use Rattle.rb_answers.specs.Ledger.{Ledger, rows_in, version_of, with_call_noted}
use Rattle.rb_model.specs.declared.message.Message.{Message}
use Rattle.rb_model.specs.declared.message.Message.TheVariants as says
use Rattle.rb_model.specs.declared.types.Limits.{Limits}
use Rattle.rb_model.specs.declared.types.CoreFault.{CoreFault}
use Rattle.rb_model.specs.declared.types.CoreFault.TheVariants.{Gone}
use Rattle.rb_model.specs.declared.types.Told.{Told}
use Rattle.rb_model.specs.Calls.{Outcome, message_of, outcome}
use Rattle.rb_model.specs.Calls.Outcome.{NoCall, Reply, Forwarded, Silent}
use Rattle.rb_model.specs.State.{Setting, State, opening, Connection, Connections, at_moment}
use Rattle.rb_model.specs.Connections.{change_first, is_live, live_connection, with_given, give, keep_reading, settle, on_found, number_for, opening_as, open_in_table, is_there, without_number, close_in_table}
use Rattle.rb_model.specs.Losses.{asks_room, list_stamps, removals_in_the_way, evict_early, is_needed_for, needed_removals, lose, removals_by, expire_first}
use Rattle.rb_model.specs.Ending.{outcome_at_end, tell_end, at_fresh_moment, expire_connection, expired_as, forward_reply, expire}
use Rattle.rb_model.specs.Step.{sender, Event, Output, context_in, serve, bytes, pending, gave, is_too_much, unless_refused, open_connection, dropped_with, close_connection, with_reply, datagram, sent_call, output_or, show_taken, show_done, show_outcome, show_end, show_expired, step, after, IsReached, zero_stats}
use Rattle.rb_model.specs.declared.types.Taken.{Taken}
use Rattle.rb_model.specs.Step.Event.{Open, Bytes, Pending, Gave, Closed, NextLost, Datagram, Unsent, Sent, Forward, Expire, ZeroStats}
use Rattle.rb_model.specs.Step.Output.{Opened, TooMuch, IsPending}
use Rattle.rb_laws.proofs.Closings.{asks-within}
use Rattle.rb_laws.proofs.Crowding.{none_evicted, not_crowded, crowded}
use Rattle.rb_laws.proofs.EntriesKept.{after-setting}
use Rattle.rb_laws.proofs.Happenings.{Arriving, arriving}
use Rattle.rb_laws.proofs.Happenings.Arriving.{NotThere, NotTaken, ReadOn, Ended}
use Rattle.rb_laws.proofs.KeptRows.{retained_by, KeepsLess, KeepsNoMore, same-kept, changed-kept, mapped-kept, filtered-kept, total, total-parts, total-is, total-more, Least, least-of, none-keep, one-fewer}

-- ---- what a call leaves behind

-- its changes as they were, or one more: a row is added only if the call asks for room
data Effect (asks : Bool) (l new : Ledger) : Type 0 where
  Same : new.own ≡ l.own → new.changes ≡ l.changes → Effect asks l new
  Set : (row : Row) → asks ≡ true → new.own ≡ l.own → new.changes ≡ l.changes ++ Added row ∷ [] → Effect asks l new
  Unset : (prog vers : ℕ) (which : Which) (owner : Owner) → new.own ≡ l.own → new.changes ≡ l.changes ++ Removed prog vers which owner ∷ [] → Effect asks l new

set-effect : (context : Context) (head : CallHead) (o : Option Row) (l : Ledger) → Effect (adds context (rows_in l) (length l.changes) o) l (set_row context head o l).1
unfolding set_row accepts_row
set-effect context head None l = Same refl refl
set-effect context head (Some row) l = by_test (accepts context (rows_in l) (length l.changes) row)
  where
    by_test : (b : Bool) → Effect b l (change_if b (Added row) (WasSet (version_of head.vers)) l).1
    by_test true = Set row refl refl refl
    by_test false = Same refl refl

unset-effect : (context : Context) (head : CallHead) (prog vers : ℕ) (o : Option Which) (l : Ledger) → Effect false l (unset_rows context head prog vers o l).1
unfolding unset_rows
unset-effect context head prog vers None l = Same refl refl
unset-effect context head prog vers (Some which) l = by_test (accepts_removal context l (removal_of context head prog vers which))
  where
    by_test : (b : Bool) → Effect false l (change_if b (removal_of context head prog vers which) (WasUnset (version_of head.vers)) l).1
    by_test true = Unset prog vers which (owner_in context head) refl refl
    by_test false = Same refl refl

getport-effect : (context : Context) (head : CallHead) (m : Mapping) (l : Ledger) → Effect false l (getport context head m l).1
unfolding getport
getport-effect context head m l = grind arith

forward-effect : (context : Context) (xid : ℕ) (kind : Kind) (remote : RemoteCall) (arguments : List ℕ) (l : Ledger) → Effect false l (forward_call context xid kind remote arguments l).1
unfolding forward_call
forward-effect context xid kind remote arguments l = grind arith

answer-effect : (context : Context) (head : CallHead) (request : Request) (arguments : List ℕ) (l : Ledger)
    → Effect (adds context (rows_in l) (length l.changes) (row_asked context head request)) l (answer_to context head request arguments l).1
unfolding getaddr getversaddr
answer-effect context head (requests.Mapping mappings.Set m) arguments l = set-effect context head _ l
answer-effect context head (requests.Mapping mappings.Unset m) arguments l = unset-effect context head m.prog m.vers _ l
answer-effect context head (requests.Mapping mappings.Getport m) arguments l = getport-effect context head m l
answer-effect context head (requests.Rpcb rpcbs.Set r) arguments l = set-effect context head _ l
answer-effect context head (requests.Rpcb rpcbs.Unset r) arguments l = unset-effect context head r.prog r.vers _ l
answer-effect context head (requests.Rpcb rpcbs.Getaddr r) arguments l = Same refl refl
answer-effect context head (requests.Rpcb rpcbs.Getversaddr r) arguments l = Same refl refl
answer-effect context head (requests.Rpcb rpcbs.Getaddrlist r) arguments l = Same refl refl
answer-effect context head (requests.Void procedure) arguments l = Same refl refl
answer-effect context head (requests.Uaddr2taddr text) arguments l = Same refl refl
answer-effect context head (requests.Taddr2uaddr netbuf) arguments l = Same refl refl
answer-effect context head (requests.Forward kind remote) arguments l = forward-effect context head.xid kind remote arguments l

outcome-effect : (context : Context) (message : Message) (arguments : List ℕ) (l : Ledger) → Effect (asks_room context message l) l (outcome context message arguments l).1
unfolding outcome answer with_call_noted adds_row row_to_set
outcome-effect context says.NoCall arguments l = Same refl refl
outcome-effect context (says.Refused head) arguments l = Same refl refl
outcome-effect context (says.Garbage head) arguments l = Same refl refl
outcome-effect context (says.Asked call) arguments l =
    by_effect (answer_to context call.head call.request arguments (with_call_noted call.head l)).1 (answer-effect context call.head call.request arguments (with_call_noted call.head l))
  where
    by_effect : (new : Ledger) → Effect (adds context (rows_in l) (length l.changes) (row_asked context call.head call.request)) (with_call_noted call.head l) new
        → Effect (adds context (rows_in l) (length l.changes) (row_asked context call.head call.request)) l new
    by_effect new (Same own same) = Same own same
    by_effect new (Set row asks own same) = Set row asks own same
    by_effect new (Unset prog vers which owner own same) = Unset prog vers which owner own same

-- ---- a list begins after all changes

abbrev IsStamped : ℕ → Outcome → Type 0
IsStamped n (Reply reply (Some began)) = began ≡ n
IsStamped n (Reply reply None) = ⊤
IsStamped n NoCall = ⊤
IsStamped n Forwarded = ⊤
IsStamped n Silent = ⊤

outcome-stamped : (context : Context) (message : Message) (arguments : List ℕ) (l : Ledger)
    → IsStamped (length (outcome context message arguments l).1.changes) (outcome context message arguments l).0
unfolding outcome
outcome-stamped context message arguments l = grind arith

ended-stamped : (n : ℕ) (message : List ℕ) (ended : EntryEnd) → IsStamped n (outcome_at_end message ended)
ended-stamped n message ended = grind arith

-- ---- what a connection keeps after it

reading-keeps : (most clock : ℕ) (fed : List ℕ) → KeepsNoMore most (keep_reading clock fed)
unfolding keep_reading
reading-keeps most clock fed change few c is = absurd cc

lost-keeps : (most : ℕ) → KeepsNoMore most lose
lost-keeps most change few c is = absurd cc

settled-keeps : (n clock : ℕ) (said : Outcome) → IsStamped n said → KeepsNoMore n (settle clock said)
unfolding settle
settled-keeps n clock said stamped change few c is = grind arith

giving-keeps : (most clock n : ℕ) → KeepsNoMore most (λ c. (give clock n c).1)
unfolding give with_given
giving-keeps most clock n change few c is = grind arith

evicted-keeps : (most : ℕ) (changes : List ℕ) → KeepsNoMore most (evict_early changes)
unfolding evict_early
evicted-keeps most changes change few c is = grind arith

-- ---- a call is answered, once there is room for what it adds

module _ (context : Context) (message : Message) (all : List Connection) (l : Ledger) (fits : total all l.own l.changes ≤ context.limit) where
  abbrev left : List Connection
  left = map (evict_early (removals_in_the_way context message all l)) all

  -- if those connections are evicted whose lists are in the way
  evicted-fits : (change : ℕ) (changes : List ℕ) → needed_removals all l ≡ change ∷ changes → total (map (evict_early (change ∷ changes)) all) l.own l.changes < context.limit
  unfolding needed_removals
  evicted-fits change changes is =
      let now : List Connection = map (evict_early (change ∷ changes)) all in
      let least : Least (change ∷ changes) = least-of change changes in
      let also : (n : ℕ) → is_needed_for (list_stamps now) n ≡ true → is_needed_for (list_stamps all) n ≡ true = grind (arith, common_steps, retained_by, mapped-kept, evicted-keeps) in
      let out : is_needed_for (list_stamps now) least.value ≡ false = retained_by least.value now ∙ none-keep change changes least.value least.low all in
      let there : list_any (λ n. eqb n least.value) (needed_removals all l) ≡ true = ap (λ (xs : List ℕ). list_any (λ n. eqb n least.value) xs) is ∙ least.there in
      let fewer = one-fewer (is_needed_for (list_stamps now)) (is_needed_for (list_stamps all)) also least.value out (removals_by l) there in
      omega (arith, fits, fewer, total-is all l, total-is now l)

  made-room : asks_room context message l ≡ true → total left l.own l.changes < context.limit
  made-room asks = by_room (nat_lt (length (rows_in l) + length (needed_removals all l)) context.limit) refl
    where
      left-is : (changes : List ℕ) → removals_in_the_way context message all l ≡ changes → total left l.own l.changes ≡ total (map (evict_early changes) all) l.own l.changes
      left-is changes is = ap (λ (xs : List ℕ). total (map (evict_early xs) all) l.own l.changes) is

      by_kept : (changes : List ℕ) → needed_removals all l ≡ changes → context.limit ≤ length (rows_in l) + length (needed_removals all l) → total left l.own l.changes < context.limit
      by_kept [] is full = absurd (omega (arith, full, asks-within context message l asks, ap (λ (xs : List ℕ). length xs) is))
      by_kept (change ∷ changes) is full =
          omega (arith, left-is (change ∷ changes) (crowded context message all l asks full ∙ is), evicted-fits change changes is)

      by_room : (b : Bool) → nat_lt (length (rows_in l) + length (needed_removals all l)) context.limit ≡ b → total left l.own l.changes < context.limit
      by_room true t =
          let room = ltb-true _ _ t in
          let none = left-is [] (not_crowded context message all l room) in
          let same : total (map (evict_early []) all) l.own l.changes ≡ total all l.own l.changes =
          ap (λ (c : Connections). total c.all l.own l.changes) (none_evicted (record { next = 0; all = all })) in
          omega (arith, room, none, same, total-is all l)
      by_room false t = by_kept (needed_removals all l) refl (ltb-false _ _ t)

  served-fits : (new : Ledger) → Effect (asks_room context message l) l new → total left new.own new.changes ≤ context.limit
  served-fits new (Same own same) =
      let less : KeepsLess (length l.changes) left all = mapped-kept (length l.changes) _ (evicted-keeps (length l.changes) _) all in
      let more = total-more (length l.changes) left all less [] l.own l.changes new.changes (omega arith) (same ∙ sym (append-nil l.changes)) in
      omega (arith, fits, more, ap (λ (rows : List Row). total left rows new.changes) own)
  served-fits new (Set row asks own same) =
      let more = total-more (length l.changes) left left (same-kept (length l.changes) left) (Added row ∷ []) l.own l.changes new.changes (omega arith) same in
      omega (arith, made-room asks, more, ap (λ (rows : List Row). total left rows new.changes) own)
  served-fits new (Unset prog vers which owner own same) =
      let less : KeepsLess (length l.changes) left all = mapped-kept (length l.changes) _ (evicted-keeps (length l.changes) _) all in
      let more = total-more (length l.changes) left all less (Removed prog vers which owner ∷ []) l.own l.changes new.changes (omega arith) same in
      omega (arith, fits, more, ap (λ (rows : List Row). total left rows new.changes) own)

-- ---- events

abbrev pub Fits : State → Type 0
Fits s = total s.connections.all s.ledger.own s.ledger.changes ≤ s.setting.limits.rows

-- no connection keeps more
kept-fits : (s : State) → Fits s → (all : List Connection) → KeepsLess (length s.ledger.changes) all s.connections.all → total all s.ledger.own s.ledger.changes ≤ s.setting.limits.rows
kept-fits s fits all less =
    let more = total-more (length s.ledger.changes) all s.connections.all less [] s.ledger.own s.ledger.changes s.ledger.changes (omega arith) (sym (append-nil s.ledger.changes)) in
    omega (arith, fits, more)

-- so on one connection alone
one-fits : (s : State) → Fits s → (id : ℕ) (f : Connection → Connection) → KeepsNoMore (length s.ledger.changes) f → total (change_first (is_live id) f s.connections.all) s.ledger.own s.ledger.changes ≤ s.setting.limits.rows
one-fits s fits id f no_more = kept-fits s fits (change_first (is_live id) f s.connections.all) (changed-kept (length s.ledger.changes) (is_live id) f no_more s.connections.all)

same-rows : (all : List Connection) (l k : Ledger) → l.own ≡ k.own → l.changes ≡ k.changes → total all l.own l.changes ≡ total all k.own k.changes
same-rows all l k own changes = ap (λ (rows : List Row). total all rows l.changes) own ∙ ap (λ (cs : List Change). total all k.own cs) changes

module _ (s : State) (fits : Fits s) where
  serve-fits : (now : ℕ) (caller : Caller) (content : List ℕ) → Fits (serve (at_moment now s) caller content).1
  unfolding serve
  serve-fits now caller content =
      served-fits (context_in (at_moment now s) caller) (message_of content) s.connections.all s.ledger fits _
      (outcome-effect (context_in (at_moment now s) caller) (message_of content) (arguments_of content) s.ledger)

  serve-stamped : (now : ℕ) (caller : Caller) (content : List ℕ)
      → IsStamped (length (serve (at_moment now s) caller content).1.ledger.changes) (serve (at_moment now s) caller content).0
  unfolding serve
  serve-stamped now caller content = outcome-stamped (context_in (at_moment now s) caller) (message_of content) (arguments_of content) s.ledger

  output-fits : {A : Type 0} (show : A → Output) (r : Result A CoreFault) (u : State) → Fits u → Fits (output_or show (r, u)).1
  output-fits show r u f = grind arith

  bytes-fit : (now id : ℕ) (piece : List ℕ) (r : Result Taken CoreFault × State) → Arriving s now id piece r → Fits (output_or show_taken r).1
  bytes-fit now id piece r (NotThere none is) = rw is fits
  bytes-fit now id piece r (NotTaken c there why is) = rw is fits
  bytes-fit now id piece r (ReadOn c fed there feeds none is) =
      rw is (one-fits s fits id (keep_reading (max s.clock now) (fed ++ piece)) (reading-keeps (length s.ledger.changes) (max s.clock now) (fed ++ piece)))
  bytes-fit now id piece r (Ended c fed n there feeds some is) =
      let content : List ℕ = data_of (take n (fed ++ piece)) in
      let u : Outcome × State = serve (at_moment now s) (Tcp id c.who) content in
      rw is (one-fits u.1 (serve-fits now (Tcp id c.who) content) id (settle (max s.clock now) u.0) (settled-keeps (length u.1.ledger.changes) (max s.clock now) u.0 (serve-stamped now (Tcp id c.who) content)))

  gave-fits : (now id n : ℕ) (o : Option Connection) → Fits (output_or show_done (unless_refused now s (on_found id (give (max s.clock now) n) s.connections o))).1
  gave-fits now id n o = grind (arith, common_steps, one-fits, giving-keeps)

  opened-fits : (now : ℕ) (who : Who) (r : Result ℕ CoreFault) → Fits (output_or Opened (unless_refused now s (opening_as who (max s.clock now) s.connections r))).1
  opened-fits now who r = grind (arith, common_steps)

  closed-fits : (id : ℕ) (b : Bool) → Fits (output_or show_done (dropped_with s id (cond b (Ok tt, without_number id s.connections) (Err Gone, s.connections)))).1
  unfolding without_number caller_dropped
  closed-fits id b = grind (arith, common_steps, kept-fits, filtered-kept)

  sent-fits : (number : ℕ) (b : Bool) → Fits (output_or show_done (cond b (Ok tt, record s { ledger = call_sent number s.ledger }) (Err Gone, s))).1
  unfolding call_sent
  sent-fits number b = grind arith

  outcome-fits : (r : Outcome × State) → Fits r.1 → Fits (show_outcome (with_reply r)).1
  outcome-fits r f = grind arith

  either-fits : (b : Bool) (x y : Output × State) → Fits x.1 → Fits y.1 → Fits (cond b x y).1
  either-fits b x y one other = grind arith

  -- an end of an entry leaves a note alone
  told-fits : (now : ℕ) (message : List ℕ) (r : Option EntryEnd × Ledger) → r.1.own ≡ s.ledger.own → r.1.changes ≡ s.ledger.changes → Fits (tell_end message (at_fresh_moment now s) r).1
  told-fits now message r own changes = grind (arith, common_steps, same-rows, one-fits, settled-keeps, ended-stamped)

  end-fits : (r : Option Told × State) → Fits r.1 → Fits (show_end r).1
  end-fits r f = grind arith

  expired-fits : (r : Option Told × State) → Fits r.1 → Fits (show_expired (expired_as r)).1
  unfolding expire_connection expire_first
  expired-fits r f = grind (arith, common_steps, one-fits, lost-keeps)

  step-fits : (event : Event) → Fits (step s event).1
  unfolding step open_connection open_in_table gave close_connection close_in_table datagram sent_call forward_reply expire target_replied fell_due zero_stats
  step-fits (Open now who) = opened-fits now who (number_for s.setting.limits.conns s.connections)
  step-fits (Bytes now id piece) = bytes-fit now id piece (bytes s now id piece) (arriving s now id piece)
  step-fits (Pending id) = output-fits IsPending (pending s id) s fits
  step-fits (Gave now id n) = either-fits (is_too_much n (pending s id)) (TooMuch, s) (output_or show_done (gave s now id n)) fits (gave-fits now id n (live_connection id s.connections.all))
  step-fits (Closed id) = closed-fits id (is_there id s.connections)
  step-fits NextLost = fits
  step-fits (Datagram now who content) = outcome-fits (serve (at_moment now s) (sender s who content) content) (serve-fits now (sender s who content) content)
  step-fits Unsent = fits
  step-fits (Sent number) = sent-fits number (can_be_sent number s.ledger.forwards)
  step-fits (Forward now from message) = end-fits _ (told-fits now message (target_replied s.setting.first_xid (max s.clock now) from message s.ledger) refl refl)
  step-fits (Expire now) = expired-fits _ (told-fits now [] (fell_due (max s.clock now) s.ledger) refl refl)
  step-fits ZeroStats = fits

after-fits : (s : State) (events : List Event) → Fits s → Fits (after s events)
after-fits s [] fits = fits
after-fits s (event ∷ events) fits = after-fits (step s event).1 events (step-fits s fits event)

opening-fits : (limits : Limits) (listener : Listener) (first_xid now : ℕ) → length (own_rows listener) ≤ limits.rows → Fits (opening limits listener first_xid now)
opening-fits limits listener first_xid now few = omega (arith, few, total-parts [] (own_rows listener) [])

pub reached-fits : (s : State) → IsReached s → length (own_rows s.setting.listener) ≤ s.setting.limits.rows → Fits s
reached-fits s r few =
    let start : State = opening r.limits r.listener r.first_xid r.now in
    let setting : s.setting ≡ start.setting = ap (λ (t : State). t.setting) r.is ∙ after-setting start r.events in
    let few_own = subst (λ (x : Setting). length (own_rows x.listener) ≤ x.limits.rows) setting few in
    subst Fits (sym r.is) (after-fits start r.events (opening-fits r.limits r.listener r.first_xid r.now few_own))
