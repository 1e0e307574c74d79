-- While a connection is Awaiting, one entry is of it, and no other connection has one.
use Rattle.std.specs.Prelude.{find, map, option_map, ◌&&◌}
use Rattle.std.specs.List.{list_any, sum_by}
use Rattle.std.proofs.Common.{◌≡◌, ◌≤◌, ℕ, ◌+◌, max, Bool, true, false, cond, eqb, Option, Some, None, Result, Ok, Err, List, [], ◌∷◌, ◌++◌, length, take, refl, sym, ap, subst, ◌∙◌, arith}
use Rattle.std.proofs.lemmas.List.Sums.{sum_by_push}
use Rattle.std.proofs.lemmas.Bool.{eqb-true, eq-eqb}
use Rattle.std.proofs.lemmas.Grind.{common_steps}
use Rattle.rb_address.specs.declared.peer.Peer.{Peer}
use Rattle.rb_address.specs.declared.who.Who.{Who}
use Rattle.rb_address.specs.declared.caller.Caller.{Caller}
use Rattle.rb_address.specs.declared.caller.Caller.TheVariants.{Tcp, Udp}
use Rattle.rb_rpc.specs.Records.{data_of}
use Rattle.rb_forward.specs.declared.types.Forward.{Forward as Asked}
use Rattle.rb_forward.specs.declared.types.ForwardEnd as target
use Rattle.rb_forward.specs.declared.types.Ended.{Ended as EntryEnd}
use Rattle.rb_forward.specs.Forwards.{Entry, Forwards, is_connection, is_of_connection, is_unsent, as_sent, change_first as change_entry, sent, can_be_sent, next_entry, with_next_entry, without_first, ended_by, with_end, counts_for, is_due, outcome_of, reply, drop_caller}
use Rattle.rb_forward.specs.declared.types.ForwardEnd.TheVariants.{Failed}
use Rattle.rb_forward.proofs.Tables.{all_stay, sum-without}
use Rattle.rb_answers.specs.declared.listener.Listener.{Listener}
use Rattle.rb_answers.specs.declared.context.Context.{Context}
use Rattle.rb_answers.specs.Ledger.{Ledger}
use Rattle.rb_answers.specs.Forwarding.{target_replied, caller_dropped, call_sent}
use Rattle.rb_model.specs.declared.types.CoreFault.{CoreFault}
use Rattle.rb_model.specs.declared.types.CoreFault.TheVariants.{Gone}
use Rattle.rb_model.specs.declared.types.Limits.{Limits}
use Rattle.rb_model.specs.declared.types.Told.{Told}
use Rattle.rb_model.specs.Calls.{Outcome, is_no_call}
use Rattle.rb_model.specs.Calls.Outcome.{NoCall, Reply, Forwarded, Silent}
use Rattle.rb_model.specs.State.{State, Phase, Connection, Connections, at_moment, opening}
use Rattle.rb_model.specs.State.Phase.{Awaiting}
use Rattle.rb_model.specs.Laws.{is_awaiting}
use Rattle.rb_model.specs.Connections.{is_live, live_connection, fed_in, with_given, give, keep_reading, settle, change_first, changed_at, on_found, is_there, without_number, close_in_table, opening_as, open_in_table, number_for, on_connection}
use Rattle.rb_model.specs.Ending.{outcome_at_end, tell, tell_end, at_fresh_moment, forward_reply, expire}
use Rattle.rb_model.specs.Step.{longest_to, sender, Event, Output, context_in, serve, bytes, unless_refused, gave, is_too_much, pending, pending_on, open_connection, dropped_with, close_connection, sent_call, with_reply, datagram, output_or, show_taken, show_done, show_outcome, show_end, show_expired, step, after, IsReached, zero_stats}
use Rattle.rb_model.specs.declared.types.Taken.{Taken}
use Rattle.rb_model.specs.Step.Event.{Open, Bytes, Pending, Gave, Closed, NextLost, Datagram, Unsent, Sent, Forward, Expire, ZeroStats}
use Rattle.rb_model.specs.Step.Output.{Opened, TooMuch, IsPending}
use Rattle.rb_model.specs.Sessions.{IsFinal}
use Rattle.rb_model.specs.ForwardLaws.{count_awaiting, ConnectionsAwait}
use Rattle.rb_model.specs.declared.types.Expired.{Expired}
use Rattle.rb_model.specs.Losses.{is_due as due_connection, lose, stamp_in, began_before, evict_early, evict}
use Rattle.rb_model.proofs.Expiring.{due-one, due-awaits-none}
use Rattle.rb_laws.proofs.FewDue.{live-found}
use Rattle.rb_laws.proofs.DueThings.{end_of, Expiry, expiry}
use Rattle.rb_laws.proofs.DueThings.Expiry.{EntryEnds, ConnectionEnds, NothingDue}
use Rattle.rb_laws.proofs.Closings.{sound-apart}
use Rattle.rb_laws.proofs.Crowds.{plain_lives, stays_dead}
use Rattle.rb_laws.proofs.Cuts.{IsFeeding, number-is, find-changed, find-holds, reading-feeds}
use Rattle.rb_laws.proofs.Entering.{is_forwarded, Entering, serve-enters}
use Rattle.rb_laws.proofs.Happenings.{Arriving, arriving, said_in, answered_in, crowd_at, told-final, has_entry}
use Rattle.rb_laws.proofs.Happenings.Arriving.{NotThere, NotTaken, ReadOn, Ended}
use Rattle.rb_laws.proofs.Live.{without, changed-other, closed-other, find-before, none-above, closed-gone, lost-gone, timed-out-gone, answering-feeds, giving-feeds}
use Rattle.rb_laws.proofs.Reached.{AreSound, SoundIn, IsSound, mapped, settled-keeps, giving-keeps, evicted-keeps, step-sound}

-- ---- counts

abbrev one_at : ℕ → Entry → ℕ
one_at id e = cond (is_of_connection id e) 1 0

abbrev pub present : ℕ → Forwards → ℕ
present id f = sum_by (one_at id) f.all

abbrev pub awaits : ℕ → List Connection → ℕ
awaits id all = count_awaiting (live_connection id all)

abbrev pub AwaitIn : Forwards → Connections → Type 0
AwaitIn f c = (id : ℕ) → present id f ≡ awaits id c.all

abbrev pub Await : State → Type 0
Await s = AwaitIn s.ledger.forwards s.connections

abbrev pub if_one : Bool → ℕ
if_one b = cond b 1 0

-- an entry that begins
pushed : (id clock : ℕ) (forward : Asked) (args : List ℕ) (f : Forwards) → present id (with_next_entry clock forward args f) ≡ present id f + if_one (is_connection id forward.caller)
unfolding with_next_entry next_entry
pushed id clock forward args f = sum_by_push (one_at id) f.all (next_entry clock forward args f)

-- an entry that is sent
kept : (id number : ℕ) (all : List Entry) → sum_by (one_at id) (change_entry (is_unsent number) as_sent all) ≡ sum_by (one_at id) all
kept id number [] = grind (arith, common_steps)
kept id number (e ∷ all) = grind (arith, common_steps, kept id number all)

-- if none is of it
none-present : (id : ℕ) (all : List Entry) → find (is_of_connection id) all ≡ None → sum_by (one_at id) all ≡ 0
none-present id [] h = grind arith
none-present id (e ∷ all) h = grind (arith, none-present id all)

-- if one is there, it counts
some-present : (id : ℕ) (all : List Entry) → list_any (is_of_connection id) all ≡ true → 1 ≤ sum_by (one_at id) all
some-present id [] h = grind (arith, common_steps)
some-present id (e ∷ all) h = grind (arith, common_steps, some-present id all)

-- ---- one connection

one-at-most : (o : Option Connection) → count_awaiting o ≤ 1
one-at-most o = grind arith

pub fed-awaits : (p : Phase) (fed : List ℕ) → fed_in p ≡ Some fed → is_awaiting p ≡ false
fed-awaits p fed is = grind arith

pub fed-plain : (p : Phase) (fed : List ℕ) → fed_in p ≡ Some fed → stamp_in p ≡ None
fed-plain p fed is = grind arith

pub giving-awaits : (clock n : ℕ) (c : Connection) → is_awaiting (give clock n c).1.phase ≡ is_awaiting c.phase
unfolding give with_given
giving-awaits clock n c = grind arith

pub settled-awaiting : (clock : ℕ) (said : Outcome) (c : Connection) → is_awaiting (settle clock said c).phase ≡ is_forwarded said
unfolding settle
settled-awaiting clock said c = grind arith

-- ---- all connections

module _ (k : ℕ) (all : List Connection) (c : Connection) (there : live_connection k all ≡ Some c) where
  found : find (is_live k) all ≡ Some c
  unfolding live_connection
  found = there

  -- the connection of the number is changed, and goes on being live
  changed-awaits : (f : Connection → Connection) → IsFeeding k f → ((d : Connection) → (f d).number ≡ d.number) → (id : ℕ) → awaits id (change_first (is_live k) f all) ≡ cond (eqb k id) (if_one (is_awaiting (f c).phase)) (awaits id all)
  unfolding live_connection
  changed-awaits f feeds keeps id = grind (arith, common_steps, found, changed-other id k f keeps, eqb-true k id, find-changed k f feeds all c found)

  pub kept-awaits : (f : Connection → Connection) → IsFeeding k f → ((d : Connection) → (f d).number ≡ d.number) → is_awaiting (f c).phase ≡ is_awaiting c.phase → (id : ℕ) → awaits id (change_first (is_live k) f all) ≡ awaits id all
  kept-awaits f feeds keeps same id = grind (arith, common_steps, changed-awaits, eqb-true)

  -- its record is answered, or its forwarded call ends
  pub settled-awaits : (clock next : ℕ) (said : Outcome) → AreSound 0 next all → (id : ℕ) → awaits id (change_first (is_live k) (settle clock said) all) ≡ cond (eqb k id) (if_one (is_forwarded said)) (awaits id all)
  unfolding live_connection
  settled-awaits clock next said sound id = by_said said refl
    where
      lives : (o : Outcome) → is_no_call o ≡ false → awaits id (change_first (is_live k) (settle clock o) all) ≡ cond (eqb k id) (if_one (is_forwarded o)) (awaits id all)
      lives o plain = changed-awaits (settle clock o) (answering-feeds k clock o plain) (settled-keeps clock o).number id ∙ ap (λ (b : Bool). cond (eqb k id) (if_one b) (awaits id all)) (settled-awaiting clock o c)

      is-gone : (b : Bool) → eqb k id ≡ b → awaits id (change_first (is_live k) (settle clock NoCall) all) ≡ cond b 0 (awaits id all)
      is-gone false e = ap count_awaiting (changed-other id k (settle clock NoCall) (settled-keeps clock NoCall).number e all)
      is-gone true e =
          ap (λ (j : ℕ). count_awaiting (find (is_live j) (change_first (is_live k) (settle clock NoCall) all))) (sym (eqb-true k id e)) ∙ ap count_awaiting (lost-gone k clock 0 next all sound)

      by_said : (o : Outcome) → said ≡ o → awaits id (change_first (is_live k) (settle clock o) all) ≡ cond (eqb k id) (if_one (is_forwarded o)) (awaits id all)
      by_said NoCall e = is-gone (eqb k id) refl
      by_said (Reply reply began) e = lives (Reply reply began) refl
      by_said Forwarded e = lives Forwarded refl
      by_said Silent e = lives Silent refl

opened-awaits : (id : ℕ) (all : List Connection) (new : Connection) → is_awaiting new.phase ≡ false → awaits id (all ++ new ∷ []) ≡ awaits id all
unfolding live_connection
opened-awaits id all new idle = by_value (find (is_live id) all) refl
  where
    by_value : (o : Option Connection) → find (is_live id) all ≡ o → count_awaiting (find (is_live id) (all ++ new ∷ [])) ≡ count_awaiting o
    by_value (Some c) e = ap count_awaiting (find-before (is_live id) all c new e)
    by_value None e = behind all e
      where
        last : (b : Bool) → count_awaiting (cond b (Some new) None) ≡ 0
        last true = ap if_one idle
        last false = refl

        behind : (xs : List Connection) → find (is_live id) xs ≡ None → count_awaiting (find (is_live id) (xs ++ new ∷ [])) ≡ 0
        behind [] h = last (is_live id new)
        behind (x ∷ xs) h = by_test (is_live id x) h (behind xs)
          where
            by_test : (b : Bool) → cond b (Some x) (find (is_live id) xs) ≡ None → (find (is_live id) xs ≡ None → count_awaiting (find (is_live id) (xs ++ new ∷ [])) ≡ 0) → count_awaiting (cond b (Some x) (find (is_live id) (xs ++ new ∷ []))) ≡ 0
            by_test true h later = absurd cc
            by_test false h later = later h

-- ---- room for a row

-- a connection whose list is in the way awaits nothing
list-awaits : (changes : List ℕ) (p : Phase) → began_before changes (stamp_in p) ≡ true → is_awaiting p ≡ false
list-awaits changes p t = grind arith

never : (b : Bool) → (b && false) ≡ false
never b = grind arith

lost-dead : (id : ℕ) (c : Connection) → is_live id (lose c) ≡ false
unfolding is_live
lost-dead id c = never (eqb c.number id)

-- those that become Lost awaited nothing, and the others stay
evicted-awaits : (changes : List ℕ) (id least next : ℕ) (all : List Connection) → AreSound least next all → awaits id (map (evict_early changes) all) ≡ awaits id all
unfolding live_connection evict_early
evicted-awaits changes id least next [] sound = refl
evicted-awaits changes id least next (x ∷ all) sound = by_live (is_live id x) refl (evicted-awaits changes id (x.number + 1) next all sound.2)
  where
    by_began : is_live id x ≡ true → (b : Bool) → began_before changes (stamp_in x.phase) ≡ b → count_awaiting (find (is_live id) (map (evict_early changes) (x ∷ all))) ≡ count_awaiting (find (is_live id) (x ∷ all))
    by_began live false t = rw (t, live) refl
    by_began live true t =
        let number : x.number ≡ id = number-is id x live in
        let rest = mapped (evict_early changes) (evicted-keeps changes) (x.number + 1) next all sound.2 in
        let none : find (is_live id) (map (evict_early changes) all) ≡ None = none-above id (x.number + 1) next (map (evict_early changes) all) rest (omega (arith, number)) in
        rw (t, lost-dead id x, none, live) (sym (ap if_one (list-awaits changes x.phase t)))

    by_live : (b : Bool) → is_live id x ≡ b → count_awaiting (find (is_live id) (map (evict_early changes) all)) ≡ count_awaiting (find (is_live id) all)
        → count_awaiting (find (is_live id) (map (evict_early changes) (x ∷ all))) ≡ count_awaiting (find (is_live id) (x ∷ all))
    by_live true t later = by_began t (began_before changes (stamp_in x.phase)) refl
    by_live false t later = let dead : is_live id (evict_early changes x) ≡ false = stays_dead id changes x t in rw (dead, t) later

-- ---- events

of-other : (k id : ℕ) (caller : Caller) → is_connection k caller ≡ true → eqb k id ≡ false → is_connection id caller ≡ false
of-other k id caller of apart = grind arith

module _ (old : Forwards) (cs : Connections) (sound : SoundIn cs) (h : AwaitIn old cs) where
  -- a record on a live connection is answered
  ended-awaits : (clock k : ℕ) (c : Connection) (who : Who) (context : Context) (said : Outcome) (new : Forwards) → live_connection k cs.all ≡ Some c → is_awaiting c.phase ≡ false → context.caller ≡ Tcp k who
      → Entering context old new (is_forwarded said) → AwaitIn new (changed_at k (settle clock said) cs)
  ended-awaits clock k c who context said new there plain from p = grind (arith, common_steps, settled-awaits, eqb-true, pushed)

module _ (s : State) (sound : IsSound s) (h : Await s) where
  abbrev Keeps : Output × State → Type 0
  Keeps r = Await r.1

  -- once there is room for a row
  pub room-sound : (changes : List ℕ) → SoundIn (evict changes s.connections)
  room-sound changes = mapped (evict_early changes) (evicted-keeps changes) 0 s.connections.next s.connections.all sound

  room-awaits : (changes : List ℕ) → AwaitIn s.ledger.forwards (evict changes s.connections)
  room-awaits changes = λ id. h id ∙ sym (evicted-awaits changes id 0 s.connections.next s.connections.all sound)

  pub still-there : (changes : List ℕ) (k : ℕ) (c : Connection) → live_connection k s.connections.all ≡ Some c → stamp_in c.phase ≡ None → live_connection k (map (evict_early changes) s.connections.all) ≡ Some c
  unfolding live_connection
  still-there changes k c there no_list = plain_lives k changes s.connections.all c there no_list

  open-awaits : (at : ℕ) (who : Who) (r : Result ℕ CoreFault) → Keeps (output_or Opened (unless_refused at s (opening_as who (max s.clock at) s.connections r)))
  open-awaits at who r = grind (arith, common_steps, opened-awaits)

  bytes-await : (at k : ℕ) (piece : List ℕ) (r : Result Taken CoreFault × State) → Arriving s at k piece r → Keeps (output_or show_taken r)
  unfolding keep_reading serve
  bytes-await at k piece r (NotThere none is) = rw is h
  bytes-await at k piece r (NotTaken c there why is) = rw is h
  bytes-await at k piece r (ReadOn c fed there feeds none is) = rw is (λ id.
      h id ∙ sym (kept-awaits k s.connections.all c there (keep_reading (max s.clock at) (fed ++ piece)) (reading-feeds k (max s.clock at) (fed ++ piece)) (λ d. refl) (sym (fed-awaits c.phase fed feeds)) id))
  bytes-await at k piece r (Ended c fed n there feeds some is) = rw is (answered-awaits at k c (take n (fed ++ piece)) there (fed-plain c.phase fed feeds) (fed-awaits c.phase fed feeds))
    where
      answered-awaits : (at k : ℕ) (c : Connection) (record_bytes : List ℕ) → live_connection k s.connections.all ≡ Some c → stamp_in c.phase ≡ None → is_awaiting c.phase ≡ false
          → Await (on_connection k (settle (max s.clock at) (said_in s at k c record_bytes)) (answered_in s at k c record_bytes))
      answered-awaits at k c record_bytes there no_list plain =
          let changes : List ℕ = crowd_at s at (Tcp k c.who) (data_of record_bytes) in
          ended-awaits s.ledger.forwards (evict changes s.connections) (room-sound changes) (room-awaits changes) (max s.clock at) k c c.who (context_in (at_moment at s) (Tcp k c.who)) (said_in s at k c record_bytes) _
          (still-there changes k c there no_list) plain refl (serve-enters (at_moment at s) (Tcp k c.who) _)

  gave-awaits : (at k n : ℕ) (o : Option Connection) → live_connection k s.connections.all ≡ o
      → Keeps (cond (is_too_much n (pending_on o)) (TooMuch, s) (output_or show_done (unless_refused at s (on_found k (give (max s.clock at) n) s.connections o))))
  gave-awaits at k n None e = h
  gave-awaits at k n (Some c) e = by_test (is_too_much n (pending_on (Some c)))
    where
      by_test : (b : Bool) → Keeps (cond b (TooMuch, s) (output_or show_done (unless_refused at s (on_found k (give (max s.clock at) n) s.connections (Some c)))))
      by_test true = h
      by_test false = λ id.
          h id ∙ sym (kept-awaits k s.connections.all c e (λ x. (give (max s.clock at) n x).1) (giving-feeds k (max s.clock at) n) (giving-keeps (max s.clock at) n).number (giving-awaits (max s.clock at) n c) id)

  -- an entry of a connection ends, if there is one
  dropped-present : (k : ℕ) (id : ℕ) → present id (drop_caller k s.ledger.forwards).1 ≡ cond (eqb k id) 0 (present id s.ledger.forwards)
  unfolding drop_caller
  dropped-present k id = by_found (find (is_of_connection k) s.ledger.forwards.all) refl (eqb k id) refl
    where
      by_found : (o : Option Entry) → find (is_of_connection k) s.ledger.forwards.all ≡ o → (b : Bool) → eqb k id ≡ b
          → sum_by (one_at id) (without_first (is_of_connection k) s.ledger.forwards.all) ≡ cond b 0 (present id s.ledger.forwards)
      by_found None e false n = ap (sum_by (one_at id)) (all_stay (is_of_connection k) s.ledger.forwards.all e)
      by_found None e true n =
          ap (sum_by (one_at id)) (all_stay (is_of_connection k) s.ledger.forwards.all e)
          ∙ none-present id s.ledger.forwards.all (ap (λ (j : ℕ). find (is_of_connection j) s.ledger.forwards.all) (sym (eqb-true k id n)) ∙ e)
      by_found (Some x) e b n =
          let sum = sum-without (is_of_connection k) (one_at id) s.ledger.forwards.all x e in
          let of : is_of_connection k x ≡ true = passes (is_of_connection k) s.ledger.forwards.all x e in
          by_number b n sum of
        where
          passes : (p : Entry → Bool) (xs : List Entry) (y : Entry) → find p xs ≡ Some y → p y ≡ true
          passes p [] y is = absurd cc
          passes p (z ∷ xs) y is = by_test (p z) refl is (passes p xs y)
            where
              by_test : (t : Bool) → p z ≡ t → cond t (Some z) (find p xs) ≡ Some y → (find p xs ≡ Some y → p y ≡ true) → p y ≡ true
              by_test true e is later = let same : z ≡ y = cc in ap p (sym same) ∙ e
              by_test false e is later = later is

          by_number : (b : Bool) → eqb k id ≡ b → sum_by (one_at id) s.ledger.forwards.all ≡ one_at id x + sum_by (one_at id) (without_first (is_of_connection k) s.ledger.forwards.all) → is_of_connection k x ≡ true
              → sum_by (one_at id) (without_first (is_of_connection k) s.ledger.forwards.all) ≡ cond b 0 (present id s.ledger.forwards)
          by_number false n sum of =
              let other : one_at id x ≡ 0 = ap if_one (of-other k id x.forward.caller of n) in
              omega (arith, sum, other)
          by_number true n sum of =
              let here : one_at id x ≡ 1 = ap if_one (ap (λ (j : ℕ). is_of_connection j x) (sym (eqb-true k id n)) ∙ of) in
              let few = one-at-most (live_connection id s.connections.all) in
              let is = h id in
              omega (arith, sum, here, few, is)

  closed-await : (k : ℕ) (b : Bool) → is_there k s.connections ≡ b → Keeps (output_or show_done (dropped_with s k (cond b (Ok tt, without_number k s.connections) (Err Gone, s.connections))))
  unfolding caller_dropped without_number live_connection
  closed-await k false e = h
  closed-await k true e = λ id. dropped-present k id ∙ by_number id (eqb k id) refl
    where
      by_number : (id : ℕ) (b : Bool) → eqb k id ≡ b → cond b 0 (present id s.ledger.forwards) ≡ awaits id (without k s.connections.all)
      by_number id bb n = grind (arith, common_steps, closed-other, eqb-true, closed-gone)

  datagram-awaits : (context : Context) (who : Who) (longest : ℕ) (changes : List ℕ) (t : State) (said : Outcome) → t.connections ≡ evict changes s.connections → context.caller ≡ Udp who longest → Entering context s.ledger.forwards t.ledger.forwards (is_forwarded said) → Keeps (show_outcome (with_reply (said, t)))
  datagram-awaits context who longest changes t said same from enters = grind (arith, common_steps, room-awaits, pushed)

  sent-await : (number : ℕ) (b : Bool) → Keeps (output_or show_done (cond b (Ok tt, record s { ledger = call_sent number s.ledger }) (Err Gone, s)))
  unfolding call_sent sent
  sent-await number b = grind (arith, common_steps, kept)

  -- an entry ends by a datagram or at its deadline, if one does
  end-awaits : (at : ℕ) (message : List ℕ) (test : Entry → Bool) (outcome : target.ForwardEnd) (r : Option EntryEnd × Ledger) → r.0 ≡ (with_end test outcome s.ledger.forwards).0 → r.1.forwards ≡ (with_end test outcome s.ledger.forwards).1
      → Await (tell_end message (at_fresh_moment at s) r).1
  end-awaits at message test outcome (None, l) gave left = by_found (find test s.ledger.forwards.all) refl gave
    where
      by_found : (o : Option Entry) → find test s.ledger.forwards.all ≡ o → None ≡ option_map (ended_by outcome) o → AwaitIn l.forwards s.connections
      by_found None e gave = λ id. ap (present id) left ∙ ap (sum_by (one_at id)) (all_stay test s.ledger.forwards.all e) ∙ h id
      by_found (Some x) e gave = absurd cc
  end-awaits at message test outcome (Some ended, l) gave left = by_found (find test s.ledger.forwards.all) refl gave
    where
      counts : (x : Entry) → find test s.ledger.forwards.all ≡ Some x → (id : ℕ) → present id s.ledger.forwards ≡ one_at id x + present id l.forwards
      counts x e id = sum-without test (one_at id) s.ledger.forwards.all x e ∙ ap (λ (f : Forwards). one_at id x + present id f) (sym left)

      by_caller : (x : Entry) → find test s.ledger.forwards.all ≡ Some x → (caller : Caller) → x.forward.caller ≡ caller → Await (tell ended.id caller (outcome_at_end message ended) (record (at_fresh_moment at s) { ledger = l })).1
      by_caller x e (Udp who longest) from = λ id.
          let none : one_at id x ≡ 0 = ap (λ (c : Caller). if_one (is_connection id c)) from in
          let count = counts x e id in
          let is = h id in
          omega (arith, none, count, is)
      by_caller x e (Tcp k who) from = told (live_connection k s.connections.all) refl
        where
          one : (id : ℕ) → one_at id x ≡ if_one (eqb k id)
          one id = ap (λ (c : Caller). if_one (is_connection id c)) from

          told : (o : Option Connection) → live_connection k s.connections.all ≡ o → AwaitIn l.forwards (changed_at k (settle (max s.clock at) (outcome_at_end message ended)) s.connections)
          told None there =
              let here : one_at k x ≡ 1 = one k ∙ ap if_one (eq-eqb k k refl) in
              let count = counts x e k in
              let is : present k s.ledger.forwards ≡ 0 = h k ∙ ap count_awaiting there in
              absurd (omega (arith, here, count, is))
          told (Some c) there = λ id.
              by_number id (eqb k id) refl
              ∙ ap (λ (b : Bool). cond (eqb k id) (if_one b) (awaits id s.connections.all)) (sym (plain (outcome_at_end message ended) (told-final message ended)))
              ∙ sym (settled-awaits k s.connections.all c there (max s.clock at) s.connections.next (outcome_at_end message ended) sound id)
            where
              plain : (said : Outcome) → IsFinal said → is_forwarded said ≡ false
              plain NoCall f = absurd f
              plain (Reply reply began) f = refl
              plain Forwarded f = absurd f
              plain Silent f = refl

              by_number : (id : ℕ) (b : Bool) → eqb k id ≡ b → present id l.forwards ≡ cond b 0 (awaits id s.connections.all)
              by_number id false n =
                  let none : one_at id x ≡ 0 = one id ∙ ap if_one n in
                  let count = counts x e id in
                  let is = h id in
                  omega (arith, none, count, is)
              by_number id true n =
                  let here : one_at id x ≡ 1 = one id ∙ ap if_one n in
                  let count = counts x e id in
                  let few = one-at-most (live_connection id s.connections.all) in
                  let is = h id in
                  omega (arith, here, count, few, is)

      by_found : (o : Option Entry) → find test s.ledger.forwards.all ≡ o → Some ended ≡ option_map (ended_by outcome) o → Await (tell ended.id ended.forward.caller (outcome_at_end message ended) (record (at_fresh_moment at s) { ledger = l })).1
      by_found None e gave = absurd cc
      by_found (Some x) e gave =
          let same : ended ≡ ended_by outcome x = cc in
          by_caller x e ended.forward.caller (ap (λ (y : EntryEnd). y.forward.caller) (sym same))

  shown-end : (r : Option Told × State) → Await r.1 → Keeps (show_end r)
  shown-end r k = grind arith

  forward-awaits : (at : ℕ) (from : Peer) (message : List ℕ) → Await (tell_end message (at_fresh_moment at s) (target_replied s.setting.first_xid (max s.clock at) from message s.ledger)).1
  unfolding target_replied reply
  forward-awaits at from message =
      end-awaits at message (counts_for s.setting.first_xid (max s.clock at) from message) (outcome_of message) (target_replied s.setting.first_xid (max s.clock at) from message s.ledger) refl refl

  -- the connection that is due awaits none
  timed-out-awaits : (clock : ℕ) (c : Connection) → find (due_connection clock) s.connections.all ≡ Some c → AwaitIn s.ledger.forwards (changed_at c.number lose s.connections)
  unfolding live_connection
  timed-out-awaits clock c found = grind (arith, common_steps, found, live-found, due-one, sound-apart, changed-other, eqb-true, due-awaits-none, find-holds, timed-out-gone)

  expire-awaits : (at : ℕ) (r : Expired × State) → Expiry s (max s.clock at) (at_fresh_moment at s) r → Await (show_expired r).1
  expire-awaits at r (NothingDue none free is) = rw is h
  expire-awaits at r (ConnectionEnds none c found is) = rw is (timed-out-awaits (max s.clock at) c found)
  expire-awaits at r (EntryEnds e found ledger left is) =
      rw is (end-awaits at [] (is_due (max s.clock at)) Failed (Some (end_of e), ledger) (ap (option_map (ended_by Failed)) (sym found)) left)

  shown-pending : (r : Result (List ℕ) CoreFault) → Keeps (output_or IsPending (r, s))
  shown-pending r = grind arith

  pub step-awaits : (event : Event) → Await (step s event).1
  unfolding step open_connection open_in_table pending gave close_connection close_in_table datagram sent_call forward_reply serve zero_stats
  step-awaits (Open at who) = open-awaits at who (number_for s.setting.limits.conns s.connections)
  step-awaits (Bytes at id piece) = bytes-await at id piece (bytes s at id piece) (arriving s at id piece)
  step-awaits (Pending id) = shown-pending (pending s id)
  step-awaits (Gave at id n) = gave-awaits at id n (live_connection id s.connections.all) refl
  step-awaits (Closed id) = closed-await id (is_there id s.connections) refl
  step-awaits NextLost = h
  step-awaits (Datagram at who content) =
      datagram-awaits (context_in (at_moment at s) (sender s who content)) who (longest_to s.setting.listener.terms who (length content)) (crowd_at s at (sender s who content) content) (serve (at_moment at s) (sender s who content) content).1 (serve (at_moment at s) (sender s who content) content).0 (same at who content) refl (serve-enters (at_moment at s) (sender s who content) content)
    where
      same : (at : ℕ) (who : Who) (content : List ℕ) → (serve (at_moment at s) (sender s who content) content).1.connections ≡ evict (crowd_at s at (sender s who content) content) s.connections
      same at who content = refl
  step-awaits Unsent = h
  step-awaits (Sent number) = sent-await number (can_be_sent number s.ledger.forwards)
  step-awaits (Forward at from message) = shown-end _ (forward-awaits at from message)
  step-awaits (Expire at) = expire-awaits at (expire s at) (expiry s at)
  step-awaits ZeroStats = h

-- ---- runs

after-awaits : (s : State) (events : List Event) → IsSound s → Await s → Await (after s events)
after-awaits s [] sound h = h
after-awaits s (event ∷ events) sound h = after-awaits (step s event).1 events (step-sound s event sound) (step-awaits s sound h event)

pub opening-awaits : (limits : Limits) (listener : Listener) (first_xid now : ℕ) → Await (opening limits listener first_xid now)
unfolding live_connection
opening-awaits limits listener first_xid now = λ id. refl

pub reached-awaits : (s : State) → IsReached s → Await s
reached-awaits s r =
    let start : State = opening r.limits r.listener r.first_xid r.now in
    subst (λ (t : State). Await t) (sym r.is) (after-awaits start r.events (omega arith) (opening-awaits r.limits r.listener r.first_xid r.now))

pub connections_await : ConnectionsAwait
connections_await s reached id = reached-awaits s reached id

-- a connection that has an entry is live, and awaits its end
pub record IsWaiting (id : ℕ) (all : List Connection) : Type 0 where
  pub connection : Connection
  pub there : live_connection id all ≡ Some connection
  pub phase : connection.phase ≡ Awaiting

pub entry-waits : (s : State) (id : ℕ) → Await s → has_entry id s ≡ true → IsWaiting id s.connections.all
entry-waits s id h has = grind (arith, common_steps, common_steps, some-present id)
