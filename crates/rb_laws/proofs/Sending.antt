-- After bytes with which a call was forwarded, that call is there and was not sent.
use Rattle.std.specs.Prelude.{find, not, is_some, option_map, ◌&&◌}
use Rattle.std.specs.List.{list_any}
use Rattle.std.proofs.Common.{◌≡◌, ◌<◌, ℕ, max, Bool, true, cond, eqb, Option, Some, None, Result, Ok, List, [], ◌∷◌, ◌++◌, take, refl, sym, ap, subst, ◌∙◌, arith}
use Rattle.std.proofs.lemmas.Bool.{eq-eqb}
use Rattle.std.proofs.lemmas.Grind.{common_steps}
use Rattle.rb_address.specs.declared.who.Who.{Who}
use Rattle.rb_address.specs.declared.caller.Caller.TheVariants.{Tcp}
use Rattle.rb_rpc.specs.Records.{data_of}
use Rattle.rb_forward.specs.declared.types.Forward.{Forward as Asked}
use Rattle.rb_forward.specs.Forwards.{Entry, Forwards, is_connection, is_of_connection, next_entry, with_next_entry, unsent_call as unsent_of, unsent}
use Rattle.rb_answers.specs.declared.context.Context.{Context}
use Rattle.rb_model.specs.declared.types.CoreFault.{CoreFault}
use Rattle.rb_rpc.specs.declared.standing.Standing.TheVariants as stands
use Rattle.rb_model.specs.declared.types.Taken.{Taken}
use Rattle.rb_model.specs.Calls.{Outcome}
use Rattle.rb_model.specs.State.{State, Connection, at_moment}
use Rattle.rb_model.specs.Connections.{live_connection, keep_reading, settle, on_connection}
use Rattle.rb_model.specs.Losses.{stamp_in, evict}
use Rattle.rb_model.specs.Standings.{standing_on, standing_of, standing_behind}
use Rattle.rb_model.specs.Step.{context_in, serve, bytes, unsent_call}
use Rattle.rb_model.specs.ForwardLaws.{count_awaiting, has_unsent, SendsAreUnsent}
use Rattle.rb_laws.proofs.Cuts.{reading-feeds}
use Rattle.rb_laws.proofs.Entering.{is_forwarded, Entering, serve-enters}
use Rattle.rb_laws.proofs.Entering.Entering.{Same, Begins}
use Rattle.rb_laws.proofs.Entries.{Await, awaits, if_one, fed-awaits, fed-plain, kept-awaits, settled-awaits, room-sound, still-there, reached-awaits}
use Rattle.rb_laws.proofs.Happenings.{Arriving, arriving, said_in, answered_in, crowd_at}
use Rattle.rb_laws.proofs.Happenings.Arriving.{NotThere, NotTaken, ReadOn, Ended}
use Rattle.rb_laws.proofs.Reached.{IsSound, reached-sound}

-- ---- a new entry

any-last : (test : Entry → Bool) (all : List Entry) (e : Entry) → test e ≡ true → list_any test (all ++ e ∷ []) ≡ true
any-last test [] e is = grind (arith, common_steps)
any-last test (x ∷ all) e is = grind (arith, common_steps, any-last test all e)

found-last : (test : Entry → Bool) (all : List Entry) (e : Entry) → test e ≡ true → is_some (find test (all ++ e ∷ [])) ≡ true
found-last test [] e is = grind (arith, common_steps)
found-last test (x ∷ all) e is = grind (arith, common_steps, found-last test all e)

mapped-is : {A B : Type 0} (f : A → B) (o : Option A) → is_some (option_map f o) ≡ is_some o
mapped-is f o = grind arith

-- ---- where it stands

-- what stands as Sends awaits a call, and a byte was taken
sends-awaits : (count : ℕ) (o : Option Connection) → standing_behind count (standing_on o) ≡ stands.Sends → (count_awaiting o ≡ 1) × (0 < count)
sends-awaits count o is = grind (arith, common_steps)

-- ---- bytes

abbrev IsUnsent : ℕ → State → Type 0
IsUnsent id s = (has_unsent id s ≡ true) × (is_some (unsent_call s) ≡ true)

-- its entry is the last
last-unsent : (id : ℕ) (who : Who) (clock : ℕ) (forward : Asked) (args : List ℕ) (old : Forwards) (s : State) → forward.caller ≡ Tcp id who → s.ledger.forwards ≡ with_next_entry clock forward args old
    → IsUnsent id s
unfolding with_next_entry next_entry unsent_call unsent
last-unsent id who clock forward args old s from is =
    let new : Entry = next_entry clock forward args old in
    let of : is_of_connection id new ≡ true = ap (is_connection id) from ∙ eq-eqb id id refl in
    rw is (
      any-last (λ (e : Entry). is_of_connection id e && not e.sent) old.all new (rw of refl),
      mapped-is (unsent_of s.setting.first_xid) (find (λ (e : Entry). not e.sent) (old.all ++ new ∷ [])) ∙ found-last (λ (e : Entry). not e.sent) old.all new refl,
    )

-- if a call is forwarded, it begins one
begun-unsent : (id : ℕ) (who : Who) (old : Forwards) (s : State) (context : Context) (b : Bool) → context.caller ≡ Tcp id who → b ≡ true → Entering context old s.ledger.forwards b → IsUnsent id s
begun-unsent id who old s context b from forwarded (Same not same) = absurd cc
begun-unsent id who old s context b from forwarded (Begins is forward args by can more) = last-unsent id who context.clock forward args old s (by ∙ from) more

module _ (s : State) (sound : IsSound s) (h : Await s) where
  abbrev Sends : ℕ → Taken → State → Type 0
  Sends id taken left = standing_behind taken.count (standing_of id left) ≡ stands.Sends

  -- an answered record
  answered-unsent : (at id : ℕ) (c : Connection) (record_bytes : List ℕ) (taken : Taken) → live_connection id s.connections.all ≡ Some c → stamp_in c.phase ≡ None
      → Sends id taken (on_connection id (settle (max s.clock at) (said_in s at id c record_bytes)) (answered_in s at id c record_bytes))
      → IsUnsent id (on_connection id (settle (max s.clock at) (said_in s at id c record_bytes)) (answered_in s at id c record_bytes))
  unfolding serve
  answered-unsent at id c record_bytes taken there no_list sends =
      let changes : List ℕ = crowd_at s at (Tcp id c.who) (data_of record_bytes) in
      let said : Outcome = said_in s at id c record_bytes in
      let left : State = on_connection id (settle (max s.clock at) said) (answered_in s at id c record_bytes) in
      let one : awaits id left.connections.all ≡ 1 = (sends-awaits taken.count (live_connection id left.connections.all) sends).0 in
      let is : awaits id left.connections.all ≡ cond (eqb id id) (if_one (is_forwarded said)) (awaits id (evict changes s.connections).all) =
      settled-awaits id (evict changes s.connections).all c (still-there s sound h changes id c there no_list) (max s.clock at) s.connections.next said (room-sound s sound h changes) id in
      let same : eqb id id ≡ true = eq-eqb id id refl in
      begun-unsent id c.who s.ledger.forwards left (context_in (at_moment at s) (Tcp id c.who)) (is_forwarded said) refl (is-one (is_forwarded said) (sym (ap (λ (b : Bool). cond b (if_one (is_forwarded said)) (awaits id (evict changes s.connections).all)) same) ∙ sym is ∙ one)) (serve-enters (at_moment at s) (Tcp id c.who) (data_of record_bytes))
    where
      is-one : (b : Bool) → if_one b ≡ 1 → b ≡ true
      is-one b e = grind arith

  bytes-unsent : (at id : ℕ) (piece : List ℕ) (r : Result Taken CoreFault × State) → Arriving s at id piece r → (taken : Taken) → r.0 ≡ Ok taken → Sends id taken r.1 → IsUnsent id r.1
  unfolding keep_reading
  bytes-unsent at id piece r (NotThere none is) taken ok sends = absurd cc
  bytes-unsent at id piece r (NotTaken c there why is) taken ok sends =
      let few = (sends-awaits taken.count (live_connection id r.1.connections.all) sends).1 in
      let none : taken.count ≡ 0 = cc in
      absurd (omega (arith, few, none))
  bytes-unsent at id piece r (ReadOn c fed there feeds none is) taken ok sends =
      let one = (sends-awaits taken.count (live_connection id r.1.connections.all) sends).0 in
      let before : awaits id s.connections.all ≡ 0 = ap count_awaiting there ∙ ap if_one (fed-awaits c.phase fed feeds) in
      let kept = kept-awaits id s.connections.all c there (keep_reading (max s.clock at) (fed ++ piece)) (reading-feeds id (max s.clock at) (fed ++ piece)) (λ d. refl) (sym (fed-awaits c.phase fed feeds)) id in
      let none : awaits id r.1.connections.all ≡ 0 = ap (λ (x : Result Taken CoreFault × State). awaits id x.1.connections.all) is ∙ kept ∙ before in
      absurd (omega (arith, one, none))
  bytes-unsent at id piece r (Ended c fed n there feeds some is) taken ok sends =
      subst (IsUnsent id) (sym (ap (λ (x : Result Taken CoreFault × State). x.1) is))
      (answered-unsent at id c (take n (fed ++ piece)) taken there (fed-plain c.phase fed feeds) (subst (Sends id taken) (ap (λ (x : Result Taken CoreFault × State). x.1) is) sends))

pub sends_are_unsent : SendsAreUnsent
sends_are_unsent s reached now id piece taken ok sends =
    bytes-unsent s (reached-sound s reached) (reached-awaits s reached) now id piece (bytes s now id piece) (arriving s now id piece) taken ok sends
