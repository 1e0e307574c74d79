-- A table of slots beside the entries that they stand for.
use Rattle.std.proofs.Common.{◌≡◌, ℕ, ◌+◌, ◌-◌, ◌≤◌, ◌<◌, Bool, true, false, not, ◌&&◌, List, [], ◌∷◌, ◌++◌, Some, None, refl, sym, subst, ap, ◌∙◌, length, arith}
use Rattle.std.specs.Prelude.{if◌then◌else◌, find, option_map, nat_le, nat_lt, slice_range}
use Rattle.std.specs.List.{AllZip}
use Rattle.std.specs.Map.{values_of}
use Rattle.std.proofs.lemmas.Bool.Decides.{nat_tests}
use Rattle.std.proofs.lemmas.List.{take_all}
use Rattle.rb_xdr.specs.Kept.{Kept}
use Rattle.rb_xdr.specs.Pool.{HasDistinctKeys, value_at, without, with_value}
use Rattle.rb_xdr.specs.Xdr.{word}
use Rattle.rb_rpc.specs.CallBytes.{call_bytes}
use Rattle.rb_address.specs.declared.peer.Peer.{Peer}
use Rattle.rb_rpc.specs.declared.call.CallHead.{CallHead}
use Rattle.rb_forward.specs.declared.types.Forward.{Forward}
use Rattle.rb_forward.specs.declared.types.ForwardEnd.{ForwardEnd}
use Rattle.rb_forward.specs.declared.entries.Slot.{Slot}
use Rattle.rb_forward.specs.declared.entries.Sought.{Sought}
use Rattle.rb_forward.specs.declared.entries.Sought.TheVariants as wanted
use Rattle.rb_forward.specs.Forwards.{Entry, Forwards, is_answered, is_unsent, as_sent, without_first, ended_by, with_end, reply, counts_for, outcome_of, xid_of, head_of, question, held_call, held, unsent, unsent_call, can_be_sent, sent, can_start, with_next_entry, next_entry, later, patience, greatest_number, entry_charge}
use Rattle.rb_forward.specs.Table.{without_call, is_wanted_slot, is_wanted, wanted_slot}
use Rattle.rb_forward.specs.StandsFor.{StandsForEntry, held_in}
use Rattle.rb_forward.proofs.Tables.{none_some, IsFirst, is_first, nothing_found, found_any, found_none, all_stay, Beside, found_beside, none_beside, without_beside, changed_beside, one_more_each, same_length, same_sum}
use Rattle.std.proofs.lemmas.Map.Entries.{length-values_of}

-- an entry is looked for as its slot is
pub wanted_alike : (first_xid : ℕ) (sought : Sought) (slot : Slot) (e : Entry) → StandsForEntry first_xid slot e → is_wanted_slot sought slot ≡ is_wanted first_xid sought e
unfolding is_wanted_slot is_wanted is_answered
wanted_alike first_xid wanted.AnyUnsent slot e h = rw h.sent refl
wanted_alike first_xid (wanted.Unsent number) slot e h = rw (h.number, h.sent) refl
wanted_alike first_xid (wanted.Answered xid from clock) slot e h = rw (h.sent, h.forward, h.xid, h.deadline) refl
wanted_alike first_xid (wanted.Due clock) slot e h = rw h.deadline refl
wanted_alike first_xid (wanted.OfConnection id) slot e h = rw h.forward refl

module _ (sought : Sought) (slots : List (ℕ × Slot)) where
  pub first_wanted : (k : ℕ) → HasDistinctKeys slots → option_map (λ e. e.0) (wanted_slot sought slots) ≡ Some k → IsFirst (is_wanted_slot sought) slots k
  unfolding wanted_slot
  first_wanted k d h = is_first (is_wanted_slot sought) slots k d h

  pub none_wanted : option_map (λ e. e.0) (wanted_slot sought slots) ≡ None → find (is_wanted_slot sought) (values_of slots) ≡ None
  unfolding wanted_slot
  none_wanted h = nothing_found (is_wanted_slot sought) slots h

  pub none_taken_out : option_map (λ e. e.0) (wanted_slot sought slots) ≡ None → values_of slots ≡ without_first (is_wanted_slot sought) (values_of slots)
  none_taken_out h = sym (all_stay (is_wanted_slot sought) (values_of slots) (none_wanted h))

  pub is_there : (k : ℕ) → HasDistinctKeys slots → option_map (λ e. e.0) (wanted_slot sought slots) ≡ Some k → value_at slots k ≡ None → ⊥
  is_there k d h missing = let f = first_wanted k d h in absurd (none_some f.value (sym missing ∙ f.here))

  -- the slot under that key is the first that is looked for
  pub found_first : (k : ℕ) (slot : Slot) → HasDistinctKeys slots → option_map (λ e. e.0) (wanted_slot sought slots) ≡ Some k → value_at slots k ≡ Some slot → find (is_wanted_slot sought) (values_of slots) ≡ Some slot
  found_first k slot d h v = let f = first_wanted k d h in f.found ∙ sym f.here ∙ v

module _ (first_xid : ℕ) (sought : Sought) (slots : List (ℕ × Slot)) (all : List Entry) (z : AllZip (StandsForEntry first_xid) (values_of slots) all) where
  pub no_entry : option_map (λ e. e.0) (wanted_slot sought slots) ≡ None → find (is_wanted first_xid sought) all ≡ None
  no_entry h = none_beside (StandsForEntry first_xid) (is_wanted_slot sought) (is_wanted first_xid sought) (wanted_alike first_xid sought) (values_of slots) all z (none_wanted sought slots h)

  pub entry_found : (k : ℕ) (slot : Slot) → HasDistinctKeys slots → option_map (λ e. e.0) (wanted_slot sought slots) ≡ Some k → value_at slots k ≡ Some slot
      → Beside (StandsForEntry first_xid) (is_wanted_slot sought) (is_wanted first_xid sought) (wanted_alike first_xid sought) all slot
  entry_found k slot d h v =
      found_beside (StandsForEntry first_xid) (is_wanted_slot sought) (is_wanted first_xid sought) (wanted_alike first_xid sought) (values_of slots) all slot z (found_first sought slots k slot d h v)

-- ---- what is held

pub held_alike : (first_xid : ℕ) (slots : List Slot) (f : Forwards) → AllZip (StandsForEntry first_xid) slots f.all → held_in slots ≡ held first_xid f
held_alike first_xid slots f z =
    same_sum (StandsForEntry first_xid) (λ s. entry_charge + length s.call.bytes) (λ e. entry_charge + length (held_call first_xid e)) (λ s e h. ap (λ xs. entry_charge + length xs) h.call) slots f.all z

-- ---- what is lent

not_true : (b : Bool) → not b ≡ true → b ≡ false
not_true true h = let clash : false ≡ true = h in absurd cc
not_true false h = refl

pub nothing_unsent : (first_xid : ℕ) (slots : List (ℕ × Slot)) (f : Forwards) → AllZip (StandsForEntry first_xid) (values_of slots) f.all
    → option_map (λ e. e.0) (wanted_slot wanted.AnyUnsent slots) ≡ None → unsent first_xid f ≡ None
unfolding unsent is_wanted
nothing_unsent first_xid slots f z h = ap (option_map (unsent_call first_xid)) (no_entry first_xid wanted.AnyUnsent slots f.all z h)

call_alike : (first_xid : ℕ) (slot : Slot) (e : Entry) → StandsForEntry first_xid slot e → e.sent ≡ false
    → Some (unsent_call first_xid e) ≡ Some (record { number = slot.number; target = slot.forward.target; call = slot.call.bytes })
unfolding held_call
call_alike first_xid slot e h unsent_entry =
    let bytes : slot.call.bytes ≡ question first_xid e = h.call ∙ (rw unsent_entry refl) in
    rw (h.number, h.forward, bytes) refl

pub unsent_lent : (first_xid : ℕ) (slots : List (ℕ × Slot)) (f : Forwards) (k : ℕ) (slot : Slot) → HasDistinctKeys slots → AllZip (StandsForEntry first_xid) (values_of slots) f.all
    → option_map (λ e. e.0) (wanted_slot wanted.AnyUnsent slots) ≡ Some k → value_at slots k ≡ Some slot
    → unsent first_xid f ≡ Some (record { number = slot.number; target = slot.forward.target; call = slot.call.bytes })
unfolding unsent is_wanted is_wanted_slot
unsent_lent first_xid slots f k slot d z h v =
    let b = entry_found first_xid wanted.AnyUnsent slots f.all z k slot d h v in
    let first = first_wanted wanted.AnyUnsent slots k d h in
    let same : first.value ≡ slot = cc (first.here, v) in
    let unsent_slot : slot.sent ≡ false = not_true slot.sent (rw (← same) first.passes) in
    let unsent_entry : b.value.sent ≡ false = sym b.related.sent ∙ unsent_slot in
    ap (option_map (unsent_call first_xid)) b.found ∙ call_alike first_xid slot b.value b.related unsent_entry

-- all bytes, as a range
pub lent_whole : (bytes : List ℕ) (count : ℕ) → count ≡ length bytes → slice_range bytes 0 count ≡ bytes
lent_whole bytes count is = take_all (count - 0) bytes (omega (arith, is))

-- ---- what is sent

not_sendable : (number : ℕ) (f : Forwards) → find (is_unsent number) f.all ≡ None → can_be_sent number f ≡ false
unfolding can_be_sent
not_sendable number f h = found_none (is_unsent number) f.all h

sendable : (number : ℕ) (f : Forwards) (e : Entry) → find (is_unsent number) f.all ≡ Some e → can_be_sent number f ≡ true
unfolding can_be_sent
sendable number f e h = found_any (is_unsent number) f.all e h

-- the slot of a call that was sent
stands_sent : (first_xid : ℕ) (slot : Slot) (e : Entry) → StandsForEntry first_xid slot e → StandsForEntry first_xid (without_call slot) (as_sent e)
unfolding held_call
stands_sent first_xid slot e h = record { number = h.number; forward = h.forward; xid = h.xid; deadline = h.deadline; sent = refl; call = refl }

module _ (first_xid number : ℕ) (slots : List (ℕ × Slot)) (f : Forwards) (z : AllZip (StandsForEntry first_xid) (values_of slots) f.all) where
  pub none_sent : option_map (λ e. e.0) (wanted_slot (wanted.Unsent number) slots) ≡ None → can_be_sent number f ≡ false
  unfolding is_wanted
  none_sent h = not_sendable number f (no_entry first_xid (wanted.Unsent number) slots f.all z h)

  module _ (k : ℕ) (slot : Slot) (d : HasDistinctKeys slots) (h : option_map (λ e. e.0) (wanted_slot (wanted.Unsent number) slots) ≡ Some k) (v : value_at slots k ≡ Some slot) where
    pub one_sent : can_be_sent number f ≡ true
    unfolding is_wanted
    one_sent = let b = entry_found first_xid (wanted.Unsent number) slots f.all z k slot d h v in sendable number f b.value b.found

    pub sent_stands : AllZip (StandsForEntry first_xid) (values_of (with_value slots k (without_call slot))) (sent number f).all
    unfolding sent is_wanted
    sent_stands =
        let first = first_wanted (wanted.Unsent number) slots k d h in
        rw (first.changed (without_call slot))
        (changed_beside (StandsForEntry first_xid) (is_wanted_slot (wanted.Unsent number)) (is_wanted first_xid (wanted.Unsent number)) (wanted_alike first_xid (wanted.Unsent number)) as_sent
        (values_of slots) f.all slot (without_call slot) z (found_first (wanted.Unsent number) slots k slot d h v) (λ e r. stands_sent first_xid slot e r))

-- ---- what ends

module _ (first_xid : ℕ) (sought : Sought) (outcome : ForwardEnd) (slots : List (ℕ × Slot)) (f : Forwards) (z : AllZip (StandsForEntry first_xid) (values_of slots) f.all) where
  pub nothing_ends : option_map (λ e. e.0) (wanted_slot sought slots) ≡ None → with_end (is_wanted first_xid sought) outcome f ≡ (None, f)
  nothing_ends h =
      let e = no_entry first_xid sought slots f.all z h in
      rw (e, all_stay (is_wanted first_xid sought) f.all e) refl

  pub all_stand : option_map (λ e. e.0) (wanted_slot sought slots) ≡ None → AllZip (StandsForEntry first_xid) (values_of slots) (with_end (is_wanted first_xid sought) outcome f).1.all
  all_stand h = rw (all_stay (is_wanted first_xid sought) f.all (no_entry first_xid sought slots f.all z h)) z

  module _ (k : ℕ) (slot : Slot) (d : HasDistinctKeys slots) (h : option_map (λ e. e.0) (wanted_slot sought slots) ≡ Some k) (v : value_at slots k ≡ Some slot) where
    pub one_ends : Some (record { id = record { number = slot.number }; forward = slot.forward; outcome = outcome }) ≡ (with_end (is_wanted first_xid sought) outcome f).0
    one_ends =
        let b = entry_found first_xid sought slots f.all z k slot d h v in
        let number : slot.number ≡ b.value.number = b.related.number in
        let same : slot.forward ≡ b.value.forward = b.related.forward in
        ended_alike slot.number slot.forward b.value number same ∙ ap (option_map (ended_by outcome)) (sym b.found)
      where
        ended_alike : (number : ℕ) (forward : Forward) (e : Entry) → number ≡ e.number → forward ≡ e.forward → Some (record { id = record { number = number }; forward = forward; outcome = outcome }) ≡ Some (ended_by outcome e)
        ended_alike number forward e same is = rw (same, is) refl

    pub others_stand : AllZip (StandsForEntry first_xid) (values_of (without slots k)) (with_end (is_wanted first_xid sought) outcome f).1.all
    others_stand =
        rw (first_wanted sought slots k d h).taken_out
        (without_beside (StandsForEntry first_xid) (is_wanted_slot sought) (is_wanted first_xid sought) (wanted_alike first_xid sought) (values_of slots) f.all z)

-- ---- what a datagram ends

find_never : {X : Type 0} (p : X → Bool) → ((x : X) → p x ≡ false) → (xs : List X) → find p xs ≡ None
find_never p never [] = refl
find_never p never (x ∷ xs) = rw (never x) (find_never p never xs)

module _ (first_xid clock : ℕ) (from : Peer) (message : List ℕ) (f : Forwards) where
  pub short_is_no_reply : nat_le 4 (length message) ≡ false → reply first_xid clock from message f ≡ (None, f)
  unfolding reply
  short_is_no_reply short =
      let never : (e : Entry) → counts_for first_xid clock from message e ≡ false = λ e. rw short refl in
      let none_found = find_never (counts_for first_xid clock from message) never f.all in
      rw (none_found, all_stay (counts_for first_xid clock from message) f.all none_found) refl

  pub long_is_looked_up : nat_le 4 (length message) ≡ true
      → reply first_xid clock from message f ≡ with_end (is_wanted first_xid (wanted.Answered (word 0 message) from clock)) (outcome_of message) f
  unfolding reply is_wanted
  long_is_looked_up long =
      let answered : Entry → Bool = λ e. is_answered first_xid clock from (word 0 message) e in
      subst (λ t. with_end (λ e. t && answered e) (outcome_of message) f ≡ with_end answered (outcome_of message) f) (sym long) refl

-- the test of a value that is there, or is not
pub not_there : {X : Type 0} (b : Bool) (x : X) → None ≡ (if b then Some x else None) → b ≡ false
not_there true x h = absurd (none_some x h)
not_there false x h = refl

pub is_given : {X : Type 0} (b : Bool) (x y : X) → Some y ≡ (if b then Some x else None) → (b ≡ true) × (y ≡ x)
is_given true x y h = (refl, cc)
is_given false x y h = absurd (none_some y (sym h))

-- ---- what begins

module _ (cap : ℕ) (f : Forwards) where
  pub no_place : cap ≤ length f.all → can_start cap f ≡ false
  unfolding can_start
  no_place h = let test : nat_lt (length f.all) cap ≡ false = grind (arith, nat_tests) in rw test refl

  pub no_number : greatest_number < f.next → can_start cap f ≡ false
  unfolding can_start
  no_number h =
      let test : nat_le f.next greatest_number ≡ false = grind (arith, nat_tests) in
      never (nat_lt (length f.all) cap) (nat_le f.next greatest_number) test
    where
      never : (a b : Bool) → b ≡ false → (a && b) ≡ false
      never true b h = h
      never false b h = refl

  pub place_and_number : length f.all < cap → f.next ≤ greatest_number → can_start cap f ≡ true
  unfolding can_start
  place_and_number h g =
      let room : nat_lt (length f.all) cap ≡ true = grind (arith, nat_tests) in
      let number : nat_le f.next greatest_number ≡ true = grind (arith, nat_tests) in
      rw (room, number) refl

pub as_many : (first_xid : ℕ) (slots : List (ℕ × Slot)) (f : Forwards) → AllZip (StandsForEntry first_xid) (values_of slots) f.all → length f.all ≡ length slots
as_many first_xid slots f z = sym (same_length (StandsForEntry first_xid) (values_of slots) f.all z) ∙ length-values_of slots

pub stands_new : (first_xid given clock : ℕ) (forward : Forward) (args : List ℕ) (f : Forwards) (head : CallHead) (call : Kept) (deadline : ℕ) → f.next ≡ given + 1
    → head ≡ head_of first_xid (given + 1) forward → deadline ≡ later clock patience → call.bytes ≡ call_bytes head ++ args
    → StandsForEntry first_xid (record { number = given + 1; forward = forward; xid = head.xid; deadline = deadline; sent = false; call = call }) (next_entry clock forward args f)
unfolding next_entry held_call question
stands_new first_xid given clock forward args f head call deadline next is due bytes = record {
  number = sym next;
  forward = refl;
  xid = ap (λ (h : CallHead). h.xid) is ∙ ap (λ n. xid_of first_xid n) (sym next);
  deadline = due;
  sent = refl;
  call = bytes ∙ ap (λ (h : CallHead). call_bytes h ++ args) (is ∙ ap (λ n. head_of first_xid n forward) (sym next));
}

pub started_stands : (first_xid : ℕ) (slots : List Slot) (clock : ℕ) (forward : Forward) (args : List ℕ) (f : Forwards) (slot : Slot) → AllZip (StandsForEntry first_xid) slots f.all
    → StandsForEntry first_xid slot (next_entry clock forward args f) → AllZip (StandsForEntry first_xid) (slots ++ slot ∷ []) (with_next_entry clock forward args f).all
unfolding with_next_entry
started_stands first_xid slots clock forward args f slot z h = one_more_each (StandsForEntry first_xid) slots f.all slot (next_entry clock forward args f) z h

pub next_started : (clock : ℕ) (forward : Forward) (args : List ℕ) (f : Forwards) → (with_next_entry clock forward args f).next ≡ f.next + 1
unfolding with_next_entry
next_started clock forward args f = refl

pub next_sent : (number : ℕ) (f : Forwards) → (sent number f).next ≡ f.next
unfolding sent
next_sent number f = refl
