-- A reply that is given into a room: what is pending, and each fragment after it that fits.
use Rattle.std.proofs.Common.{◌≡◌, ◌<◌, ◌≤◌, ◌+◌, ◌-◌, ◌*◌, ◌/◌, ◌%◌, ℕ, false, true, nat_le, Option, Some, None, List, [], ◌++◌, length, take, drop, refl, sym, ap, subst, ◌∙◌, inl, inr, arith}
use Rattle.std.specs.Prelude.{is_some}
use Rattle.std.proofs.Math.Nat.{mul-le-mul_left, mul-le-mul_right}
use Rattle.std.proofs.lemmas.Bool.{leb-false, le-leb, lt-leb, cases_lt, cond-true, cond-false}
use Rattle.std.proofs.lemmas.List.{length-take, length-drop, drop-drop}
use Rattle.std.proofs.lemmas.Grind.{common_steps}
use Rattle.rb_xdr.specs.Kept.{Kept}
use Rattle.rb_rpc.specs.Records.{fragment_size, marked_reply}
use Rattle.rb_registry.specs.Registry.{Registry}
use Rattle.rb_model.specs.State.{Owed, Phase, Connection}
use Rattle.rb_model.specs.State.Phase.{Owing}
use Rattle.rb_model.specs.Connections.{longest_fragment, pending_of, phase_when_given, with_given}
use Rattle.rb_model.specs.Costs.{walked, listed_cost}
use Rattle.rb_model.specs.Gives.{fitting_of, fitting_in, write_fitting}
use Rattle.rb_model.proofs.Gives.{count_pending, fits_last, fits_more, fits_none}
use Rattle.rb_connections.specs.declared.giving.Giving.{Giving}
use Rattle.rb_connections.specs.declared.slot.Slot.{Slot}
use Rattle.rb_connections.specs.declared.slot.Stage.{Stage}
use Rattle.rb_connections.specs.declared.slot.Stage.TheVariants as stages
use Rattle.rb_connections.specs.declared.giving.Rest.{Rest}
use Rattle.rb_connections.specs.declared.giving.Rest.TheVariants as rests
use Rattle.rb_connections.specs.StandsFor.{window, IsGiving, StandsForPhase, StandsForConnection, rest_in, stamp_of_rest}
use Rattle.rb_connections.specs.Slots.{Acts}
use Rattle.rb_connections.specs.Listings.{CanContinueSlot}
use Rattle.rb_connections.specs.Costs.{next_cost, fragments_cost, slot_into_cost, row_count}
use Rattle.rb_connections.specs.Giving.{GoesOnShown, SlotIsBehind, SlotGoesOn, fitting_front, fitting_length}
use Rattle.rb_connections.proofs.Fragments.{behind, fragment_full, fragment_behind, more_marked, window_at, place_inside}
use Rattle.rb_connections.proofs.OneSlot.{giving_phase, goes_on_giving, is_given}
use Rattle.rb_connections.proofs.Progress.{pending_is, pending_few, ends, shifted, goes_on_shown}
use Rattle.rb_connections.proofs.Rooms.{fitting_behind}

-- ---- on the connection that a slot stands for

-- nothing fits unless a reply is owed
pub nothing_fits : (room : ℕ) (registry : Registry) (stage : Stage) (buffer window : Kept) (phase : Phase) → ((x : Giving) → stage ≡ stages.Owing x → ⊥) → StandsForPhase registry stage buffer window phase → fitting_in room phase ≡ []
nothing_fits room registry stage buffer window phase other h = grind arith

-- No byte is given.
pub none_into : (registry : Registry) (old : Slot) (clock : ℕ) (room : List ℕ) → ((c : Connection) → StandsForConnection registry old c → fitting_in (length room) c.phase ≡ [])
    → Acts (StandsForConnection registry) (write_fitting clock (length room)) old old (take 0 room)
unfolding write_fitting with_given
none_into registry old clock room none = record {
  gives = λ x h. sym (none x h);
  stands = λ x h. rw (none x h) h;
}

module _ (registry : Registry) (old new : Slot) (clock n : ℕ) (room : List ℕ) (giving : Giving)
    (stage : old.stage ≡ stages.Owing giving)
    (written : (o : Owed) → IsGiving registry giving old.buffer.bytes old.window o → take n room ≡ fitting_of (length room) o)
    (some : 0 < n) (within : n ≤ length room)
    (number : new.number ≡ old.number) (who : new.who ≡ old.who) (since : new.since ≡ clock)
    (goes_on : (o : Owed) → IsGiving registry giving old.buffer.bytes old.window o → StandsForPhase registry new.stage new.buffer new.window (phase_when_given n (Owing o))) where
  count_is : (xs : List ℕ) → take n room ≡ xs → length xs ≡ n
  count_is xs is = omega (arith, within, length-take n room, ap (λ (ys : List ℕ). length ys) is)

  pub some_into : Acts (StandsForConnection registry) (write_fitting clock (length room)) old new (take n room)
  unfolding write_fitting with_given
  some_into = grind (arith, common_steps, count_is, giving_phase)

-- ---- how far the giving is

module _ (registry : Registry) (giving : Giving) (buffer : List ℕ) (shown : Kept) (o : Owed) (g : IsGiving registry giving buffer shown o) where
  -- what is left of the window does not fit
  pub window_stays : (room : ℕ) → room < length shown.bytes - giving.place → fitting_of room o ≡ []
  window_stays room less = fits_none room o (omega (arith, less, pending_few registry giving buffer shown o g))

  some_left : 0 < length shown.bytes - giving.place
  some_left = omega (arith, place_inside g.reply shown o g.shows, g.place)

  -- it does, and ends the reply
  pub window_ends : (room : ℕ) → length shown.bytes - giving.place ≤ room → giving.last ≡ true → fitting_of room o ≡ drop giving.place shown.bytes
  unfolding longest_fragment
  window_ends room fits last =
      let few = pending_few registry giving buffer shown o g in
      let all = ends registry giving buffer shown o g (length shown.bytes - giving.place) (omega (arith, some_left)) last in
      fits_last room o (omega (arith, fits, few)) (omega (arith, all, few, count_pending o)) ∙ pending_is registry giving buffer shown o g

  module _ (left : ℕ) (left_is : left ≡ length shown.bytes - giving.place) (more : giving.last ≡ false) where
    data_more : fragment_size * (o.given / 1028 + 1) < length g.reply
    unfolding longest_fragment
    data_more = leb-false (length g.reply) (fragment_size * (o.given / 1028 + 1)) (sym g.last ∙ more)

    -- the end of the window
    pub at_end : o.given + left ≡ 1028 * (o.given / 1028 + 1)
    unfolding longest_fragment
    at_end =
        let whole : length shown.bytes ≡ 1028 = fragment_full g.reply shown o g.shows (omega (arith, data_more)) in
        omega (arith, whole, g.place, left_is)

    pub marked_more : o.given + left < length o.marked
    marked_more = omega (arith, at_end, data_more, fragment_behind g.reply shown o g.shows (omega (arith, data_more)), ap (λ (xs : List ℕ). length xs) g.shows.marked)

    rest_at : rest_in registry buffer giving.rest ≡ drop (1024 * (o.given / 1028 + 1)) g.reply
    unfolding longest_fragment
    rest_at = g.rest

    marked_behind : drop (o.given + left) o.marked ≡ marked_reply (rest_in registry buffer giving.rest)
    marked_behind =
        let k : ℕ = o.given / 1028 + 1 in
        ap (λ (xs : List ℕ). drop (o.given + left) xs) g.shows.marked
        ∙ (behind k (o.given + left) (1024 * k) g.reply at_end refl (omega (arith, marked_more, ap (λ (xs : List ℕ). length xs) g.shows.marked))).0
        ∙ ap (λ (xs : List ℕ). marked_reply xs) (sym rest_at)

    -- it fits, and fragments after it may
    pub window_goes_on : (room : ℕ) → left ≤ room → fitting_of room o ≡ drop giving.place shown.bytes ++ fitting_front (room - left) (rest_in registry buffer giving.rest)
    unfolding longest_fragment
    window_goes_on room fits =
        let few : length (pending_of o) ≡ left = pending_few registry giving buffer shown o g ∙ sym left_is in
        let next : Owed = record o { given = o.given + left } in
        fits_more room o (omega (arith, fits, few)) (omega (arith, marked_more, at_end))
        ∙ ap (λ (n : ℕ). pending_of o ++ fitting_of (room - n) (record o { given = o.given + n })) few
        ∙ ap (λ (xs : List ℕ). xs ++ fitting_of (room - left) next) (pending_is registry giving buffer shown o g)
        ∙ ap (λ (xs : List ℕ). drop giving.place shown.bytes ++ xs)
        (fitting_behind (room - left) (rest_in registry buffer giving.rest) next (omega (arith, at_end)) (omega (arith, marked_more)) marked_behind)

    -- the reply ends with what is after the window
    pub rest_ends : (n : ℕ) → n ≡ length (marked_reply (rest_in registry buffer giving.rest)) → length o.marked ≤ o.given + (left + n)
    rest_ends n is = omega (arith, is, marked_more, length-drop (o.given + left) o.marked, ap (λ (xs : List ℕ). length xs) marked_behind)

    -- or it goes on after whole fragments of that
    pub rest_goes_on : (after : Kept) (n : ℕ) (next : Giving) → shown.cap ≡ longest_fragment → GoesOnShown registry buffer giving.rest shown after n next
        → IsGiving registry next buffer after (record o { given = o.given + (left + n) })
    unfolding longest_fragment window
    rest_goes_on after n next cap s =
        let k : ℕ = o.given / 1028 + 1 + n / 1028 in
        let at : o.given + (left + n) ≡ 1028 * k = omega (arith, at_end, s.whole) in
        let whole : (o.given + (left + n)) / 1028 ≡ k = omega (arith, at) in
        let behind_is : rest_in registry buffer s.next ≡ drop (1024 * k) g.reply =
        s.rest_is
        ∙ ap (λ (xs : List ℕ). drop (1024 * (n / 1028)) xs) rest_at
        ∙ drop-drop (1024 * (n / 1028)) (1024 * (o.given / 1028 + 1)) g.reply
        ∙ ap (λ (m : ℕ). drop m g.reply) (omega arith) in
        let within : 1024 * k < length g.reply = omega (arith, s.some, ap (λ (xs : List ℕ). length xs) behind_is, length-drop (1024 * k) g.reply) in
        let owes : o.given + (left + n) < length o.marked = omega (arith, at, more_marked k g.reply within, ap (λ (xs : List ℕ). length xs) g.shows.marked) in
        record {
          reply = g.reply;
          shows = record {
            marked = g.shows.marked;
            owes = owes;
            shown_is = ap (λ (kept : Kept). kept.bytes) s.shows.fragment
                ∙ ap (λ (xs : List ℕ). take 1028 (marked_reply xs)) (behind_is ∙ ap (λ (m : ℕ). drop (1024 * m) g.reply) (sym whole))
                ∙ sym (window_at g.reply (record o { given = o.given + (left + n) }) g.shows.marked owes);
            cap = ap (λ (kept : Kept). kept.cap) s.shows.fragment ∙ cap;
          };
          stamp = g.stamp ∙ sym (s.shows.stamp ∙ s.stamp);
          place = s.shows.place ∙ omega (arith, at);
          rest = s.shows.rest_is ∙ ap (λ (xs : List ℕ). drop fragment_size xs) behind_is ∙ drop-drop fragment_size (1024 * k) g.reply ∙ ap (λ (m : ℕ). drop m g.reply) (omega (arith, whole));
          last = s.shows.last ∙ ap (λ (xs : List ℕ). nat_le (length xs) fragment_size) behind_is ∙ shifted (length g.reply) _ (1024 * k) _ (length-drop (1024 * k) g.reply) (omega (arith, whole)) within;
        }

-- ---- how the slot goes on after the window

module _ (registry : Registry) (rest : Rest) (n : ℕ) (mid new : Slot) where
  same_slot : (next : Option Giving) → SlotIsBehind registry rest n mid new next → (new.number ≡ mid.number) × (new.who ≡ mid.who) × (new.since ≡ mid.since)
  same_slot None w = (ap (λ (t : Slot). t.number) w.1, ap (λ (t : Slot). t.who) w.1, ap (λ (t : Slot). t.since) w.1)
  same_slot (Some next) w = (ap (λ (t : Slot). t.number) w.1, ap (λ (t : Slot). t.who) w.1, ap (λ (t : Slot). t.since) w.1)

  pub rest_keeps : SlotGoesOn registry rest n mid new → (new.number ≡ mid.number) × (new.who ≡ mid.who) × (new.since ≡ mid.since)
  rest_keeps s = same_slot s.giving s.is

  lists_by : (next : Option Giving) → SlotIsBehind registry rest n mid new next → CanContinueSlot registry new
  lists_by None w = rw w.1 tt
  lists_by (Some next) w = rw w.1 (goes_on_shown registry mid.buffer.bytes w.0.next mid.window new.window next w.0.shows)

  pub rest_lists : SlotGoesOn registry rest n mid new → CanContinueSlot registry new
  rest_lists s = lists_by s.giving s.is

module _ (registry : Registry) (giving : Giving) (mid new : Slot) (o : Owed) (g : IsGiving registry giving mid.buffer.bytes mid.window o)
    (left : ℕ) (left_is : left ≡ length mid.window.bytes - giving.place) (more : giving.last ≡ false) (n : ℕ) (cap : mid.window.cap ≡ longest_fragment) where
  phase_by : (next : Option Giving) → SlotIsBehind registry giving.rest n mid new next → StandsForPhase registry new.stage new.buffer new.window (phase_when_given (left + n) (Owing o))
  phase_by None w =
      subst (λ (t : Slot). StandsForPhase registry t.stage t.buffer t.window (phase_when_given (left + n) (Owing o))) (sym w.1)
      (is_given registry (record mid.buffer { bytes = [] }) (record mid.window { bytes = [] }) (left + n) o (rest_ends registry giving mid.buffer.bytes mid.window o g left left_is more n w.0) refl refl)
  phase_by (Some next) w =
      subst (λ (t : Slot). StandsForPhase registry t.stage t.buffer t.window (phase_when_given (left + n) (Owing o))) (sym w.1)
      (goes_on_giving registry next mid.buffer new.window (left + n) o (rest_goes_on registry giving mid.buffer.bytes mid.window o g left left_is more new.window n next cap w.0))

  pub rest_after : SlotGoesOn registry giving.rest n mid new → StandsForPhase registry new.stage new.buffer new.window (phase_when_given (left + n) (Owing o))
  rest_after s = phase_by s.giving s.is

-- ---- what fits of the window

pub stays_out : (room left shown : ℕ) → shown ≡ fitting_length room left → shown ≡ 0 → 0 < left → room < left
stays_out room left shown is none some = elim (cases_lt room left) [
  | inl less ↦ less
  | inr fits ↦ absurd (omega (arith, some, none, is ∙ cond-true _ _ _ (le-leb left room fits)))
]

pub fits_in : (room left shown : ℕ) → shown ≡ fitting_length room left → 0 < shown → (shown ≡ left) × (left ≤ room)
fits_in room left shown is some = elim (cases_lt room left) [
  | inl less ↦ absurd (omega (arith, some, is ∙ cond-false _ _ _ (lt-leb left room less)))
  | inr fits ↦ (is ∙ cond-true _ _ _ (le-leb left room fits), fits)
]

-- a window that is shown is not used up
pub some_shown : (registry : Registry) (giving : Giving) (buffer : List ℕ) (shown : Kept) (o : Owed) → IsGiving registry giving buffer shown o → 0 < length shown.bytes - giving.place
some_shown registry giving buffer shown o g = some_left registry giving buffer shown o g

-- ---- what it costs

next_few : (registry : Registry) (rest : Rest) → next_cost registry rest ≤ listed_cost (walked (is_some (stamp_of_rest rest)) (row_count registry))
next_few registry (rests.Held start) = omega arith
next_few registry (rests.Listed list) = omega arith

pub into_few : (registry : Registry) (slot : Slot) (giving : Giving) (left n : ℕ) → slot.stage ≡ stages.Owing giving
    → left + 3 + fragments_cost registry giving.rest n ≤ slot_into_cost registry slot (left + n)
unfolding longest_fragment
into_few registry slot giving left n is = rw is (by_rest giving.rest)
  where
    by_rest : (rest : Rest) → left + 3 + (n / 1028 + 1) * next_cost registry rest ≤ left + n + 3 + ((left + n) / 1028 + 1) * listed_cost (walked (is_some (stamp_of_rest rest)) (row_count registry))
    by_rest rest =
        let one : (n / 1028 + 1) * next_cost registry rest ≤ (n / 1028 + 1) * listed_cost (walked (is_some (stamp_of_rest rest)) (row_count registry)) = mul-le-mul_left (n / 1028 + 1) (next_few registry rest) in
        let all : (n / 1028 + 1) * listed_cost (walked (is_some (stamp_of_rest rest)) (row_count registry)) ≤ ((left + n) / 1028 + 1) * listed_cost (walked (is_some (stamp_of_rest rest)) (row_count registry)) =
        mul-le-mul_right (listed_cost (walked (is_some (stamp_of_rest rest)) (row_count registry))) (omega arith) in
        omega (arith, one, all)
