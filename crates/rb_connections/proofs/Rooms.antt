-- Which fragments of a reply fit into a room, by the data that follows.
use Rattle.std.proofs.Common.{◌≡◌, ◌<◌, ◌≤◌, ◌+◌, ◌-◌, ◌*◌, ◌/◌, ℕ, None, List, [], ◌++◌, length, take, drop, refl, sym, ap, ◌∙◌, inl, inr, arith, length-append, append_assoc}
use Rattle.std.proofs.Math.Nat.{mul-le-mul_right}
use Rattle.std.proofs.Math.Seq.{take-append-add}
use Rattle.std.proofs.lemmas.List.{length-take, length-drop, take_all, drop-take, take-append-le, append-nil}
use Rattle.std.proofs.lemmas.Bool.{cases_lt}
use Rattle.rb_rpc.specs.Records.{fragment_size, marked_reply}
use Rattle.rb_model.specs.State.{Owed}
use Rattle.rb_model.specs.Connections.{longest_fragment, pending_of, owed_of}
use Rattle.rb_model.specs.Gives.{end_within, fitting_of}
use Rattle.rb_model.proofs.Fragments.{length-long, longest_is, some-marked}
use Rattle.rb_model.proofs.Gives.{all_end, some_end, fits_none, fits_more}
use Rattle.rb_xdr.specs.Meter.{Meter, PaysAtMost}
use Rattle.rb_registry.specs.Registry.{Registry}
use Rattle.rb_connections.specs.declared.giving.Rest.{Rest}
use Rattle.rb_connections.specs.declared.giving.Rest.TheVariants as rests
use Rattle.rb_connections.specs.Costs.{next_cost}
use Rattle.rb_connections.specs.StandsFor.{stamp_of_rest}
use Rattle.rb_connections.specs.Giving.{WritesLast, WritesFitting, fitting_front}
use Rattle.rb_connections.proofs.Fragments.{behind, more_marked}
use borrow.Rule.Slice.PartMut.{mid_of, post_of, put_mid, same_len_mid, mid_len}

-- of a reply of which nothing was given, the first fragment is pending
first_pending : (reply : List ℕ) → pending_of (owed_of reply None 0) ≡ take longest_fragment (marked_reply reply)
unfolding pending_of longest_fragment
first_pending reply = refl

-- what fits after whole fragments is what fits of the rest of the reply
pub fitting_behind : (room : ℕ) (rest : List ℕ) (o : Owed) → o.given ≡ longest_fragment * (o.given / longest_fragment) → o.given ≤ length o.marked
    → drop o.given o.marked ≡ marked_reply rest → fitting_of room o ≡ fitting_front room rest
unfolding fitting_of longest_fragment
fitting_behind room rest o whole within is =
    let left : length (marked_reply rest) ≡ length o.marked - o.given = sym (ap (λ (xs : List ℕ). length xs) is) ∙ length-drop o.given o.marked in
    elim (cases_lt (o.given + room) (length o.marked)) [
      | inl less ↦
          let more : ℕ = longest_fragment * (room / longest_fragment) in
          let at : end_within room o ≡ o.given + more = some_end room o less ∙ omega (arith, whole) in
          let from : 0 + room ≡ room = omega arith in
          let at_front : more ≡ end_within room (owed_of rest None 0) =
          ap (λ (n : ℕ). longest_fragment * (n / longest_fragment)) (sym from) ∙ sym (some_end room (owed_of rest None 0) (omega (arith, less, left))) in
          ap (λ (n : ℕ). drop o.given (take n o.marked)) at
          ∙ drop-take o.given more o.marked
          ∙ ap (λ (xs : List ℕ). take more xs) is
          ∙ ap (λ (n : ℕ). take n (marked_reply rest)) at_front
      | inr all ↦
          let at_front : length (marked_reply rest) ≡ end_within room (owed_of rest None 0) = sym (all_end room (owed_of rest None 0) (omega (arith, all, left))) in
          ap (λ (n : ℕ). drop o.given (take n o.marked)) (all_end room o all)
          ∙ ap (λ (xs : List ℕ). drop o.given xs) (take_all (length o.marked) o.marked (omega arith))
          ∙ is
          ∙ sym (take_all (length (marked_reply rest)) (marked_reply rest) (omega arith))
          ∙ ap (λ (n : ℕ). take n (marked_reply rest)) at_front
    ]

one_whole : (n : ℕ) → n ≡ 1028 → n ≡ longest_fragment * (n / longest_fragment)
unfolding longest_fragment
one_whole n is = omega arith

module _ (room : ℕ) (rest : List ℕ) where
  -- the next fragment does not fit
  pub front_none : room < length (take longest_fragment (marked_reply rest)) → fitting_front room rest ≡ []
  front_none less = fits_none room (owed_of rest None 0) (omega (arith, less, ap (λ (xs : List ℕ). length xs) (first_pending rest)))

  -- all that is left fits
  pub front_last : length (marked_reply rest) ≤ room → fitting_front room rest ≡ marked_reply rest
  unfolding fitting_of
  front_last fits =
      ap (λ (n : ℕ). take n (marked_reply rest)) (all_end room (owed_of rest None 0) (omega (arith, fits)))
      ∙ take_all (length (marked_reply rest)) (marked_reply rest) (omega arith)

  -- the next fragment fits, and there is another one after it
  pub front_more : fragment_size < length rest → longest_fragment ≤ room
      → fitting_front room rest ≡ take longest_fragment (marked_reply rest) ++ fitting_front (room - longest_fragment) (drop fragment_size rest)
  front_more long fits =
      let marked : List ℕ = marked_reply rest in
      let first = first_pending rest in
      let size : length (pending_of (owed_of rest None 0)) ≡ 1028 = ap (λ (xs : List ℕ). length xs) first ∙ omega (arith, length-take longest_fragment marked, longest_is, length-long rest long) in
      let from : 0 + length (pending_of (owed_of rest None 0)) ≡ 1028 = omega (arith, size) in
      let next : Owed = record (owed_of rest None 0) { given = 0 + length (pending_of (owed_of rest None 0)) } in
      let more = some-marked (drop fragment_size rest) in
      let at = behind 1 1028 1024 rest refl refl (omega (arith, length-long rest long, more)) in
      fits_more room (owed_of rest None 0) (omega (arith, size, fits, longest_is)) (omega (arith, longest_is, length-long rest long, more))
      ∙ ap (λ (xs : List ℕ). xs ++ fitting_of (room - length (pending_of (owed_of rest None 0))) next) first
      ∙ ap (λ (n : ℕ). take longest_fragment marked ++ fitting_of (room - n) next) (size ∙ sym longest_is)
      ∙ ap (λ (xs : List ℕ). take longest_fragment marked ++ xs)
      (fitting_behind (room - longest_fragment) (drop fragment_size rest) next (one_whole next.given (omega (arith, size))) (omega (arith, size, length-long rest long))
      (ap (λ (n : ℕ). drop n marked) from ∙ at.0))

-- ---- what is in the room once a part of it was written

module _ (a k : ℕ) (room sub : List ℕ) (within : a ≤ length room) (k_is : k ≡ length room - a) (as_many : length sub ≡ k) where
  pub size_of_room : length (put_mid a k room sub) ≡ length room
  size_of_room = same_len_mid a k room sub (as_many ∙ omega (arith, k_is, mid_len a (length room) room (omega arith), ap (λ (n : ℕ). length (mid_of a n room)) k_is))

  -- what was there, and the front of the part
  pub front_of_room : (n : ℕ) → n ≤ length sub → take (a + n) (put_mid a k room sub) ≡ take a room ++ take n sub
  front_of_room n few =
      let size : length (take a room) ≡ a = omega (arith, within, length-take a room) in
      ap (λ (m : ℕ). take (m + n) (put_mid a k room sub)) (sym size)
      ∙ take-append-add (take a room) (sub ++ post_of a k room) n
      ∙ ap (λ (xs : List ℕ). take a room ++ xs) (take-append-le n sub (post_of a k room) few)

  module _ (reply rest : List ℕ) (written : fitting_front (length room) reply ≡ take a room ++ fitting_front (length room - a) rest) where
    -- the last fragment was written there
    pub ends_room : (n : ℕ) → WritesLast rest sub n → WritesFitting reply (put_mid a k room sub) (a + n)
    ends_room n w =
        let count : n ≡ length (marked_reply rest) = omega (arith, w.fits, length-take n sub, ap (λ (xs : List ℕ). length xs) w.written) in
        let last = front_last (length room - a) rest (omega (arith, count, w.fits, as_many, k_is)) in
        record {
          fits = omega (arith, size_of_room, w.fits, as_many, k_is, within);
          written = front_of_room n w.fits
              ∙ ap (λ (xs : List ℕ). take a room ++ xs) (w.written ∙ sym last)
              ∙ sym written
              ∙ ap (λ (m : ℕ). fitting_front m reply) (sym size_of_room);
        }

    -- it did not fit
    pub shows_room : length sub < length (take longest_fragment (marked_reply rest)) → WritesFitting reply (put_mid a k room sub) a
    shows_room long =
        let none = front_none (length room - a) rest (omega (arith, long, as_many, k_is)) in
        record {
          fits = omega (arith, size_of_room, within);
          written = ap (λ (m : ℕ). take m (put_mid a k room sub)) (omega arith)
              ∙ front_of_room 0 (omega arith)
              ∙ append-nil (take a room)
              ∙ sym (append-nil (take a room))
              ∙ ap (λ (xs : List ℕ). take a room ++ xs) (sym none)
              ∙ sym written
              ∙ ap (λ (m : ℕ). fitting_front m reply) (sym size_of_room);
        }

    -- a whole one was, and there is another one after it
    pub goes_on_room : fragment_size < length rest → longest_fragment ≤ length sub → take longest_fragment sub ≡ take longest_fragment (marked_reply rest)
        → fitting_front (length (put_mid a k room sub)) reply
        ≡ take (a + longest_fragment) (put_mid a k room sub) ++ fitting_front (length (put_mid a k room sub) - (a + longest_fragment)) (drop fragment_size rest)
    goes_on_room long fits same =
        let more = front_more (length room - a) rest long (omega (arith, fits, as_many, k_is)) in
        let left : length room - a - longest_fragment ≡ length (put_mid a k room sub) - (a + longest_fragment) = omega (arith, size_of_room) in
        ap (λ (m : ℕ). fitting_front m reply) size_of_room
        ∙ written
        ∙ ap (λ (xs : List ℕ). take a room ++ xs) more
        ∙ sym (append_assoc (take a room) (take longest_fragment (marked_reply rest)) (fitting_front (length room - a - longest_fragment) (drop fragment_size rest)))
        ∙ ap (λ (xs : List ℕ). (take a room ++ xs) ++ fitting_front (length room - a - longest_fragment) (drop fragment_size rest)) (sym same)
        ∙ ap (λ (xs : List ℕ). xs ++ fitting_front (length room - a - longest_fragment) (drop fragment_size rest)) (sym (front_of_room longest_fragment fits))
        ∙ ap (λ (m : ℕ). take (a + longest_fragment) (put_mid a k room sub) ++ fitting_front m (drop fragment_size rest)) left

-- after whole fragments the last one ends the reply
pub ends_count : (a n : ℕ) (reply rest sub : List ℕ) → a ≡ longest_fragment * (a / longest_fragment) → rest ≡ drop (fragment_size * (a / longest_fragment)) reply → 0 < length rest
    → WritesLast rest sub n → a + n ≡ length (marked_reply reply)
unfolding longest_fragment
ends_count a n reply rest sub whole is some w =
    let j : ℕ = a / 1028 in
    let count : n ≡ length (marked_reply rest) = omega (arith, w.fits, length-take n sub, ap (λ (xs : List ℕ). length xs) w.written) in
    let inside : 1024 * j < length reply = omega (arith, some, ap (λ (xs : List ℕ). length xs) is, length-drop (1024 * j) reply) in
    let more = more_marked j reply inside in
    let at = behind j a (1024 * j) reply whole refl (omega (arith, more, whole)) in
    let same : length (drop a (marked_reply reply)) ≡ length (marked_reply rest) = ap (λ (xs : List ℕ). length xs) at.0 ∙ ap (λ (xs : List ℕ). length (marked_reply xs)) (sym is) in
    omega (arith, count, same, length-drop a (marked_reply reply), more, whole)

-- ---- what it costs

pub next_alike : (registry : Registry) (a b : Rest) → stamp_of_rest a ≡ stamp_of_rest b → next_cost registry a ≡ next_cost registry b
next_alike registry (rests.Held m) (rests.Held n) same = refl
next_alike registry (rests.Held m) (rests.Listed list) same = absurd cc
next_alike registry (rests.Listed list) (rests.Held n) same = absurd cc
next_alike registry (rests.Listed list) (rests.Listed other) same = refl

-- this many fragments, and one more
pub pays_fragment : (a b c : Meter) (j k one more : ℕ) → PaysAtMost a b (j * one) → PaysAtMost b c more → more ≡ one → j + 1 ≤ k → PaysAtMost a c (k * one)
pays_fragment a b c j k one more before now same few =
    let least : (j + 1) * one ≤ k * one = mul-le-mul_right one few in
    record { rises = omega (arith, before.rises, now.rises); steps = omega (arith, before.steps, now.steps, same, least); tie = now.tie ∙ before.tie }
