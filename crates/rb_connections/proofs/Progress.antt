-- A reply that is given: what is pending of it, and how the giving goes on.
use Rattle.std.proofs.Common.{◌≡◌, ℕ, ◌+◌, ◌-◌, ◌*◌, ◌/◌, ◌%◌, ◌<◌, ◌≤◌, true, false, nat_le, List, length, take, drop, Option, sym, ap, subst, ◌∙◌, arith}
use Rattle.std.proofs.lemmas.Bool.{leb-false, leb-true}
use Rattle.std.proofs.lemmas.Bool.Decides.{nat_tests}
use Rattle.std.proofs.lemmas.List.{length-drop, drop-drop}
use Rattle.std.proofs.lemmas.Grind.{common_steps}
use Rattle.rb_xdr.specs.Kept.{Kept}
use Rattle.rb_rpc.specs.Records.{fragment_size, marked_reply}
use Rattle.rb_model.specs.State.{Owed, Connection}
use Rattle.rb_model.specs.State.Phase.{Owing}
use Rattle.rb_model.specs.Connections.{longest_fragment, owed_of, pending_of}
use Rattle.rb_connections.specs.declared.giving.Giving.{Giving}
use Rattle.rb_connections.specs.declared.giving.Rest.{Rest}
use Rattle.rb_connections.specs.declared.slot.Slot.{Slot}
use Rattle.rb_connections.specs.Listings.{CanContinueSlot}
use Rattle.rb_connections.specs.Giving.{SlotShowsNext, CanContinueReply, ShowsNext}
use Rattle.rb_registry.specs.Registry.{Registry}
use Rattle.rb_connections.specs.StandsFor.{IsGiving, StandsForConnection, rest_in, stamp_of_rest}
use Rattle.rb_connections.proofs.Fragments.{pending_shown, pending_count, giving_begins, giving_stays, giving_moves, giving_ends, fragment_few, fragment_full}

pub shifted : (l left a b : ℕ) → left ≡ l - a → b ≡ a + 1024 → a < l → nat_le left 1024 ≡ nat_le l b
shifted l left a b is more within = grind (arith, nat_tests)

module _ (registry : Registry) (giving : Giving) (buffer : List ℕ) (window : Kept) (o : Owed) (g : IsGiving registry giving buffer window o) where
  -- what is left of the window is pending
  pub pending_is : pending_of o ≡ drop giving.place window.bytes
  pending_is = pending_shown g.reply window o g.shows ∙ ap (λ (n : ℕ). drop n window.bytes) (sym g.place)

  pub pending_few : length (pending_of o) ≡ length window.bytes - giving.place
  pending_few = omega (arith, pending_count g.reply window o g.shows, g.place)

  module _ (more : ℕ) where
    -- the giving stays in its fragment
    pub stays : (place : ℕ) → place ≡ giving.place + more → place < length window.bytes
        → IsGiving registry (record giving { place = place }) buffer window (record o { given = o.given + more })
    unfolding longest_fragment
    stays place is inside =
        let small : o.given % longest_fragment + more < length window.bytes = omega (arith, is, inside, g.place) in
        let few : length window.bytes ≤ longest_fragment = fragment_few g.reply window o g.shows in
        let same : (o.given + more) / 1028 ≡ o.given / 1028 = omega (arith, small, few) in
        record {
          reply = g.reply;
          shows = giving_stays g.reply window more o g.shows small;
          stamp = g.stamp;
          place = omega (arith, is, g.place, small, few);
          rest = g.rest ∙ ap (λ (k : ℕ). drop (fragment_size * (k + 1)) g.reply) (sym same);
          last = g.last ∙ ap (λ (k : ℕ). nat_le (length g.reply) (fragment_size * (k + 1))) (sym same);
        }

    -- it moves to the next one
    pub moves : (next : Kept) (new : Giving) → giving.place + more ≡ length window.bytes → giving.last ≡ false
        → window.cap ≡ longest_fragment → ShowsNext registry buffer giving.rest window next new
        → IsGiving registry new buffer next (record o { given = o.given + more })
    unfolding longest_fragment
    moves next new full more_to_come cap shows =
        let k : ℕ = o.given / 1028 in
        let more_is : fragment_size * (k + 1) < length g.reply = leb-false (length g.reply) (fragment_size * (k + 1)) (sym g.last ∙ more_to_come) in
        let used : o.given % longest_fragment + more ≡ length window.bytes = omega (arith, full, g.place) in
        let moved = giving_moves g.reply window next more o g.shows used (omega (arith, more_is))
        (ap (λ (kept : Kept). kept.bytes) shows.fragment ∙ ap (λ (xs : List ℕ). take longest_fragment (marked_reply xs)) (g.rest ∙ ap (λ (n : ℕ). drop n g.reply) (omega arith)))
        (ap (λ (kept : Kept). kept.cap) shows.fragment ∙ cap) in
        let whole : length window.bytes ≡ 1028 = fragment_full g.reply window o g.shows (omega (arith, more_is)) in
        let next_is : (o.given + more) / 1028 ≡ k + 1 = omega (arith, used, whole) in
        record {
          reply = g.reply;
          shows = moved;
          stamp = g.stamp ∙ sym shows.stamp;
          place = shows.place ∙ omega (arith, used, whole);
          rest = shows.rest_is ∙ ap (λ (xs : List ℕ). drop fragment_size xs) g.rest ∙ drop-drop fragment_size (fragment_size * (k + 1)) g.reply ∙ ap (λ (n : ℕ). drop n g.reply) (omega (arith, next_is));
          last = shows.last ∙ ap (λ (xs : List ℕ). nat_le (length xs) fragment_size) g.rest ∙ shifted (length g.reply) _ (fragment_size * (k + 1)) _ (length-drop (fragment_size * (k + 1)) g.reply) (omega (arith, next_is)) more_is;
        }

    -- it ends
    pub ends : giving.place + more ≡ length window.bytes → giving.last ≡ true → length o.marked ≤ o.given + more
    unfolding longest_fragment
    ends full no_more =
        let none : length g.reply ≤ fragment_size * (o.given / 1028 + 1) = leb-true (length g.reply) _ (sym g.last ∙ no_more) in
        let same : length o.marked ≡ length (marked_reply g.reply) = ap (λ (xs : List ℕ). length xs) g.shows.marked in
        let all = giving_ends g.reply window more o g.shows (omega (arith, full, g.place)) (omega (arith, none)) in
        omega (arith, same, all)

module _ (registry : Registry) (buffer : List ℕ) (rest : Rest) (before next : Kept) (new : Giving) (shows : ShowsNext registry buffer rest before next new) where
  -- after a fragment that was shown and is not the last one, something will come
  pub goes_on_shown : CanContinueReply registry buffer new
  goes_on_shown = grind (arith, common_steps, leb-false (length (rest_in registry buffer rest)) fragment_size, length-drop fragment_size (rest_in registry buffer rest))

  -- a reply whose first fragment is shown
  pub begins : (reply : List ℕ) (began : Option ℕ) → rest_in registry buffer rest ≡ reply → stamp_of_rest rest ≡ began → before.cap ≡ longest_fragment
      → IsGiving registry new buffer next (owed_of reply began 0)
  unfolding longest_fragment
  begins reply began whole stamp cap = grind (arith, common_steps, giving_begins reply next began)

-- so it is on a slot
module _ (registry : Registry) (rest : Rest) (old new : Slot) (s : SlotShowsNext registry rest old new) where
  pub slot_lists_on : CanContinueSlot registry new
  slot_lists_on = subst (λ (t : Slot). CanContinueSlot registry t) (sym s.is) (goes_on_shown registry old.buffer.bytes rest old.window new.window s.giving s.shows)

  pub slot_begins : (clock : ℕ) (c : Connection) (reply : List ℕ) (began : Option ℕ) → old.number ≡ c.number → old.who ≡ c.who → old.since ≡ clock → old.window.cap ≡ longest_fragment
      → rest_in registry old.buffer.bytes rest ≡ reply → stamp_of_rest rest ≡ began → StandsForConnection registry new (record c { phase = Owing (owed_of reply began 0); since = clock })
  slot_begins clock c reply began number who since cap whole stamp = grind (arith, begins registry)
