-- A reply that is owed stays so until its bytes are given or its connection is closed.
use Rattle.std.proofs.Common.{◌≡◌, ℕ, max, Bool, true, false, eqb, Some, List, ◌++◌, map, refl, sym, ap, ◌∙◌, ◌⊎◌, inl, inr, arith}
use Rattle.std.proofs.lemmas.Grind.{common_steps}
use Rattle.std.proofs.lemmas.Bool.{eqb-true}
use Rattle.rb_model.specs.State.{State, Connection, Connections}
use Rattle.rb_model.specs.State.Phase.{Idle}
use Rattle.rb_model.specs.Connections.{is_live, live_connection, fed_in, change_first, changed_at, keep_reading, settle, give, without_number}
use Rattle.rb_model.specs.Step.{sender, Event, Output, step}
use Rattle.rb_model.specs.Laws.{IsLive, is_owing, gives_or_closes, OwedRepliesStay}
use Rattle.rb_model.specs.Losses.{evict_early, evict, lose}
use Rattle.rb_laws.proofs.Crowds.{live_or_lost, lost_stays}
use Rattle.rb_laws.proofs.Happenings.{Happening, happening, crowd_at}
use Rattle.rb_laws.proofs.Happenings.Happening.{Stays, Evicts, Opens, Reads, Ends, Gives, Closes, Tells, TimesOut}
use Rattle.rb_laws.proofs.Closings.{lost_in, now-lost, timing-out}
use Rattle.rb_laws.proofs.Live.{changed-other, closed-other, find-before}
use Rattle.rb_laws.proofs.Entries.{Await, IsWaiting, entry-waits, reached-awaits}
use Rattle.rb_laws.proofs.Reached.{giving-keeps}

module _ (s : State) (waits : Await s) (event : Event) (id : ℕ) (c : Connection) (there : IsLive s id c) (is : is_owing c.phase ≡ true) where
  -- a connection that is fed has another number
  other : (k : ℕ) (d : Connection) (fed : List ℕ) → live_connection k s.connections.all ≡ Some d → fed_in d.phase ≡ Some fed → eqb k id ≡ false
  other k d fed here feeds = grind arith

  -- so has one that awaits the end of a forwarded call
  other-waits : (k : ℕ) → IsWaiting k s.connections.all → eqb k id ≡ false
  other-waits k w = grind arith

  changed : (k : ℕ) (f : Connection → Connection) (now : Connections) → ((d : Connection) → (f d).number ≡ d.number) → eqb k id ≡ false → now ≡ changed_at k f s.connections
      → live_connection id now.all ≡ Some c
  unfolding live_connection
  changed k f now keeps e same = ap (λ (x : Connections). live_connection id x.all) same ∙ changed-other id k f keeps e s.connections.all ∙ there

  -- if it is in the way of a row, it is Lost, and else it stays; so too if another goes on then
  in-the-way : (changes : List ℕ) (now : Connections) → now ≡ evict changes s.connections → (live_connection id now.all ≡ Some c) ⊎ (lost_in id now.all ≡ true)
  unfolding live_connection
  in-the-way changes now same = elim (live_or_lost id changes s.connections.all c there) [
    | inl stays ↦ inl (ap (λ (x : Connections). live_connection id x.all) same ∙ stays.1)
    | inr goes ↦ inr (ap (λ (x : Connections). lost_in id x.all) same ∙ goes.1)
  ]

  another-goes-on : (changes : List ℕ) (k : ℕ) (f : Connection → Connection) (now : Connections) → ((d : Connection) → (f d).number ≡ d.number) → eqb k id ≡ false → now ≡ changed_at k f (evict changes s.connections)
      → (live_connection id now.all ≡ Some c) ⊎ (lost_in id now.all ≡ true)
  unfolding live_connection
  another-goes-on changes k f now keeps e same = elim (live_or_lost id changes s.connections.all c there) [
    | inl stays ↦ inl (ap (λ (x : Connections). live_connection id x.all) same ∙ changed-other id k f keeps e (map (evict_early changes) s.connections.all) ∙ stays.1)
    | inr goes ↦ inr (ap (λ (x : Connections). lost_in id x.all) same ∙ lost_stays id k f keeps e (map (evict_early changes) s.connections.all) goes.1)
  ]

  by_case : (output : Output) (now : Connections) → gives_or_closes id event ≡ false → Happening s event output now → (live_connection id now.all ≡ Some c) ⊎ (lost_in id now.all ≡ true)
  unfolding live_connection keep_reading settle without_number
  by_case output now not_it (Stays q same) = inl (ap (λ (x : Connections). live_connection id x.all) same ∙ there)
  by_case output now not_it (Evicts at who content e q same) = in-the-way (crowd_at s at (sender s who content) content) now same
  by_case output now not_it (Opens at who e out same) =
      inl (ap (λ (x : Connections). live_connection id x.all) same
      ∙ find-before (is_live id) s.connections.all c (record { number = s.connections.next; who = who; phase = Idle; since = max s.clock at }) there)
  by_case output now not_it (Reads at k piece d fed e here feeds none out same) =
      inl (changed k (keep_reading (max s.clock at) (fed ++ piece)) now (λ x. refl) (other k d fed here feeds) same)
  by_case output now not_it (Ends at k piece d fed n e here feeds some out same) = grind (arith, common_steps, another-goes-on, other k d fed here feeds)
  by_case output now not_it (Gives at k n d e here few out same) =
      inl (changed k (λ x. (give (max s.clock at) n x).1) now (giving-keeps (max s.clock at) n).number (ap (gives_or_closes id) (sym e) ∙ not_it) same)
  by_case output now not_it (Tells at k said e q final told has same) =
      inl (changed k (settle (max s.clock at) said) now (λ x. refl) (other-waits k (entry-waits s k waits has)) same)
  by_case output now not_it (Closes k e out here same) =
      inl (ap (λ (x : Connections). live_connection id x.all) same ∙ closed-other id k (ap (gives_or_closes id) (sym e) ∙ not_it) s.connections.all ∙ there)
  by_case output now not_it (TimesOut at d e q none found same) = by_number (eqb d.number id) refl
    where
      by_number : (b : Bool) → eqb d.number id ≡ b → (live_connection id now.all ≡ Some c) ⊎ (lost_in id now.all ≡ true)
      by_number false other = inl (changed d.number lose now (λ x. refl) other same)
      by_number true mine =
          inr (ap (λ (x : Connections). lost_in id x.all) same ∙ ap (λ (k : ℕ). lost_in id (change_first (is_live k) lose s.connections.all)) (eqb-true d.number id mine)
          ∙ (now-lost id lose timing-out s.connections.all c there).0)

pub owed_replies_stay : OwedRepliesStay
owed_replies_stay s reached event id not_it c there is = by_case s (reached-awaits s reached) event id c there is (step s event).0 (step s event).1.connections not_it (happening s event)
