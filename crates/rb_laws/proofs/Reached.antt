-- What holds of the connections in each state that a run reaches.
use Rattle.std.specs.Prelude.{find, filter}
use Rattle.std.proofs.Common.{◌≡◌, ◌<◌, ◌≤◌, ℕ, ◌+◌, max, Bool, not, eqb, Some, None, List, [], ◌∷◌, ◌++◌, length, map, refl, sym, subst, arith}
use Rattle.std.proofs.lemmas.Grind.{common_steps}
use Rattle.rb_rpc.specs.Records.{first_record}
use Rattle.rb_model.specs.Calls.{Outcome}
use Rattle.rb_model.specs.State.{State, Phase, Connection, Connections}
use Rattle.rb_model.specs.State.Phase.{Idle, Reading, Owing, Awaiting, Lost}
use Rattle.rb_model.specs.Connections.{is_live, live_connection, change_first, without_number, keep_reading, settle, with_given, give}
use Rattle.rb_model.specs.Losses.{lose, evict_early}
use Rattle.rb_model.specs.Step.{sender, Event, Output, step, after, IsReached}
use Rattle.rb_model.specs.Laws.{IsLive}
use Rattle.rb_model.proofs.Fragments.{some-marked}
use Rattle.rb_laws.proofs.Happenings.{Happening, happening, crowd_at}
use Rattle.rb_laws.proofs.Happenings.Happening.{Stays, Evicts, Opens, Reads, Ends, Gives, Closes, Tells, TimesOut}

-- no record is in the bytes that were fed, and of a reply that is owed some byte is still to be given
abbrev pub IsSoundPhase : Phase → Type 0
IsSoundPhase Idle = Unit {0}
IsSoundPhase (Reading fed) = first_record fed ≡ None
IsSoundPhase (Owing o) = o.given < length o.marked
IsSoundPhase Awaiting = Unit {0}
IsSoundPhase Lost = Unit {0}

-- the numbers rise from `least` on, and are below `next`
abbrev pub AreSound : ℕ → ℕ → List Connection → Type 0
AreSound least next [] = least ≤ next
AreSound least next (c ∷ all) = (least ≤ c.number) × IsSoundPhase c.phase × AreSound (c.number + 1) next all

abbrev pub IsSound : State → Type 0
IsSound s = AreSound 0 s.connections.next s.connections.all

-- ---- lists of connections

lower : (low least next : ℕ) (all : List Connection) → low ≤ least → AreSound least next all → AreSound low next all
lower low least next [] le s = omega arith
lower low least next (c ∷ all) le s = (omega (arith, s.0), s.1, s.2)

-- the change keeps each number, and each sound phase sound
pub record Keeps (f : Connection → Connection) : Type 0 where
  pub number : (c : Connection) → (f c).number ≡ c.number
  pub phase : (c : Connection) → IsSoundPhase c.phase → IsSoundPhase (f c).phase

pub changed : (id : ℕ) (f : Connection → Connection) → Keeps f → (least next : ℕ) (all : List Connection) → AreSound least next all → AreSound least next (change_first (is_live id) f all)
changed id f k least next [] s = grind arith
changed id f k least next (c ∷ all) s = grind (arith, changed id f k (c.number + 1) next all s.2)

filtered : (p : Connection → Bool) (least next : ℕ) (all : List Connection) → AreSound least next all → AreSound least next (filter p all)
filtered p least next [] s = grind (arith, common_steps, lower)
filtered p least next (c ∷ all) s = grind (arith, common_steps, lower, filtered p (c.number + 1) next all s.2)

one_more : (least next : ℕ) (all : List Connection) (c : Connection) → c.number ≡ next → IsSoundPhase c.phase → AreSound least next all → AreSound least (next + 1) (all ++ c ∷ [])
one_more least next [] c is phase s = (omega arith, phase, omega arith)
one_more least next (d ∷ all) c is phase s = (s.0, s.1, one_more (d.number + 1) next all c is phase s.2)

pub found-sound : (p : Connection → Bool) (least next : ℕ) (all : List Connection) (c : Connection) → AreSound least next all → find p all ≡ Some c → IsSoundPhase c.phase
found-sound p least next [] c s is = grind arith
found-sound p least next (d ∷ all) c s is = grind (arith, found-sound p (d.number + 1) next all c s.2)

-- ---- one connection

pub reading-keeps : (clock : ℕ) (fed : List ℕ) → first_record fed ≡ None → Keeps (keep_reading clock fed)
unfolding keep_reading
reading-keeps clock fed none = record { number = λ c. refl; phase = λ c s. none }

pub settled-keeps : (clock : ℕ) (said : Outcome) → Keeps (settle clock said)
unfolding settle
settled-keeps clock said = grind (arith, common_steps, some-marked)

when_given-keeps : (clock n : ℕ) → Keeps (with_given clock n)
unfolding with_given
when_given-keeps clock n = grind arith

pub giving-keeps : (clock n : ℕ) → Keeps (λ c. (give clock n c).1)
unfolding give
giving-keeps clock n = grind (arith, common_steps, when_given-keeps clock)

pub lost-keeps : Keeps lose
lost-keeps = record { number = λ c. refl; phase = λ c s. tt }

pub evicted-keeps : (changes : List ℕ) → Keeps (evict_early changes)
unfolding evict_early
evicted-keeps changes = grind arith

pub mapped : (f : Connection → Connection) → Keeps f → (least next : ℕ) (all : List Connection) → AreSound least next all → AreSound least next (map f all)
mapped f k least next [] s = grind arith
mapped f k least next (c ∷ all) s = grind (arith, mapped f k (c.number + 1) next all s.2)

-- ---- steps and runs

abbrev pub SoundIn : Connections → Type 0
SoundIn c = AreSound 0 c.next c.all

pub happening-sound : (s : State) (event : Event) (output : Output) (now : Connections) → IsSound s → Happening s event output now → SoundIn now
unfolding without_number
happening-sound s event output now sound (Stays q same) = subst SoundIn (sym same) sound
happening-sound s event output now sound (Evicts at who content is q same) =
    subst SoundIn (sym same) (mapped (evict_early (crowd_at s at (sender s who content) content)) (evicted-keeps _) 0 s.connections.next s.connections.all sound)
happening-sound s event output now sound (Opens at who is out same) =
    subst SoundIn (sym same) (one_more 0 s.connections.next s.connections.all (record { number = s.connections.next; who = who; phase = Idle; since = max s.clock at }) refl tt sound)
happening-sound s event output now sound (Reads at id piece c fed is there feeds none out same) =
    subst SoundIn (sym same) (changed id _ (reading-keeps (max s.clock at) (fed ++ piece) none) 0 s.connections.next s.connections.all sound)
happening-sound s event output now sound (Ends at id piece c fed n is there feeds some out same) = grind (arith, common_steps, settled-keeps, mapped, evicted-keeps, changed id)
happening-sound s event output now sound (Gives at id n c is there few out same) =
    subst SoundIn (sym same) (changed id _ (giving-keeps (max s.clock at) n) 0 s.connections.next s.connections.all sound)
happening-sound s event output now sound (Tells at id said is q final told there same) =
    subst SoundIn (sym same) (changed id _ (settled-keeps (max s.clock at) said) 0 s.connections.next s.connections.all sound)
happening-sound s event output now sound (TimesOut at c is q none found same) =
    subst SoundIn (sym same) (changed c.number lose lost-keeps 0 s.connections.next s.connections.all sound)
happening-sound s event output now sound (Closes id is out there same) =
    subst SoundIn (sym same) (filtered (λ (c : Connection). not (eqb c.number id)) 0 s.connections.next s.connections.all sound)

pub step-sound : (s : State) (event : Event) → IsSound s → IsSound (step s event).1
step-sound s event sound = happening-sound s event (step s event).0 (step s event).1.connections sound (happening s event)

after-sound : (s : State) (events : List Event) → IsSound s → IsSound (after s events)
after-sound s [] sound = sound
after-sound s (event ∷ events) sound = after-sound (step s event).1 events (step-sound s event sound)

pub reached-sound : (s : State) → IsReached s → IsSound s
reached-sound s r = grind (arith, common_steps, after-sound)

pub live-sound : (s : State) → IsReached s → (id : ℕ) (c : Connection) → IsLive s id c → IsSoundPhase c.phase
unfolding live_connection
live-sound s reached id c there = found-sound (is_live id) 0 s.connections.next s.connections.all c (reached-sound s reached) there
