-- A reply is given whole, in order, and no byte of it twice.
use Rattle.std.proofs.Common.{◌≡◌, ◌<◌, ◌≤◌, ◌↔◌, ℕ, ◌+◌, ◌*◌, ◌/◌, max, Bool, true, false, cond, nat_lt, Option, List, [], ◌++◌, length, take, drop, refl, sym, ap, ◌∙◌, arith}
use Rattle.std.proofs.lemmas.List.{take-append-drop, drop-append-le, drop-drop, length-take, length-drop, nil_from_length}
use Rattle.std.proofs.lemmas.Bool.{ltb-true, ltb-false, eqb-true}
use Rattle.std.proofs.lemmas.Grind.{common_steps}
use Rattle.rb_model.specs.State.{State, Phase, Connection, Owed}
use Rattle.rb_model.specs.State.Phase.{Idle, Reading, Owing, Awaiting, Lost}
use Rattle.rb_model.specs.Connections.{live_connection, on_found, give, pending_in, phase_when_given, with_given, longest_fragment, pending_of}
use Rattle.rb_model.specs.Laws.{owed_bytes, IsLive, owed_in, is_owing, IsGiven, RepliesAreGivenWhole}
use Rattle.rb_model.specs.Step.{unless_refused, pending, pending_on, gave}
use Rattle.rb_laws.proofs.Cuts.{find-changed}
use Rattle.rb_laws.proofs.Live.{giving-feeds}
use Rattle.rb_laws.proofs.Reached.{IsSoundPhase, live-sound}

-- ---- what is pending

-- where the fragment ends in which the giving stands
abbrev fragment_end : Owed → ℕ
fragment_end o = longest_fragment * (o.given / longest_fragment + 1)

ends-later : (o : Owed) → o.given < fragment_end o
unfolding longest_fragment
ends-later o = omega arith

-- after what is pending
abbrev pub behind : Phase → List ℕ
behind (Owing o) = drop (fragment_end o) o.marked
behind Idle = []
behind (Reading fed) = []
behind Awaiting = []
behind Lost = []

pub front-of : (p : Phase) → IsSoundPhase p → owed_in p ≡ pending_in p ++ behind p
unfolding owed_bytes pending_of
front-of Idle sound = refl
front-of (Reading fed) sound = refl
front-of Awaiting sound = refl
front-of Lost sound = refl
front-of (Owing o) sound =
    let k : ℕ = fragment_end o in
    let later : o.given < k = ends-later o in
    ap (λ (xs : List ℕ). drop o.given xs) (sym (take-append-drop k o.marked))
    ∙ drop-append-le o.given (take k o.marked) (drop k o.marked) (omega (arith, later, sound, length-take k o.marked))

some-pending : (p : Phase) → IsSoundPhase p → is_owing p ≡ true → 0 < length (pending_in p)
unfolding pending_of
some-pending p sound is = grind (arith, common_steps, ends-later, length-take, length-drop)

-- ---- what is given

pub is-left : (o : Owed) → owed_bytes o ≡ [] → length o.marked ≤ o.given
unfolding owed_bytes
is-left o none = omega (arith, ap (λ (xs : List ℕ). length xs) none, length-drop o.given o.marked)

-- an Owing connection that still has something to give is not Idle
still-owing : (o : Owed) → o.given < length o.marked → (Owing o ≡ Idle) ↔ (owed_bytes o ≡ [])
still-owing o more = (λ idle. absurd cc, λ none. absurd (omega (arith, more, is-left o none)))

nothing-given : (p : Phase) → IsSoundPhase p → IsGiven 0 p p
nothing-given p sound = grind (arith, common_steps, still-owing)

nil-left : (n : ℕ) → ◌≡◌ {A = List ℕ} [] (drop n [])
nil-left n = sym (nil_from_length (drop n []) (omega (arith, length-drop {A = ℕ} n [])))

some-given : (n : ℕ) (p : Phase) → IsGiven n p (phase_when_given n p)
unfolding owed_bytes
some-given n Idle = record { left = nil-left n; ended = λ is. absurd cc; kept = λ is. refl }
some-given n (Reading fed) = record { left = nil-left n; ended = λ is. absurd cc; kept = λ is. refl }
some-given n Awaiting = record { left = nil-left n; ended = λ is. absurd cc; kept = λ is. refl }
some-given n Lost = record { left = nil-left n; ended = λ is. absurd cc; kept = λ is. refl }
some-given n (Owing o) = by_test (nat_lt (o.given + n) (length o.marked)) refl
  where
    by_test : (b : Bool) → nat_lt (o.given + n) (length o.marked) ≡ b → IsGiven n (Owing o) (cond b (Owing (record o { given = o.given + n })) Idle)
    by_test true e =
        let more : o.given + n < length o.marked = ltb-true (o.given + n) (length o.marked) e in
        record {
          left = sym (drop-drop n o.given o.marked);
          ended = λ is. still-owing (record o { given = o.given + n }) more;
          kept = λ is. absurd cc;
        }
    by_test false e =
        let all : length o.marked ≤ o.given + n = ltb-false (o.given + n) (length o.marked) e in
        record {
          left = sym (nil_from_length (drop n (drop o.given o.marked)) (omega (arith, all, length-drop n (drop o.given o.marked), length-drop o.given o.marked)));
          ended = λ is. (λ idle. refl, λ none. refl);
          kept = λ is. absurd cc;
        }

-- ---- the connection after it

-- n bytes are given on one connection
pub one-given : (clock n : ℕ) (c : Connection) → IsSoundPhase c.phase → n ≤ length (pending_in c.phase) → IsGiven n c.phase (give clock n c).1.phase
unfolding give with_given
one-given clock n c sound few = grind (arith, common_steps, eqb-true, nothing-given, some-given)

gave-at : (s : State) (now id n : ℕ) (c : Connection) → IsLive s id c → IsLive (gave s now id n).1 id (give (max s.clock now) n c).1
unfolding gave live_connection
gave-at s now id n c there =
    ap (λ (o : Option Connection). live_connection id (unless_refused now s (on_found id (give (max s.clock now) n) s.connections o)).1.connections.all) there
    ∙ find-changed id (λ x. (give (max s.clock now) n x).1) (giving-feeds id (max s.clock now) n) s.connections.all c there

pub replies_are_given_whole : RepliesAreGivenWhole
unfolding pending
replies_are_given_whole s reached id c there =
    let sound : IsSoundPhase c.phase = live-sound s reached id c there in
    record {
      front = pending_in c.phase;
      rest = behind c.phase;
      lends = ap pending_on there;
      whole = front-of c.phase sound;
      some = some-pending c.phase sound;
      gives = λ now n few. ((give (max s.clock now) n c).1, gave-at s now id n c there, one-given (max s.clock now) n c sound few);
    }
