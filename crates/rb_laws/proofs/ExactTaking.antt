-- Of a piece just the bytes are taken that end the first record, or all if there is none.
use Rattle.std.proofs.Common.{◌≡◌, ◌⊎◌, ℕ, ◌+◌, ◌-◌, max, false, Option, Some, None, Result, Ok, List, [], ◌∷◌, ◌++◌, length, map, take, refl, sym, ap, subst, ◌∙◌, inl, inr, arith}
use Rattle.rb_xdr.specs.Xdr.{AreBytes}
use Rattle.rb_rpc.specs.RecordLaws.{IsFirstRecord}
use Rattle.rb_rpc.specs.Records.{data_of, first_record}
use Rattle.rb_address.specs.declared.caller.Caller.TheVariants.{Tcp}
use Rattle.rb_rpc.proofs.Markings.{first_is_least, none_where_no_front}
use Rattle.rb_rpc.proofs.RecordCuts.{ends_later}
use Rattle.rb_model.specs.declared.types.CoreFault.{CoreFault}
use Rattle.rb_model.specs.Calls.{Outcome, is_no_call}
use Rattle.rb_model.specs.Calls.Outcome.{NoCall, Reply, Forwarded, Silent}
use Rattle.rb_model.specs.State.{State, Phase, Connection, Connections, at_moment}
use Rattle.rb_model.specs.Connections.{live_connection, changed_at, keep_reading, settle, fed_in}
use Rattle.rb_model.specs.Step.{serve, serve_record, on_connection, bytes, IsReached}
use Rattle.rb_model.specs.declared.types.Taken.{Taken}
use Rattle.rb_model.specs.Laws.{IsLive, Arrival, GoesOnWith, TakesNothing, ReadsOn, IsAnswered, EndsRecord, TakesExactly, BytesAreTakenExactly}
use Rattle.rb_model.specs.Losses.{stamp_in, evict_early, evict}
use Rattle.rb_laws.proofs.Cuts.{find-changed, reading-feeds, fed-at, fed-no-list}
use Rattle.rb_laws.proofs.Happenings.{said_in, answered_in, crowd_at}
use Rattle.rb_laws.proofs.Live.{answering-feeds, replying-feeds, lost-gone}
use Rattle.rb_laws.proofs.Reached.{IsSoundPhase, live-sound, reached-sound, mapped, evicted-keeps}
use Rattle.rb_laws.proofs.Crowds.{plain_lives}

-- the bytes that a connection was fed hold no record
pub fed-none : (p : Phase) → IsSoundPhase p → (fed : List ℕ) → fed_in p ≡ Some fed → first_record fed ≡ None
unfolding first_record
fed-none p sound fed is = grind arith

module _ (s : State) (now id : ℕ) (c : Connection) (reached : IsReached s) (there : IsLive s id c) where
  abbrev arrival : List ℕ → Arrival
  arrival piece = record { state = s; now = now; id = id; piece = piece; connection = c }

  nothing : (piece : List ℕ) → bytes s now id piece ≡ (Ok (record { count = 0; lost = false }), at_moment now s) → TakesNothing (arrival piece)
  nothing piece is = grind arith

  goes-on : (fed piece : List ℕ) → IsLive (on_connection id (keep_reading (max s.clock now) (fed ++ piece)) (at_moment now s)) id (keep_reading (max s.clock now) (fed ++ piece) c)
  unfolding live_connection
  goes-on fed piece = find-changed id (keep_reading (max s.clock now) (fed ++ piece)) (reading-feeds id (max s.clock now) (fed ++ piece)) s.connections.all c there

  settles : (piece : List ℕ) (t : State) (said : Outcome) (changes : List ℕ) → stamp_in c.phase ≡ None → t.connections ≡ changed_at id (settle (max s.clock now) said) (evict changes s.connections) → (bytes s now id piece).1 ≡ t
      → GoesOnWith (arrival piece) said
  unfolding live_connection settle
  settles piece t NoCall changes none same is =
      ap (λ (u : State). live_connection id u.connections.all) is ∙ ap (λ (u : Connections). live_connection id u.all) same
      ∙ lost-gone id (max s.clock now) 0 s.connections.next (map (evict_early changes) s.connections.all) (mapped (evict_early changes) (evicted-keeps changes) 0 s.connections.next s.connections.all (reached-sound s reached))
  settles piece t Forwarded changes none same is =
      ap (λ (u : State). live_connection id u.connections.all) is ∙ ap (λ (u : Connections). live_connection id u.all) same
      ∙ find-changed id (settle (max s.clock now) Forwarded) (answering-feeds id (max s.clock now) Forwarded refl) (map (evict_early changes) s.connections.all) c (plain_lives id changes s.connections.all c there none)
  settles piece t Silent changes none same is =
      ap (λ (u : State). live_connection id u.connections.all) is ∙ ap (λ (u : Connections). live_connection id u.all) same
      ∙ find-changed id (settle (max s.clock now) Silent) (answering-feeds id (max s.clock now) Silent refl) (map (evict_early changes) s.connections.all) c (plain_lives id changes s.connections.all c there none)
  settles piece t (Reply reply began) changes none same is =
      ap (λ (u : State). live_connection id u.connections.all) is ∙ ap (λ (u : Connections). live_connection id u.all) same
      ∙ find-changed id (settle (max s.clock now) (Reply reply began)) (replying-feeds id (max s.clock now) reply began) (map (evict_early changes) s.connections.all) c (plain_lives id changes s.connections.all c there none)

  -- the first record of these bytes
  ended-at : (fed : List ℕ) (b : ℕ) (piece : List ℕ) (n : ℕ) → fed_in c.phase ≡ Some fed → first_record (fed ++ b ∷ piece) ≡ Some n
      → bytes s now id (b ∷ piece) ≡ (
        Ok (record { count = n - length fed; lost = is_no_call (said_in s now id c (take n (fed ++ b ∷ piece))) }),
        on_connection id (settle (max s.clock now) (said_in s now id c (take n (fed ++ b ∷ piece)))) (answered_in s now id c (take n (fed ++ b ∷ piece))),
      )
  unfolding serve_record serve
  ended-at fed b piece n feeds some = fed-at s now id (b ∷ piece) c (Some fed) there feeds ∙ (rw some refl)

  read-at : (fed : List ℕ) (b : ℕ) (piece : List ℕ) → fed_in c.phase ≡ Some fed → first_record (fed ++ b ∷ piece) ≡ None
      → bytes s now id (b ∷ piece) ≡ (Ok (record { count = length (b ∷ piece); lost = false }), on_connection id (keep_reading (max s.clock now) (fed ++ b ∷ piece)) (at_moment now s))
  read-at fed b piece feeds none = fed-at s now id (b ∷ piece) c (Some fed) there feeds ∙ (rw none refl)

  same_connections : (record_bytes : List ℕ) (said : Outcome) → (on_connection id (settle (max s.clock now) said) (answered_in s now id c record_bytes)).connections
      ≡ changed_at id (settle (max s.clock now) said) (evict (crowd_at s now (Tcp id c.who) (data_of record_bytes)) s.connections)
  unfolding serve
  same_connections record_bytes said = refl

  by_record : (fed : List ℕ) (b : ℕ) (piece : List ℕ) → fed_in c.phase ≡ Some fed → AreBytes (fed ++ b ∷ piece) → (m : Option ℕ) → first_record (fed ++ b ∷ piece) ≡ m
      → ReadsOn (arrival (b ∷ piece)) fed ⊎ EndsRecord (arrival (b ∷ piece)) fed
  unfolding keep_reading
  by_record fed b piece feeds are None none =
      let e = read-at fed b piece feeds none in
      inl (record {
        none = (none_where_no_front (fed ++ b ∷ piece) are).0 none;
        taken = ap (λ (r : Result Taken CoreFault × State). r.0) e;
        reads = ap (λ (r : Result Taken CoreFault × State). live_connection id r.1.connections.all) e ∙ goes-on fed (b ∷ piece);
      })
  by_record fed b piece feeds are (Some n) some =
      let all : List ℕ = fed ++ b ∷ piece in
      let longer = ends_later fed (b ∷ piece) n (fed-none c.phase (live-sound s reached id c there) fed feeds) some in
      let up : length fed + (n - length fed) ≡ n = omega (arith, longer) in
      let e = ended-at fed b piece n feeds some in
      inr (record {
        count = n - length fed;
        ends = subst (λ (k : ℕ). IsFirstRecord k all) (sym up) ((first_is_least all are n).0 some);
        answers = subst (λ (k : ℕ). IsAnswered (arrival (b ∷ piece)) (n - length fed) (said_in s now id c (take k all))) (sym up) (record {
          taken = ap (λ (r : Result Taken CoreFault × State). r.0) e;
          settles = settles (b ∷ piece) _ (said_in s now id c (take n all)) (crowd_at s now (Tcp id c.who) (data_of (take n all))) (fed-no-list c.phase fed feeds) (same_connections (take n all) (said_in s now id c (take n all))) (ap (λ (r : Result Taken CoreFault × State). r.1) e);
        });
      })

  takes : (o : Option (List ℕ)) → fed_in c.phase ≡ o → (piece : List ℕ) → TakesExactly (arrival piece) o piece
  takes None feeds piece = nothing piece (fed-at s now id piece c None there feeds)
  takes (Some fed) feeds [] = nothing [] (fed-at s now id [] c (Some fed) there feeds)
  takes (Some fed) feeds (b ∷ piece) = λ are. by_record fed b piece feeds are (first_record (fed ++ b ∷ piece)) refl

pub bytes_are_taken_exactly : BytesAreTakenExactly
bytes_are_taken_exactly a reached there = takes a.state a.now a.id a.connection reached there (fed_in a.connection.phase) refl a.piece
