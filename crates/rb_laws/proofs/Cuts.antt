-- Bytes in two pieces.
use Rattle.std.specs.Prelude.{find, IfSome}
use Rattle.std.proofs.Common.{◌≡◌, ℕ, ◌<◌, max, Bool, true, false, cond, not, eqb, Option, Some, None, Result, Ok, Err, List, [], ◌∷◌, ◌++◌, length, refl, sym, ap, ◌∙◌, append_assoc, append-nil, arith}
use Rattle.std.proofs.lemmas.List.{length-append}
use Rattle.std.proofs.lemmas.Bool.{and_parts, eqb-true}
use Rattle.std.proofs.lemmas.Grind.{common_steps}
use Rattle.rb_address.specs.declared.who.Who.{Who}
use Rattle.rb_rpc.specs.Records.{first_record}
use Rattle.rb_rpc.proofs.RecordCuts.{ends_later}
use Rattle.rb_model.specs.declared.types.CoreFault.{CoreFault}
use Rattle.rb_model.specs.declared.types.CoreFault.TheVariants.{Gone}
use Rattle.rb_model.specs.Calls.{Outcome}
use Rattle.rb_model.specs.State.{State, Connection, Phase, at_moment}
use Rattle.rb_model.specs.Connections.{is_live, is_lost, live_connection, change_first, keep_reading, settle, fed_in, taking_of, taking_up_to, taking_behind}
use Rattle.rb_model.specs.Step.{serve, on_connection, serve_record, when_taken, bytes_to, bytes}
use Rattle.rb_model.specs.declared.types.Taken.{Taken}
use Rattle.rb_model.specs.Losses.{stamp_in}
use Rattle.rb_model.specs.Laws.{SameInOnePiece, CutsDoNotMatter, one_after_another}
use Rattle.rb_laws.proofs.Crowds.{begins_changed, evicted_changed, crowding_alike}

-- ---- a connection that is fed further

-- the change keeps a live connection live
pub record IsFeeding (id : ℕ) (f : Connection → Connection) : Type 0 where
  pub live : (c : Connection) → is_live id c ≡ true → is_live id (f c) ≡ true

one_is : (b : Bool) (d c : Connection) (rest : Option Connection) → b ≡ true → cond b (Some d) rest ≡ Some c → d ≡ c
one_is b d c rest e is = grind arith

other_is : (b : Bool) (d c : Connection) (rest : Option Connection) → b ≡ false → cond b (Some d) rest ≡ Some c → rest ≡ Some c
other_is b d c rest e is = grind arith

pub find-changed : (id : ℕ) (f : Connection → Connection) → IsFeeding id f → (all : List Connection) (c : Connection) → find (is_live id) all ≡ Some c → find (is_live id) (change_first (is_live id) f all) ≡ Some (f c)
find-changed id f feeds [] c is = grind arith
find-changed id f feeds (d ∷ all) c is = grind (arith, find-changed id f feeds all c)

pub changed-twice : (id : ℕ) (f g h : Connection → Connection) → IsFeeding id f → ((c : Connection) → g (f c) ≡ h c) → (all : List Connection) → change_first (is_live id) g (change_first (is_live id) f all) ≡ change_first (is_live id) h all
changed-twice id f g h feeds same [] = grind arith
changed-twice id f g h feeds same (d ∷ all) = grind (arith, changed-twice id f g h feeds same all)

-- a message is answered as it was, with the change of a connection that has no list
answering-along : (id : ℕ) (f : Connection → Connection) (s : State) (who : Who) (content : List ℕ) (c : Connection) → find (is_live id) s.connections.all ≡ Some c → stamp_in c.phase ≡ None → stamp_in (f c).phase ≡ None
    → is_live id (f c) ≡ true → ((clock : ℕ) (said : Outcome) → settle clock said (f c) ≡ settle clock said c)
    → serve_record (on_connection id f s) id who content ≡ serve_record s id who content
unfolding serve_record serve
answering-along id f s who content c there none still live same = grind (arith, common_steps, crowding_alike, begins_changed, evicted_changed)

-- a connection that is fed has none
pub fed-no-list : (p : Phase) (fed : List ℕ) → fed_in p ≡ Some fed → stamp_in p ≡ None
fed-no-list p fed feeds = grind arith

reading-no-list : (clock : ℕ) (fed : List ℕ) (c : Connection) → stamp_in (keep_reading clock fed c).phase ≡ None
unfolding keep_reading
reading-no-list clock fed c = refl

-- ---- moments

max-max : (a b : ℕ) → max (max a b) b ≡ max a b
max-max a b = omega arith

at-same : (s : State) (now : ℕ) → at_moment now (at_moment now s) ≡ at_moment now s
at-same s now = ap (λ clock. record s { clock = clock }) (max-max s.clock now)

-- ---- one connection

pub reading-feeds : (id clock : ℕ) (fed : List ℕ) → IsFeeding id (keep_reading clock fed)
unfolding is_live keep_reading
reading-feeds id clock fed = grind arith

read-on : (clock : ℕ) (front all : List ℕ) (c : Connection) → keep_reading clock all (keep_reading clock front c) ≡ keep_reading clock all c
unfolding keep_reading
read-on clock front all c = grind arith

settled-fed : (clock : ℕ) (fed : List ℕ) (then : ℕ) (said : Outcome) (c : Connection) → settle then said (keep_reading clock fed c) ≡ settle then said c
unfolding settle keep_reading
settled-fed clock fed then said c = refl

-- ---- the call

pub find-holds : (p : Connection → Bool) (all : List Connection) (c : Connection) → find p all ≡ Some c → p c ≡ true
find-holds p [] c is = grind arith
find-holds p (d ∷ all) c is = grind (arith, find-holds p all c)

-- the live connection of a number has this number
pub number-is : (id : ℕ) (c : Connection) → is_live id c ≡ true → c.number ≡ id
unfolding is_live
number-is id c e = eqb-true c.number id (and_parts (eqb c.number id) (not (is_lost c.phase)) e).0

abbrev nothing_taken : Result Taken CoreFault
nothing_taken = Ok (record { count = 0; lost = false })

same-from : (s : State) (now id : ℕ) (first second : List ℕ) (x y z : Result Taken CoreFault × State) → bytes s now id (first ++ second) ≡ x → bytes s now id first ≡ y → bytes y.1 now id second ≡ z → x.0 ≡ one_after_another y.0 z.0 → x.1 ≡ z.1 → SameInOnePiece s now id first second
same-from s now id first second x y z ex ey ez taken state = grind arith

-- nothing and then something is that thing
nothing-first : (r : Result Taken CoreFault) → r ≡ one_after_another nothing_taken r
nothing-first r = grind arith

-- what is taken of a piece after these bytes
abbrev taken_from : State → ℕ → Connection → List ℕ → Option (List ℕ) → Result Taken CoreFault × State
taken_from t id c piece fed = (Ok (when_taken t id piece c (taking_behind fed piece)).0, (when_taken t id piece c (taking_behind fed piece)).1)

pub fed-at : (s : State) (now id : ℕ) (piece : List ℕ) (c : Connection) (fed : Option (List ℕ)) → live_connection id s.connections.all ≡ Some c → fed_in c.phase ≡ fed → bytes s now id piece ≡ taken_from (at_moment now s) id c piece fed
unfolding bytes taking_of
fed-at s now id piece c fed there phase = ap (bytes_to s now id piece) there ∙ ap (taken_from (at_moment now s) id c piece) phase

pub gone-at : (s : State) (now id : ℕ) (piece : List ℕ) → live_connection id s.connections.all ≡ None → bytes s now id piece ≡ (Err Gone, s)
unfolding bytes
gone-at s now id piece none = ap (bytes_to s now id piece) none

-- if the first record in them ends there
abbrev fed_to : State → ℕ → Connection → List ℕ → List ℕ → Option ℕ → Result Taken CoreFault × State
fed_to t id c fed piece m = (Ok (when_taken t id piece c (taking_up_to fed piece m)).0, (when_taken t id piece c (taking_up_to fed piece m)).1)

-- the state after a piece at whose end the record goes on, and the connection in it
abbrev fed_on : State → ℕ → List ℕ → State
fed_on t id front = on_connection id (keep_reading t.clock front) t

there-on : (id : ℕ) (t : State) (c : Connection) (front : List ℕ) → live_connection id t.connections.all ≡ Some c → live_connection id (fed_on t id front).connections.all ≡ Some (keep_reading t.clock front c)
unfolding live_connection
there-on id t c front there = find-changed id (keep_reading t.clock front) (reading-feeds id t.clock front) t.connections.all c there

phase-on : (clock : ℕ) (front : List ℕ) (c : Connection) → fed_in (keep_reading clock front c).phase ≡ Some front
unfolding keep_reading
phase-on clock front c = refl

who-on : (clock : ℕ) (front : List ℕ) (c : Connection) → (keep_reading clock front c).who ≡ c.who
unfolding keep_reading
who-on clock front c = refl

-- one moment more is none
moment-on : (s : State) (now id : ℕ) (front : List ℕ) → at_moment now (fed_on (at_moment now s) id front) ≡ fed_on (at_moment now s) id front
moment-on s now id front = ap (λ clock. record (fed_on (at_moment now s) id front) { clock = clock }) (max-max s.clock now)

-- what is done in one is done after this many bytes were taken
record Same (one : Result Taken CoreFault × State) (before : ℕ) (rest : Result Taken CoreFault × State) : Type 0 where
  taken : one.0 ≡ one_after_another (Ok (record { count = before; lost = false })) rest.0
  state : one.1 ≡ rest.1

along-fed : (t : State) (id : ℕ) (front : List ℕ) (who : Who) (whole : List ℕ) (c : Connection) → live_connection id t.connections.all ≡ Some c → stamp_in c.phase ≡ None → serve_record (fed_on t id front) id who whole ≡ serve_record t id who whole
unfolding live_connection
along-fed t id front who whole c here none = grind (arith, common_steps, reading-no-list, settled-fed, answering-along id, reading-feeds id, find-holds (is_live id))

fed-cut : (t : State) (id : ℕ) (c : Connection) (fed first second : List ℕ) (m : Option ℕ) → live_connection id t.connections.all ≡ Some c → fed_in c.phase ≡ Some fed → ((n : ℕ) → m ≡ Some n → length (fed ++ first) < n)
    → Same (fed_to t id c fed (first ++ second) m) (length first) (fed_to (fed_on t id (fed ++ first)) id (keep_reading t.clock (fed ++ first) c) (fed ++ first) second m)
fed-cut t id c fed first second m here feeds longer = grind (arith, common_steps, append_assoc, length-append, changed-twice, reading-feeds, read-on, along-fed, fed-no-list, who-on)

by_phase : (s : State) (now id : ℕ) (first second : List ℕ) (c : Connection) → live_connection id s.connections.all ≡ Some c → (fed : Option (List ℕ)) → fed_in c.phase ≡ fed → IfSome fed (λ xs. first_record (xs ++ first) ≡ None) → SameInOnePiece s now id first second
by_phase s now id first second c there None phase none =
    let t : State = at_moment now s in
    let x : Result Taken CoreFault × State = (nothing_taken, t) in
    let z : Result Taken CoreFault × State = (nothing_taken, at_moment now t) in
    same-from s now id first second x x z
    (fed-at s now id (first ++ second) c None there phase) (fed-at s now id first c None there phase) (fed-at t now id second c None there phase)
    refl (sym (at-same s now))
by_phase s now id [] second c there (Some fed) phase none =
    let t : State = at_moment now s in
    let x : Result Taken CoreFault × State = taken_from t id c second (Some fed) in
    let y : Result Taken CoreFault × State = (nothing_taken, t) in
    let ez : bytes t now id second ≡ x = fed-at t now id second c (Some fed) there phase ∙ ap (λ (u : State). taken_from u id c second (Some fed)) (at-same s now) in
    same-from s now id [] second x y x
    (fed-at s now id second c (Some fed) there phase) (fed-at s now id [] c (Some fed) there phase) ez (nothing-first x.0) refl
by_phase s now id (b ∷ first) [] c there (Some fed) phase none =
    let t : State = at_moment now s in
    let front : List ℕ = fed ++ b ∷ first in
    let y : Result Taken CoreFault × State = fed_to t id c fed (b ∷ first) None in
    let z : Result Taken CoreFault × State = (nothing_taken, at_moment now y.1) in
    let ey : bytes s now id (b ∷ first) ≡ y = fed-at s now id (b ∷ first) c (Some fed) there phase ∙ ap (fed_to t id c fed (b ∷ first)) none in
    let ex : bytes s now id (b ∷ first ++ []) ≡ y = ap (λ (xs : List ℕ). bytes s now id xs) (append-nil (b ∷ first)) ∙ ey in
    let ez : bytes y.1 now id [] ≡ z = fed-at y.1 now id [] (keep_reading t.clock front c) (Some front) (there-on id t c front there) (phase-on t.clock front c) in
    same-from s now id (b ∷ first) [] y y z ex ey ez
    (ap (λ (n : ℕ). Ok (record { count = n; lost = false })) (omega arith))
    (sym (moment-on s now id front))
by_phase s now id (b ∷ first) (d ∷ second) c there (Some fed) phase none =
    let t : State = at_moment now s in
    let front : List ℕ = fed ++ b ∷ first in
    let all : List ℕ = fed ++ (b ∷ first ++ d ∷ second) in
    let joined : front ++ d ∷ second ≡ all = append_assoc fed (b ∷ first) (d ∷ second) in
    let x : Result Taken CoreFault × State = fed_to t id c fed (b ∷ first ++ d ∷ second) (first_record all) in
    let y : Result Taken CoreFault × State = fed_to t id c fed (b ∷ first) None in
    let z : Result Taken CoreFault × State = fed_to y.1 id (keep_reading t.clock front c) front (d ∷ second) (first_record all) in
    let ey : bytes s now id (b ∷ first) ≡ y = fed-at s now id (b ∷ first) c (Some fed) there phase ∙ ap (fed_to t id c fed (b ∷ first)) none in
    let ez : bytes y.1 now id (d ∷ second) ≡ z =
    fed-at y.1 now id (d ∷ second) (keep_reading t.clock front c) (Some front) (there-on id t c front there) (phase-on t.clock front c)
    ∙ ap (λ (u : State). taken_from u id (keep_reading t.clock front c) (d ∷ second) (Some front)) (moment-on s now id front)
    ∙ ap (λ (xs : List ℕ). fed_to y.1 id (keep_reading t.clock front c) front (d ∷ second) (first_record xs)) joined in
    let longer : (n : ℕ) → first_record all ≡ Some n → length front < n = λ n e. ends_later front (d ∷ second) n none (ap first_record joined ∙ e) in
    let same : Same x (length (b ∷ first)) z = fed-cut t id c fed (b ∷ first) (d ∷ second) (first_record all) there phase longer in
    same-from s now id (b ∷ first) (d ∷ second) x y z (fed-at s now id (b ∷ first ++ d ∷ second) c (Some fed) there phase) ey ez same.taken same.state

by_connection : (s : State) (now id : ℕ) (first second : List ℕ) (o : Option Connection) → live_connection id s.connections.all ≡ o → IfSome o (λ (c : Connection). IfSome (fed_in c.phase) (λ fed. first_record (fed ++ first) ≡ None)) → SameInOnePiece s now id first second
by_connection s now id first second o there none = grind (arith, common_steps, same-from, gone-at, by_phase)

pub cut : CutsDoNotMatter
cut s now id first second none = by_connection s now id first second (live_connection id s.connections.all) refl none
