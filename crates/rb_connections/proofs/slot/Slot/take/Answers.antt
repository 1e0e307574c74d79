use Rattle.std.proofs.Common.{◌≡◌, ◌⊎◌, [], ◌∷◌, true, false, List, ℕ, length, eqb, arith, inl, inr, refl, sym, ap, ◌∙◌}
use Rattle.std.proofs.lemmas.Bool.Decides.{nat_tests}
use Rattle.rb_xdr.specs.Kept.{Kept}
use Rattle.rb_model.specs.State.{Phase}
use Rattle.rb_model.specs.Connections.{taking_of, taking_on, fed_in}
use Rattle.rb_model.specs.Connections.Taking.{TakesNone}
use Rattle.rb_connections.specs.declared.slot.Stage.{Stage}
use Rattle.rb_connections.specs.declared.slot.Stage.TheVariants as stages
use Rattle.rb_connections.specs.declared.giving.Giving.{Giving}
use Rattle.rb_registry.specs.Registry.{Registry}
use Rattle.rb_connections.specs.StandsFor.{StandsForPhase}
use Rattle.rb_connections.specs.Slots.{IsBeforePiece}
use Rattle.rb_connections.proofs.Slots.{reads_nothing}
use Rattle.rb_connections.proofs.OneSlot.{idle_phase, reading_phase, giving_phase, awaiting_phase, lost_phase, feeding_acts, taken_arguments, nothing_of_nothing, nothing_where_owing, nothing_where_awaiting, nothing_where_lost, some_where_fed, since_of_idle, since_of_reading}
use Rattle.rb_connections.proofs.slot.Slot.take.Goals as goal

no_bytes : (piece : List ℕ) → eqb (length piece) 0 ≡ true → piece ≡ []
no_bytes [] h = refl
no_bytes (b ∷ piece) h = let none : length (b ∷ piece) ≡ 0 = grind (arith, nat_tests) in absurd (omega (arith, none))

some_bytes : (piece : List ℕ) → eqb (length piece) 0 ≡ false → piece ≡ [] → ⊥
some_bytes piece h e = let clash : true ≡ false = sym (ap (λ (xs : List ℕ). eqb (length xs) 0) e) ∙ h in absurd cc

pub returns-then-is_empty-clause-acts : goal.returns-then-is_empty-clause-acts
returns-then-is_empty-clause-acts c =
    let piece = c.args.piece.now in
    let nothing = no_bytes piece (sym c.is_empty.ensures ∙ c.if-is_empty.true) in
    λ registry. feeding_acts registry c.args.self.now _ c.args.clock piece _ (λ x h. record {
      taken = TakesNone;
      is = rw nothing (nothing_of_nothing x.phase);
      gives = c.nothing.ensures;
      stands = h;
    })

pub returns-in-Idle-clause-acts : goal.returns-in-Idle-clause-acts
returns-in-Idle-clause-acts c =
    let piece = c.args.piece.now in
    let some = some_bytes piece (sym c.is_empty.ensures ∙ c.if-is_empty.false) in
    λ registry. feeding_acts registry c.args.self.now _ c.args.clock piece _ (λ x h.
    let p = idle_phase registry _ _ _ x.phase c.in-Idle.is h.phase in
    let before : IsBeforePiece _ c.new.result c.args.clock x [] = record {
      number = h.number;
      who = h.who;
      since = sym (since_of_idle c.args.clock x.since x.phase p.0);
      reads = reads_nothing c.new.result _ c.new.ensures.marks c.new.ensures.head p.1 c.requires.buffers.buffer_cap;
      window = p.2;
    } in
    record {
      taken = taking_on [] piece;
      is = some_where_fed x.phase [] piece (ap fed_in p.0) some;
      gives = c.feed.ensures.received x [] before;
      stands = c.feed.ensures.stands registry x [] before;
    })

pub returns-in-Reading-clause-acts : goal.returns-in-Reading-clause-acts
returns-in-Reading-clause-acts c =
    let piece = c.args.piece.now in
    let some = some_bytes piece (sym c.is_empty.ensures ∙ c.if-is_empty.false) in
    λ registry. feeding_acts registry c.args.self.now _ c.args.clock piece _ (λ x h.
    let p = reading_phase registry c.in-Reading.reader _ _ _ x.phase c.in-Reading.is h.phase in
    let before : IsBeforePiece _ c.in-Reading.reader c.args.clock x p.0 = record { number = h.number; who = h.who; since = h.since ∙ sym (since_of_reading c.args.clock x.since x.phase p.0 p.1); reads = p.2; window = p.3 } in
    record {
      taken = taking_on p.0 piece;
      is = some_where_fed x.phase p.0 piece (ap fed_in p.1) some;
      gives = c.feed-in-Reading.ensures.received x p.0 before;
      stands = c.feed-in-Reading.ensures.stands registry x p.0 before;
    })

nothing_where : (registry : Registry) (stage : Stage) (buffer window : Kept) (phase : Phase) (piece : List ℕ) → ((giving : Giving) × (stage ≡ stages.Owing giving)) ⊎ ((stage ≡ stages.Awaiting) ⊎ (stage ≡ stages.Lost)) → StandsForPhase registry stage buffer window phase → taking_of phase piece ≡ TakesNone
nothing_where registry stage buffer window phase piece (inl o) h = let p = giving_phase registry o.0 stage buffer window phase o.1 h in nothing_where_owing phase p.0 piece p.1
nothing_where registry stage buffer window phase piece (inr (inl a)) h = nothing_where_awaiting phase piece (awaiting_phase registry stage buffer window phase a h)
nothing_where registry stage buffer window phase piece (inr (inr l)) h = nothing_where_lost phase piece (lost_phase registry stage buffer window phase l h)

pub returns-in-Owing-clause-acts : goal.returns-in-Owing-clause-acts
returns-in-Owing-clause-acts c =
    λ registry. feeding_acts registry c.args.self.now _ c.args.clock c.args.piece.now _ (λ x h. record {
      taken = TakesNone;
      is = nothing_where registry c.args.self.now.stage _ _ x.phase c.args.piece.now c.in-Owing.is h.phase;
      gives = c.nothing-in-Owing.ensures;
      stands = h;
    })

pub returns-then-is_empty-clause-arguments : goal.returns-then-is_empty-clause-arguments
returns-then-is_empty-clause-arguments c = λ registry x h.
    let piece = c.args.piece.now in
    let nothing = no_bytes piece (sym c.is_empty.ensures ∙ c.if-is_empty.true) in
    taken_arguments _ _ piece x TakesNone (rw nothing (nothing_of_nothing x.phase)) refl

pub returns-in-Idle-clause-arguments : goal.returns-in-Idle-clause-arguments
returns-in-Idle-clause-arguments c = λ registry x h.
    let piece = c.args.piece.now in
    let some = some_bytes piece (sym c.is_empty.ensures ∙ c.if-is_empty.false) in
    let p = idle_phase registry _ _ _ x.phase c.in-Idle.is h.phase in
    let before : IsBeforePiece _ c.new.result c.args.clock x [] = record {
      number = h.number;
      who = h.who;
      since = sym (since_of_idle c.args.clock x.since x.phase p.0);
      reads = reads_nothing c.new.result _ c.new.ensures.marks c.new.ensures.head p.1 c.requires.buffers.buffer_cap;
      window = p.2;
    } in
    taken_arguments _ _ piece x (taking_on [] piece) (some_where_fed x.phase [] piece (ap fed_in p.0) some) (c.feed.ensures.arguments x [] before)

pub returns-in-Reading-clause-arguments : goal.returns-in-Reading-clause-arguments
returns-in-Reading-clause-arguments c = λ registry x h.
    let piece = c.args.piece.now in
    let some = some_bytes piece (sym c.is_empty.ensures ∙ c.if-is_empty.false) in
    let p = reading_phase registry c.in-Reading.reader _ _ _ x.phase c.in-Reading.is h.phase in
    let before : IsBeforePiece _ c.in-Reading.reader c.args.clock x p.0 = record { number = h.number; who = h.who; since = h.since ∙ sym (since_of_reading c.args.clock x.since x.phase p.0 p.1); reads = p.2; window = p.3 } in
    taken_arguments _ _ piece x (taking_on p.0 piece) (some_where_fed x.phase p.0 piece (ap fed_in p.1) some) (c.feed-in-Reading.ensures.arguments x p.0 before)

pub returns-in-Owing-clause-arguments : goal.returns-in-Owing-clause-arguments
returns-in-Owing-clause-arguments c = λ registry x h.
    taken_arguments _ _ c.args.piece.now x TakesNone (nothing_where registry c.args.self.now.stage _ _ x.phase c.args.piece.now c.in-Owing.is h.phase) refl

pub returns-in-Idle-clause-lists : goal.returns-in-Idle-clause-lists
returns-in-Idle-clause-lists c = λ registry told. c.feed.ensures.lists registry

pub returns-in-Reading-clause-lists : goal.returns-in-Reading-clause-lists
returns-in-Reading-clause-lists c = λ registry told. c.feed-in-Reading.ensures.lists registry
