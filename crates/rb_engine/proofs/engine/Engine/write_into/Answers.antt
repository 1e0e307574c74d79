use Rattle.std.proofs.Common.{◌≡◌, ◌≤◌, ℕ, false, List, [], length, take, Result, Ok, arith, refl, sym, ap, subst, ◌∙◌}
use Rattle.std.proofs.lemmas.List.{length-take}
use Rattle.std.proofs.lemmas.Result.{err_from_is_err_and}
use Rattle.rb_model.specs.declared.types.CoreFault.{CoreFault}
use Rattle.rb_model.specs.declared.types.Given.{Given}
use Rattle.rb_model.specs.Gives.{write_into, bytes_given}
use Rattle.rb_model.specs.Sessions.{pending_bytes}
use Rattle.rb_lines.specs.Entries.{run_entries}
use Rattle.rb_lines.specs.Tapes.{Records}
use Rattle.rb_connections.specs.Slots.{Acts}
use Rattle.rb_core.specs.StandsFor.{CoreView, StandsFor}
use Rattle.rb_engine.specs.Recording.{give_events}
use Rattle.rb_engine.proofs.Pieces.{few_given, none_given, gives_records, gives_goes, off_pieces, no_pieces, all_pieces, first_some}
use Rattle.rb_engine.proofs.Paying.{served_of, paid_on, raised, none_paid, count_is, into_paid}
use Rattle.rb_engine.proofs.engine.Engine.write_into.Goals as goal

-- a step from a core that is the same acts as one from this
from_same : (now id room : ℕ) (looked old new : CoreView) (r : Result (List ℕ) CoreFault) → looked ≡ old → Acts StandsFor (λ s. write_into s now id room) looked new r → Acts StandsFor (λ s. write_into s now id room) old new r
from_same now id room looked old new r same acts = subst (λ (held : CoreView). Acts StandsFor (λ s. write_into s now id room) held new r) same acts

nothing_taken : (n : ℕ) (room : List ℕ) → n ≤ 0 → take n room ≡ []
nothing_taken n room none = let is : n ≡ 0 = omega (arith, none) in ap (λ (k : ℕ). take k room) is

pub invariant_of-self : goal.invariant_of-self
invariant_of-self c =
    let off : c.args.self.now.tape.is_on ≡ false = sym c.is_on.ensures ∙ c.if-not-is_on.true in
    record {
      paid = paid_on c.args.self.now.core c.write_into.new.self c.args.self.now.tape _ c.args.self.now.looks.steps 1 _ _
          (gives_goes c.args.self.now.moment c.args.id (length c.write_into.new.room) (bytes_given c.write_into.new.room c.write_into.result) c.args.self.now.core.core c.write_into.new.self.core c.write_into.ensures.acts c.args.self.now.tape c.args.self.now.tape
          (off_pieces c.args.self.now.moment c.args.id (pending_bytes (bytes_given c.write_into.new.room c.write_into.result)) c.args.self.now.core.core c.args.self.now.tape off (served_of c.args.self.now.core c.args.self.now.tape c.args.self.now.looks.steps c.args.self.now.paid)) c.args.self.now.fits c.ranges.id.fits (few_given c.write_into.new.room c.write_into.result (omega (arith, c.write_into.auto.room, c.count_fits.ensures))))
          (raised _ _ _ c.raise.ensures)
          (into_paid c.args.self.now.moment c.args.id (length c.write_into.new.room) _ (bytes_given c.write_into.new.room c.write_into.result) c.args.self.now.core.core c.write_into.new.self.core c.args.self.now.core.meter c.args.self.now.core.meter c.write_into.new.self.meter (count_is c.write_into.new.room c.write_into.result c.write_into.ensures.within) c.write_into.ensures.acts (none_paid _ _) c.write_into.ensures.priced)
          c.args.self.now.paid;
      fits = c.args.self.now.fits;
    }

pub returns-then-not-is_on-clause-recorded : goal.returns-then-not-is_on-clause-recorded
returns-then-not-is_on-clause-recorded c =
    let off : c.args.self.now.tape.is_on ≡ false = sym c.is_on.ensures ∙ c.if-not-is_on.true in
    gives_records c.args.self.now.moment c.args.id (length c.write_into.new.room) (bytes_given c.write_into.new.room c.write_into.result) c.args.self.now.core.core c.write_into.new.self.core c.write_into.ensures.acts c.args.self.now.tape c.args.self.now.tape
    (off_pieces c.args.self.now.moment c.args.id (pending_bytes (bytes_given c.write_into.new.room c.write_into.result)) c.args.self.now.core.core c.args.self.now.tape off (served_of c.args.self.now.core c.args.self.now.tape c.args.self.now.looks.steps c.args.self.now.paid))

pub invariant_of-self-in-Break-1 : goal.invariant_of-self-in-Break-1
invariant_of-self-in-Break-1 c =
    record {
      paid = paid_on c.args.self.now.core c.write_into-2.new.self c.args.self.now.tape _ c.args.self.now.looks.steps 1 _ _
          (gives_goes c.args.self.now.moment c.args.id (length c.write_into-2.new.room) _ c.args.self.now.core.core c.write_into-2.new.self.core
          (from_same c.args.self.now.moment c.args.id (length c.write_into-2.new.room) c.count_pending-first.new.core.core c.args.self.now.core.core c.write_into-2.new.self.core _ c.count_pending-first.ensures.stays c.in_err-given.ensures.acts)
          c.args.self.now.tape c.args.self.now.tape (no_pieces c.args.self.now.moment c.args.id [] c.args.self.now.core.core c.args.self.now.tape refl (served_of c.args.self.now.core c.args.self.now.tape c.args.self.now.looks.steps c.args.self.now.paid)) c.args.self.now.fits c.ranges.id.fits none_given)
          (raised _ _ _ c.raise.ensures)
          (into_paid c.args.self.now.moment c.args.id (length c.write_into-2.new.room) 0 _ c.args.self.now.core.core c.write_into-2.new.self.core c.args.self.now.core.meter c.count_pending-first.new.core.meter c.write_into-2.new.self.meter refl (from_same c.args.self.now.moment c.args.id (length c.write_into-2.new.room) c.count_pending-first.new.core.core c.args.self.now.core.core c.write_into-2.new.self.core _ c.count_pending-first.ensures.stays c.in_err-given.ensures.acts) c.count_pending-first.ensures.cost (λ s h. c.in_err-given.ensures.priced s (subst (λ (held : CoreView). StandsFor held s) (sym c.count_pending-first.ensures.stays) h)))
          c.args.self.now.paid;
      fits = c.args.self.now.fits;
    }

pub returns-in_err-given-clause-recorded : goal.returns-in_err-given-clause-recorded
returns-in_err-given-clause-recorded c = λ s h.
    let p = err_from_is_err_and c.from_residual.result c.from_residual.ensures.1 in
    let none : pending_bytes (bytes_given c.write_into-2.new.room c.from_residual.result) ≡ [] = ap (λ (r : Result Given CoreFault). pending_bytes (bytes_given c.write_into-2.new.room r)) p.1 in
    subst (λ (bytes : List ℕ). Records (run_entries s (give_events c.args.self.now.moment c.args.id bytes s)) c.args.self.now.tape c.args.self.now.tape) (sym none)
    (gives_records c.args.self.now.moment c.args.id (length c.write_into-2.new.room) _ c.args.self.now.core.core c.write_into-2.new.self.core
    (from_same c.args.self.now.moment c.args.id (length c.write_into-2.new.room) c.count_pending-first.new.core.core c.args.self.now.core.core c.write_into-2.new.self.core _ c.count_pending-first.ensures.stays c.in_err-given.ensures.acts)
    c.args.self.now.tape c.args.self.now.tape (no_pieces c.args.self.now.moment c.args.id [] c.args.self.now.core.core c.args.self.now.tape refl (served_of c.args.self.now.core c.args.self.now.tape c.args.self.now.looks.steps c.args.self.now.paid)) s h)

pub record_pieces-requires-clause-first : goal.record_pieces-requires-clause-first
record_pieces-requires-clause-first c =
    let bytes : List ℕ = take c.in_ok-given.given.count c.write_into-2.new.room in
    first_some c.args.self.now.moment c.args.id (length c.write_into-2.new.room) c.count_pending-first.result bytes c.args.self.now.core.core c.write_into-2.new.self.core c.args.self.now.tape c.count_pending-first.ensures.count
    (from_same c.args.self.now.moment c.args.id (length c.write_into-2.new.room) c.count_pending-first.new.core.core c.args.self.now.core.core c.write_into-2.new.self.core (Ok bytes) c.count_pending-first.ensures.stays c.in_ok-given.ensures.acts)
    (omega (arith, c.if-given-gt0.true, c.in_ok-given.ensures.within, length-take c.in_ok-given.given.count c.write_into-2.new.room)) (served_of c.args.self.now.core c.args.self.now.tape c.args.self.now.looks.steps c.args.self.now.paid)

pub invariant_of-self-then-given-gt0 : goal.invariant_of-self-then-given-gt0
invariant_of-self-then-given-gt0 c =
    let bytes : List ℕ = take c.in_ok-given.given.count c.write_into-2.new.room in
    record {
      paid = paid_on c.args.self.now.core c.write_into-2.new.self c.args.self.now.tape _ c.args.self.now.looks.steps 1 _ _
          (gives_goes c.args.self.now.moment c.args.id (length c.write_into-2.new.room) (Ok bytes) c.args.self.now.core.core c.write_into-2.new.self.core
          (from_same c.args.self.now.moment c.args.id (length c.write_into-2.new.room) c.count_pending-first.new.core.core c.args.self.now.core.core c.write_into-2.new.self.core (Ok bytes) c.count_pending-first.ensures.stays c.in_ok-given.ensures.acts)
          c.args.self.now.tape c.record_pieces.new.tape
          (all_pieces c.args.self.now.moment c.args.id c.count_pending-first.result bytes c.args.self.now.core.core c.args.self.now.tape c.record_pieces.new.tape c.count_pending-first.ensures.count c.record_pieces.ensures) c.args.self.now.fits c.ranges.id.fits (omega (arith, length-take c.in_ok-given.given.count c.write_into-2.new.room, c.write_into-2.auto.room, c.count_fits.ensures)))
          (raised _ _ _ c.raise.ensures)
          (into_paid c.args.self.now.moment c.args.id (length c.write_into-2.new.room) c.in_ok-given.given.count (Ok bytes) c.args.self.now.core.core c.write_into-2.new.self.core c.args.self.now.core.meter c.count_pending-first.new.core.meter c.write_into-2.new.self.meter (omega (arith, c.in_ok-given.ensures.within, length-take c.in_ok-given.given.count c.write_into-2.new.room)) (from_same c.args.self.now.moment c.args.id (length c.write_into-2.new.room) c.count_pending-first.new.core.core c.args.self.now.core.core c.write_into-2.new.self.core (Ok bytes) c.count_pending-first.ensures.stays c.in_ok-given.ensures.acts) c.count_pending-first.ensures.cost (λ s h. c.in_ok-given.ensures.priced s (subst (λ (held : CoreView). StandsFor held s) (sym c.count_pending-first.ensures.stays) h)))
          c.args.self.now.paid;
      fits = c.args.self.now.fits;
    }

pub invariant_of-self-else-given-gt0 : goal.invariant_of-self-else-given-gt0
invariant_of-self-else-given-gt0 c =
    let bytes : List ℕ = take c.in_ok-given.given.count c.write_into-2.new.room in
    record {
      paid = paid_on c.args.self.now.core c.write_into-2.new.self c.args.self.now.tape _ c.args.self.now.looks.steps 1 _ _
          (gives_goes c.args.self.now.moment c.args.id (length c.write_into-2.new.room) (Ok bytes) c.args.self.now.core.core c.write_into-2.new.self.core
          (from_same c.args.self.now.moment c.args.id (length c.write_into-2.new.room) c.count_pending-first.new.core.core c.args.self.now.core.core c.write_into-2.new.self.core (Ok bytes) c.count_pending-first.ensures.stays c.in_ok-given.ensures.acts)
          c.args.self.now.tape c.args.self.now.tape
          (no_pieces c.args.self.now.moment c.args.id bytes c.args.self.now.core.core c.args.self.now.tape (nothing_taken c.in_ok-given.given.count c.write_into-2.new.room c.if-given-gt0.false) (served_of c.args.self.now.core c.args.self.now.tape c.args.self.now.looks.steps c.args.self.now.paid)) c.args.self.now.fits c.ranges.id.fits (omega (arith, length-take c.in_ok-given.given.count c.write_into-2.new.room, c.write_into-2.auto.room, c.count_fits.ensures)))
          (raised _ _ _ c.raise.ensures)
          (into_paid c.args.self.now.moment c.args.id (length c.write_into-2.new.room) c.in_ok-given.given.count (Ok bytes) c.args.self.now.core.core c.write_into-2.new.self.core c.args.self.now.core.meter c.count_pending-first.new.core.meter c.write_into-2.new.self.meter (omega (arith, c.in_ok-given.ensures.within, length-take c.in_ok-given.given.count c.write_into-2.new.room)) (from_same c.args.self.now.moment c.args.id (length c.write_into-2.new.room) c.count_pending-first.new.core.core c.args.self.now.core.core c.write_into-2.new.self.core (Ok bytes) c.count_pending-first.ensures.stays c.in_ok-given.ensures.acts) c.count_pending-first.ensures.cost (λ s h. c.in_ok-given.ensures.priced s (subst (λ (held : CoreView). StandsFor held s) (sym c.count_pending-first.ensures.stays) h)))
          c.args.self.now.paid;
      fits = c.args.self.now.fits;
    }

pub returns-then-given-gt0-clause-recorded : goal.returns-then-given-gt0-clause-recorded
returns-then-given-gt0-clause-recorded c =
    let bytes : List ℕ = take c.in_ok-given.given.count c.write_into-2.new.room in
    gives_records c.args.self.now.moment c.args.id (length c.write_into-2.new.room) (Ok bytes) c.args.self.now.core.core c.write_into-2.new.self.core
    (from_same c.args.self.now.moment c.args.id (length c.write_into-2.new.room) c.count_pending-first.new.core.core c.args.self.now.core.core c.write_into-2.new.self.core (Ok bytes) c.count_pending-first.ensures.stays c.in_ok-given.ensures.acts)
    c.args.self.now.tape c.record_pieces.new.tape
    (all_pieces c.args.self.now.moment c.args.id c.count_pending-first.result bytes c.args.self.now.core.core c.args.self.now.tape c.record_pieces.new.tape c.count_pending-first.ensures.count c.record_pieces.ensures)

pub returns-else-given-gt0-clause-recorded : goal.returns-else-given-gt0-clause-recorded
returns-else-given-gt0-clause-recorded c =
    let bytes : List ℕ = take c.in_ok-given.given.count c.write_into-2.new.room in
    gives_records c.args.self.now.moment c.args.id (length c.write_into-2.new.room) (Ok bytes) c.args.self.now.core.core c.write_into-2.new.self.core
    (from_same c.args.self.now.moment c.args.id (length c.write_into-2.new.room) c.count_pending-first.new.core.core c.args.self.now.core.core c.write_into-2.new.self.core (Ok bytes) c.count_pending-first.ensures.stays c.in_ok-given.ensures.acts)
    c.args.self.now.tape c.args.self.now.tape
    (no_pieces c.args.self.now.moment c.args.id bytes c.args.self.now.core.core c.args.self.now.tape (nothing_taken c.in_ok-given.given.count c.write_into-2.new.room c.if-given-gt0.false) (served_of c.args.self.now.core c.args.self.now.tape c.args.self.now.looks.steps c.args.self.now.paid))
