use Rattle.std.proofs.Common.{Some, refl, sym, ◌∙◌, arith}
use Rattle.std.proofs.lemmas.Bool.{ne_eqb}
use Rattle.rb_xdr.specs.Places.{to_come}
use Rattle.rb_registry.specs.Rows.{rpcb_prog}
use Rattle.rb_registry.proofs.InOrder.{in_order_to_come, own_to_come}
use Rattle.rb_registry.proofs.NextOf.{no_own_left, no_own_to_come, no_own_elsewhere}
use Rattle.rb_registry.proofs.versions.own_after.Goals as goal

pub rows-init : goal.rows-init
rows-init c = record {
  rest = refl;
  own = refl;
  ordered = in_order_to_come c.args.start c.args.slots.now.entries c.requires.ordered;
  tie = refl;
  rises = omega arith;
  steps = omega (arith, own_to_come c.args.start c.args.slots.now.entries, c.requires.few);
}

pub returns-then-after-gt0-clause-none : goal.returns-then-after-gt0-clause-none
returns-then-after-gt0-clause-none c =
    no_own_to_come c.args.prog c.args.vers c.args.slots.now.entries c.args.start c.args.after c.requires.ordered c.requires.added (omega (arith, c.if-after-gt0.true))

pub returns-then-slot-gt0-clause-none : goal.returns-then-slot-gt0-clause-none
returns-then-slot-gt0-clause-none c =
    sym c.rows.invariant.own
    ∙ no_own_left c.args.prog c.args.vers (to_come c.args.slots.now.entries c.rows.place) (c.in-Some.key, c.in-Some.slot.now) (to_come c.args.slots.now.entries (Some c.in-Some.key)) c.rows.invariant.ordered c.in-Some.ensures.next c.if-slot-gt0.true

pub returns-then-prog-ne-RPCB_PROG-clause-none : goal.returns-then-prog-ne-RPCB_PROG-clause-none
returns-then-prog-ne-RPCB_PROG-clause-none c = no_own_elsewhere c.args.prog c.args.vers (ne_eqb c.args.prog rpcb_prog c.if-prog-ne-RPCB_PROG.true) c.args.slots.now.entries c.args.start c.requires.ours
