use Rattle.std.proofs.Common.{rules, [], refl, sym, ap, arith}
use Rattle.rb_xdr.specs.Meter.{Meter}
use Rattle.rb_xdr.proofs.PoolLemmas.{All-value_at}
use Rattle.rb_connections.specs.declared.slot.Sought.TheVariants as wanted
use Rattle.rb_connections.specs.Slots.{HasBuffers}
use Rattle.rb_connections.proofs.LiveSlots.{key_is, is_live, charge_among}
use Rattle.rb_connections.proofs.Slots.{slot_is_there}
use Rattle.rb_connections.proofs.connections.live_slot.Goals as goal

pub returns-in_err-slot : goal.returns-in_err-slot
returns-in_err-slot c = absurd (slot_is_there (wanted.Live c.args.id) c.args.slots.now.entries [] c.in_ok-key.key (sym c.in_ok-key.ensures.key) (sym c.in_err-slot.ensures.value))

pub charge-requires : goal.charge-requires
charge-requires c =
    rw (ap (λ (m : Meter). m.tie) c.get_mut.ensures.cost, c.in_ok-key.ensures.cost.tie)
    (All-value_at (HasBuffers c.args.meter.now.tie) c.args.slots.now.entries c.in_ok-key.key c.in_ok-slot.slot.now c.requires.buffers (sym c.in_ok-slot.ensures.value))

pub overflow_sub-held : goal.overflow_sub-held
overflow_sub-held c = rw (c.charge.ensures.charge, c.requires.held) (charge_among c.args.slots.now.entries c.in_ok-key.key c.in_ok-slot.slot.now (sym c.in_ok-slot.ensures.value))

pub returns : goal.returns
returns c = (
  rw (key_is c.args.id c.args.slots.now.entries c.in_ok-key.key (sym c.in_ok-key.ensures.key)) refl,
  record {
    writes_back = tt;
    found = is_live c.args.id c.args.slots.now.entries c.in_ok-key.key c.in_ok-slot.slot.now (sym c.in_ok-key.ensures.key) (sym c.in_ok-slot.ensures.value);
    its = All-value_at (HasBuffers c.args.meter.now.tie) c.args.slots.now.entries c.in_ok-key.key c.in_ok-slot.slot.now c.requires.buffers (sym c.in_ok-slot.ensures.value);
    held =
        let fits = charge_among c.args.slots.now.entries c.in_ok-key.key c.in_ok-slot.slot.now (sym c.in_ok-slot.ensures.value) in
        omega (arith, c.charge.ensures.charge, c.requires.held, fits);
    cost = search rules;
  },
)
