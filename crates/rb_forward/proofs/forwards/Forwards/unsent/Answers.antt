use Rattle.std.proofs.Common.{sym, subst, ap, ◌∙◌, ◌≡◌}
use Rattle.rb_xdr.proofs.PoolLemmas.{All-value_at}
use Rattle.rb_xdr.specs.Meter.{Meter}
use Rattle.rb_forward.specs.declared.entries.Sought.TheVariants as wanted
use Rattle.rb_forward.specs.StandsFor.{StandsForForwards}
use Rattle.rb_forward.specs.Table.{HasBuffer}
use Rattle.rb_forward.proofs.Stands.{nothing_unsent, unsent_lent, is_there, lent_whole}
use Rattle.rb_forward.proofs.forwards.Forwards.unsent.Goals as goal

pub returns-in_default-clause-unsent : goal.returns-in_default-clause-unsent
returns-in_default-clause-unsent c = λ f h.
    let z = subst (λ t. StandsForForwards t f) (sym c.self.view_is) h in
    rw (← c.self.view_is) (sym (nothing_unsent c.self.inside.first_xid c.self.inside.slots.entries f z.all (sym c.in_default.ensures.key)))

pub unreachable-requires : goal.unreachable-requires
unreachable-requires c = is_there wanted.AnyUnsent c.self.inside.slots.entries c.in-Some.key c.self.invariant.distinct (sym c.in-Some.ensures.key) (sym c.in_default-get.ensures.value)

pub len-count-requires : goal.len-count-requires
len-count-requires c =
    let b = All-value_at (HasBuffer c.self.inside.slots.tie) c.self.inside.slots.entries c.in-Some.key c.in-Some-get.slot.now c.self.invariant.buffers (sym c.in-Some-get.ensures.value) in
    ap (λ (m : Meter). m.tie) c.get.ensures.cost ∙ c.wanted_key.ensures.cost.tie ∙ c.requires ∙ sym (ap (λ t. t.tie) c.self.view_is) ∙ sym b.tie

pub lend-requires-clause-tie : goal.lend-requires-clause-tie
lend-requires-clause-tie c =
    let b = All-value_at (HasBuffer c.self.inside.slots.tie) c.self.inside.slots.entries c.in-Some.key c.in-Some-get.slot.now c.self.invariant.buffers (sym c.in-Some-get.ensures.value) in
    ap (λ (m : Meter). m.tie) c.len-count.ensures.cost ∙ ap (λ (m : Meter). m.tie) c.get.ensures.cost ∙ c.wanted_key.ensures.cost.tie ∙ c.requires ∙ sym (ap (λ t. t.tie) c.self.view_is) ∙ sym b.tie

pub returns-clause-unsent : goal.returns-clause-unsent
returns-clause-unsent c = λ f h.
    let z = subst (λ t. StandsForForwards t f) (sym c.self.view_is) h in
    let whole : c.lend.result.now ≡ c.in-Some-get.slot.now.call.bytes = c.lend.ensures.bytes ∙ lent_whole c.in-Some-get.slot.now.call.bytes c.len-count.result c.len-count.ensures.len in
    rw (whole, ← c.self.view_is)
    (sym (unsent_lent c.self.inside.first_xid c.self.inside.slots.entries f c.in-Some.key c.in-Some-get.slot.now c.self.invariant.distinct z.all (sym c.in-Some.ensures.key) (sym c.in-Some-get.ensures.value)))

pub returns-clause-few : goal.returns-clause-few
returns-clause-few c =
    let b = All-value_at (HasBuffer c.self.inside.slots.tie) c.self.inside.slots.entries c.in-Some.key c.in-Some-get.slot.now c.self.invariant.buffers (sym c.in-Some-get.ensures.value) in
    rw (c.lend.ensures.bytes ∙ lent_whole c.in-Some-get.slot.now.call.bytes c.len-count.result c.len-count.ensures.len) b.within
