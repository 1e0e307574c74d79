use Rattle.std.proofs.Common.{ℕ, Some, None, refl, ap}
use Rattle.rb_xdr.specs.Kept.{Kept}
use Rattle.rb_model.specs.Connections.{settle}
use Rattle.rb_connections.proofs.Progress.{slot_lists_on, slot_begins}
use Rattle.rb_connections.proofs.FreshLists.{fresh_is_some}
use Rattle.rb_connections.proofs.slot.Slot.settle.Goals as goal

pub returns-in-Answered-NoCall-clause-stands : goal.returns-in-Answered-NoCall-clause-stands
unfolding settle
returns-in-Answered-NoCall-clause-stands c = λ x h. rw (c.in-Answered-NoCall.is, rw c.in-Answered-NoCall.is at c.in-Answered-NoCall.field-0-is) (record { number = h.number; who = h.who; since = refl; phase = tt })

pub returns-in-Answered-Forwarded-clause-stands : goal.returns-in-Answered-Forwarded-clause-stands
unfolding settle
returns-in-Answered-Forwarded-clause-stands c = λ x h.
    rw (c.in-Answered-Forwarded.is, rw c.in-Answered-Forwarded.is at c.in-Answered-Forwarded.field-0-is, c.empty.ensures.emptied) (record { number = h.number; who = h.who; since = refl; phase = (refl, refl) })

pub returns-in-Answered-Silent-clause-stands : goal.returns-in-Answered-Silent-clause-stands
unfolding settle
returns-in-Answered-Silent-clause-stands c = λ x h.
    rw (c.in-Answered-Silent.is, rw c.in-Answered-Silent.is at c.in-Answered-Silent.field-0-is, c.empty-in-Answered-Silent.ensures.emptied) (record { number = h.number; who = h.who; since = refl; phase = (refl, refl) })

pub returns-in-Answered-Reply-clause-stands : goal.returns-in-Answered-Reply-clause-stands
unfolding settle
returns-in-Answered-Reply-clause-stands c = λ x h.
    rw (c.in-Answered-Reply.is, rw c.in-Answered-Reply.is at c.in-Answered-Reply.field-0-is)
    (slot_begins _ _ _ c.frame.new.self c.frame.ensures.shows c.args.clock x c.args.draft.now.bytes None h.number h.who refl c.requires.buffers.window_cap
    (ap (λ (k : Kept). k.bytes) c.swap.ensures.x_after) refl)

pub returns-in-Answered-Reply-clause-lists : goal.returns-in-Answered-Reply-clause-lists
returns-in-Answered-Reply-clause-lists c = slot_lists_on _ _ _ c.frame.new.self c.frame.ensures.shows

pub frame-requires-in-Listed-clause-some : goal.frame-requires-in-Listed-clause-some
frame-requires-in-Listed-clause-some c =
    fresh_is_some c.args.registry.now c.in-Listed.xid c.in-Listed.listing c.new-list.result c.new-list.ensures.rest

pub returns-in-Listed-clause-stands : goal.returns-in-Listed-clause-stands
unfolding settle
returns-in-Listed-clause-stands c = λ x h.
    rw c.in-Listed.is
    (slot_begins _ _ _ c.frame-in-Listed.new.self c.frame-in-Listed.ensures.shows c.args.clock x _ _ h.number h.who refl c.requires.buffers.window_cap
    c.new-list.ensures.rest (ap (λ (n : ℕ). Some n) c.new-list.ensures.stamp))

pub returns-in-Listed-clause-lists : goal.returns-in-Listed-clause-lists
returns-in-Listed-clause-lists c = slot_lists_on _ _ _ c.frame-in-Listed.new.self c.frame-in-Listed.ensures.shows
