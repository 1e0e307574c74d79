use Rattle.std.proofs.Common.{◌≡◌, ◌<◌, ◌≤◌, ◌+◌, ◌-◌, ◌*◌, ◌/◌, ℕ, List, ◌++◌, length, take, drop, refl, sym, ap, ◌∙◌, arith, rules}
use Rattle.std.proofs.lemmas.List.{length-drop, drop-drop}
use Rattle.rb_rpc.specs.Records.{fragment_size}
use Rattle.rb_model.specs.Connections.{longest_fragment}
use Rattle.rb_model.proofs.Fragments.{longest_is}
use Rattle.rb_connections.specs.Giving.{fitting_front}
use Rattle.rb_connections.specs.StandsFor.{rest_in}
use Rattle.rb_connections.proofs.Rooms.{size_of_room, ends_room, shows_room, goes_on_room, ends_count, next_alike, pays_fragment}
use Rattle.rb_connections.proofs.giving.write_fragments.Goals as goal
use borrow.Rule.Slice.PartMut.{put_mid}

pub returns-in-Ended-clause-written : goal.returns-in-Ended-clause-written
returns-in-Ended-clause-written c =
    let i = c.fragments.invariant in
    ends_room c.fragments.count _ c.fragments.room c.write_next.new.room i.within refl (omega arith)
    (rest_in c.args.registry.now c.args.buffer.now.bytes c.args.rest) (rest_in c.args.registry.now c.args.buffer.now.bytes c.fragments.rest)
    i.written c.in-Ended.more c.in-Ended.ensures.writes.0

pub returns-in-Ended-clause-goes_on : goal.returns-in-Ended-clause-goes_on
returns-in-Ended-clause-goes_on c =
    let i = c.fragments.invariant in (
      ends_count c.fragments.count c.in-Ended.more (rest_in c.args.registry.now c.args.buffer.now.bytes c.args.rest) (rest_in c.args.registry.now c.args.buffer.now.bytes c.fragments.rest) c.write_next.new.room
          i.whole i.rest_is i.some c.in-Ended.ensures.writes.0,
      c.in-Ended.ensures.writes.1 ∙ i.window,
    )

pub returns-in-Ended-clause-cost : goal.returns-in-Ended-clause-cost
unfolding longest_fragment
returns-in-Ended-clause-cost c =
    let i = c.fragments.invariant in
    pays_fragment c.args.meter.now c.fragments.meter c.write_next.new.meter (c.fragments.count / 1028) _ _ _ i.cost c.in-Ended.ensures.cost
    (next_alike c.args.registry.now c.fragments.rest c.args.rest i.stamp) (omega arith)

pub returns-in-Shown-clause-written : goal.returns-in-Shown-clause-written
returns-in-Shown-clause-written c =
    let i = c.fragments.invariant in
    shows_room c.fragments.count _ c.fragments.room c.write_next.new.room i.within refl (omega arith)
    (rest_in c.args.registry.now c.args.buffer.now.bytes c.args.rest) (rest_in c.args.registry.now c.args.buffer.now.bytes c.fragments.rest)
    i.written c.in-Shown.ensures.writes.long

pub returns-in-Shown-clause-goes_on : goal.returns-in-Shown-clause-goes_on
returns-in-Shown-clause-goes_on c =
    let i = c.fragments.invariant in
    record { next = c.fragments.rest; whole = i.whole; rest_is = i.rest_is; some = i.some; stamp = i.stamp; shows = rw (← i.window) c.in-Shown.ensures.writes.shows }

pub returns-in-Shown-clause-cost : goal.returns-in-Shown-clause-cost
unfolding longest_fragment
returns-in-Shown-clause-cost c =
    let i = c.fragments.invariant in
    pays_fragment c.args.meter.now c.fragments.meter c.write_next.new.meter (c.fragments.count / 1028) _ _ _ i.cost c.in-Shown.ensures.cost
    (next_alike c.args.registry.now c.fragments.rest c.args.rest i.stamp) (omega arith)

pub fragments-smaller : goal.fragments-smaller
fragments-smaller c =
    let w = c.in-Behind.ensures.writes.0 in
    let size = size_of_room c.fragments.count _ c.fragments.room c.write_next.new.room c.fragments.invariant.within refl (omega arith) in
    omega (arith, size, w.fits, longest_is)

pub fragments-preserved : goal.fragments-preserved
unfolding longest_fragment
fragments-preserved c =
    let i = c.fragments.invariant in
    let w = c.in-Behind.ensures.writes.0 in
    let reply : List ℕ = rest_in c.args.registry.now c.args.buffer.now.bytes c.args.rest in
    let rest : List ℕ = rest_in c.args.registry.now c.args.buffer.now.bytes c.fragments.rest in
    let j : ℕ = c.fragments.count / 1028 in
    let next : (c.fragments.count + 1028) / 1028 ≡ j + 1 = omega arith in
    let size = size_of_room c.fragments.count _ c.fragments.room c.write_next.new.room i.within refl (omega arith) in
    record {
      whole = omega (arith, i.whole);
      within = omega (arith, size, w.fits);
      rest_is = w.rest_is ∙ ap (λ (xs : List ℕ). drop 1024 xs) i.rest_is ∙ drop-drop 1024 (1024 * j) reply ∙ ap (λ (n : ℕ). drop n reply) (omega (arith, next));
      some = omega (arith, w.long, length-drop 1024 rest, ap (λ (xs : List ℕ). length xs) w.rest_is);
      written =
          goes_on_room c.fragments.count _ c.fragments.room c.write_next.new.room i.within refl (omega arith) reply rest i.written w.long w.fits w.written
          ∙ ap (λ (xs : List ℕ). take (c.fragments.count + 1028) (put_mid c.fragments.count (length c.fragments.room - c.fragments.count) c.fragments.room c.write_next.new.room) ++ fitting_front (length (put_mid c.fragments.count (length c.fragments.room - c.fragments.count) c.fragments.room c.write_next.new.room) - (c.fragments.count + 1028)) xs) (sym w.rest_is);
      stamp = w.stamp ∙ i.stamp;
      made = w.made;
      window = c.in-Behind.ensures.writes.1 ∙ i.window;
      draft = search rules;
      cost = pays_fragment c.args.meter.now c.fragments.meter c.write_next.new.meter j _ _ _ i.cost c.in-Behind.ensures.cost
          (next_alike c.args.registry.now c.fragments.rest c.args.rest i.stamp) (omega (arith, next));
    }
