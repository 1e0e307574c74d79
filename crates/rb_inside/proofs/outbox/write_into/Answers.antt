use Rattle.std.proofs.Common.{◌≡◌, ℕ, List, ◌≤◌, ◌+◌, ◌-◌, ◌++◌, take, drop, length, [], add-zero, refl, Ok, Err, sym, ap, subst, ◌∙◌, arith}
use Rattle.std.proofs.lemmas.List.{with_items_is, length-take, take_all}
use Rattle.std.proofs.lemmas.Result.{err_from_is_err_and}
use Rattle.rb_links.specs.Outgoing.{Outgoing}
use Rattle.rb_links.proofs.Outboxes.{waits_more, room_stays, all_is_free}
use Rattle.rb_inside.proofs.Rooms.{gives_in, idle_stays}
use Rattle.rb_model.specs.Gives.{write_into}
use Rattle.rb_engine.specs.Moves.{ActsNow}
use Rattle.rb_inside.proofs.outbox.write_into.Goals as goal
use borrow.Rule.Slice.PartMut.{post_of}

pub returns : goal.returns
returns c =
    let count : ℕ = c.in_ok-given.given.count in
    let given : List ℕ = take count c.write_into.new.room in
    let sent = c.outbox.inside.sent in
    let end = c.outbox.inside.end in
    let same = c.as_mut_slice.ensures.value in
    let fits : end ≤ length c.as_mut_slice.result.now = omega (arith, c.outbox.invariant.1, ap (λ (xs : List ℕ). length xs) same) in
    let part : List ℕ = take (length c.as_mut_slice.result.now - end) (drop end c.as_mut_slice.result.now) in
    let free : length part ≡ c.args.outbox.now.free = all_is_free end c.args.outbox.now.free c.outbox.inside.bytes.items c.as_mut_slice.result.now part same c.outbox.invariant.1 refl (ap (λ (o : Outgoing). o.free) c.outbox.view_is) in
    let size : length given ≡ count = omega (arith, c.in_ok-given.ensures.fits, length-take count c.write_into.new.room) in
    let whole : take count given ≡ given = take_all count given (omega (arith, size)) in
    let acts = gives_in c.args.id (length part) c.args.outbox.now.free c.args.engine.now c.write_into.new.self (Ok (take count given)) free (subst (λ (bytes : List ℕ). ActsNow (λ s now. write_into s now c.args.id (length part)) c.args.engine.now c.write_into.new.self (Ok bytes)) (sym whole) c.in_ok-given.ensures.acts) in
    record {
      given = given;
      count = sym size;
      acts = acts;
      idle = idle_stays c.args.id c.args.outbox.now.free given (Ok c.in_ok-given.given) c.args.engine.now c.write_into.new.self acts;
      appended =
          ap (λ (xs : List ℕ). drop sent (take (end + count) xs))
          (with_items_is c.outbox.inside.bytes _ (room_stays end (length c.as_mut_slice.result.now - end) c.as_mut_slice.result.now c.write_into.new.room fits c.write_into.auto.room ∙ c.as_mut_slice.ensures.len))
          ∙ waits_more sent end count c.as_mut_slice.result.now c.write_into.new.room (post_of end (length c.as_mut_slice.result.now - end) c.as_mut_slice.result.now) c.outbox.invariant.0 fits c.in_ok-given.ensures.fits
          ∙ ap (λ (xs : List ℕ). drop sent (take end xs) ++ given) same
          ∙ ap (λ (o : Outgoing). o.bytes ++ given) c.outbox.view_is;
      recorded = c.in_ok-given.ensures.recorded;
      moment = c.in_ok-given.ensures.moment;
    }

pub returns-in_err-given : goal.returns-in_err-given
returns-in_err-given c =
    let p = err_from_is_err_and c.from_residual.result c.from_residual.ensures.1 in
    let sent = c.outbox.inside.sent in
    let end = c.outbox.inside.end in
    let same = c.as_mut_slice.ensures.value in
    let fits : end ≤ length c.as_mut_slice.result.now = omega (arith, c.outbox.invariant.1, ap (λ (xs : List ℕ). length xs) same) in
    let part : List ℕ = take (length c.as_mut_slice.result.now - end) (drop end c.as_mut_slice.result.now) in
    let free : length part ≡ c.args.outbox.now.free = all_is_free end c.args.outbox.now.free c.outbox.inside.bytes.items c.as_mut_slice.result.now part same c.outbox.invariant.1 refl (ap (λ (o : Outgoing). o.free) c.outbox.view_is) in
    let acts = gives_in c.args.id (length part) c.args.outbox.now.free c.args.engine.now c.write_into.new.self _ free c.in_err-given.ensures.acts in
    rw (p.1, p.2) (record {
      given = [];
      count = refl;
      acts = acts;
      idle = idle_stays c.args.id c.args.outbox.now.free [] (Err _) c.args.engine.now c.write_into.new.self acts;
      appended =
          ap (λ (xs : List ℕ). drop sent (take end xs))
          (with_items_is c.outbox.inside.bytes _ (room_stays end (length c.as_mut_slice.result.now - end) c.as_mut_slice.result.now c.write_into.new.room fits c.write_into.auto.room ∙ c.as_mut_slice.ensures.len))
          ∙ (rw (add-zero end) at (waits_more sent end 0 c.as_mut_slice.result.now c.write_into.new.room (post_of end (length c.as_mut_slice.result.now - end) c.as_mut_slice.result.now) c.outbox.invariant.0 fits (omega arith)))
          ∙ ap (λ (xs : List ℕ). drop sent (take end xs) ++ []) same
          ∙ ap (λ (o : Outgoing). o.bytes ++ []) c.outbox.view_is;
      recorded = c.in_err-given.ensures.recorded;
      moment = c.in_err-given.ensures.moment;
    })
