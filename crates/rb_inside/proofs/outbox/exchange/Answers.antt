use Rattle.std.proofs.Common.{ℕ, List, ◌≤◌, ◌+◌, ◌-◌, ◌++◌, take, drop, length, [], add-zero, refl, ap, ◌∙◌, arith}
use Rattle.std.proofs.lemmas.List.{with_items_is, length-take}
use Rattle.std.proofs.lemmas.Result.{err_from_is_err_and}
use Rattle.rb_links.specs.Outgoing.{Outgoing}
use Rattle.rb_links.proofs.Outboxes.{waits_more, room_stays, all_is_free}
use Rattle.rb_inside.proofs.Rooms.{exchanges_in}
use Rattle.rb_inside.proofs.outbox.exchange.Goals as goal
use borrow.Rule.Slice.PartMut.{post_of}

pub returns-clause-acts : goal.returns-clause-acts
returns-clause-acts c =
    let given : List ℕ = take c.in_ok-done.done.given c.exchange.new.room in
    let sent = c.outbox.inside.sent in
    let end = c.outbox.inside.end in
    let same = c.as_mut_slice.ensures.value in
    let fits : end ≤ length c.as_mut_slice.result.now = omega (arith, c.outbox.invariant.1, ap (λ (xs : List ℕ). length xs) same) in
    let free = all_is_free end c.args.outbox.now.free c.outbox.inside.bytes.items c.as_mut_slice.result.now c.exchange.new.room same c.outbox.invariant.1 c.exchange.auto.room (ap (λ (o : Outgoing). o.free) c.outbox.view_is) in
    record {
      given = given;
      count = omega (arith, c.in_ok-done.ensures.fits, length-take c.in_ok-done.done.given c.exchange.new.room);
      acts = exchanges_in c.args.id c.args.piece.now (length c.exchange.new.room) c.args.outbox.now.free c.args.engine.now c.exchange.new.self _ free c.in_ok-done.ensures.acts;
      appended =
          ap (λ (xs : List ℕ). drop sent (take (end + c.in_ok-done.done.given) xs))
          (with_items_is c.outbox.inside.bytes _ (room_stays end (length c.as_mut_slice.result.now - end) c.as_mut_slice.result.now c.exchange.new.room fits c.exchange.auto.room ∙ c.as_mut_slice.ensures.len))
          ∙ waits_more sent end c.in_ok-done.done.given c.as_mut_slice.result.now c.exchange.new.room (post_of end (length c.as_mut_slice.result.now - end) c.as_mut_slice.result.now) c.outbox.invariant.0 fits c.in_ok-done.ensures.fits
          ∙ ap (λ (xs : List ℕ). drop sent (take end xs) ++ given) same
          ∙ ap (λ (o : Outgoing). o.bytes ++ given) c.outbox.view_is;
      moment = c.in_ok-done.ensures.moment;
    }

pub returns-in_err-done-clause-acts : goal.returns-in_err-done-clause-acts
returns-in_err-done-clause-acts c =
    let p = err_from_is_err_and c.from_residual.result c.from_residual.ensures.1 in
    let sent = c.outbox.inside.sent in
    let end = c.outbox.inside.end in
    let same = c.as_mut_slice.ensures.value in
    let fits : end ≤ length c.as_mut_slice.result.now = omega (arith, c.outbox.invariant.1, ap (λ (xs : List ℕ). length xs) same) in
    let free = all_is_free end c.args.outbox.now.free c.outbox.inside.bytes.items c.as_mut_slice.result.now c.exchange.new.room same c.outbox.invariant.1 c.exchange.auto.room (ap (λ (o : Outgoing). o.free) c.outbox.view_is) in
    rw (p.1, p.2) (record {
      given = [];
      count = refl;
      acts = exchanges_in c.args.id c.args.piece.now (length c.exchange.new.room) c.args.outbox.now.free c.args.engine.now c.exchange.new.self _ free c.in_err-done.ensures.acts;
      appended =
          ap (λ (xs : List ℕ). drop sent (take end xs))
          (with_items_is c.outbox.inside.bytes _ (room_stays end (length c.as_mut_slice.result.now - end) c.as_mut_slice.result.now c.exchange.new.room fits c.exchange.auto.room ∙ c.as_mut_slice.ensures.len))
          ∙ (rw (add-zero end) at (waits_more sent end 0 c.as_mut_slice.result.now c.exchange.new.room (post_of end (length c.as_mut_slice.result.now - end) c.as_mut_slice.result.now) c.outbox.invariant.0 fits (omega arith)))
          ∙ ap (λ (xs : List ℕ). drop sent (take end xs) ++ []) same
          ∙ ap (λ (o : Outgoing). o.bytes ++ []) c.outbox.view_is;
      moment = c.in_err-done.ensures.moment;
    })
