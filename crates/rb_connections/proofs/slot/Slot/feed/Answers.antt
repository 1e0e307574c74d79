use Rattle.std.proofs.Common.{◌++◌, refl, subst}
use Rattle.rb_rpc.specs.Records.{first_record}
use Rattle.rb_model.specs.Connections.{keep_reading}
use Rattle.rb_connections.specs.Reading.{StandsBehind}
use Rattle.rb_connections.proofs.OneSlot.{ended_then, not_ended, has_ended, counts_to}
use Rattle.rb_connections.proofs.slot.Slot.feed.Goals as goal

pub returns-clause-received : goal.returns-clause-received
returns-clause-received c = λ x fed b.
    let piece = c.args.piece.now in
    let taken = c.feed-count.ensures.taken fed b.reads in
    let end = has_ended fed piece (first_record (fed ++ piece)) c.feed-count.result c.in-Some.verdict taken c.in-Some.is in
    let count = counts_to fed piece end.at (first_record (fed ++ piece)) c.feed-count.result taken end.is in
    ended_then fed piece x _ end.at _ _ end.is count b.who end.says

pub returns-clause-stands : goal.returns-clause-stands
returns-clause-stands c = λ registry x fed b.
    let piece = c.args.piece.now in
    let end = has_ended fed piece (first_record (fed ++ piece)) c.feed-count.result c.in-Some.verdict (c.feed-count.ensures.taken fed b.reads) c.in-Some.is in
    rw (end.is, c.swap.ensures.x_after, c.clear.ensures.empty) (record { number = b.number; who = b.who; since = refl; phase = (refl, b.window) })

pub returns-clause-arguments : goal.returns-clause-arguments
returns-clause-arguments c = λ x fed b.
    let piece = c.args.piece.now in
    let end = has_ended fed piece (first_record (fed ++ piece)) c.feed-count.result c.in-Some.verdict (c.feed-count.ensures.taken fed b.reads) c.in-Some.is in
    let kept = subst (StandsBehind c.feed-count.new.self c.feed-count.new.kept (fed ++ piece)) end.is (c.feed-count.ensures.after fed b.reads) in
    rw (end.is, c.swap.ensures.y_after) kept

pub returns-in_default-clause-stands : goal.returns-in_default-clause-stands
unfolding keep_reading
returns-in_default-clause-stands c = λ registry x fed b.
    let piece = c.args.piece.now in
    let none = not_ended fed piece (first_record (fed ++ piece)) c.feed-count.result (c.feed-count.ensures.taken fed b.reads) c.in_default.is in
    rw none (record {
      number = b.number;
      who = b.who;
      since = b.since;
      phase = (subst (StandsBehind c.feed-count.new.self c.feed-count.new.kept (fed ++ piece)) none (c.feed-count.ensures.after fed b.reads), b.window);
    })

pub returns-in_default-clause-arguments : goal.returns-in_default-clause-arguments
returns-in_default-clause-arguments c = λ x fed b.
    let piece = c.args.piece.now in
    let none = not_ended fed piece (first_record (fed ++ piece)) c.feed-count.result (c.feed-count.ensures.taken fed b.reads) c.in_default.is in
    rw none refl
