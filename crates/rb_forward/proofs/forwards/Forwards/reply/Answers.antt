use Rattle.std.proofs.Common.{Option, length, sym, ap}
use Rattle.std.specs.Prelude.{nat_le}
use Rattle.rb_xdr.specs.Xdr.{word}
use Rattle.rb_forward.specs.declared.types.Ended.{Ended}
use Rattle.rb_forward.specs.Forwards.{Forwards}
use Rattle.rb_forward.proofs.Stands.{not_there, is_given, short_is_no_reply, long_is_looked_up}
use Rattle.rb_forward.proofs.forwards.Forwards.reply.Goals as goal

pub returns-in_default-clause-ended : goal.returns-in_default-clause-ended
returns-in_default-clause-ended c = λ f h.
    let short = not_there (nat_le 4 (length c.args.bytes.now)) (word 0 c.args.bytes.now) c.in_default.ensures in
    ap (λ (r : Option Ended × Forwards). r.0) (sym (short_is_no_reply c.args.self.now.first_xid c.args.clock c.args.from c.args.bytes.now f short))

pub returns-in_default-clause-left : goal.returns-in_default-clause-left
returns-in_default-clause-left c = λ f h.
    let short = not_there (nat_le 4 (length c.args.bytes.now)) (word 0 c.args.bytes.now) c.in_default.ensures in
    rw (short_is_no_reply c.args.self.now.first_xid c.args.clock c.args.from c.args.bytes.now f short) h

pub returns-clause-ended : goal.returns-clause-ended
returns-clause-ended c = λ f h.
    let given = is_given (nat_le 4 (length c.args.bytes.now)) (word 0 c.args.bytes.now) c.in-Some.xid c.in-Some.ensures in
    rw (long_is_looked_up c.args.self.now.first_xid c.args.clock c.args.from c.args.bytes.now f given.0, ← given.1, ← c.outcome_of.ensures.outcome) (c.end.ensures.ended f h)

pub returns-clause-left : goal.returns-clause-left
returns-clause-left c = λ f h.
    let given = is_given (nat_le 4 (length c.args.bytes.now)) (word 0 c.args.bytes.now) c.in-Some.xid c.in-Some.ensures in
    rw (long_is_looked_up c.args.self.now.first_xid c.args.clock c.args.from c.args.bytes.now f given.0, ← given.1) (c.end.ensures.left f h)
