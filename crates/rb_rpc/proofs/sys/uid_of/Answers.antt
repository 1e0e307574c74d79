use Rattle.std.proofs.Common.{Bool, cond, Some, None, sym, ap, ◌∙◌}
use Rattle.rb_xdr.specs.Xdr.{read_number, read_opaque}
use Rattle.rb_rpc.specs.Messages.{max_machine}
use Rattle.rb_rpc.proofs.Auths.{after_stamp, after_machine, after_uid, after_gid}
use Rattle.rb_rpc.proofs.SysBodies.{begins, next_field, no_field, ends, no_uid}
use Rattle.rb_rpc.proofs.sys.uid_of.Goals as goal

pub returns-in_err-_stamp : goal.returns-in_err-_stamp
returns-in_err-_stamp c =
    no_uid _ c.from_residual.ensures.0 ∙ sym (begins c.args.body.now ∙ no_field read_number after_stamp c.args.body.now _ c.in_err-_stamp.ensures.exact)

pub returns-in_err-_machine : goal.returns-in_err-_machine
returns-in_err-_machine c =
    no_uid _ c.from_residual-in_err-_machine.ensures.0
    ∙ sym (begins c.args.body.now
    ∙ next_field read_number after_stamp c.args.body.now c.split_at.result.1.now c.in_ok-_stamp._stamp c.in_ok-_stamp.used c.in_ok-_stamp.ensures.exact c.split_at.ensures.back
    ∙ no_field (read_opaque max_machine) (after_machine c.in_ok-_stamp._stamp) c.split_at.result.1.now _ c.in_err-_machine.ensures.exact)

pub returns-in_err-uid : goal.returns-in_err-uid
returns-in_err-uid c =
    no_uid _ c.from_residual-in_err-uid.ensures.0
    ∙ sym (begins c.args.body.now
    ∙ next_field read_number after_stamp c.args.body.now c.split_at.result.1.now c.in_ok-_stamp._stamp c.in_ok-_stamp.used c.in_ok-_stamp.ensures.exact c.split_at.ensures.back
    ∙ next_field (read_opaque max_machine) (after_machine c.in_ok-_stamp._stamp) c.split_at.result.1.now c.split_at-2.result.1.now c.in_ok-_machine._machine.now c.in_ok-_machine.used c.in_ok-_machine.ensures.exact c.split_at-2.ensures.back
    ∙ no_field read_number (after_uid c.in_ok-_stamp._stamp c.in_ok-_machine._machine.now) c.split_at-2.result.1.now _ c.in_err-uid.ensures.exact)

pub returns-in_err-_gid : goal.returns-in_err-_gid
returns-in_err-_gid c =
    no_uid _ c.from_residual-in_err-_gid.ensures.0
    ∙ sym (begins c.args.body.now
    ∙ next_field read_number after_stamp c.args.body.now c.split_at.result.1.now c.in_ok-_stamp._stamp c.in_ok-_stamp.used c.in_ok-_stamp.ensures.exact c.split_at.ensures.back
    ∙ next_field (read_opaque max_machine) (after_machine c.in_ok-_stamp._stamp) c.split_at.result.1.now c.split_at-2.result.1.now c.in_ok-_machine._machine.now c.in_ok-_machine.used c.in_ok-_machine.ensures.exact c.split_at-2.ensures.back
    ∙ next_field read_number (after_uid c.in_ok-_stamp._stamp c.in_ok-_machine._machine.now) c.split_at-2.result.1.now c.split_at-3.result.1.now c.in_ok-uid.uid c.in_ok-uid.used c.in_ok-uid.ensures.exact c.split_at-3.ensures.back
    ∙ no_field read_number (after_gid c.in_ok-_stamp._stamp c.in_ok-_machine._machine.now c.in_ok-uid.uid) c.split_at-3.result.1.now _ c.in_err-_gid.ensures.exact)

pub returns-then-not-has_gids : goal.returns-then-not-has_gids
returns-then-not-has_gids c =
    sym (begins c.args.body.now
    ∙ next_field read_number after_stamp c.args.body.now c.split_at.result.1.now c.in_ok-_stamp._stamp c.in_ok-_stamp.used c.in_ok-_stamp.ensures.exact c.split_at.ensures.back
    ∙ next_field (read_opaque max_machine) (after_machine c.in_ok-_stamp._stamp) c.split_at.result.1.now c.split_at-2.result.1.now c.in_ok-_machine._machine.now c.in_ok-_machine.used c.in_ok-_machine.ensures.exact c.split_at-2.ensures.back
    ∙ next_field read_number (after_uid c.in_ok-_stamp._stamp c.in_ok-_machine._machine.now) c.split_at-2.result.1.now c.split_at-3.result.1.now c.in_ok-uid.uid c.in_ok-uid.used c.in_ok-uid.ensures.exact c.split_at-3.ensures.back
    ∙ next_field read_number (after_gid c.in_ok-_stamp._stamp c.in_ok-_machine._machine.now c.in_ok-uid.uid) c.split_at-3.result.1.now c.split_at-4.result.1.now c.in_ok-_gid._gid c.in_ok-_gid.used c.in_ok-_gid.ensures.exact c.split_at-4.ensures.back
    ∙ ends c.in_ok-_stamp._stamp c.in_ok-_machine._machine.now c.in_ok-uid.uid c.in_ok-_gid._gid c.split_at-4.result.1.now
    ∙ ap (λ (b : Bool). cond b (Some c.in_ok-uid.uid) None) (sym c.has_gids.ensures ∙ c.if-not-has_gids.true))

pub returns : goal.returns
returns c =
    sym (begins c.args.body.now
    ∙ next_field read_number after_stamp c.args.body.now c.split_at.result.1.now c.in_ok-_stamp._stamp c.in_ok-_stamp.used c.in_ok-_stamp.ensures.exact c.split_at.ensures.back
    ∙ next_field (read_opaque max_machine) (after_machine c.in_ok-_stamp._stamp) c.split_at.result.1.now c.split_at-2.result.1.now c.in_ok-_machine._machine.now c.in_ok-_machine.used c.in_ok-_machine.ensures.exact c.split_at-2.ensures.back
    ∙ next_field read_number (after_uid c.in_ok-_stamp._stamp c.in_ok-_machine._machine.now) c.split_at-2.result.1.now c.split_at-3.result.1.now c.in_ok-uid.uid c.in_ok-uid.used c.in_ok-uid.ensures.exact c.split_at-3.ensures.back
    ∙ next_field read_number (after_gid c.in_ok-_stamp._stamp c.in_ok-_machine._machine.now c.in_ok-uid.uid) c.split_at-3.result.1.now c.split_at-4.result.1.now c.in_ok-_gid._gid c.in_ok-_gid.used c.in_ok-_gid.ensures.exact c.split_at-4.ensures.back
    ∙ ends c.in_ok-_stamp._stamp c.in_ok-_machine._machine.now c.in_ok-uid.uid c.in_ok-_gid._gid c.split_at-4.result.1.now
    ∙ ap (λ (b : Bool). cond b (Some c.in_ok-uid.uid) None) (sym c.has_gids.ensures ∙ c.if-not-has_gids.false))
