-- Heads of replies are short, and replies are not empty.
use Rattle.std.proofs.Common.{◌≤◌, ◌<◌, ℕ, List, ◌++◌, length, arith, length-append}
use Rattle.std.proofs.lemmas.Grind.{common_steps}
use Rattle.rb_xdr.specs.Xdr.{number, opaque}
use Rattle.rb_rpc.specs.declared.reply.ReplyStatus.{ReplyStatus}
use Rattle.rb_rpc.specs.Replies.{reply_head}
use Rattle.rb_model.specs.Calls.{fitting_reply}

pub short_head : (xid : ℕ) (status : ReplyStatus) → length (reply_head xid status) ≤ 32
unfolding reply_head number opaque
short_head xid status = grind arith

pub some_head : (xid : ℕ) (status : ReplyStatus) → 0 < length (reply_head xid status)
unfolding reply_head number opaque
some_head xid status = grind arith

pub some_fitting : (longest xid : ℕ) (status : ReplyStatus) (results : List ℕ) → 0 < length (fitting_reply longest xid (reply_head xid status ++ results))
unfolding fitting_reply
some_fitting longest xid status results = grind (arith, common_steps, length-append, some_head)
