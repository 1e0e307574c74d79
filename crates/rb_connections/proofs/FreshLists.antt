-- A list that is about to be given is not empty.
use Rattle.std.proofs.Common.{◌<◌, ℕ, List, length, ap, arith, length-append}
use Rattle.rb_rpc.specs.Replies.{reply_head}
use Rattle.rb_rpc.specs.declared.reply.ReplyStatus.TheVariants.{Success}
use Rattle.rb_registry.specs.Registry.{Registry, rows_of}
use Rattle.rb_answers.specs.Results.{list_bytes}
use Rattle.rb_answers.specs.declared.answers.Listing.{Listing}
use Rattle.rb_answers.specs.declared.list_reply.ListReply.{ListReply}
use Rattle.rb_answers.specs.ListParts.{ListsRows}
use Rattle.rb_answers.specs.ListReplies.{rest_of}
use Rattle.rb_model.proofs.ReplyHeads.{some_head}

module _ (registry : Registry) (xid : ℕ) (listing : Listing) (list : ListReply) (rest : ListsRows xid listing registry list) where
  pub fresh_is_some : 0 < length (rest_of registry list)
  fresh_is_some =
      let some = some_head xid Success in
      let whole = length-append (reply_head xid Success) (list_bytes (rows_of registry) listing) in
      omega (arith, some, whole, ap (λ (xs : List ℕ). length xs) rest)
