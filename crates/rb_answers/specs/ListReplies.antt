-- Replies that list rows and are given in parts (RFC 1833 sections 2.2 and 3.2).
use Rattle.std.specs.Prelude.{ℕ, ◌+◌, ◌*◌, Bool, true, false, List, [], ◌++◌, drop, Option}
use Rattle.rb_xdr.specs.Xdr.{max_number}
use Rattle.rb_rpc.specs.declared.reply.ReplyStatus.TheVariants.{Success}
use Rattle.rb_rpc.specs.Records.{fragment_size}
use Rattle.rb_rpc.specs.Replies.{reply_head}
use Rattle.rb_registry.specs.declared.row.Row.{Row}
use Rattle.rb_registry.specs.Registry.{Registry, rows_at, rows_passed}
use Rattle.rb_answers.specs.declared.list_reply.ListReply.{ListReply}
use Rattle.rb_arguments.specs.Types.{max_rpcb}
use Rattle.rb_answers.specs.Results.{rows_bytes}

-- what a row adds to a list has at most the bytes of TRUE and an rpcb
abbrev pub longest_row : ℕ
longest_row = max_number + max_rpcb

-- A part of a list has the data of a fragment. It is made in this much room: what was given of a row before it, the
-- part, and the rest of a row after it.
abbrev pub part_room : ℕ
part_room = fragment_size + 2 * longest_row

-- the head of a reply that has not begun
abbrev pub head_unless : Bool → ℕ → List ℕ
head_unless true xid = []
head_unless false xid = reply_head xid Success

-- the rows after a cursor, of those that were live after this many changes
abbrev pub rows_behind : Registry → ℕ → Option ℕ → List Row
rows_behind kept stamp cursor = drop (rows_passed kept stamp cursor) (rows_at kept stamp)

-- the bytes from the cursor on, those too that were given of what stands there
abbrev pub bytes_behind : Registry → ListReply → List ℕ
bytes_behind kept r =
    head_unless r.begun r.xid ++ rows_bytes (rows_behind kept r.stamp r.cursor) r.list

-- what is yet to be given
-- LIST-3
unfoldable pub rest_of : Registry → ListReply → List ℕ
rest_of kept r = drop r.given (bytes_behind kept r)
