-- How the parts of a reply that lists rows follow one another.
use Rattle.std.specs.Prelude.{◌≡◌, ◌≤◌, ℕ, ◌+◌, List, ◌++◌, length, take, drop, slice_range}
use Rattle.rb_xdr.specs.Kept.{Kept}
use Rattle.rb_xdr.specs.Puts.{HasRoom}
use Rattle.rb_rpc.specs.declared.reply.ReplyStatus.TheVariants.{Success}
use Rattle.rb_rpc.specs.Replies.{reply_head}
use Rattle.rb_registry.specs.declared.row.Row.{Row}
use Rattle.rb_registry.specs.Registry.{Registry, rows_of}
use Rattle.rb_registry.specs.Cursors.{StandsIn, GoesOn}
use Rattle.rb_answers.specs.declared.answers.Listing.{Listing}
use Rattle.rb_answers.specs.declared.list_reply.ListReply.{ListReply}
use Rattle.rb_answers.specs.declared.list_reply.ListPart.{ListPart}
use Rattle.rb_rpc.specs.Records.{fragment_size}
use Rattle.rb_answers.specs.ListReplies.{longest_row, rows_behind, bytes_behind, rest_of}
use Rattle.rb_answers.specs.Results.{list_bytes, rows_bytes}

-- the bytes are no more than a row adds at most
abbrev pub IsShort : List ℕ → Type 0
IsShort bytes = length bytes ≤ longest_row

-- and then there is room for them
abbrev pub FitsIfShort : List ℕ → Kept → Type 0
FitsIfShort bytes kept = IsShort bytes → HasRoom bytes kept

-- the whole reply that lists these rows
abbrev pub list_reply : ℕ → List Row → Listing → List ℕ
list_reply xid rows list = reply_head xid Success ++ list_bytes rows list

-- A buffer shows the bytes from the old cursor on, all of them or more than `most`. The first `base` of them stand before
-- the new cursor, and what is shown after these is no more than a row adds.
pub record Fills (kept : Registry) (old new : ListReply) (most : ℕ) (shown : List ℕ) (base : ℕ) : Type 0 where
  pub moved : new ≡ record old { cursor = new.cursor }
  pub place : StandsIn kept new.stamp new.cursor
  pub front : shown ≡ take (length shown) (bytes_behind kept old)
  pub all : length shown ≤ most → shown ≡ bytes_behind kept old
  pub behind : drop base (bytes_behind kept old) ≡ rows_bytes (rows_behind kept new.stamp new.cursor) new.list
  pub before : base ≤ most
  pub within : base ≤ length shown
  pub short : length shown ≤ base + longest_row

-- It is the reply under this xid that lists the live rows, of which nothing was given.
abbrev pub ListsRows : ℕ → Listing → Registry → ListReply → Type 0
ListsRows xid list kept r = rest_of kept r ≡ list_reply xid (rows_of kept) list

-- the part stands in what is shown: the next bytes that are yet to be given
abbrev pub IsNextPart : Registry → ListReply → List ℕ → ListPart → Type 0
IsNextPart kept r shown part = slice_range shown part.start part.end ≡ take fragment_size (rest_of kept r)

-- the new reply goes on after the next part of the old one
abbrev pub IsBehindPart : Registry → ListReply → ListReply → Type 0
IsBehindPart kept old new = rest_of kept new ≡ drop fragment_size (rest_of kept old)

-- The rows of the reply can be listed, and what was given of that at the cursor is no more than a row adds.
pub record CanBeContinued (kept : Registry) (r : ListReply) : Type 0 where
  pub place : StandsIn kept r.stamp r.cursor
  pub given : r.given ≤ longest_row

-- in the new registry too the rows of the reply can be listed, and the same is yet to be given
pub record ContinuesAlike (old new : Registry) (r : ListReply) : Type 0 where
  pub told : CanBeContinued new r
  pub rest : rest_of new r ≡ rest_of old r

-- Whatever is called in between, the same is yet to be given, as long as the floor isn't above the reply's stamp.
-- LIST-3: A list that is given in parts is the whole reply as of its call, its head included: no
-- row is left out or given twice when a part ends in it, whatever is SET and UNSET in between,
-- unless a SET closes its connection for room (EVICT-1).
abbrev pub ListRepliesGoOn : Type 0
ListRepliesGoOn = (old new : Registry) (r : ListReply) → GoesOn old new → new.floor ≤ r.stamp → CanBeContinued old r → ContinuesAlike old new r
