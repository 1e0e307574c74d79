-- The head of a reply at the front of data (RFC 5531 section 9).
use Rattle.std.specs.Prelude.{ℕ, ◌*◌, ◌-◌, ◌/◌, min, nat_lt, ◌||◌, Bool, true, false, List, [], ◌++◌, length, take, drop, replicate, Some, None}
use Rattle.std.specs.Option.{is_some}
use Rattle.rb_rpc.specs.ReadReplies.{Read, read_reply}
use Rattle.rb_rpc.specs.declared.reply.ReplyHead.{ReplyHead}
use Rattle.rb_show.specs.declared.fault.InfoFault.{InfoFault}
use Rattle.rb_show.specs.declared.fault.InfoFault.TheVariants.{Unreadable}
use Rattle.rb_show.specs.Telling.{Told, Teller}
use Rattle.rb_show.specs.Telling.Told.{Done, Stop}

-- three words, a verifier with a body of 400 bytes, accept_stat and two versions
abbrev pub longest_head : ℕ
longest_head = 432

-- the bytes of the words that are there of it
abbrev pub words_there : ℕ → ℕ
words_there n = 4 * min (n / 4) 108

-- these words, and zeros for the others
abbrev pub filled : List ℕ → List ℕ
filled content = take (words_there (length content)) content ++ replicate (longest_head - words_there (length content)) 0

-- Whether a head may begin with this data, in which none can be read. From the fourth on each word of a head may be zero.
-- So it may if one of the first three words is not there yet, or if it is a head with zeros for the words that are not.
unfoldable pub may_begin : List ℕ → Bool
may_begin content = nat_lt (length content) 12 || is_some (read_reply (filled content))

-- the head that was read, with the data after it; without one the data ends too early, or is no reply
abbrev pub by_reading : Read → Bool → InfoFault → List ℕ → Told ReplyHead
by_reading (Some read) may end content = Done [] read.0 (drop read.1 content)
by_reading None true end content = Stop [] end
by_reading None false end content = Stop [] Unreadable

-- HEAD-1: A reply has mtype 1, and a verifier of at most 400 bytes.
unfoldable pub take_head : Teller ReplyHead
take_head = λ end content. by_reading (read_reply content) (may_begin content) end content
