-- The head that is taken from a reply's data is the head that is read of all of it.
use Rattle.std.specs.Prelude.{◌≡◌, ◌⊎◌, ℕ, false, List, [], ◌++◌, drop, Some, None}
use Rattle.rb_rpc.specs.ReadReplies.{Read, read_reply}
use Rattle.rb_rpc.specs.declared.reply.ReplyHead.{ReplyHead}
use Rattle.rb_show.specs.declared.fault.InfoFault.{InfoFault}
use Rattle.rb_show.specs.declared.fault.InfoFault.TheVariants.{Unreadable}
use Rattle.rb_show.specs.Telling.{Told}
use Rattle.rb_show.specs.Telling.Told.{Done, Stop}
use Rattle.rb_show.specs.Heads.{may_begin, take_head}

-- the head that was read, with the data after it; if there is none, the data is no reply or ends too early
abbrev pub IsHead : Read → InfoFault → List ℕ → Told ReplyHead → Type 0
IsHead (Some read) end content told = told ≡ Done [] read.0 (drop read.1 content)
IsHead None end content told = (told ≡ Stop [] Unreadable) ⊎ (told ≡ Stop [] end)

-- HEAD-2: What is taken as a reply's head is what `read_reply` says of all the data.
abbrev pub HeadsAreRead : Type 0
HeadsAreRead = (end : InfoFault) (content : List ℕ) → IsHead (read_reply content) end content (take_head end content)

-- A head that can be read is read of the same bytes whatever follows them.
abbrev pub HeadsStay : Type 0
HeadsStay = (bytes more : List ℕ) (read : ReplyHead × ℕ) → read_reply bytes ≡ Some read → read_reply (bytes ++ more) ≡ Some read

-- Where no head may begin, none can be read whatever follows.
abbrev pub NoHeadComes : Type 0
NoHeadComes = (bytes more : List ℕ) → may_begin bytes ≡ false → read_reply (bytes ++ more) ≡ None
