-- What is asked of a portmapper that has version 2 alone (RFC 1833 section 3).
use Rattle.std.specs.Prelude.{nat_le, Bool, false, ◌&&◌, if◌then◌else◌, Option, Some, None}
use Rattle.rb_rpc.specs.declared.reply.ReplyStatus.{ReplyStatus}
use Rattle.rb_rpc.specs.declared.reply.ReplyStatus.TheVariants as statuses
use Rattle.rb_show.specs.declared.ask.Question.{Question}
use Rattle.rb_show.specs.declared.ask.Question.TheVariants.{Rows, Short, Summary, OldRows, OldShort, OldSummary}

-- the refusal of a version that says that there is a version 2
abbrev pub has_two : ReplyStatus → Bool
has_two (statuses.ProgMismatch low high) = nat_le low 2 && nat_le 2 high
has_two _ = false

-- the question of version 2 that shows what this one does
abbrev pub old_of : Question → Option Question
old_of Rows = Some OldRows
old_of Short = Some OldShort
old_of Summary = Some OldSummary
old_of _ = None

-- FALLBACK-1: Rows of version 3 are asked by version 2 if the refusal says that the server has
-- version 2.
abbrev pub fallback : Question → ReplyStatus → Option Question
fallback question status = if has_two status then old_of question else None
