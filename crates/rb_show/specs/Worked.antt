-- Worked examples: what is written and told of whole calls and replies.
use Rattle.std.specs.Prelude.{◌≡◌, ℕ, List, [], ◌∷◌, ◌++◌, take, codes, None}
use Rattle.rb_xdr.specs.Xdr.{words, opaque}
use Rattle.rb_rpc.specs.declared.reply.ReplyStatus.TheVariants.{ProcUnavail}
use Rattle.rb_show.specs.declared.fault.InfoFault.TheVariants.{Unreadable, CutOff, Refused}
use Rattle.rb_show.specs.Telling.Told.{Done, Stop}
use Rattle.rb_show.specs.declared.ask.Ask.{Ask}
use Rattle.rb_show.specs.declared.ask.Question.{Question}
use Rattle.rb_show.specs.declared.ask.Question.TheVariants.{Pmap, Rows, OldRows}
use Rattle.rb_show.specs.declared.form.Form.TheVariants.{Plain, Json}
use Rattle.rb_show.specs.declared.show.Shown.TheVariants as shown
use Rattle.rb_show.specs.Asks.{marked_call}
use Rattle.rb_show.specs.JsonGrammar.{IsNumber, IsText}
use Rattle.rb_show.specs.Replies.{tell_reply}

-- without a uid
abbrev pub of_nobody : Question → Ask
of_nobody question = record { question = question; uid = None }

-- the data of an accepted reply up to its results
abbrev pub accepted : ℕ → ℕ → List ℕ
accepted xid stat = words (xid ∷ 1 ∷ 0 ∷ 0 ∷ 0 ∷ stat ∷ [])

-- DUMP of version 2 is 40 bytes in one fragment
abbrev pub CallOfTheTable : Type 0
CallOfTheTable = marked_call (of_nobody Pmap) 1 ≡ words (0x80000028 ∷ 1 ∷ 0 ∷ 2 ∷ 100000 ∷ 2 ∷ 4 ∷ 0 ∷ 0 ∷ 0 ∷ 0 ∷ [])

-- one row, of which each text is shown, and a byte after the results that is left
abbrev pub one_row : List ℕ
one_row = words (1 ∷ 7 ∷ 3 ∷ []) ++ opaque (codes "udp") ++ opaque [] ++ opaque (codes "a b") ++ words (0 ∷ []) ++ 9 ∷ []

abbrev pub RowIsTold : Type 0
RowIsTold = tell_reply (of_nobody Rows) Plain 1 CutOff (accepted 1 0 ++ one_row) ≡ Done (codes "7 3 udp - a?b\n" ∷ []) (shown.Rows 1) (9 ∷ [])

-- a mapping is told as the row that it stands for
abbrev pub one_mapping : List ℕ
one_mapping = words (1 ∷ 7 ∷ 3 ∷ 17 ∷ 777 ∷ 0 ∷ [])

abbrev pub MappingIsToldAsARow : Type 0
MappingIsToldAsARow = tell_reply (of_nobody OldRows) Plain 1 CutOff (accepted 1 0 ++ one_mapping) ≡ Done (codes "7 3 udp 0.0.0.0.3.9 unknown\n" ∷ []) (shown.Rows 1) []

abbrev pub RefusalIsTold : Type 0
RefusalIsTold = tell_reply (of_nobody Pmap) Plain 1 CutOff (accepted 1 3) ≡ Stop [] (Refused (record { xid = 1; status = ProcUnavail }))

abbrev pub CutHeadIsCutOff : Type 0
CutHeadIsCutOff = tell_reply (of_nobody Pmap) Plain 1 CutOff (take 20 (accepted 1 0)) ≡ Stop [] CutOff

abbrev pub OtherXidIsUnreadable : Type 0
OtherXidIsUnreadable = tell_reply (of_nobody Pmap) Plain 2 CutOff (accepted 1 3) ≡ Stop [] Unreadable

-- the row was read whole, and then a bool is missing
abbrev pub CutListTellsItsRows : Type 0
CutListTellsItsRows =
    tell_reply (of_nobody Rows) Plain 1 CutOff (accepted 1 0 ++ take 32 one_row) ≡ Stop (codes "7 3 udp - a?b\n" ∷ []) CutOff

-- ---- as objects

-- a row with a quotation mark and the byte 200 in its owner, and a list that breaks off after it
abbrev pub quoted_row : List ℕ
quoted_row = words (1 ∷ 7 ∷ 3 ∷ []) ++ opaque (codes "udp") ++ opaque [] ++ opaque (97 ∷ 34 ∷ 200 ∷ [])

abbrev pub CutListTellsItsObjects : Type 0
CutListTellsItsObjects =
    tell_reply (of_nobody Rows) Json 1 CutOff (accepted 1 0 ++ quoted_row)
    ≡ Stop (codes "{\"program\":7,\"version\":3,\"netid\":\"udp\",\"address\":\"\",\"owner\":\"a\\\"\\u00c8\"}\n" ∷ []) CutOff

-- with white space, and each kind of value
abbrev pub SpacedTextIsOfTheGrammar : Type 0
SpacedTextIsOfTheGrammar = IsText (codes " { \"a\\n\" : [ true,-0.5E+3, null, [] ] }\n")

abbrev pub LeadingZeroIsNoNumber : Type 0
LeadingZeroIsNoNumber = IsNumber (codes "01") → ⊥
