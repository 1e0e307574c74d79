-- What is said of an option, and that a value is wrong.
use Rattle.std.specs.Prelude.{ℕ, ◌==◌, nat_lt, Bool, false, if◌then◌else◌, List, [], ◌++◌, codes, bytes_eq, Option, Some, None}
use Rattle.std.specs.Borrow.{Bor}
use Rattle.rb_commands.specs.declared.options.Valued.{Valued}
use Rattle.rb_commands.specs.declared.options.Valued.TheVariants.{Announce, Bind, From, Local, LocalMode, Port, Conns, Rows, Forwards, UdpLists, ForwardFor, ReplayForwardFor, UdpRate, Xid, Now, Turns, RecordLimit, Keep, Log, Reserve}
use Rattle.rb_commands.specs.declared.wanted.BadValue.{BadValue}
use Rattle.rb_commands.specs.declared.wanted.OptionTexts.{OptionTexts}

-- ---- what is expected

abbrev pub number_text : List ℕ
number_text = codes "a number of 64 bits"

abbrev pub address_text : List ℕ
address_text = codes "an address as 192.0.2.1 or 2001:db8::1"

abbrev pub whom_text : List ℕ
whom_text = codes "all or local"

-- the second address can be one of the first one's family
abbrev pub announced_text : ℕ → List ℕ
announced_text place = if place == 0 then address_text else codes "no more than one address of each family"

abbrev pub bound_text : ℕ → List ℕ
bound_text place = if nat_lt place 16 then address_text else codes "no more than 16 addresses"

abbrev pub network_text : List ℕ
network_text = codes "a network as 192.0.2.0/24, with no bit set behind its length,"

abbrev pub served_text : ℕ → List ℕ
served_text place = if nat_lt place 16 then network_text else codes "no more than 16 networks"

abbrev pub reserve_text : ℕ → List ℕ
reserve_text place = if nat_lt place 64 then codes "a reservation as 100003=0 or 100003-100005=0" else codes "no more than 64 reservations"

-- ---- what is said of an option

-- its name, after its two dashes; the text that stands for a value of `serve` that is not given; and what is expected
pub record Texts : Type 0 where
  pub name : List ℕ
  pub default : List ℕ
  pub wanted : List ℕ

abbrev pub option_texts : List ℕ → List ℕ → List ℕ → Texts
option_texts name default wanted = record { name = name; default = default; wanted = wanted }

-- WORD-1
-- OPTION-10: An option of `serve` that is not given has the value that the help shows.
abbrev pub texts_of : Valued → Texts
texts_of (Announce place) = option_texts (codes "announce") [] (announced_text place)
texts_of (Bind place) = option_texts (codes "bind") (codes "127.0.0.1") (bound_text place)
texts_of (From place) = option_texts (codes "from") [] (served_text place)
texts_of Local = option_texts (codes "local") [] (codes "a path of at most 107 bytes, without quotes and control characters,")
texts_of LocalMode = option_texts (codes "local-mode") (codes "0600") (codes "a mode from 0 to 777 in octal digits")
texts_of Port = option_texts (codes "port") (codes "111") (codes "a port from 1 to 65535")
texts_of Conns = option_texts (codes "conns") (codes "64") number_text
texts_of Rows = option_texts (codes "rows") (codes "1024") number_text
texts_of Forwards = option_texts (codes "forwards") (codes "0") number_text
texts_of UdpLists = option_texts (codes "udp-lists") (codes "local") whom_text
texts_of ForwardFor = option_texts (codes "forward-for") (codes "local") whom_text
texts_of ReplayForwardFor = option_texts (codes "forward-for") [] (codes "any, all or local")
texts_of UdpRate = option_texts (codes "udp-rate") [] (codes "a number from 1 to 1000, or two as 20,5,")
texts_of Xid = option_texts (codes "xid") [] (codes "a number from 0 to 4294967295")
texts_of Now = option_texts (codes "now") [] number_text
texts_of Turns = option_texts (codes "turns") (codes "0") number_text
texts_of RecordLimit = option_texts (codes "record-limit") (codes "16000000") (codes "a number from 1000 to 16777216")
texts_of Keep = option_texts (codes "keep") [] (codes "the path of a file")
texts_of Log = option_texts (codes "log") [] (codes "changes or all")
texts_of (Reserve place) = option_texts (codes "reserve") [] (reserve_text place)

-- as the code has it
abbrev pub said : OptionTexts → Texts
said texts = option_texts texts.name.now texts.default.now texts.wanted.now

-- WORD-1: The line of a value that can't be read names its option, the value and what is expected
-- there.
abbrev pub bad_value_text : BadValue → List ℕ
bad_value_text bad =
    codes "error: invalid value '" ++ bad.value.now ++ codes "' for '--" ++ bad.option.now ++ codes "': " ++ bad.wanted.now
    ++ codes " is wanted"

-- ---- values that do not go together

-- whether the path at which rows are kept is that of the record, whose file a start removes
-- KEEP-8: Rows are not kept at the path of the record: status 2, and nothing is run.
abbrev pub is_the_record : List ℕ → Option (Bor (List ℕ)) → Bool
is_the_record keep None = false
is_the_record keep (Some path) = bytes_eq keep path.now
