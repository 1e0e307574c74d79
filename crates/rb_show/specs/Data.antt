-- The data of a marked reply as far as it is read (RFC 5531 section 11).
use Rattle.std.specs.Prelude.{ℕ, nat_lt, ◌||◌, Bool, if◌then◌else◌, List, length, take, is_some}
use Rattle.rb_rpc.specs.Records.{first_record}
use Rattle.rb_show.specs.declared.fault.InfoFault.{InfoFault}
use Rattle.rb_show.specs.declared.fault.InfoFault.TheVariants.{CutOff, TooLong}

-- DATA-2: At most 16,777,216 bytes of a record are read.
abbrev pub longest_record : ℕ
longest_record = 16777216

-- the bytes that may be read
unfoldable pub front_of : List ℕ → List ℕ
front_of bytes = take longest_record bytes

-- a record ends in these bytes
abbrev pub is_whole : List ℕ → Bool
is_whole bytes = is_some (first_record bytes)

-- DATA-3: Data that ends before a value does is cut off, or too long if the record goes on after
-- the bytes that are read.
unfoldable pub end_of : List ℕ → InfoFault
end_of bytes = if nat_lt (length bytes) longest_record || is_whole (front_of bytes) then CutOff else TooLong
