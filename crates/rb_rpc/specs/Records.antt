-- Record marking (RFC 5531 section 11).
use Rattle.std.specs.Prelude.{◌≡◌, ℕ, zero, suc, ◌+◌, ◌%◌, ◌^◌, nat_lt, Bool, true, false, not, if◌then◌else◌, List, [], ◌∷◌, ◌++◌, length, take, drop, slice_range, Option, Some, None}
use Rattle.std.specs.List.{flat_map}
use Rattle.std.specs.Option.{option_map}
use Rattle.rb_xdr.specs.Xdr.{number, number_at}

-- ---- the relation

-- a flag, and fewer than 2^31 bytes
pub record Fragment : Type 0 where
  pub last : Bool
  pub content : List ℕ

-- the highest bit is 1 in the last fragment, the low 31 bits are the length of the data
-- FRAGMENT-1: A reply is marked in fragments of 1,024 bytes; the last has 1 to 1,024, and it alone
-- has the flag.
unfoldable pub fragment_header : ℕ → Bool → List ℕ
fragment_header len last = number (if last then 2 ^ 31 + len else len)

-- a fragment's header and its data
abbrev pub marking : Fragment → List ℕ
marking f = fragment_header (length f.content) f.last ++ f.content

abbrev pub markings : List Fragment → List ℕ
markings fragments = flat_map marking fragments

-- ---- the same as functions of the bytes

-- the first fragment's flag, and where its data ends
abbrev pub is_last : List ℕ → Bool
is_last bytes = not (nat_lt (number_at 0 bytes) (2 ^ 31))

abbrev pub fragment_end : List ℕ → ℕ
fragment_end bytes = 4 + number_at 0 bytes % 2 ^ 31

-- the first fragment is not whole
abbrev pub is_cut : List ℕ → Bool
is_cut bytes = nat_lt (length bytes) (fragment_end bytes)

-- of at most this many fragments
abbrev pub record_of : ℕ → List ℕ → Option ℕ
record_of zero bytes = None
record_of (suc k) bytes =
    if is_cut bytes then None
    else if is_last bytes then Some (fragment_end bytes)
    else option_map (λ n. fragment_end bytes + n) (record_of k (drop (fragment_end bytes) bytes))

-- The least n such that the first n bytes are a marked record, if any.
-- RECORD-1: A record is its fragments up to the first whose highest header bit is 1; the low 31
-- bits are the fragment's length, which may be 0.
unfoldable pub first_record : List ℕ → Option ℕ
first_record bytes = record_of (length bytes) bytes

-- RECORD-5: `one_fragment` gives the data of the first record of bytes if that is one fragment and
-- whole.
abbrev pub one_fragment : List ℕ → Option (List ℕ)
one_fragment bytes =
    if is_cut bytes then None
    else if is_last bytes then Some (slice_range bytes 4 (fragment_end bytes))
    else None

abbrev pub data_in : ℕ → List ℕ → List ℕ
data_in zero bytes = []
data_in (suc k) bytes =
    if is_last bytes then slice_range bytes 4 (fragment_end bytes)
    else slice_range bytes 4 (fragment_end bytes) ++ data_in k (drop (fragment_end bytes) bytes)

-- The data of the marked record that the bytes begin with, as far as the bytes go.
-- RECORD-2: The data of a record is that of its fragments joined; headers are no data.
unfoldable pub data_of : List ℕ → List ℕ
data_of bytes = data_in (length bytes) bytes

-- The bytes begin with a record of this data that is one fragment.
-- RECORD-5
pub record BeginsWithRecord (content bytes : List ℕ) : Type 0 where
  pub ends : first_record bytes ≡ Some (4 + length content)
  pub content_is : data_of (take (4 + length content) bytes) ≡ content

-- ---- a reply, marked

abbrev pub fragment_size : ℕ
fragment_size = 1024

abbrev pub cut_up : ℕ → List ℕ → List Fragment
cut_up zero reply = record { last = true; content = reply } ∷ []
cut_up (suc k) reply =
    if nat_lt fragment_size (length reply)
    then record { last = false; content = take fragment_size reply } ∷ cut_up k (drop fragment_size reply)
    else record { last = true; content = reply } ∷ []

-- fragments of 1,024 bytes, the last of 1 to 1,024
unfoldable pub reply_fragments : List ℕ → List Fragment
reply_fragments reply = cut_up (length reply) reply

-- FRAGMENT-1 FRAGMENT-2
unfoldable pub marked_reply : List ℕ → List ℕ
marked_reply reply = markings (reply_fragments reply)
