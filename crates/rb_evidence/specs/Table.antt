-- Whose a TCP connection from this host is, as Linux lists its sockets: a line each, of fields with spaces between them
-- (proc(5), /proc/net/tcp and /proc/net/tcp6). Places of fields count from 0: 1 is the socket's own address, 2 the one that
-- it is connected to, 3 the state, 7 the uid and 9 the inode.
use Rattle.std.specs.Prelude.{◌≡◌, ℕ, ◌+◌, ◌/◌, ◌%◌, ◌^◌, ◌==◌, ◌&&◌, nat_lt, not, Bool, false, if◌then◌else◌, List, [], ◌∷◌, ◌++◌, length, filter, slice_get, All, codes, Option, Some, None, bytes_eq}
use Rattle.std.specs.List.{slice_split, list_all}
use Rattle.std.specs.Option.{option_map}
use Rattle.std.specs.Borrow.{Bor}
use Rattle.rb_address.specs.declared.peer.Peer.{Peer}
use Rattle.rb_address.specs.declared.host.Host.{Host}
use Rattle.rb_evidence.specs.declared.table.OwnedSocket.{OwnedSocket}
use Rattle.rb_address.specs.Hosts.{octets_of_host, mapped_host}
use Rattle.rb_address.specs.Reading.{◌>>=◌, number_below, plain_number}

-- ---- lines and fields

unfoldable pub pieces_of : ℕ → List ℕ → List (List ℕ)
pieces_of between text = slice_split (λ b. b == between) text

abbrev pub lines_of : List ℕ → List (List ℕ)
lines_of table = pieces_of 10 table

abbrev pub is_something : List ℕ → Bool
is_something text = not (length text == 0)

-- what stands between the spaces
unfoldable pub fields_of : List ℕ → List (List ℕ)
fields_of line = filter is_something (pieces_of 32 line)

abbrev pub is_text : List ℕ → Option (List ℕ) → Bool
is_text text None = false
is_text text (Some field) = bytes_eq field text

-- The field at this place has this text.
abbrev pub is_field : ℕ → List ℕ → List ℕ → Bool
is_field place text line = is_text text (slice_get (fields_of line) place)

-- ---- a peer: its host in words of four bytes, each with its last byte first, and its port, in upper-case hexadecimal

abbrev pub upper_digit : ℕ → ℕ
upper_digit digit = if nat_lt digit 10 then digit + 48 else digit + 55

abbrev pub byte_text : ℕ → List ℕ
byte_text byte = upper_digit (byte / 16) ∷ upper_digit (byte % 16) ∷ []

abbrev pub port_text : ℕ → List ℕ
port_text port = byte_text (port / 256) ++ byte_text (port % 256)

abbrev pub word_text : ℕ → ℕ → ℕ → ℕ → List ℕ
word_text a b c d = byte_text d ++ byte_text c ++ byte_text b ++ byte_text a

abbrev pub words_text : List ℕ → List ℕ
words_text (a ∷ b ∷ c ∷ d ∷ octets) = word_text a b c d ++ words_text octets
words_text octets = []

abbrev pub text_at : Host → ℕ → List ℕ
text_at host port = words_text (octets_of_host host) ++ codes ":" ++ port_text port

-- EVIDENCE-3: An address stands in the table in upper-case hexadecimal, each four bytes of the host
-- with the last one first, after a colon the port.
unfoldable pub endpoint_text : Peer → List ℕ
endpoint_text p = text_at p.host p.port

-- the same with the host in IPv6's form, as the table of IPv6 has one of IPv4
unfoldable pub mapped_text : Peer → List ℕ
mapped_text p = text_at (mapped_host p.host) p.port

-- ---- whose it is

abbrev pub is_between : List ℕ → List ℕ → List ℕ → Bool
is_between theirs ours line = is_field 1 theirs line && is_field 2 ours line

-- EVIDENCE-2: A line that shows a connection's user must be of a connection that is established,
-- and have an inode other than 0: a client that has closed stands there with the uid 0 and without
-- a socket.
unfoldable pub socket_in : List ℕ → Option OwnedSocket
socket_in line = do
  user ← slice_get (fields_of line) 7
  text ← slice_get (fields_of line) 9
  number ← number_below (2 ^ 64) text
  uid ← if is_field 3 (codes "01") line && not (number == 0) then plain_number (2 ^ 32) user else None
  Some (record { uid = uid; inode = number })

-- EVIDENCE-7: Lines of one uid and one inode are of one socket, which Linux may show twice.
abbrev pub is_same_socket : Option OwnedSocket → Option OwnedSocket → Bool
is_same_socket (Some a) (Some b) = (a.uid == b.uid) && (a.inode == b.inode)
is_same_socket a b = false

-- the socket that each of these lines shows
abbrev pub the_socket : List (List ℕ) → Option OwnedSocket
the_socket [] = None
the_socket (line ∷ more) = if list_all (λ l. is_same_socket (socket_in line) (socket_in l)) more then socket_in line else None

-- EVIDENCE-1: A connection's user is that of the only socket that the table shows between the
-- peer's address and ours, the peer's first; if there is none, or more than one, the table shows no
-- user.
unfoldable pub socket_between : List ℕ → List ℕ → List ℕ → Option OwnedSocket
socket_between table theirs ours = the_socket (filter (is_between theirs ours) (lines_of table))

-- the uid of that socket
unfoldable pub uid_between : List ℕ → List ℕ → List ℕ → Option ℕ
uid_between table theirs ours = option_map (λ socket. socket.uid) (socket_between table theirs ours)

-- EVIDENCE-1
unfoldable pub uid_of : List ℕ → Peer → Peer → Option ℕ
uid_of table theirs ours = uid_between table (endpoint_text theirs) (endpoint_text ours)

-- EVIDENCE-4: A client over IPv4 whose socket is of IPv6 stands in the table of IPv6, in IPv6's
-- form.
unfoldable pub uid_of_mapped : List ℕ → Peer → Peer → Option ℕ
uid_of_mapped table theirs ours = uid_between table (mapped_text theirs) (mapped_text ours)

-- ---- as the code has them

abbrev pub IsWithout : ℕ → List ℕ → Type 0
IsWithout at text = All (λ b. (b == at) ≡ false) text

-- the text is the front, its first such byte, and the back
pub record IsCutAt (at : ℕ) (front back text : List ℕ) : Type 0 where
  pub without : IsWithout at front
  pub text_is : text ≡ front ++ at ∷ back

abbrev pub borrowed : Option (Bor (List ℕ)) → Option (List ℕ)
borrowed text = option_map (λ t. t.now) text
