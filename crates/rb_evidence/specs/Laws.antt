-- What holds of each table.
use Rattle.std.specs.Prelude.{◌≡◌, ◌≢◌, ◌<◌, ℕ, ◌^◌, true, false, List, [], ◌∷◌, length, filter, All, slice_get, codes, Some, None}
use Rattle.rb_address.specs.declared.peer.Peer.{Peer}
use Rattle.rb_address.specs.Peers.{IsPeer}
use Rattle.rb_evidence.specs.declared.table.OwnedSocket.{OwnedSocket}
use Rattle.rb_address.specs.Reading.{number_below, plain_number}
use Rattle.rb_evidence.specs.Table.{lines_of, fields_of, endpoint_text, mapped_text, is_between, is_same_socket, socket_in, uid_between}

-- No two peers stand in a table with one text.
-- EVIDENCE-3
abbrev pub EndpointsDiffer : Type 0
EndpointsDiffer = (p q : Peer) → IsPeer p → IsPeer q → endpoint_text p ≡ endpoint_text q → p ≡ q

-- EVIDENCE-4
abbrev pub MappedDiffer : Type 0
MappedDiffer = (p q : Peer) → IsPeer p → IsPeer q → mapped_text p ≡ mapped_text q → p ≡ q

-- the line of one connection: who it is of, what it is connected to, and that it is established with a socket
pub record IsOwnedLine (theirs ours line : List ℕ) (uid inode : ℕ) : Type 0 where
  pub own : slice_get (fields_of line) 1 ≡ Some theirs
  pub other : slice_get (fields_of line) 2 ≡ Some ours
  pub established : slice_get (fields_of line) 3 ≡ Some (codes "01")
  pub has_socket : inode ≢ 0
  pub inode_is : (text : List ℕ) × (slice_get (fields_of line) 9 ≡ Some text) × (number_below (2 ^ 64) text ≡ Some inode)
  pub uid_is : (text : List ℕ) × (slice_get (fields_of line) 7 ≡ Some text) × (plain_number (2 ^ 32) text ≡ Some uid)

-- lines that are all of one socket, which is of this uid
pub record AreOfOneSocket (theirs ours : List ℕ) (lines : List (List ℕ)) (uid : ℕ) : Type 0 where
  pub inode : ℕ
  pub are_some : 0 < length lines
  pub each : All (λ line. IsOwnedLine theirs ours line uid inode) lines

-- A uid is that of the only socket between the two.
-- EVIDENCE-1
abbrev pub UidIsOfOneSocket : Type 0
UidIsOfOneSocket =
    (table theirs ours : List ℕ) (uid : ℕ)
    → uid_between table theirs ours ≡ Some uid
    → AreOfOneSocket theirs ours (filter (is_between theirs ours) (lines_of table)) uid

-- If lines between them are not of one socket, it is nobody's.
-- EVIDENCE-1
abbrev pub TwoSocketsAreNone : Type 0
TwoSocketsAreNone =
    (table theirs ours a b : List ℕ) (more : List (List ℕ))
    → filter (is_between theirs ours) (lines_of table) ≡ a ∷ b ∷ more
    → is_same_socket (socket_in a) (socket_in b) ≡ false
    → uid_between table theirs ours ≡ None

-- A socket that is shown twice is one.
-- EVIDENCE-7
abbrev pub ShownTwiceIsOne : Type 0
ShownTwiceIsOne =
    (table theirs ours line again : List ℕ) (socket : OwnedSocket)
    → filter (is_between theirs ours) (lines_of table) ≡ line ∷ again ∷ []
    → socket_in line ≡ Some socket
    → is_same_socket (socket_in line) (socket_in again) ≡ true
    → uid_between table theirs ours ≡ Some socket.uid
