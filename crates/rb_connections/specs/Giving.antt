-- How a reply is given fragment by fragment.
use Rattle.std.specs.Prelude.{◌≡◌, ◌<◌, ◌≤◌, ⊤, ℕ, ◌+◌, ◌*◌, ◌/◌, ◌==◌, nat_le, nat_lt, Bool, true, false, not, ◌&&◌, if◌then◌else◌, List, [], ◌++◌, length, take, drop, Option, Some, None, Result, Ok, Err}
use Rattle.rb_xdr.specs.Kept.{Kept}
use Rattle.rb_rpc.specs.Records.{fragment_size, fragment_header, marked_reply}
use Rattle.rb_answers.specs.declared.list_reply.ListReply.{ListReply}
use Rattle.rb_answers.specs.ListParts.{CanBeContinued}
use Rattle.rb_model.specs.declared.types.CoreFault.{CoreFault}
use Rattle.rb_model.specs.Connections.{longest_fragment, owed_of}
use Rattle.rb_model.specs.Gives.{fitting_of}
use Rattle.rb_connections.specs.declared.giving.Giving.{Giving}
use Rattle.rb_connections.specs.declared.giving.Next.{Next}
use Rattle.rb_connections.specs.declared.giving.Next.TheVariants as nexts
use Rattle.rb_connections.specs.declared.giving.Rest.{Rest}
use Rattle.rb_connections.specs.declared.giving.Rest.TheVariants as rests
use Rattle.rb_registry.specs.Registry.{Registry}
use Rattle.rb_connections.specs.StandsFor.{rest_in, stamp_of_rest}
use Rattle.rb_connections.specs.declared.slot.Stage.TheVariants as stages
use Rattle.rb_connections.specs.declared.slot.Slot.{Slot}

-- What is not shown yet can be made from this registry, if it is of a list.
abbrev pub CanMake : Registry → Rest → Type 0
CanMake registry (rests.Held start) = ⊤
CanMake registry (rests.Listed list) = CanBeContinued registry list

-- What is after the fragment that is shown can be made, and is something unless that is the last one.
pub record CanContinueReply (registry : Registry) (buffer : List ℕ) (giving : Giving) : Type 0 where
  pub made : CanMake registry giving.rest
  pub some : giving.last ≡ false → 0 < length (rest_in registry buffer giving.rest)

-- a window that shows the fragment with this data
abbrev pub with_fragment : List ℕ → Bool → Kept → Kept
with_fragment part last window = record window { bytes = fragment_header (length part) last ++ part }

-- The next fragment of a reply, of which `rest` was not shown yet, is shown, and `giving` is how it goes on.
pub record ShowsNext (registry : Registry) (buffer : List ℕ) (rest : Rest) (before shown : Kept) (giving : Giving) : Type 0 where
  pub fragment : shown ≡ record before { bytes = take longest_fragment (marked_reply (rest_in registry buffer rest)) }
  pub rest_is : rest_in registry buffer giving.rest ≡ drop fragment_size (rest_in registry buffer rest)
  pub last : giving.last ≡ nat_le (length (rest_in registry buffer rest)) fragment_size
  pub place : giving.place ≡ 0
  pub stamp : stamp_of_rest giving.rest ≡ stamp_of_rest rest
  pub made : CanMake registry giving.rest

-- how many bytes are pending
abbrev pub pending_count : Result (List ℕ) CoreFault → Result ℕ CoreFault
pending_count (Ok bytes) = Ok (length bytes)
pending_count (Err fault) = Err fault

-- A slot shows the next fragment of a reply, of which `rest` was not shown yet.
pub record SlotShowsNext (registry : Registry) (rest : Rest) (old new : Slot) : Type 0 where
  pub giving : Giving
  pub is : new ≡ record old { stage = stages.Owing giving; window = new.window }
  pub shows : ShowsNext registry old.buffer.bytes rest old.window new.window giving

-- ---- a reply that is given whole

-- A reply is one fragment, and is given whole: these are its bytes, marked (RFC 5531 section 11), and its buffer is empty.
pub record IsGivenWhole (before after : Kept) (given : List ℕ) : Type 0 where
  pub some : 0 < length before.bytes
  pub few : length before.bytes ≤ fragment_size
  pub is_marked : given ≡ marked_reply before.bytes
  pub is_empty : after ≡ record before { bytes = [] }

-- how many bytes are written if a reply of n bytes is given whole in this room: 0 if it is not
abbrev pub whole_length : ℕ → ℕ → ℕ
whole_length room n = if not (nat_lt fragment_size n) && not (nat_lt room longest_fragment) then 4 + n else 0

-- what it costs to give n bytes so, if there is this much room: the look at how many there are, they themselves, and
-- the buffer emptied
abbrev pub whole_cost : ℕ → ℕ → ℕ
whole_cost room n = if room == 0 then 0 else n + 2

-- ---- a reply of which as many fragments are written into a room as fit whole

-- how many bytes are written there for a fragment with n bytes of data: 0 if it does not fit
abbrev pub fragment_length : ℕ → ℕ → ℕ
fragment_length room n = if nat_le (4 + n) room then 4 + n else 0

-- how many of n bytes: all of them, or 0 if they do not fit
abbrev pub fitting_length : ℕ → ℕ → ℕ
fitting_length room n = if nat_le n room then n else 0

-- The first n bytes in the room are the last fragment of a reply, of which these bytes were not shown yet.
pub record WritesLast (rest : List ℕ) (room : List ℕ) (n : ℕ) : Type 0 where
  pub few : length rest ≤ fragment_size
  pub fits : n ≤ length room
  pub written : take n room ≡ marked_reply rest

-- The first 1,028 bytes in the room are the next fragment of a reply, and `behind` is what follows it.
pub record WritesFull (registry : Registry) (buffer : List ℕ) (rest : Rest) (room : List ℕ) (behind : Rest) : Type 0 where
  pub long : fragment_size < length (rest_in registry buffer rest)
  pub fits : longest_fragment ≤ length room
  pub written : take longest_fragment room ≡ take longest_fragment (marked_reply (rest_in registry buffer rest))
  pub rest_is : rest_in registry buffer behind ≡ drop fragment_size (rest_in registry buffer rest)
  pub stamp : stamp_of_rest behind ≡ stamp_of_rest rest
  pub made : CanMake registry behind

-- The next fragment of a reply does not fit into the room, and is shown.
pub record ShowsInstead (registry : Registry) (buffer : List ℕ) (rest : Rest) (room : List ℕ) (before shown : Kept) (giving : Giving) : Type 0 where
  pub long : length room < length (take longest_fragment (marked_reply (rest_in registry buffer rest)))
  pub shows : ShowsNext registry buffer rest before shown giving

-- how a reply goes on whose fragment is shown, if this is behind it
abbrev pub shown_before : Rest → Bool → Giving
shown_before behind last = record { rest = behind; place = 0; last = last }

-- One of these came of the next fragment of a reply, and `behind` is what follows it; if it was written, the window stays as
-- it was.
abbrev pub WritesNext : Registry → List ℕ → Rest → Rest → List ℕ → Kept → Kept → Next → Type 0
WritesNext registry buffer rest behind room before after (nexts.Ended n) = WritesLast (rest_in registry buffer rest) room n × (after ≡ before)
WritesNext registry buffer rest behind room before after nexts.Behind = WritesFull registry buffer rest room behind × (after ≡ before)
WritesNext registry buffer rest behind room before after (nexts.Shown last) =
    ShowsInstead registry buffer rest room before after (shown_before behind last)

-- the same of a reply in a buffer, from this place on, wherever rows of lists come from
abbrev pub WritesHeld : ℕ → ℕ → List ℕ → List ℕ → Kept → Kept → Next → Type 0
WritesHeld start behind buffer room before after next =
    (registry : Registry) → WritesNext registry buffer (rests.Held start) (rests.Held behind) room before after next

-- and of a list, whatever the buffer holds
abbrev pub WritesList : Registry → ListReply → ListReply → List ℕ → Kept → Kept → Next → Type 0
WritesList registry list behind room before after next =
    (buffer : List ℕ) → WritesNext registry buffer (rests.Listed list) (rests.Listed behind) room before after next

-- The first n bytes in the room, if there are some, are the fragment with this data.
abbrev pub WritesFragment : List ℕ → Bool → ℕ → List ℕ → Type 0
WritesFragment part last n room = 0 < n → take n room ≡ fragment_header (length part) last ++ part

-- The part of a reply with this data was written, or is shown.
abbrev pub WritesPart : List ℕ → Bool → List ℕ → Kept → Kept → Next → Type 0
WritesPart part last room before after (nexts.Ended n) =
    (last ≡ true) × (n ≤ length room) × (take n room ≡ fragment_header (length part) last ++ part) × (after ≡ before)
WritesPart part last room before after nexts.Behind =
    (last ≡ false) × (4 + length part ≤ length room) × (take (4 + length part) room ≡ fragment_header (length part) last ++ part)
    × (after ≡ before)
WritesPart part last room before after (nexts.Shown shown) =
    (length room < 4 + length part) × (after ≡ with_fragment part last before) × (shown ≡ last)

-- the fragments that fit into this much room, of a reply of which nothing was given
abbrev pub fitting_front : ℕ → List ℕ → List ℕ
fitting_front room reply = fitting_of room (owed_of reply None 0)

-- The first n bytes in the room are the fragments of the reply that fit there.
pub record WritesFitting (reply : List ℕ) (room : List ℕ) (n : ℕ) : Type 0 where
  pub fits : n ≤ length room
  pub written : take n room ≡ fitting_front (length room) reply

-- After n bytes, which are whole fragments of what is after `rest`, the next fragment is shown, and `giving` is how the
-- reply goes on.
pub record GoesOnShown (registry : Registry) (buffer : List ℕ) (rest : Rest) (before shown : Kept) (n : ℕ) (giving : Giving) : Type 0 where
  pub next : Rest
  pub whole : n ≡ longest_fragment * (n / longest_fragment)
  pub rest_is : rest_in registry buffer next ≡ drop (fragment_size * (n / longest_fragment)) (rest_in registry buffer rest)
  pub some : 0 < length (rest_in registry buffer next)
  pub stamp : stamp_of_rest next ≡ stamp_of_rest rest
  pub shows : ShowsNext registry buffer next before shown giving

-- So the reply goes on after n bytes, or it has ended with them.
abbrev pub GoesOn : Registry → List ℕ → Rest → Kept → Kept → ℕ → Option Giving → Type 0
GoesOn registry buffer rest before after n None = (n ≡ length (marked_reply (rest_in registry buffer rest))) × (after ≡ before)
GoesOn registry buffer rest before after n (Some giving) = GoesOnShown registry buffer rest before after n giving

-- the same of a slot, whose buffers are empty if its reply has ended
abbrev pub SlotIsBehind : Registry → Rest → ℕ → Slot → Slot → Option Giving → Type 0
SlotIsBehind registry rest n old new None =
    (n ≡ length (marked_reply (rest_in registry old.buffer.bytes rest)))
    × (new ≡ record old {
      stage = stages.Idle;
      buffer = record old.buffer { bytes = [] };
      window = record old.window { bytes = [] };
    })
SlotIsBehind registry rest n old new (Some giving) =
    GoesOnShown registry old.buffer.bytes rest old.window new.window n giving
    × (new ≡ record old { stage = stages.Owing giving; window = new.window })

pub record SlotGoesOn (registry : Registry) (rest : Rest) (n : ℕ) (old new : Slot) : Type 0 where
  pub giving : Option Giving
  pub is : SlotIsBehind registry rest n old new giving
