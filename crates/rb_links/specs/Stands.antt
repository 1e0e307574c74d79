-- Where the connection at a place stands, and when it is served.
use Rattle.std.specs.Prelude.{◌≡◌, ℕ, List, ◌==◌, ◌+◌, ◌-◌, ◌^◌, min, Bool, true, false, not, ◌&&◌, ◌||◌, if◌then◌else◌, nat_lt, length, drop, Option, Some, None, Result, Ok, Err}
use Rattle.std.specs.Option.{is_some}
use Rattle.std.specs.declared.io.Error.{Error}
use Rattle.rb_rpc.specs.declared.standing.Standing.{Standing}
use Rattle.rb_rpc.specs.declared.standing.Standing.TheVariants.{Reading, Owing, Awaiting, Sends}
use Rattle.rb_policy.specs.declared.asks.Held.{Held}
use Rattle.rb_policy.specs.declared.asks.Held.TheVariants.{Nothing, Part}
use Rattle.rb_policy.specs.declared.door.Holder.{Holder}
use Rattle.rb_policy.specs.declared.turns.Round.{Round}
use Rattle.rb_policy.specs.declared.outcome.Next.{Next}
use Rattle.rb_policy.specs.Door.{standing_outside, stuck_at}
use Rattle.rb_policy.specs.Origins.{origin_now, is_local}
use Rattle.rb_evidence.specs.Walks.{IsReadBehind}
use Rattle.rb_policy.specs.Outcomes.{outcome_of_count, after_read, after_write}
use Rattle.rb_policy.specs.Turns.{round_of}
use Rattle.rb_links.specs.declared.link.Link.{Link}
use Rattle.rb_links.specs.Outgoing.{Outgoing, read_ahead}
use Rattle.rb_links.specs.Shown.{is_held}

-- whether no connection has the place
abbrev pub is_free : Link → Bool
is_free link = not (is_some link.stream)

abbrev pub is_number : ℕ → Option ℕ → Bool
is_number id None = false
is_number id (Some own) = own == id

-- whether bytes wait for its socket
abbrev pub holds_bytes : Outgoing → Bool
holds_bytes outbox = not (length outbox.bytes == 0)

-- where it stands, as its client sees it
abbrev pub outer_standing : Link → Standing
outer_standing link = standing_outside link.standing (holds_bytes link.outbox) (is_held link.held)

-- what decides who is let in knows of it, if a connection has the place
abbrev pub holder_of : Link → Option Holder
holder_of link =
    if is_free link then None
    else Some (record { origin = origin_now link.origin link.held link.has_ended (outer_standing link); standing = outer_standing link; since = link.since })

-- the moment at which it is given up, if its socket takes nothing of what waits for it until then
abbrev pub stuck_of : Link → Option ℕ
stuck_of link = if holds_bytes link.outbox then Some (stuck_at link.since) else None

-- the round of a turn in which it is served, by whether it is left
abbrev pub round_in : Bool → Link → Round
round_in is_left link = round_of is_left (outer_standing link)

-- ---- what is done next with it

abbrev pub is_reading : Standing → Bool
is_reading Reading = true
is_reading standing = false

abbrev pub is_owing : Standing → Bool
is_owing Owing = true
is_owing standing = false

-- whether the core is called for it: what was read must be handed in, or a reply is owed, and the socket has taken all that
-- was before
abbrev pub is_for_the_core : Link → Bool
is_for_the_core link = (not (length link.inbox == 0) || is_owing link.standing) && not (holds_bytes link.outbox)

abbrev pub is_part : Held → Bool
is_part Part = true
is_part held = false

-- whether more is read from it
-- ASK-4
abbrev pub takes_more : Link → Bool
takes_more link = length link.inbox == 0 || (is_part link.held && nat_lt 0 (read_ahead - length link.inbox))

-- ---- the long outbox

-- the two as they are after it was seen which is the longer one
-- OUTBOX-2
abbrev pub longer_first : Outgoing → Outgoing → Outgoing × Outgoing
longer_first own other =
    if not (holds_bytes own) && (not (holds_bytes other) && nat_lt own.room other.room) then (other, own) else (own, other)

-- ---- what a turn makes of it

-- a turn serves it from here on, with this outbox
abbrev pub begun : Outgoing → Link → Link
begun outbox link = record link { outbox = outbox; read_was_short = false; made_progress = false; written = 0; moved_some = false }

-- the turn of this moment has served it, and left it this outbox
-- PROGRESS-1
abbrev pub ended : ℕ → Outgoing → Link → Link
ended moment outbox link = record link { outbox = outbox; since = if link.made_progress then moment else link.since }

abbrev pub count_moved : Result ℕ Error → ℕ
count_moved (Ok n) = n
count_moved (Err error) = 0

-- bytes that its socket took are progress
-- PROGRESS-1
abbrev pub after_write_of : Result ℕ Error → Link → Link
after_write_of (Ok n) link = record link {
  written = min (link.written + n) (2 ^ 64 - 1);
  made_progress = link.made_progress || nat_lt 0 n;
  moved_some = link.moved_some || nat_lt 0 n;
}
after_write_of (Err error) link = link

-- As many of the bytes that wait are gone as the socket took, if it did.
-- OUTBOX-1
pub record HasWritten (old new : Link) (next : Next) : Type 0 where
  pub came : Result ℕ Error
  pub bytes : new.outbox.bytes ≡ drop (count_moved came) old.outbox.bytes
  pub after : new ≡ record (after_write_of came old) { stream = new.stream; outbox = new.outbox }
  pub next_is : next ≡ after_write (outcome_of_count came)

abbrev pub awaits_answer : Standing → Bool
awaits_answer Awaiting = true
awaits_answer Sends = true
awaits_answer standing = false

-- READ-2
abbrev pub after_read_of : Bool → Result ℕ Error → Link → Link
after_read_of may_end (Ok n) link = record link {
  read_was_short = not (n == (read_ahead - length link.inbox) || may_end);
  moved_some = link.moved_some || nat_lt 0 n;
}
after_read_of may_end (Err error) link = link

abbrev pub AreBehind : Result ℕ Error → List ℕ → List ℕ → Type 0
AreBehind (Ok n) old new = IsReadBehind old new n
AreBehind (Err error) old new = new ≡ old

-- As many bytes are behind what was read before as came, if some did.
-- READ-1
pub record HasRead (may_end : Bool) (old new : Link) (next : Next) : Type 0 where
  pub came : Result ℕ Error
  pub bytes : AreBehind came old.inbox new.inbox
  pub after : new ≡ record (after_read_of may_end came old) { stream = new.stream; inbox = new.inbox }
  pub next_is : next ≡ after_read (outcome_of_count came) (awaits_answer old.standing)

-- its end was looked for, if it is of this host
-- DOOR-14
pub record IsLookedAt (old new : Link) : Type 0 where
  pub after : new ≡ record old { has_ended = new.has_ended }
  pub others : is_local old.origin ≡ false → new.has_ended ≡ old.has_ended

-- No connection has the place from here on.
pub record IsOver (link : Link) : Type 0 where
  pub free : is_free link ≡ true
  pub visitor : link.visitor ≡ None
  pub sought : link.sought ≡ None
  pub held : link.held ≡ Nothing
