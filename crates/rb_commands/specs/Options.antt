-- What the values of the options of `replay` mean, and of those that `serve` has too.
use Rattle.std.specs.Prelude.{ℕ, ◌+◌, ◌^◌, ◌==◌, nat_lt, nat_le, unwrap_or, Bool, true, false, if◌then◌else◌, List, [], ◌∷◌, codes, bytes_eq, is_some, Option, Some, None, option_map, Result, Ok, Err}
use Rattle.std.specs.Borrow.{Bor}
use Rattle.rb_address.specs.declared.host.Host.{Host}
use Rattle.rb_address.specs.declared.host.Host.TheVariants.{V4, V6}
use Rattle.rb_address.specs.Networks.{plain_host_of}
use Rattle.rb_address.specs.Reading.{cut, number_below}
use Rattle.rb_answers.specs.declared.listener.Announced.{Announced}
use Rattle.rb_answers.specs.declared.listener.Forwarding.{Forwarding}
use Rattle.rb_answers.specs.declared.listener.Forwarding.TheVariants.{Anywhere, ForAll, ForLocal}
use Rattle.rb_answers.specs.declared.reserved.Reservation.{Reservation}
use Rattle.rb_model.specs.declared.types.Limits.{Limits}
use Rattle.rb_lines.specs.declared.beginning.Beginning.{Beginning}
use Rattle.rb_lines.specs.Paths.{is_path}
use Rattle.rb_commands.specs.declared.options.Valued.{Valued}
use Rattle.rb_commands.specs.declared.options.Valued.TheVariants.{Announce, Local, Conns, Rows, Forwards, UdpLists, ReplayForwardFor, Port, Xid, Now, Reserve}
use Rattle.rb_commands.specs.declared.options.ReplayTexts.{ReplayTexts}

-- one after the other, up to the first that can't be read
infixl 10 ◌>>=◌
abbrev pub ◌>>=◌ : {A B : Type 0} → Result A Valued → (A → Result B Valued) → Result B Valued
(Ok x) >>= f = f x
(Err bad) >>= f = Err bad

-- the value of this option
abbrev pub value_of : {A : Type 0} → Valued → Option A → Result A Valued
value_of option (Some x) = Ok x
value_of option None = Err option

-- ---- the announced hosts

abbrev pub unannounced : Announced
unannounced = record { inet = None; inet6 = None }

-- with one more, of a family that has none yet
abbrev pub with_host : Announced → Host → Option Announced
with_host announced (V4 octets) = if is_some announced.inet then None else Some (record announced { inet = Some octets })
with_host announced (V6 octets) = if is_some announced.inet6 then None else Some (record announced { inet6 = Some octets })

-- with that at a place of `--announce`
abbrev pub announce_at : ℕ → Announced → List ℕ → Result Announced Valued
announce_at place announced text = do
  host ← value_of (Announce place) (plain_host_of text)
  value_of (Announce place) (with_host announced host)

-- at most one of each family
-- OPTION-4
abbrev pub announced_of : List (Bor (List ℕ)) → Result Announced Valued
announced_of [] = Ok unannounced
announced_of (text ∷ []) = announce_at 0 unannounced text.now
announced_of (first ∷ second ∷ []) = do
  one ← announce_at 0 unannounced first.now
  announce_at 1 one second.now
announced_of (first ∷ second ∷ third ∷ more) = do
  one ← announce_at 0 unannounced first.now
  both ← announce_at 1 one second.now
  Err (Announce 2)

-- ---- the local socket

-- OPTION-3: `--local` is a path of 1 to 107 bytes, none of them below 32 or `'`; `--local-mode` a
-- number below 512 in octal digits alone.
abbrev pub read_local : Option (Bor (List ℕ)) → Result (Option (Bor (List ℕ))) Valued
read_local None = Ok None
read_local (Some text) = if is_path text.now then Ok (Some text) else Err Local

abbrev pub local_address : Option (Bor (List ℕ)) → Result (Option (List ℕ)) Valued
local_address text = read_local text >>= λ path. Ok (option_map (λ p. p.now) path)

-- ---- numbers

abbrev pub unless_zero : Option ℕ → Option ℕ
unless_zero None = None
unless_zero (Some n) = if n == 0 then None else Some n

-- OPTION-1: Numbers of options are decimal digits alone, a port from 1 to 65535, an xid of 32 bits,
-- every other one of 64 bits.
abbrev pub port : List ℕ → Option ℕ
port text = unless_zero (number_below (2 ^ 16) text)

-- the most connections, rows and forwarded calls, whatever their ranges
abbrev pub limits_of : List ℕ → List ℕ → List ℕ → Result Limits Valued
limits_of conns rows forwards = do
  most_conns ← value_of Conns (number_below (2 ^ 64) conns)
  most_rows ← value_of Rows (number_below (2 ^ 64) rows)
  most_forwards ← value_of Forwards (number_below (2 ^ 64) forwards)
  Ok (record { conns = most_conns; rows = most_rows; forwards = most_forwards })

-- ---- the terms

-- whether replies over UDP may be long to strangers
-- OPTION-7: `--udp-lists` is `all` or `local`; `--forward-for` is one of these, and of `replay`
-- also `any`.
abbrev pub udp_lists : List ℕ → Option Bool
udp_lists text =
    if bytes_eq text (codes "all") then Some true
    else if bytes_eq text (codes "local") then Some false
    else None

-- for whom `serve` forwards calls
-- OPTION-7
abbrev pub forward_for : List ℕ → Option Forwarding
forward_for text =
    if bytes_eq text (codes "all") then Some ForAll
    else if bytes_eq text (codes "local") then Some ForLocal
    else None

-- the same of a replay, which knows one more
-- OPTION-7
abbrev pub forwarding_of : List ℕ → Option Forwarding
forwarding_of text = if bytes_eq text (codes "any") then Some Anywhere else forward_for text

-- ---- the reservations

-- the values from a place on, each read as one of its place
unfoldable pub values_from : {A : Type 0} → (ℕ → List ℕ → Result A Valued) → ℕ → List (Bor (List ℕ)) → Result (List A) Valued
values_from value_at place [] = Ok []
values_from value_at place (text ∷ texts) = do
  first ← value_at place text.now
  others ← values_from value_at (place + 1) texts
  Ok (first ∷ others)

-- a number of 32 bits
abbrev pub number32 : List ℕ → Option ℕ
number32 text = number_below (2 ^ 32) text

-- the first program and the last one of `PROGRAM-PROGRAM`, or `PROGRAM` twice
abbrev pub programs_in : List ℕ → List ℕ × List ℕ
programs_in text = unwrap_or (cut 45 text) (text, text)

-- `PROGRAM[-PROGRAM]=UID`, the first program no greater than the last one
abbrev pub reservation_of : Valued → List ℕ → Result Reservation Valued
reservation_of option text = do
  parts ← value_of option (cut 61 text)
  first ← value_of option (number32 (programs_in parts.0).0)
  last ← value_of option (number32 (programs_in parts.0).1)
  uid ← value_of option (number32 parts.1)
  if nat_le first last then Ok (record { first = first; last = last; uid = uid }) else Err option

-- RESERVE-2: `--reserve` is given at most 64 times.
abbrev pub reserve_at : ℕ → List ℕ → Result Reservation Valued
reserve_at place text = if nat_lt place 64 then reservation_of (Reserve place) text else Err (Reserve place)

abbrev pub reserved_from : ℕ → List (Bor (List ℕ)) → Result (List Reservation) Valued
reserved_from place texts = values_from reserve_at place texts

-- what a replay begins with, or the first option whose value can't be read
-- OPTION-11: Each option of `replay` sets its own field.
abbrev pub beginning_of : ReplayTexts → Result Beginning Valued
beginning_of texts = do
  announced ← announced_of texts.announce.now
  path ← local_address texts.local
  limits ← limits_of texts.conns.now texts.rows.now texts.forwards.now
  listens ← value_of Port (port texts.port.now)
  xid ← value_of Xid (number_below (2 ^ 32) texts.xid.now)
  moment ← value_of Now (number_below (2 ^ 64) texts.moment.now)
  lists ← value_of UdpLists (udp_lists texts.udp_lists.now)
  whom ← value_of ReplayForwardFor (forwarding_of texts.forward_for.now)
  owned ← reserved_from 0 texts.reserve.now
  Ok (record {
    limits = limits;
    listener = record { announced = announced; port = listens; local = path; terms = record { long_replies = lists; forwarding = whom }; reserved = owned };
    first_xid = xid;
    moment = moment;
    steps = texts.steps;
  })
