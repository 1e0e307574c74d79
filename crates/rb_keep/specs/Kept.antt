-- The text of kept rows.
use Rattle.std.specs.Prelude.{◌≡◌, ◌<◌, ℕ, ◌+◌, ◌-◌, ◌^◌, ◌==◌, nat_lt, ◌||◌, if◌then◌else◌, List, [], ◌∷◌, ◌++◌, length, map, Option, Some, None, option_map}
use Rattle.std.specs.List.{concat}
use Rattle.rb_xdr.specs.Xdr.{residue}
use Rattle.rb_xdr.specs.Pool.{value_at, without}
use Rattle.rb_xdr.specs.Ordered.{IsRising, with_number}
use Rattle.rb_address.specs.declared.netid.Netid.{Netid}
use Rattle.rb_address.specs.declared.netid.Netid.TheVariants.{Tcp, Udp, Tcp6, Udp6, Local}
use Rattle.rb_address.specs.declared.who.Owner.{Owner}
use Rattle.rb_address.specs.declared.who.Owner.TheVariants.{Unknown, Uid}
use Rattle.rb_address.specs.Netids.{netid_text}
use Rattle.rb_rpc.specs.declared.call.CallHead.{CallHead}
use Rattle.rb_rpc.specs.CallBytes.{call_bytes}
use Rattle.rb_registry.specs.declared.row.Row.{Row}
use Rattle.rb_registry.specs.Rows.{rpcb_prog, find_exact}
use Rattle.rb_registry.specs.Index.{rank}
use Rattle.rb_arguments.specs.declared.rpcb.Rpcb.{Rpcb}
use Rattle.rb_arguments.specs.Types.{rpcb_spelling}
use Rattle.rb_model.specs.State.{State}
use Rattle.rb_model.specs.Step.{Event}
use Rattle.rb_model.specs.Step.Event.{Datagram}
use Rattle.rb_model.specs.ChangeLaws.{credential_for, this_machine, set_rows, set_call, kept_calls}
use Rattle.rb_lines.specs.Entries.{event_text}

-- ---- all rows

-- KEEP-2: A row that was set is kept as the line of the event that sets it again: a datagram from
-- port 0 of 127.0.0.1 with a SET of version 4, by AUTH_SYS of the row's owner or by AUTH_NONE, of
-- xid 0 and with no r_owner.
abbrev pub row_line : ℕ → Row → List ℕ
row_line now row = event_text (set_call now row)

-- the lines of rows, in their order
abbrev pub rows_text : ℕ → List Row → List ℕ
rows_text now rows = concat (map (row_line now) rows)

-- KEEP-3: Of each state that a run reaches all rows but the daemon's own are kept, in their order,
-- at the moment of the last event.
abbrev pub kept_text : State → List ℕ
kept_text s = concat (map event_text (kept_calls s))

-- how many bytes the spelling of opaque data has: its count, the content and the residual zeros
abbrev pub opaque_length : List ℕ → ℕ
opaque_length content = 4 + length content + residue (length content)

-- ---- a row that went

-- a call of a procedure of version 4 in the name of an owner
abbrev pub head_by : ℕ → Owner → CallHead
head_by proc owner = record { xid = 0; prog = rpcb_prog; vers = 4; proc = proc; cred = credential_for owner }

-- a call of RPCBPROC_UNSET of version 4, by the owner of the row
abbrev pub unset_head : Row → CallHead
unset_head row = head_by 2 row.owner

-- its argument names the row, without its address
abbrev pub key_for : Row → Rpcb
key_for row = record { prog = row.prog; vers = row.vers; netid = netid_text row.netid; addr = []; owner = [] }

abbrev pub unset_bytes : Row → List ℕ
unset_bytes row = call_bytes (unset_head row) ++ rpcb_spelling (key_for row)

-- the call comes from this machine
abbrev pub unset_call : ℕ → Row → Event
unset_call now row = Datagram now this_machine (unset_bytes row)

-- KEEP-11: A kept row that is set no more has the line of the event that removes it alone: an UNSET of
-- version 4 of its program, version and netid, in the name of its owner, else as the line that set it.
abbrev pub gone_line : ℕ → Row → List ℕ
gone_line now row = event_text (unset_call now row)

-- ---- who set the rows

-- the number of an owner: 0 if none is known, else the one after the uid
abbrev pub owner_number : Owner → ℕ
owner_number Unknown = 0
owner_number (Uid uid) = uid + 1

-- the owner of a number
abbrev pub owner_numbered : ℕ → Owner
owner_numbered number = if number == 0 || nat_lt (2 ^ 32) number then Unknown else Uid (number - 1)

-- These are the numbers of the owners of rows, each under the rank of its row.
pub record AreOwners (owners : List (ℕ × ℕ)) (rows : List Row) : Type 0 where
  pub rising : IsRising owners
  pub same : (prog vers : ℕ) (netid : Netid) → vers < 2 ^ 32
      → value_at owners (rank prog netid vers) ≡ option_map (λ row. owner_number row.owner) (find_exact prog vers netid rows)

-- the row of a program's version on a netid, without its address
abbrev pub named_row : ℕ → ℕ → Netid → Owner → Row
named_row prog vers netid owner = record { prog = prog; vers = vers; netid = netid; owner = owner; addr = [] }

-- ---- what changed

-- the line of what changed of a program's version on a netid, by the number of who had set its row and by the row that
-- is there now
abbrev pub line_on : ℕ → ℕ → ℕ → Netid → Option ℕ → Option Row → List ℕ
line_on now prog vers netid None None = []
line_on now prog vers netid None (Some row) = row_line now row
line_on now prog vers netid (Some number) None = gone_line now (named_row prog vers netid (owner_numbered number))
line_on now prog vers netid (Some number) (Some row) = []

-- the owners, with that of the row that is there now
abbrev pub with_owner : List (ℕ × ℕ) → ℕ → Option ℕ → Option Row → List (ℕ × ℕ)
with_owner owners number None None = owners
with_owner owners number None (Some row) = with_number owners number (owner_number row.owner)
with_owner owners number (Some before) None = without owners number
with_owner owners number (Some before) (Some row) = owners

-- the owners of rows, after a look at those of a program's version on a netid
abbrev pub owners_on : ℕ → ℕ → List Row → Netid → List (ℕ × ℕ) → List (ℕ × ℕ)
owners_on prog vers rows netid owners =
    let number : ℕ = rank prog netid vers in with_owner owners number (value_at owners number) (find_exact prog vers netid rows)

-- the lines of what changed on netids, one after another
abbrev pub lines_on : ℕ → ℕ → ℕ → List Row → List Netid → List (ℕ × ℕ) → List ℕ
lines_on now prog vers rows [] owners = []
lines_on now prog vers rows (netid ∷ more) owners =
    line_on now prog vers netid (value_at owners (rank prog netid vers)) (find_exact prog vers netid rows)
    ++ lines_on now prog vers rows more (owners_on prog vers rows netid owners)

-- the owners after a look at each
abbrev pub owners_on_each : ℕ → ℕ → List Row → List Netid → List (ℕ × ℕ) → List (ℕ × ℕ)
owners_on_each prog vers rows [] owners = owners
owners_on_each prog vers rows (netid ∷ more) owners = owners_on_each prog vers rows more (owners_on prog vers rows netid owners)

abbrev pub all_netids : List Netid
all_netids = Tcp ∷ Udp ∷ Tcp6 ∷ Udp6 ∷ Local ∷ []

-- The lines of what changed of a program's version since these were the owners of the rows.
-- KEEP-12: A change of the rows adds lines to those that were kept: one for each row of its program's
-- version that went, and one for each that came, by netid: tcp, udp, tcp6, udp6, local. Of rows that
-- stay there is none.
abbrev pub change_text : State → ℕ → ℕ → List (ℕ × ℕ) → List ℕ
change_text s prog vers owners = lines_on s.clock prog vers (set_rows s) all_netids owners

-- the owners after it
abbrev pub owners_after : State → ℕ → ℕ → List (ℕ × ℕ) → List (ℕ × ℕ)
owners_after s prog vers owners = owners_on_each prog vers (set_rows s) all_netids owners

-- ---- one change after another

-- a state after one more change, which is of this version of a program
pub record Changed : Type 0 where
  pub state : State
  pub prog : ℕ
  pub vers : ℕ

-- what is added with these changes, one after another
abbrev pub changes_text : List (ℕ × ℕ) → List Changed → List ℕ
changes_text owners [] = []
changes_text owners (c ∷ more) = change_text c.state c.prog c.vers owners ++ changes_text (owners_after c.state c.prog c.vers owners) more

-- the state after the last of them
abbrev pub last_state : State → List Changed → State
last_state s [] = s
last_state s (c ∷ more) = last_state c.state more
