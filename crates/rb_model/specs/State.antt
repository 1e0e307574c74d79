-- What the daemon knows between two events, as plain data.
use Rattle.std.specs.Prelude.{ℕ, ◌+◌, ◌-◌, ◌^◌, nat_le, max, Bool, ◌&&◌, List, [], length, Option}
use Rattle.rb_address.specs.declared.who.Who.{Who}
use Rattle.rb_answers.specs.declared.listener.Listener.{Listener}
use Rattle.rb_answers.specs.Callers.{own_rows}
use Rattle.rb_answers.specs.Ledger.{Ledger, fresh_ledger}
use Rattle.rb_model.specs.declared.types.Limits.{Limits}
use Rattle.rb_model.specs.declared.types.CoreFault.{CoreFault}
use Rattle.rb_model.specs.declared.types.CoreFault.TheVariants.{NoMemory, Full, BadLimits, Gone, Spent}

-- what no event changes; `first_xid` is the xid of the first call that is forwarded
pub record Setting : Type 0 where
  pub limits : Limits
  pub listener : Listener
  pub first_xid : ℕ

-- ---- connections

-- A reply that is being given: its bytes with the headers of its fragments (RFC 5531 section 11), how many of them
-- were given, and, if it is a streamed list, how many changes were accepted before it began.
pub record Owed : Type 0 where
  pub marked : List ℕ
  pub given : ℕ
  pub stamp : Option ℕ

-- the state of a connection: `Reading` has the bytes that came since the last record's end, `Awaiting` waits for the
-- end of a forwarded call, and `Lost` is given up and must be closed
pub data Phase : Type 0 where
  Idle : Phase
  Reading : List ℕ → Phase
  Owing : Owed → Phase
  Awaiting : Phase
  Lost : Phase

-- `who` is at its other end, and `since` is the moment of its last progress, from which its deadline counts
pub record Connection : Type 0 where
  pub number : ℕ
  pub who : Who
  pub phase : Phase
  pub since : ℕ

-- the connections in the order of their openings, lost ones among them, and the number of the next one
pub record Connections : Type 0 where
  pub next : ℕ
  pub all : List Connection

-- ---- the whole

-- The ledger has what is remembered of the calls. `reply` is the last reply over UDP.
pub record State : Type 0 where
  pub setting : Setting
  pub clock : ℕ
  pub connections : Connections
  pub ledger : Ledger
  pub reply : List ℕ

-- LIMITS-1: Limits are 1 to 256 connections, rows from the own ones and two more to 4,096, and 0 to
-- 64 forwarded calls.
-- LIMITS-2
abbrev pub are_good : Limits → Listener → Bool
are_good limits listener =
    nat_le 1 limits.conns && nat_le limits.conns 256
    && nat_le (length (own_rows listener) + 2) limits.rows && nat_le limits.rows 4096 && nat_le limits.forwards 64

abbrev pub opening : Limits → Listener → ℕ → ℕ → State
opening limits listener first_xid now = record {
  setting = record { limits = limits; listener = listener; first_xid = first_xid };
  clock = now;
  connections = record { next = 1; all = [] };
  ledger = fresh_ledger (own_rows listener);
  reply = [];
}

-- the greatest moment, and the greatest number of a connection or of changes
-- NUMBER-3
abbrev pub greatest_number : ℕ
greatest_number = 2 ^ 64 - 1

-- CLOCK-1: A moment earlier than the last one counts as the last one.
abbrev pub at_moment : ℕ → State → State
at_moment now s = record s { clock = max s.clock now }

-- the number of a refusal
abbrev pub fault_number : CoreFault → ℕ
fault_number NoMemory = 1
fault_number BadLimits = 2
fault_number Full = 3
fault_number Spent = 4
fault_number Gone = 5
