-- What the calls of procedures that were served left behind.
use Rattle.std.specs.Prelude.{ℕ, ◌==◌, Bool, true, false, if◌then◌else◌, List, [], ◌∷◌, ◌++◌}
use Rattle.rb_rpc.specs.declared.call.CallHead.{CallHead}
use Rattle.rb_registry.specs.declared.row.Row.{Row}
use Rattle.rb_registry.specs.Rows.{Change, live}
use Rattle.rb_stats.specs.declared.key.Version.{Version}
use Rattle.rb_stats.specs.declared.key.Version.TheVariants.{Two, Three, Four}
use Rattle.rb_stats.specs.Statistics.{Note}
use Rattle.rb_stats.specs.Statistics.Note.{Called}
use Rattle.rb_forward.specs.Forwards.{Forwards, no_forwards}

-- the daemon's own rows, the accepted changes, the history of the calls, and the forwarded ones, in their order
pub record Ledger : Type 0 where
  pub own : List Row
  pub changes : List Change
  pub history : List Note
  pub forwards : Forwards

-- nothing was called yet
abbrev pub fresh_ledger : List Row → Ledger
fresh_ledger own = record { own = own; changes = []; history = []; forwards = no_forwards }

-- the live rows
abbrev pub rows_in : Ledger → List Row
rows_in l = live l.own l.changes

-- ---- the history

-- the version that counts a call (one of another number has no procedures)
-- COUNT-4: A call is counted in the version in which it was called.
unfoldable pub version_of : ℕ → Version
version_of vers = if vers == 2 then Two else if vers == 3 then Three else Four

-- a note after the others
abbrev pub with_note : Note → Ledger → Ledger
with_note note l = record l { history = l.history ++ note ∷ [] }

-- a note after the others, if it counts
abbrev pub note_where : Bool → Note → Ledger → Ledger
note_where counts note l = record l { history = if counts then l.history ++ note ∷ [] else l.history }

-- the note, if it counts
abbrev pub notes_where : Bool → Note → List Note
notes_where true note = note ∷ []
notes_where false note = []

-- COUNT-6
unfoldable pub with_call_noted : CallHead → Ledger → Ledger
with_call_noted head l = with_note (Called (version_of head.vers) head.proc) l
