-- What was recorded of a run is read back as its events, and what it says of outputs is what they gave.
use Rattle.std.specs.Prelude.{◌≡◌, ◌≤◌, ◌<◌, ℕ, suc, ◌^◌, true, List, ◌∷◌, ◌++◌, length, take, IfSome, Ok}
use Rattle.std.specs.List.{AllByRecursion}
use Rattle.rb_address.specs.Peers.{IsPeer}
use Rattle.rb_address.specs.Callers.{IsWho}
use Rattle.rb_answers.specs.declared.listener.Listener.{Listener}
use Rattle.rb_model.specs.declared.types.Limits.{Limits}
use Rattle.rb_model.specs.State.{opening}
use Rattle.rb_model.specs.Step.{Event, Output, run}
use Rattle.rb_model.specs.Step.Event.{Datagram, Open, Bytes, Pending, Gave, Closed, NextLost, Unsent, Sent, Forward, Expire, ZeroStats}
use Rattle.rb_lines.specs.Entries.{run_entries, run_text, options_text}
use Rattle.rb_lines.specs.Tapes.{HasFirst}
use Rattle.rb_lines.specs.Lines.{longest_input, read}
use Rattle.rb_lines.specs.Paths.{is_path}
use Rattle.rb_lines.specs.OutputLines.{output_lines_in, output_lines}

-- ---- what has a line: numbers of 64 bits, bytes, callers and peers

abbrev pub Fits : ℕ → Type 0
Fits n = n < 2 ^ 64

abbrev pub AreBytes : List ℕ → Type 0
AreBytes bytes = AllByRecursion (λ byte. byte < 256) bytes

abbrev pub HasLine : Event → Type 0
HasLine (Open now from) = Fits now × IsWho from
HasLine (Bytes now id bytes) = Fits now × Fits id × AreBytes bytes
HasLine (Pending id) = Fits id
HasLine (Gave now id n) = Fits now × Fits id × Fits n
HasLine (Closed id) = Fits id
HasLine NextLost = Unit {0}
HasLine (Datagram now from bytes) = Fits now × IsWho from × AreBytes bytes
HasLine Unsent = Unit {0}
HasLine (Sent number) = Fits number
HasLine (Forward now from bytes) = Fits now × IsPeer from × AreBytes bytes
HasLine (Expire now) = Fits now
HasLine ZeroStats = Unit {0}

-- The path of the local socket, if there is one, is as `--local` takes it.
abbrev pub HasPath : Listener → Type 0
HasPath listener = IfSome listener.local (λ path. is_path path ≡ true)

-- ---- the law

-- A text reads as these events, and says that they give these outputs.
pub record ReadsAs (text : List ℕ) (events : List Event) (outputs : List Output) : Type 0 where
  pub events_are : read text ≡ Ok events
  pub outputs_are : output_lines_in text ≡ output_lines outputs

-- A record that is no longer than an input may be reads as the events of its run, and says what they give: so `replay --check`
-- of it finds that all agree.
abbrev pub RecordsAreRead : Type 0
RecordsAreRead =
    (limits : Limits) (listener : Listener) (first_xid now : ℕ) (events : List Event)
    → HasPath listener → AllByRecursion HasLine events
    → length (options_text limits listener first_xid now ++ run_text (opening limits listener first_xid now) events) ≤ longest_input
    → ReadsAs (options_text limits listener first_xid now ++ run_text (opening limits listener first_xid now) events) events (run (opening limits listener first_xid now) events)

-- A record that ended, at its limit or at a fault of its file, has the options and the first k events, if it has any entry. It
-- reads as these events, and says what they give.
abbrev pub EndedRecordsAreRead : Type 0
EndedRecordsAreRead =
    (limits : Limits) (listener : Listener) (first_xid now : ℕ) (events : List Event) (text : List ℕ) (k : ℕ)
    (held : HasFirst (options_text limits listener first_xid now ∷ run_entries (opening limits listener first_xid now) events) text)
    → held.count ≡ suc k
    → HasPath listener → AllByRecursion HasLine events
    → length text ≤ longest_input
    → ReadsAs text (take k events) (run (opening limits listener first_xid now) (take k events))
