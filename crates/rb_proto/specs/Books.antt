-- What calls on the books say of the ledger, and what of the books stays.
use Rattle.std.specs.Prelude.{◌≡◌, ◌<◌, ◌↔◌, ⊤, ℕ, ◌+◌, Bool, true, IsTrue, if◌then◌else◌, List, [], ◌∷◌, ◌++◌, length, Option, is_some, option_copied, Result, IsOk}
use Rattle.std.specs.Borrow.{Bor}
use Rattle.std.specs.List.{filter_map}
use Rattle.rb_rpc.specs.declared.call.CallHead.{CallHead}
use Rattle.rb_address.specs.declared.caller.Caller.{Caller}
use Rattle.rb_address.specs.declared.peer.Peer.{Peer}
use Rattle.rb_registry.specs.declared.row.Row.{Row}
use Rattle.rb_registry.specs.Slots.{slots_from}
use Rattle.rb_registry.specs.Registry.{Registry, rows_of, retained_count, removals_of}
use Rattle.rb_stats.specs.Statistics.{Note}
use Rattle.rb_stats.specs.Statistics.Note.{LookedUp}
use Rattle.rb_stats.specs.Stats.{Stats, StandsForHistory}
use Rattle.rb_stats.specs.declared.key.Target.{Target}
use Rattle.rb_forward.specs.StandsFor.{Table, slots_of}
use Rattle.rb_forward.specs.Table.{OnlyWaitsAnew}
use Rattle.rb_forward.specs.Forwards.{Unsent, unsent}
use Rattle.rb_arguments.specs.declared.kind.Kind.{Kind}
use Rattle.rb_forward.specs.declared.types.Ended.{Ended}
use Rattle.rb_proto.specs.declared.books.Books.{Books}
use Rattle.rb_answers.specs.declared.call.Call.{Call}
use Rattle.rb_answers.specs.declared.context.Context.{Context}
use Rattle.rb_proto.specs.declared.forwarding.ForwardNote.{ForwardNote}
use Rattle.rb_arguments.specs.declared.remote.RemoteCall.{RemoteCall}
use Rattle.rb_answers.specs.declared.answers.Answer.{Answer}
use Rattle.rb_answers.specs.declared.answers.Answer.TheVariants as answers
use Rattle.rb_answers.specs.Callers.{who_of}
use Rattle.rb_answers.specs.Terms.{counts_forward, counts_look_up}
use Rattle.rb_answers.specs.Ledger.{Ledger, version_of}
use Rattle.rb_proto.specs.Ledger.{StandsForLedger}
use Rattle.rb_answers.specs.Answers.{adds, adds_row}
use Rattle.rb_answers.specs.Forwarding.{outcome_note, forward_call, target_replied}

-- the changes after the first n that removed rows, in the order of these rows
abbrev pub removals_after : ℕ → Ledger → List ℕ
removals_after n l = filter_map (λ slot. slot.removed) (slots_from n l.own l.changes)

-- From each ledger that the books stood for, they stand for what it becomes.
abbrev pub Becomes : (Ledger → Ledger) → Books → Books → Type 0
Becomes change old new = (l : Ledger) → StandsForLedger old l → StandsForLedger new (change l)

-- An act on a ledger that gives something. From each ledger that the books stood for, it gives this result; they stand
-- for the ledger after it, and the registry is as it was if the changes are.
pub record ActsAs {A : Type 0} (act : Ledger → A × Ledger) (old new : Books) (result : A) : Type 0 where
  pub gives : (l : Ledger) → StandsForLedger old l → result ≡ (act l).0
  pub stands : (l : Ledger) → StandsForLedger old l → StandsForLedger new (act l).1
  pub kept : (l : Ledger) → StandsForLedger old l → (act l).1.changes ≡ l.changes → new.registry ≡ old.registry

-- From each ledger that the books stand for, this is what it shows.
abbrev pub BooksShow : {A : Type 0} → (Ledger → A) → Books → A → Type 0
BooksShow show books result = (l : Ledger) → StandsForLedger books l → result ≡ show l

-- The history that the statistics stand for has the note after it, if it counts, and else stays.
abbrev pub HasNotedWhere : Bool → Note → Stats → Stats → Type 0
HasNotedWhere counts note old new =
    (notes : List Note) → StandsForHistory old notes → StandsForHistory new (if counts then notes ++ note ∷ [] else notes)

-- For each ledger that the books stand for, the result is Ok if and only if this holds of it.
abbrev pub IsOkWhere : {A E : Type 0} → (Ledger → Bool) → Books → Result A E → Type 0
IsOkWhere holds books result = (l : Ledger) → StandsForLedger books l → IsOk result ↔ IsTrue (holds l)

-- Of all callers this one alone may have a forwarded call that it had not before.
abbrev pub OnlyCallerWaits : Caller → Books → Books → Type 0
OnlyCallerWaits caller old new = OnlyWaitsAnew caller (slots_of old.forwards) (slots_of new.forwards)

-- the books were made with the meter of this number
pub record AreTied (tie : ℕ) (books : Books) : Type 0 where
  pub registry : tie ≡ books.registry.tie
  pub stats : tie ≡ books.stats.tie
  pub forwards : tie ≡ books.forwards.tie

-- the rows, the statistics and the forwarded calls have as much memory as before
pub record SameMemory (old new : Books) : Type 0 where
  pub registry : new.registry.memory ≡ old.registry.memory
  pub stats : new.stats.memory ≡ old.stats.memory
  pub forwards : new.forwards.memory ≡ old.forwards.memory

-- the limits of rows and of forwarded calls, the first xid of those, the books' meter and their memory stay
pub record SameFrame (old new : Books) : Type 0 where
  pub limit : new.registry.limit ≡ old.registry.limit
  pub cap : new.forwards.cap ≡ old.forwards.cap
  pub first_xid : new.forwards.first_xid ≡ old.forwards.first_xid
  pub registry : new.registry.tie ≡ old.registry.tie
  pub stats : new.stats.tie ≡ old.stats.tie
  pub forwards : new.forwards.tie ≡ old.forwards.tie
  pub memory : SameMemory old new

-- the changes that removed the rows which are retained
abbrev pub removals_in : Books → List ℕ
removals_in books = removals_of books.registry

-- ---- room for a row

abbrev pub wants_room_in : Context → Call → Registry → Bool
wants_room_in context call kept = adds_row context call (rows_of kept) kept.stamp

-- one row more is within the limit, beside the live rows and the retained ones
abbrev pub HasPlaceLeft : Registry → Type 0
HasPlaceLeft kept = length (rows_of kept) + retained_count kept < kept.limit

-- if the row is accepted, there is room for it
abbrev pub HasRoomFor : Context → Option Row → Registry → Type 0
HasRoomFor context row kept = adds context (rows_of kept) kept.stamp row ≡ true → HasPlaceLeft kept

-- if the call needs room, there is room
abbrev pub HasRowRoom : Context → Call → Registry → Type 0
HasRowRoom context call kept = wants_room_in context call kept ≡ true → HasPlaceLeft kept

-- ---- forwarded calls

-- the note of how a call ended that was asked for so
abbrev pub note_asked : ForwardNote → Bool → Note
note_asked asked passed = outcome_note asked.kind asked.caller asked.prog asked.vers asked.proc passed

-- That a forwarded call ended in this way is noted, if it counts.
abbrev pub NotesForward : ForwardNote → Bool → Stats → Stats → Type 0
NotesForward asked passed old new = HasNotedWhere (counts_forward asked.caller passed) (note_asked asked passed) old new

-- A look-up of a call with this head is noted, if it counts, with whether it found a row.
abbrev pub NotesLookUp : Context → CallHead → Target → Option (Bor Row) → Stats → Stats → Type 0
NotesLookUp context head target found old new =
    HasNotedWhere (counts_look_up (who_of context.caller) target.vers (option_copied found))
    (LookedUp (version_of head.vers) target (is_some (option_copied found))) old new

-- no answer but this one leaves a new entry
abbrev pub StayUnlessForwarded : Answer → Table → Table → Type 0
StayUnlessForwarded (answers.Results results) old new = new ≡ old
StayUnlessForwarded (answers.Refused status) old new = new ≡ old
StayUnlessForwarded answers.Forwarded old new = ⊤
StayUnlessForwarded answers.Silent old new = new ≡ old

-- the arguments of a call are forwarded, or it is refused
abbrev pub ForwardsAs : Context → ℕ → Kind → RemoteCall → List ℕ → Books → Books → Answer → Type 0
ForwardsAs context xid kind remote arguments old new result =
    ActsAs (forward_call context xid kind remote arguments) old new result

-- what a datagram does, with the entries numbered as in the books
abbrev pub reply_to : Books → ℕ → Peer → List ℕ → Ledger → Option Ended × Ledger
reply_to books clock from bytes = target_replied books.forwards.first_xid clock from bytes

-- the call that must be sent next, with the entries numbered as in the books
abbrev pub unsent_of : Books → Ledger → Option Unsent
unsent_of books l = unsent books.forwards.first_xid l.forwards
