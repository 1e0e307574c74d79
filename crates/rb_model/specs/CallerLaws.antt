-- Laws of callers of which more is known than what they claim.
use Rattle.std.specs.Prelude.{◌≡◌, ⊤, ◌==◌, Bool, true, false, not, List, filter, All, Any, Some}
use Rattle.rb_address.specs.declared.who.Owner.{Owner}
use Rattle.rb_address.specs.declared.who.Owner.TheVariants.{Unknown, Uid}
use Rattle.rb_address.specs.declared.who.Trust.{Trust}
use Rattle.rb_address.specs.declared.who.Trust.TheVariants.{Local, Stranger}
use Rattle.rb_address.specs.Callers.{is_same_owner}
use Rattle.rb_registry.specs.declared.row.Row.{Row}
use Rattle.rb_stats.specs.Statistics.{Note}
use Rattle.rb_stats.specs.Statistics.Note.{Called, WasSet, WasUnset, LookedUp, Forwarded}
use Rattle.rb_answers.specs.Callers.{who_of, is_superuser}
use Rattle.rb_answers.specs.Ledger.{rows_in}
use Rattle.rb_model.specs.State.{State}
use Rattle.rb_model.specs.Step.{Event, step, IsReached}
use Rattle.rb_model.specs.ChangeLaws.{Brought, brought_by}
use Rattle.rb_model.specs.HistoryLaws.{notes_from}

-- the event brings a whole message, and this is known of its caller
pub record BringsFrom (s : State) (event : Event) (trust : Trust) : Type 0 where
  pub message : Brought
  pub brings : brought_by s event ≡ Some message
  pub trusts : (who_of message.caller).trust ≡ trust

-- From every state, a call of a stranger's leaves the accepted changes as they were.
-- REGISTER-2
abbrev pub StrangersChangeNothing : Type 0
StrangersChangeNothing =
    (s : State) (event : Event) → BringsFrom s event Stranger
    → (step s event).1.ledger.changes ≡ s.ledger.changes

-- it counts a look-up of what is registered, or a call of a procedure
abbrev pub IsOfTheRegistered : List Row → Note → Type 0
IsOfTheRegistered rows (Called version proc) = ⊤
IsOfTheRegistered rows (WasSet version) = ⊥
IsOfTheRegistered rows (WasUnset version) = ⊥
IsOfTheRegistered rows (LookedUp version target found) =
    Any (λ (row : Row). (row.prog ≡ target.prog) × (row.vers ≡ target.vers) × (row.netid ≡ target.netid)) rows
IsOfTheRegistered rows (Forwarded version target proc passed indirect) = ⊥

-- From every state, a call of a stranger's brings no key into the statistics but those of live rows.
-- COUNT-2
abbrev pub StrangersBringNoKeys : Type 0
StrangersBringNoKeys =
    (s : State) (event : Event) → BringsFrom s event Stranger
    → All (IsOfTheRegistered (rows_in s.ledger)) (notes_from s (brought_by s event))

-- those of them that have another owner, in the same order
abbrev pub rows_of_others : Owner → List Row → List Row
rows_of_others owner rows = filter (λ (row : Row). not (is_same_owner owner row.owner)) rows

-- In each state that a run reaches, a call of a caller that is known as an owner other than uid 0 leaves the rows of all
-- other owners, whatever its credential says.
-- OWNER-1
abbrev pub LocalOwnersKeepTheirs : Type 0
LocalOwnersKeepTheirs =
    (s : State) → IsReached s → (event : Event) (owner : Owner) → is_superuser owner ≡ false → BringsFrom s event (Local owner)
    → rows_of_others owner (rows_in (step s event).1.ledger) ≡ rows_of_others owner (rows_in s.ledger)
