-- What is so of the rows in each state that a run reaches, as the laws of UNSET and of look-ups presuppose it.
use Rattle.std.specs.Prelude.{◌≡◌, List, Contains}
use Rattle.rb_registry.specs.declared.row.Row.{Row}
use Rattle.rb_answers.specs.Ledger.{rows_in}
use Rattle.rb_model.specs.State.{State}
use Rattle.rb_model.specs.Step.{IsReached}
use Rattle.rb_lines.specs.Starts.{IsAtAddresses}
use Rattle.rb_promises.specs.Sets.{HasSameKey}
use Rattle.rb_promises.specs.Unsets.{AreThePortmappers}
use Rattle.rb_promises.specs.LookUps.{AreAtAddresses}

-- two rows of one program, version and netid are one row
abbrev pub HaveKeysOfTheirOwn : List Row → Type 0
HaveKeysOfTheirOwn rows =
    (row other : Row) → Contains rows row → Contains rows other → HasSameKey row other → row ≡ other

pub record AreWellKept (s : State) : Type 0 where
  pub own : AreThePortmappers s.ledger.own
  pub keys : HaveKeysOfTheirOwn (rows_in s.ledger)
  pub addresses : IsAtAddresses s.setting.listener → AreAtAddresses (rows_in s.ledger)

abbrev pub RowsAreWellKept : Type 0
RowsAreWellKept = (s : State) → IsReached s → AreWellKept s
