-- What no event changes.
use Rattle.std.specs.Prelude.{◌≡◌, List}
use Rattle.rb_model.specs.State.{Setting, State}
use Rattle.rb_model.specs.Step.{Event, step, after, IsReached}

-- No event changes the setting: the limits, the listener, and the xid of the first call that is forwarded.
abbrev pub SettingsStay : Type 0
SettingsStay = (s : State) (event : Event) → (step s event).1.setting ≡ s.setting

-- Nor does a run.
abbrev pub SettingsStayInRuns : Type 0
SettingsStayInRuns = (s : State) (events : List Event) → (after s events).setting ≡ s.setting

-- the setting that a run was opened with
abbrev pub setting_of : {s : State} → IsReached s → Setting
setting_of r = record { limits = r.limits; listener = r.listener; first_xid = r.first_xid }

abbrev pub SettingsAreThoseOfTheOpening : Type 0
SettingsAreThoseOfTheOpening = (s : State) (r : IsReached s) → s.setting ≡ setting_of r
