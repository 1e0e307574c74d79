-- No event changes the setting.
use Rattle.std.proofs.Common.{ap, ◌∙◌}
use Rattle.rb_model.specs.State.{State, opening}
use Rattle.rb_promises.specs.Settings.{SettingsStay, SettingsStayInRuns, SettingsAreThoseOfTheOpening}
use Rattle.rb_laws.proofs.EntriesKept.{step-follows, after-setting}

pub settings_stay : SettingsStay
settings_stay s event = (step-follows s event).setting

pub settings_stay_in_runs : SettingsStayInRuns
settings_stay_in_runs = after-setting

pub settings_are_those : SettingsAreThoseOfTheOpening
settings_are_those s r =
    ap (λ (t : State). t.setting) r.is ∙ after-setting (opening r.limits r.listener r.first_xid r.now) r.events
