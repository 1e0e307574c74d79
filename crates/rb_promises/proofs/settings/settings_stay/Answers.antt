use Rattle.rb_promises.proofs.SettingSteps.{settings_stay, settings_stay_in_runs, settings_are_those}
use Rattle.rb_promises.proofs.settings.settings_stay.Goals as goal

pub returns-clause-events : goal.returns-clause-events
returns-clause-events c = settings_stay

pub returns-clause-runs : goal.returns-clause-runs
returns-clause-runs c = settings_stay_in_runs

pub returns-clause-opening : goal.returns-clause-opening
returns-clause-opening c = settings_are_those
