use Rattle.rb_arguments.proofs.Readings.{entry_sound, entry_complete, entry_bounded, entry_has_form}
use Rattle.rb_arguments.proofs.entry.EntryXdr.laws.Goals as goal

pub returns-clause-sound : goal.returns-clause-sound
returns-clause-sound c = entry_sound

pub returns-clause-complete : goal.returns-clause-complete
returns-clause-complete c = entry_complete

pub returns-clause-bounded : goal.returns-clause-bounded
returns-clause-bounded c = entry_bounded

pub returns-clause-faults : goal.returns-clause-faults
returns-clause-faults c = entry_has_form
