use Rattle.rb_arguments.proofs.Readings.{mapping_sound, mapping_complete, mapping_bounded, mapping_has_form}
use Rattle.rb_arguments.proofs.mapping.MappingXdr.laws.Goals as goal

pub returns-clause-sound : goal.returns-clause-sound
returns-clause-sound c = mapping_sound

pub returns-clause-complete : goal.returns-clause-complete
returns-clause-complete c = mapping_complete

pub returns-clause-bounded : goal.returns-clause-bounded
returns-clause-bounded c = mapping_bounded

pub returns-clause-faults : goal.returns-clause-faults
returns-clause-faults c = mapping_has_form
