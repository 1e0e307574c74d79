use Rattle.rb_xdr.proofs.Readers.{opaque_sound, opaque_complete}
use Rattle.rb_xdr.proofs.Types.{opaque_bounded}
use Rattle.rb_xdr.proofs.text.TextXdr.laws.Goals as goal

pub returns-clause-sound : goal.returns-clause-sound
returns-clause-sound g c = opaque_sound g.row.N

pub returns-clause-complete : goal.returns-clause-complete
returns-clause-complete g c = opaque_complete g.row.N

pub returns-clause-bounded : goal.returns-clause-bounded
returns-clause-bounded g c = opaque_bounded g.row.N
