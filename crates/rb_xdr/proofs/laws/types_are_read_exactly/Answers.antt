use Rattle.rb_xdr.proofs.Types.{number_is, signed_is_type, bool_is, opaque_is_type}
use Rattle.rb_xdr.proofs.laws.types_are_read_exactly.Goals as goal

pub returns-clause-number : goal.returns-clause-number
returns-clause-number c = number_is

pub returns-clause-int : goal.returns-clause-int
returns-clause-int c = signed_is_type

pub returns-clause-boolean : goal.returns-clause-boolean
returns-clause-boolean c = bool_is

pub returns-clause-opaque : goal.returns-clause-opaque
returns-clause-opaque c = opaque_is_type
