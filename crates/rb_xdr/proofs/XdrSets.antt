-- Sets of lemmas for the checks of the impls.
use Rattle.rb_xdr.proofs.Words.{length-number}
use Rattle.rb_xdr.proofs.Readers.{length-opaque}
use Rattle.rb_xdr.proofs.Types.{length-boolean, length-signed, length-optional, length-optional_none}

pub ruleset lengths = (length-number, length-boolean, length-signed, length-opaque, length-optional, length-optional_none)
