use Rattle.std.specs.Prelude.{⊤}
use Rattle.rb_address.proofs.OnLiterals.{rb_address_on_literals}
use Rattle.rb_evidence.specs.Table.{pieces_of, fields_of, endpoint_text, mapped_text, socket_in, socket_between, uid_between, uid_of, uid_of_mapped}

-- What is unfolded to compute the definitions of this crate, and of those below, on literals.
unfoldable pub rb_evidence_on_literals : ⊤
unfolding rb_address_on_literals
    pieces_of fields_of endpoint_text mapped_text socket_in socket_between uid_between uid_of
    uid_of_mapped
rb_evidence_on_literals = tt
