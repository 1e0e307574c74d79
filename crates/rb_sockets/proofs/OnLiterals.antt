use Rattle.std.specs.Prelude.{⊤}
use Rattle.hex.proofs.OnLiterals.{hex_on_literals}
use Rattle.rb_evidence.proofs.OnLiterals.{rb_evidence_on_literals}

-- What is unfolded to compute the definitions of this crate, and of those below, on literals.
unfoldable pub rb_sockets_on_literals : ⊤
unfolding hex_on_literals rb_evidence_on_literals
rb_sockets_on_literals = tt
