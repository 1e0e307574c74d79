use Rattle.std.specs.Prelude.{⊤}
use Rattle.rb_xdr.proofs.OnLiterals.{rb_xdr_on_literals}
use Rattle.rb_arguments.specs.Arguments.{procedure_at, is_known, arguments, request}
use Rattle.rb_arguments.specs.Forwarded.{longest_forwarded}
use Rattle.rb_arguments.specs.Remote.{read_remote}
use Rattle.rb_arguments.specs.Types.{read_mapping, read_rpcb, read_netbuf, read_entry}

-- What is unfolded to compute the definitions of this crate, and of those below, on literals.
unfoldable pub rb_arguments_on_literals : ⊤
unfolding rb_xdr_on_literals
    procedure_at is_known arguments request
    longest_forwarded
    read_remote
    read_mapping read_rpcb read_netbuf read_entry
rb_arguments_on_literals = tt
