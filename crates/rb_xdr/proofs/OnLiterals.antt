use Rattle.std.specs.Prelude.{⊤}
use Rattle.rb_xdr.specs.Xdr.{number, number_at, opaque, read_number, read_content, read_opaque, read_array, array, boolean, linked_list, read_bool}
use Rattle.rb_xdr.specs.XdrTypes.{signed, optional, read_signed, read_pair, read_optional}

-- What is unfolded to compute the definitions of this crate on literals.
unfoldable pub rb_xdr_on_literals : ⊤
unfolding number number_at opaque read_number read_content read_opaque read_array array boolean
    linked_list read_bool
    signed optional read_signed read_pair read_optional
rb_xdr_on_literals = tt
