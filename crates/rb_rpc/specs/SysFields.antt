-- The body of an AUTH_SYS credential word by word: authsys_parms of RFC 5531 appendix A.
use Rattle.std.specs.Prelude.{ℕ, ◌-◌, ◌==◌, nat_lt, Bool, if◌then◌else◌, drop}
use Rattle.rb_xdr.specs.Xdr.{number, are_zero}
use Rattle.rb_rpc.specs.Messages.{max_machine, max_gids}
use Rattle.rb_rpc.specs.declared.sys_fields.SysField.TheVariants as fields
pub use Rattle.rb_rpc.specs.declared.sys_fields.SysField.{SysField}

-- The bytes of a word after this many of them are zeros, as residual bytes are (RFC 4506 section 3).
unfoldable pub ends_in_zeros : ℕ → ℕ → Bool
ends_in_zeros content w = are_zero (drop content (number w))

-- after the length word of machinename
unfoldable pub name_before : ℕ → SysField
name_before len =
    if nat_lt max_machine len then fields.Unreadable
    else if len == 0 then fields.Uid
    else fields.Name len

-- after a word of machinename, of which this many bytes were to come
unfoldable pub name_after : ℕ → ℕ → SysField
name_after left w =
    if nat_lt 4 left then fields.Name (left - 4)
    else if ends_in_zeros left w then fields.Uid
    else fields.Unreadable

-- before this many gids
unfoldable pub gids_before : ℕ → ℕ → SysField
gids_before uid left = if left == 0 then fields.Whole uid else fields.Gids uid left

-- after one more word: stamp, machinename<255>, uid, gid, gids<16>
unfoldable pub field_after : SysField → ℕ → SysField
field_after fields.Stamp w = fields.NameLength
field_after fields.NameLength w = name_before w
field_after (fields.Name left) w = name_after left w
field_after fields.Uid w = fields.Gid w
field_after (fields.Gid uid) w = fields.GidCount uid
field_after (fields.GidCount uid) w = if nat_lt max_gids w then fields.Unreadable else gids_before uid w
field_after (fields.Gids uid left) w = gids_before uid (left - 1)
field_after (fields.Whole uid) w = fields.Whole uid
field_after fields.Unreadable w = fields.Unreadable
