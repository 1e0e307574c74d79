-- A feed as sixteen words.
use Rattle.std.specs.Prelude.{ℕ, ◌%◌, ◌==◌, if◌then◌else◌, List, slice_index, slice_range}
use Rattle.rb_rpc.specs.declared.sys_fields.SysField.TheVariants as fields
use Rattle.rb_rpc.specs.declared.stage.Stage.TheVariants as stages
use Rattle.rb_rpc.specs.SysFields.{SysField}
use Rattle.rb_rpc.specs.Stages.{CallWords, Stage, claim_of, stage_behind}
use Rattle.rb_rpc.specs.Feeds.{CallFeed}

-- a field by its number, the uid, and what is left of a name or of gids
unfoldable pub field_saved_as : ℕ → ℕ → ℕ → SysField
field_saved_as number uid left =
    if number == 0 then fields.Stamp
    else if number == 1 then fields.NameLength
    else if number == 2 then fields.Name left
    else if number == 3 then fields.Uid
    else if number == 4 then fields.Gid uid
    else if number == 5 then fields.GidCount uid
    else if number == 6 then fields.Gids uid left
    else if number == 7 then fields.Whole uid
    else fields.Unreadable

-- A stage by its number, and of its parts those that it has: what is called, the credential's flavor, the length of
-- the credential's body or the arguments' place, the bytes left of a body, and the field of AUTH_SYS.
unfoldable pub stage_of : ℕ → CallWords → ℕ → ℕ → ℕ → SysField → Stage
stage_of number call flavor len left field =
    if number == 0 then stages.Xid
    else if number == 1 then stages.MessageType call.xid
    else if number == 2 then stages.RpcVersion call.xid
    else if number == 3 then stages.Prog call.xid
    else if number == 4 then stages.Vers call.xid call.prog
    else if number == 5 then stages.Proc call.xid call.prog call.vers
    else if number == 6 then stages.CredentialFlavor call
    else if number == 7 then stages.CredentialLength call flavor
    else if number == 8 then stages.CredentialBody call flavor (len % 65536) (left % 65536) field
    else if number == 9 then stages.VerifierFlavor call (claim_of flavor field) (len % 65536)
    else if number == 10 then stages.VerifierLength call (claim_of flavor field) (len % 65536)
    else if number == 11 then stages.VerifierBody call (claim_of flavor field) len (left % 65536)
    else if number == 12 then stage_behind call (claim_of flavor field) len
    else if number == 14 then stages.RpcMismatch call.xid
    else if number == 15 then stages.BadCredential call.xid
    else if number == 16 then stages.RejectedCredential call.xid
    else if number == 17 then stages.BadVerifier call.xid
    else stages.NoCall

abbrev pub call_words_in : List ℕ → CallWords
call_words_in ws = record { xid = slice_index ws 1; prog = slice_index ws 2; vers = slice_index ws 3; proc = slice_index ws 4 }

unfoldable pub stage_saved_as : List ℕ → Stage
stage_saved_as ws =
    stage_of (slice_index ws 0) (call_words_in ws) (slice_index ws 5) (slice_index ws 6) (slice_index ws 7)
    (field_saved_as (slice_index ws 8) (slice_index ws 9) (slice_index ws 10))

-- The feed that sixteen words say, whatever they are: how many bytes of the next word have come, the number that they
-- spell, and the stage. The last three say nothing.
-- FEED-3: Nothing of arguments is kept, and of bodies the uid, how much of a name, of the gids or
-- of the body is still to come, and at most the three bytes of a word whose fourth has not come; a
-- feed is sixteen words.
unfoldable pub feed_saved_as : List ℕ → CallFeed
feed_saved_as ws = record { seen = slice_index ws 0 % 256; number = slice_index ws 1; stage = stage_saved_as (slice_range ws 2 13) }
