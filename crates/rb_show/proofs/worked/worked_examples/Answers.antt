use Rattle.std.proofs.Common.{refl}
use Rattle.std.specs.Fmt.{digits}
use Rattle.rb_xdr.specs.Xdr.{number, number_at, opaque, read_number, read_bool, read_content, read_opaque}
use Rattle.rb_xdr.specs.XdrTypes.{read_pair, read_optional}
use Rattle.rb_rpc.specs.CallBytes.{call_bytes}
use Rattle.rb_rpc.specs.Records.{fragment_header}
use Rattle.rb_address.specs.Netids.{transport_of_protocol}
use Rattle.rb_arguments.specs.Numbers.{is_void, is_procedure, number_of}
use Rattle.rb_arguments.specs.Types.{read_mapping, read_rpcb}
use Rattle.rb_show.specs.Telling.{◌>>=◌, take_one}
use Rattle.rb_rpc.specs.ReadReplies.{read_accept_stat, read_accepted, read_reply}
use Rattle.rb_rpc.specs.Verdict.{auth_end, body_length, is_over_long, is_broken}
use Rattle.rb_show.specs.Heads.{may_begin, take_head}
use Rattle.rb_show.specs.Lists.{tell_items}
use Rattle.rb_show.specs.Asks.{call_of}
use Rattle.rb_show.specs.Replies.{tell_list, by_head, tell_reply}
use Rattle.rb_show.proofs.WorkedTexts.{spaced_text, no_leading_zero}
use Rattle.rb_show.proofs.worked.worked_examples.Goals as goal

pub returns-clause-call : goal.returns-clause-call
unfolding number opaque fragment_header call_bytes is_void is_procedure number_of call_of
returns-clause-call c = refl

pub returns-clause-row : goal.returns-clause-row
unfolding number number_at opaque read_number read_bool read_content read_opaque read_pair read_optional read_rpcb ◌>>=◌ take_one read_accept_stat read_accepted read_reply auth_end body_length is_over_long is_broken may_begin take_head tell_items tell_list by_head tell_reply digits
returns-clause-row c = refl

pub returns-clause-mapping : goal.returns-clause-mapping
unfolding number number_at read_number read_bool read_content read_opaque read_pair read_optional read_mapping transport_of_protocol ◌>>=◌ take_one read_accept_stat read_accepted read_reply auth_end body_length is_over_long is_broken may_begin take_head tell_items tell_list by_head tell_reply digits
returns-clause-mapping c = refl

pub returns-clause-refusal : goal.returns-clause-refusal
unfolding number number_at ◌>>=◌ read_accept_stat read_accepted read_reply auth_end body_length is_over_long is_broken may_begin take_head by_head tell_reply
returns-clause-refusal c = refl

pub returns-clause-cut_head : goal.returns-clause-cut_head
unfolding number number_at ◌>>=◌ read_accept_stat read_accepted read_reply auth_end body_length is_over_long is_broken may_begin take_head by_head tell_reply
returns-clause-cut_head c = refl

pub returns-clause-other_xid : goal.returns-clause-other_xid
unfolding number number_at ◌>>=◌ read_accept_stat read_accepted read_reply auth_end body_length is_over_long is_broken may_begin take_head by_head tell_reply
returns-clause-other_xid c = refl

pub returns-clause-cut_list : goal.returns-clause-cut_list
unfolding number number_at opaque read_number read_bool read_content read_opaque read_pair read_optional read_rpcb ◌>>=◌ take_one read_accept_stat read_accepted read_reply auth_end body_length is_over_long is_broken may_begin take_head tell_items tell_list by_head tell_reply digits
returns-clause-cut_list c = refl

pub returns-clause-objects : goal.returns-clause-objects
unfolding number number_at opaque read_number read_bool read_content read_opaque read_pair read_optional read_rpcb ◌>>=◌ take_one read_accept_stat read_accepted read_reply auth_end body_length is_over_long is_broken may_begin take_head tell_items tell_list by_head tell_reply digits
returns-clause-objects c = refl

pub returns-clause-spaced : goal.returns-clause-spaced
returns-clause-spaced c = spaced_text

pub returns-clause-leading_zero : goal.returns-clause-leading_zero
returns-clause-leading_zero c = no_leading_zero
