use Rattle.std.proofs.Common.{◌≡◌, ◌*◌, Result, Ok, Err, refl, sym, ap, ◌∙◌}
use Rattle.std.specs.Prelude.{is_some, is_ok}
use Rattle.std.specs.Result.{result_ok}
use Rattle.rb_rpc.specs.ReadReplies.{read_reply}
use Rattle.rb_show.proofs.HeadReads.{filled_is, may_begin_is}
use Rattle.rb_show.proofs.head.may_begin.Goals as goal

is_read : {A E : Type 0} (r : Result A E) → is_ok r ≡ is_some (result_ok r)
is_read (Ok x) = refl
is_read (Err fault) = refl

pub returns : goal.returns
returns c =
    c.is_ok.ensures.value ∙ is_read c.read_reply.result ∙ ap is_some c.read_reply.ensures.read
    ∙ ap (λ bytes. is_some (read_reply bytes)) (filled_is c.args.bytes.now c.copy_from_slice.new.self (4 * c.min-count.result) (ap (λ n. 4 * n) c.min-count.ensures) c.copy_from_slice.ensures.after)
    ∙ sym (may_begin_is c.args.bytes.now c.if-bytes-lt12.false)
