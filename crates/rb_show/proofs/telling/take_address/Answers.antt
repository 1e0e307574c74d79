use Rattle.std.proofs.Common.{◌≡◌, Some, None, rules, refl, ap}
use Rattle.std.proofs.lemmas.Result.{err_from_is_err_and}
use Rattle.rb_xdr.specs.Xdr.{read_opaque}
use Rattle.rb_show.specs.declared.fault.InfoFault.TheVariants.{Unreadable}
use Rattle.rb_show.specs.declared.show.Shown.TheVariants.{Address}
use Rattle.rb_show.specs.Telling.{take_one}
use Rattle.rb_show.specs.Replies.{address_in, by_address, tell_address}
use Rattle.rb_show.proofs.Fronts.{pauses_then, takes_give, takes_stop}
use Rattle.rb_show.proofs.telling.take_address.Goals as goal

pub returns-in_err-text-clause-takes : goal.returns-in_err-text-clause-takes
unfolding tell_address
returns-in_err-text-clause-takes c =
    let p = err_from_is_err_and c.from_residual.result c.from_residual.ensures.1 in
    rw (p.1, p.2) (pauses_then (take_one (read_opaque 128)) (λ text. by_address (address_in text)) c.args.bytes.now _ c.in_err-text.ensures.takes)

pub returns-in-Some-clause-takes : goal.returns-in-Some-clause-takes
unfolding tell_address
returns-in-Some-clause-takes c =
    let is : address_in c.in_ok-text.text ≡ Some c.in-Some.address = search rules in
    takes_give (take_one (read_opaque 128)) (λ text. by_address (address_in text)) c.args.bytes.now c.in_ok-text.text c.in_ok-text.used (Address c.in-Some.address) c.in_ok-text.ensures.takes (λ end content. rw is refl)

pub returns-in-None-clause-takes : goal.returns-in-None-clause-takes
unfolding tell_address
returns-in-None-clause-takes c =
    let is : address_in c.in_ok-text.text ≡ None = search rules in
    takes_stop (take_one (read_opaque 128)) (λ text. by_address (address_in text)) c.args.bytes.now c.in_ok-text.text c.in_ok-text.used Unreadable c.in_ok-text.ensures.takes (ap by_address is)
