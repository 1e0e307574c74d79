use Rattle.rb_show.specs.Replies.{tell_port, tell_address}
use Rattle.rb_show.proofs.Stages.{done_next}
use Rattle.rb_show.proofs.telling.next_stage.Goals as goal

pub returns-in-Item : goal.returns-in-Item
returns-in-Item c = λ rows mappings. rw c.in-Item.is (c.show_line.ensures rows mappings)

pub returns-in-Port : goal.returns-in-Port
returns-in-Port c = λ rows mappings.
    rw (c.in-Port.is, c.as_done.ensures) (done_next c.args.form rows mappings tell_port c.args.bytes.now c.args.text.now c.take_port.result c.take_port.ensures.takes c.take_port.ensures.some)

pub returns-in-Address : goal.returns-in-Address
returns-in-Address c = λ rows mappings.
    rw (c.in-Address.is, c.as_done-in-Address.ensures)
    (done_next c.args.form rows mappings tell_address c.args.bytes.now c.args.text.now c.take_address.result c.take_address.ensures.takes c.take_address.ensures.some)

pub returns-in-Unset : goal.returns-in-Unset
returns-in-Unset c = λ rows mappings. rw c.in-Unset.is (c.show_unset.ensures c.args.form rows mappings)

pub returns-in-Numbers : goal.returns-in-Numbers
returns-in-Numbers c = λ rows mappings. rw c.in-Numbers.is (c.next_numbers.ensures rows mappings)

pub returns-in-LookUp : goal.returns-in-LookUp
returns-in-LookUp c = λ rows mappings. rw c.in-LookUp.is (c.next_look_up.ensures rows mappings)

pub returns-in-Forward : goal.returns-in-Forward
returns-in-Forward c = λ rows mappings. rw c.in-Forward.is (c.next_forward.ensures rows mappings)
