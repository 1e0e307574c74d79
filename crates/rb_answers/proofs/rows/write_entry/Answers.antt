use Rattle.std.proofs.Common.{◌≡◌, ℕ, Bool, false, List, sym, ◌∙◌}
use Rattle.rb_uaddr.specs.declared.address.Hosts.{Hosts}
use Rattle.rb_uaddr.specs.Uaddr.{parse, is_at_any}
use Rattle.rb_registry.specs.declared.row.Row.{Row}
use Rattle.rb_answers.specs.Answers.{shown_text}
use Rattle.rb_answers.proofs.Addresses.{shown_elsewhere}
use Rattle.rb_answers.proofs.rows.write_entry.Goals as goal

text_is : (hosts : Hosts) (row : Row) (text : List ℕ) (is_at : Bool) → text ≡ row.addr → is_at ≡ is_at_any (parse row.addr) → is_at ≡ false → text ≡ shown_text hosts row
text_is hosts row text is_at same is elsewhere = same ∙ sym (shown_elsewhere hosts row (sym is ∙ elsewhere))

pub write_told-requires-clause-room : goal.write_told-requires-clause-room
write_told-requires-clause-room c = rw (text_is c.args.hosts.now c.args.row.now _ _ c.own_text.ensures.same c.is_at_any_host.ensures c.if-is_at_any_host.false) c.requires.room

pub returns-else-is_at_any_host-clause-short : goal.returns-else-is_at_any_host-clause-short
returns-else-is_at_any_host-clause-short c = rw (text_is c.args.hosts.now c.args.row.now _ _ c.own_text.ensures.same c.is_at_any_host.ensures c.if-is_at_any_host.false) at c.write_told.ensures.short

pub returns-else-is_at_any_host-clause-written : goal.returns-else-is_at_any_host-clause-written
returns-else-is_at_any_host-clause-written c = rw (text_is c.args.hosts.now c.args.row.now _ _ c.own_text.ensures.same c.is_at_any_host.ensures c.if-is_at_any_host.false) at c.write_told.ensures.written

pub returns-else-is_at_any_host-clause-count : goal.returns-else-is_at_any_host-clause-count
returns-else-is_at_any_host-clause-count c = rw (text_is c.args.hosts.now c.args.row.now _ _ c.own_text.ensures.same c.is_at_any_host.ensures c.if-is_at_any_host.false) at c.write_told.ensures.count

pub returns-else-is_at_any_host-clause-cost : goal.returns-else-is_at_any_host-clause-cost
returns-else-is_at_any_host-clause-cost c = rw (text_is c.args.hosts.now c.args.row.now _ _ c.own_text.ensures.same c.is_at_any_host.ensures c.if-is_at_any_host.false) at c.write_told.ensures.cost
