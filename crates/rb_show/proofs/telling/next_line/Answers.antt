use Rattle.rb_show.proofs.telling.next_line.Goals as goal

pub returns-in-Rows : goal.returns-in-Rows
returns-in-Rows c = rw c.in-Rows.is c.next_item.ensures

pub returns-in-Short : goal.returns-in-Short
returns-in-Short c = rw c.in-Short.is c.next_item-in-Short.ensures

pub returns-in-OldRows : goal.returns-in-OldRows
returns-in-OldRows c = rw c.in-OldRows.is c.next_item-in-OldRows.ensures

pub returns-in-OldShort : goal.returns-in-OldShort
returns-in-OldShort c = rw c.in-OldShort.is c.next_item-in-OldShort.ensures

pub returns-in-Table : goal.returns-in-Table
returns-in-Table c = rw c.in-Table.is c.next_item-in-Table.ensures

pub returns-in-Entries : goal.returns-in-Entries
returns-in-Entries c = rw c.in-Entries.is c.next_item-in-Entries.ensures
