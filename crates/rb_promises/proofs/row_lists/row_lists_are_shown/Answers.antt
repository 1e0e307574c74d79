use Rattle.rb_promises.proofs.ReplyLines.{dumps_are_shown, mappings_are_shown, entries_are_shown}
use Rattle.rb_promises.proofs.row_lists.row_lists_are_shown.Goals as goal

pub returns-clause-dumps : goal.returns-clause-dumps
returns-clause-dumps c = dumps_are_shown c.written_replies_are_read.ensures

pub returns-clause-mappings : goal.returns-clause-mappings
returns-clause-mappings c = mappings_are_shown c.written_replies_are_read.ensures

pub returns-clause-entries : goal.returns-clause-entries
returns-clause-entries c = entries_are_shown c.written_replies_are_read.ensures
