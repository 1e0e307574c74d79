use Rattle.rb_promises.proofs.ShownRows.{pmap_dump_lists, dump_lists, getaddrlist_lists}
use Rattle.rb_promises.proofs.listed_rows.lists_are_of_rows.Goals as goal

pub returns-clause-pmap_dump : goal.returns-clause-pmap_dump
returns-clause-pmap_dump c = pmap_dump_lists

pub returns-clause-dump : goal.returns-clause-dump
returns-clause-dump c = dump_lists

pub returns-clause-getaddrlist : goal.returns-clause-getaddrlist
returns-clause-getaddrlist c = getaddrlist_lists
