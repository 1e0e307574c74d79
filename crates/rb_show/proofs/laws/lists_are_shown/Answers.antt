use Rattle.rb_show.proofs.ShownLists.{lists_are_shown, longer_lists_stop, lists_are_taken}
use Rattle.rb_show.proofs.laws.lists_are_shown.Goals as goal

pub returns-clause-shown : goal.returns-clause-shown
returns-clause-shown g c = lists_are_shown g.T.Xdr.is_value g.T.Xdr.spelling g.T.Xdr.reads c.laws.ensures.complete

pub returns-clause-longer : goal.returns-clause-longer
returns-clause-longer g c = longer_lists_stop g.T.Xdr.is_value g.T.Xdr.spelling g.T.Xdr.reads c.laws.ensures.complete

pub returns-clause-taken : goal.returns-clause-taken
returns-clause-taken g c = lists_are_taken g.T.Xdr.is_value g.T.Xdr.spelling g.T.Xdr.reads c.laws.ensures.complete
