use Rattle.rb_laws.proofs.Grammar.{asked_messages, refused_messages, garbage_messages, no_calls}
use Rattle.rb_laws.proofs.laws.messages_are_of_the_grammar.Goals as goal

pub returns-clause-asked : goal.returns-clause-asked
returns-clause-asked c = asked_messages

pub returns-clause-refused : goal.returns-clause-refused
returns-clause-refused c = refused_messages

pub returns-clause-garbage : goal.returns-clause-garbage
returns-clause-garbage c = garbage_messages

pub returns-clause-no_call : goal.returns-clause-no_call
returns-clause-no_call c = no_calls
