use Rattle.rb_address.proofs.NameLaws.{names_are_exact, protocols_are_exact}
use Rattle.rb_address.proofs.laws.name_laws.Goals as goal

pub returns-clause-names_are_exact : goal.returns-clause-names_are_exact
returns-clause-names_are_exact c = names_are_exact

pub returns-clause-protocols_are_exact : goal.returns-clause-protocols_are_exact
returns-clause-protocols_are_exact c = protocols_are_exact
