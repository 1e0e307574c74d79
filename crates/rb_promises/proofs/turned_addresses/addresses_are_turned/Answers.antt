use Rattle.rb_promises.proofs.OtherForms.{texts_are_turned, forms_are_turned}
use Rattle.rb_promises.proofs.turned_addresses.addresses_are_turned.Goals as goal

pub returns-clause-texts : goal.returns-clause-texts
returns-clause-texts c = texts_are_turned

pub returns-clause-forms : goal.returns-clause-forms
returns-clause-forms c = forms_are_turned
