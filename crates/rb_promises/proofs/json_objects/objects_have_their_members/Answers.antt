use Rattle.rb_promises.proofs.ReadTexts.{names_in_one_way}
use Rattle.rb_promises.proofs.ShownMembers.{each_has_its_members, no_name_is_twice}
use Rattle.rb_promises.proofs.json_objects.objects_have_their_members.Goals as goal

pub returns-clause-one_way : goal.returns-clause-one_way
returns-clause-one_way c bytes one other = names_in_one_way one other

pub returns-clause-each : goal.returns-clause-each
returns-clause-each c = each_has_its_members

pub returns-clause-distinct : goal.returns-clause-distinct
returns-clause-distinct c = no_name_is_twice
