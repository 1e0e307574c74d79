use Rattle.rb_evidence.proofs.TableLaws.{endpoints_differ, mapped_differ, uid_is_of_one_socket, two_sockets_are_none, shown_twice_is_one}
use Rattle.rb_evidence.proofs.laws.table_laws.Goals as goal

pub returns : goal.returns
returns c = record { endpoints_differ = endpoints_differ; mapped_differ = mapped_differ; uid_is_of_one_socket = uid_is_of_one_socket; two_sockets_are_none = two_sockets_are_none; shown_twice_is_one = shown_twice_is_one }
