use Rattle.rb_links.proofs.Holders.{NotedBefore}
use Rattle.rb_links.proofs.places.note_holders.Given as goal

abbrev pub invariant-holders : goal.invariant-holders
invariant-holders l = NotedBefore l.key l.links l.holders
