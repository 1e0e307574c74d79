-- What was passed so far has no field.
use Rattle.std.proofs.Common.{◌≡◌, length}
use Rattle.rb_evidence.specs.Table.{fields_of}
use Rattle.rb_evidence.proofs.fields.first_field.Given as goal

abbrev pub invariant-loop-front : goal.invariant-loop-front
invariant-loop-front l = fields_of l.text ≡ fields_of l.rest

abbrev pub decreases-loop-front : goal.decreases-loop-front
decreases-loop-front l = length l.rest
