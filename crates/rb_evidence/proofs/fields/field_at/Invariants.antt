-- The field is the one after those that were passed.
use Rattle.std.proofs.Common.{◌≡◌}
use Rattle.std.specs.Prelude.{slice_get}
use Rattle.rb_evidence.specs.Table.{fields_of}
use Rattle.rb_evidence.proofs.fields.field_at.Given as goal

abbrev pub invariant-loop-before : goal.invariant-loop-before
invariant-loop-before l = slice_get (fields_of l.line) l.fn.place ≡ slice_get (fields_of l.rest) l.before

abbrev pub decreases-loop-before : goal.decreases-loop-before
decreases-loop-before l = l.before
