-- What replies tell as objects is lines of objects.
use Rattle.std.proofs.Common.{◌≡◌, ℕ, List, [], Option, Some, None, Result, Ok, Err, sym, ap, ◌∙◌, append-nil, subst, inl, inr}
use Rattle.std.specs.Prelude.{◌≢◌}
use Rattle.std.specs.Io.KnownBytes.{Appends, Keeps}
use Rattle.std.specs.List.{AllByRecursion}
use Rattle.rb_show.specs.declared.fault.InfoFault.{InfoFault}
use Rattle.rb_show.specs.declared.fault.InfoFault.TheVariants.{Write}
use Rattle.rb_show.specs.Telling.{Told, told_lines, EndsIn, Outcome}
use Rattle.rb_show.specs.declared.form.Form.TheVariants.{Json}
use Rattle.rb_show.specs.Replies.{tell_bytes}
use Rattle.rb_show.specs.ObjectLaws.{IsObjectLine, EachLineIsAnObject, WritesObjects, OnlyObjectsAreWritten}
use Rattle.rb_show.proofs.ObjectLines.{row_is, mapping_is, entry_is, numbers_is, look_ups_is, forwards_is}
use Rattle.rb_show.proofs.LineTellers.{ObjectsAre, each_line}

objects_are : ObjectsAre (λ question line. IsObjectLine line)
objects_are = record {
  row = row_is;
  old_row = row_is;
  mapping = mapping_is;
  entry = λ prog vers e fits. entry_is e fits;
  statistics = record { numbers = numbers_is; look_ups = look_ups_is; forwards = forwards_is };
}

pub each_is_an_object : EachLineIsAnObject
each_is_an_object = each_line (λ question line. IsObjectLine line) objects_are

-- ---- what is written

shown : {A : Type 0} (told : Told A) (lines : List (List ℕ)) (result : Result A InfoFault) → EndsIn told lines result → told_lines told ≡ lines
shown told lines (Ok x) ends = ap told_lines ends.1
shown told lines (Err fault) ends = ap told_lines ends

pub nothing : (old new : Option (List ℕ)) → Keeps old new → Appends old new []
nothing None new kept = tt
nothing (Some bytes) None kept = kept
nothing (Some bytes) (Some more) kept = kept ∙ sym (append-nil bytes)

pub written : {A : Type 0} (told : Told A) (old new : Option (List ℕ)) (result : Result A InfoFault) → AllByRecursion IsObjectLine (told_lines told)
    → Outcome told old new result → result ≢ Err Write → WritesObjects old new
written told old new result are (inl (inl failed)) whole = absurd (whole failed)
written told old new result are (inl (inr none)) whole = record { lines = []; are = tt; written = nothing old new none.1 }
written told old new result are (inr o) whole =
    record { lines = o.lines; are = subst (AllByRecursion IsObjectLine) (shown told o.lines result o.ends) are; written = o.written }

pub only_objects : OnlyObjectsAreWritten
only_objects ask xid bytes old new result has are outcome whole =
    written (tell_bytes ask Json xid bytes) old new result (each_is_an_object ask xid bytes has are) outcome whole
