-- Printed text, line by line.
use Rattle.std.specs.List.{flat_map}
use Rattle.std.specs.Io.KnownBytes.{Appends}
use Rattle.std.proofs.Common.{◌≡◌, ◌<◌, ◌+◌, ℕ, List, [], ◌∷◌, ◌++◌, length, get_or, take, Option, refl, ap, ◌∙◌, append-nil}
use Rattle.std.proofs.KnownBytes.{Appends-trans}
use Rattle.std.proofs.lemmas.List.{map_more}
use Rattle.std.proofs.lemmas.List.Concat.{flat_map-append}
use Rattle.rb_model.specs.Plain.{OwnedOutput, output_of, outputs_of}
use Rattle.rb_lines.specs.Printing.{output_text, report_of}

pub line_more : (old now new : Option (List ℕ)) (outputs : List OwnedOutput) (i : ℕ) (next : OwnedOutput) → i < length outputs → next ≡ get_or outputs i next → Appends old now (report_of (outputs_of (take i outputs))) → Appends now new (output_text (output_of next)) → Appends old new (report_of (outputs_of (take (i + 1) outputs)))
unfolding report_of
line_more old now new outputs i next lt is before line =
    let done = outputs_of (take i outputs) in
    let step : outputs_of (take (i + 1) outputs) ≡ done ++ output_of next ∷ [] = map_more output_of outputs i next lt ∙ rw (← is) refl in
    let longer : flat_map output_text (outputs_of (take (i + 1) outputs)) ≡ flat_map output_text done ++ output_text (output_of next) =
    ap (flat_map output_text) step ∙ flat_map-append output_text done (output_of next ∷ []) ∙ ap (λ (t : List ℕ). flat_map output_text done ++ t) (append-nil (output_text (output_of next))) in
    rw longer (Appends-trans old now new (flat_map output_text done) (output_text (output_of next)) before line)
