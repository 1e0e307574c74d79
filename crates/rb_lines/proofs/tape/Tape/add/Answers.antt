use Rattle.std.proofs.Common.{◌≡◌, ◌∙◌, ℕ, false, List, [], ◌∷◌, length, refl, ap, sym, subst}
use Rattle.rb_model.specs.Plain.{lent_event, lent_output}
use Rattle.rb_lines.specs.Entries.{event_text, entry_of}
use Rattle.rb_lines.specs.Printing.{output_text}
use Rattle.rb_lines.specs.Tapes.{Tape, Records, entry_fits}
use Rattle.rb_lines.proofs.Tapes.{ended_at_once, entry_too_long}
use Rattle.rb_lines.proofs.tape.Tape.add.Goals as goal

pub returns-else-has_room : goal.returns-else-has_room
returns-else-has_room c =
    let page = c.self.inside.page in
    let ended = c.end.new.self in
    let entry : List ℕ = entry_of c.args.event.now c.args.output.now in
    let old : Tape = record { text = page.text.items; written = c.self.inside.written; is_on = page.is_on; limit = page.limit } in
    let new : Tape = record { text = ended.text.items; written = c.self.inside.written; is_on = ended.is_on; limit = ended.limit } in
    let too_long : entry_fits old.limit old.text entry ≡ false =
    entry_too_long old.limit old.text (event_text (lent_event c.args.event.now)) (output_text (lent_output c.args.output.now)) c.len.result c.len-2.result (c.len.ensures.count ∙ ap length c.event_line-event.ensures) (c.len-2.ensures.count ∙ ap length c.output_line-output.ensures) (sym c.has_room.ensures ∙ c.if-has_room.false) in
    subst (λ (tape : Tape). Records (entry ∷ []) tape new) c.self.view_is
    (ended_at_once entry old new (ap (λ (tape : Tape). tape.is_on) c.self.view_is ∙ c.requires) c.end.ensures.on too_long c.end.ensures.text refl c.end.ensures.limit ended.within)
