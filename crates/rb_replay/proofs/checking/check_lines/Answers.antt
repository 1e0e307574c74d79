use Rattle.std.proofs.Common.{◌≡◌, ◌∙◌, List, length, ap, subst, arith}
use Rattle.std.proofs.lemmas.List.{length-map}
use Rattle.rb_lines.specs.Lines.{read}
use Rattle.rb_model.specs.Plain.{OwnedEvent, events_of, output_of, outputs_of}
use Rattle.rb_model.specs.Step.{Output, run}
use Rattle.rb_replay.specs.Running.{first_state}
use Rattle.rb_replay.specs.Checking.{Agrees}
use Rattle.rb_replay.proofs.Comparing.{by_cut}
use Rattle.rb_replay.proofs.checking.check_lines.Goals as goal

pub returns-in-Ok-compare-clause-ok : goal.returns-in-Ok-compare-clause-ok
returns-in-Ok-compare-clause-ok c =
    let ran : outputs_of c.deref-2.result.now ≡ run (first_state c.args.beginning.now) (events_of c.in-Ok.events.items) =
    ap outputs_of c.deref-2.ensures.value ∙ c.in_ok-ran.ensures.ok.outputs ∙ ap (λ (es : List OwnedEvent). run (first_state c.args.beginning.now) (events_of es)) c.deref.ensures.value in
    by_cut c.args.beginning.now c.args.text.now c.args.is_cut c.len.result (read c.args.text.now) (rw c.in-Ok.ensures (subst (λ (outputs : List Output). Agrees c.args.text.now outputs) ran c.in-Ok-compare.ensures.ok, omega (arith, c.len.ensures, c.deref-2.ensures.len, length-map c.deref-2.result.now output_of, ap (λ (outputs : List Output). length outputs) ran)))
