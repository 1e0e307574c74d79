-- What was read of an input, and what is printed for it.
use Rattle.std.specs.Prelude.{OnOk, IfErr}
use Rattle.std.specs.Option.{IfSome}
use Rattle.std.proofs.Common.{◌≡◌, ◌+◌, List, ℕ, take, Option, Some, None, Result, Ok, Err, ap, subst, ◌∙◌}
use Rattle.rb_model.specs.Step.{Event}
use Rattle.rb_lines.specs.declared.lines.ReadFault.{ReadFault}
use Rattle.rb_lines.specs.declared.faults.Fault.{Fault}
use Rattle.rb_lines.specs.Lines.{read, longest_input}
use Rattle.rb_lines.specs.Faults.{status_of}
use Rattle.rb_lines.proofs.Reading.{read-take}

-- what holds of how the first bytes read holds of how the input reads
as_read : (left : Option (List ℕ)) (text : List ℕ) (P : Result (List Event) ReadFault → Type 0) → IfSome left (λ input. text ≡ take (longest_input + 1) input) → P (read text) → IfSome left (λ input. P (read input))
as_read None text P is h = tt
as_read (Some input) text P is h = subst P (ap read is ∙ read-take input) h

pub ok_as_read : {A : Type 0} (left : Option (List ℕ)) (text : List ℕ) (result : Result A Fault) (P : Result (List Event) ReadFault → Type 0) → IfSome left (λ input. text ≡ take (longest_input + 1) input) → OnOk result (P (read text)) → OnOk result (IfSome left (λ input. P (read input)))
ok_as_read left text (Ok x) P is h = as_read left text P is h
ok_as_read left text (Err fault) P is h = tt

pub err_as_read : {A : Type 0} (left : Option (List ℕ)) (text : List ℕ) (result : Result A Fault) (P : Fault → Result (List Event) ReadFault → Type 0) → IfSome left (λ input. text ≡ take (longest_input + 1) input) → IfErr result (λ fault. P fault (read text)) → IfErr result (λ fault. status_of fault ≡ 2 → IfSome left (λ input. P fault (read input)))
err_as_read left text (Ok x) P is h = tt
err_as_read left text (Err fault) P is h = λ two. as_read left text (P fault) is h
