-- What the file takes of the lines that were noted.
use Rattle.std.proofs.Common.{◌≡◌, ℕ, Bool, IsTrue, List, Option, Result, Ok, Err, subst}
use Rattle.std.specs.Prelude.{OnOk}
use Rattle.rb_core.specs.StandsFor.{CoreView}
use Rattle.rb_files.specs.Kept.{Grows}
use Rattle.rb_engine.specs.Keeping.{AreLinesOfRows, Notes, Takes, Writes}
use Rattle.rb_engine.specs.Keeping.Takes.{Added, Anew}

-- they are taken after the core was looked at
pub takes_writes : {P F : Type 0} {core : CoreView} {noted : ℕ} {owners : List (ℕ × ℕ)} {changes : ℕ} {gathered : List ℕ} {old new : Option P} {file : P → F} {contents : F → Option (List ℕ)} (looked : CoreView) (is_known : Bool) (after : List (ℕ × ℕ)) (text : List ℕ) (mid : Option P) → looked ≡ core → mid ≡ old → (IsTrue is_known → Notes core noted owners after changes gathered text) → Takes looked is_known text mid new file contents → Writes core noted owners changes gathered old new file contents
takes_writes {new = new} {file = file} {contents = contents} looked is_known after text mid core same notes (Added known grown) =
    Writes.Added after text (notes known) (subst (λ m. Grows m new file contents text) same grown)
takes_writes looked is_known after text mid core same notes (Anew rows lines written) =
    Writes.Anew rows (subst (λ c. AreLinesOfRows c rows) core lines) written

pub taken_written : {P F A E : Type 0} {core : CoreView} {noted : ℕ} {owners : List (ℕ × ℕ)} {changes : ℕ} {gathered : List ℕ} {old : Option P} (new : Option P) (file : P → F) (contents : F → Option (List ℕ)) (looked : CoreView) (is_known : Bool) (after : List (ℕ × ℕ)) (text : List ℕ) (mid : Option P) (result : Result A E) → looked ≡ core → mid ≡ old → (IsTrue is_known → Notes core noted owners after changes gathered text) → OnOk result (Takes looked is_known text mid new file contents) → OnOk result (Writes core noted owners changes gathered old new file contents)
taken_written new file contents looked is_known after text mid (Ok done) core same notes taken = takes_writes looked is_known after text mid core same notes taken
taken_written new file contents looked is_known after text mid (Err error) core same notes taken = taken
