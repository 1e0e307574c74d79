-- What an event does to `steps_before`, and the steps that `Core::steps` returns.
use Rattle.std.specs.Prelude.{◌≡◌, ◌<◌, ◌≤◌, ℕ, ◌+◌, ◌-◌, ◌^◌, min, List, length, Result, Ok, Err}
use Rattle.std.specs.Borrow.{Bor}
use Rattle.rb_xdr.specs.Meter.{Meter}
use Rattle.rb_model.specs.declared.types.CoreFault.{CoreFault}
use Rattle.rb_model.specs.declared.types.Taken.{Taken}
use Rattle.rb_core.specs.StandsFor.{CoreView}

-- ---- counted steps

-- the greatest count that a meter shows
abbrev pub greatest_count : ℕ
greatest_count = 2 ^ 128 - 1

-- the count that a meter shows
abbrev pub count_shown : Meter → ℕ
count_shown meter = min meter.steps greatest_count

-- Nothing has changed but `steps_before`, what the meter showed as the last event began.
-- REFUSED-2: A look, and a refused event, change nothing but which event was the last.
abbrev pub OnlyBegins : CoreView → CoreView → Type 0
OnlyBegins old new = new ≡ record old { steps_before = new.steps_before }

-- Nothing has changed but `steps_before`, which is what this meter shows.
-- REFUSED-2
abbrev pub BeginsAt : Meter → CoreView → CoreView → Type 0
BeginsAt before old new = new ≡ record old { steps_before = count_shown before }

-- These are the steps since the meter was `before`, if the last event began then, while its count is below the greatest.
-- STEPS-5: `Core::steps` gives the steps that were counted since the last event began, a refused
-- one too, while the meter's count is below 2^128 - 1.
abbrev pub TellsSteps : CoreView → Meter → ℕ → Type 0
TellsSteps core now steps =
    (before : Meter) → core.steps_before ≡ count_shown before → before.steps ≤ now.steps → now.steps < greatest_count
    → before.steps + steps ≡ now.steps

-- ---- the steps of one call

-- the bytes that a call takes, by its result: what is refused takes none
abbrev pub length_taken : Result Taken CoreFault → ℕ
length_taken (Ok taken) = taken.count
length_taken (Err fault) = 0

-- the bytes that it lends
abbrev pub length_lent : Result (Bor (List ℕ)) CoreFault → ℕ
length_lent (Ok bytes) = length bytes.now
length_lent (Err fault) = 0
