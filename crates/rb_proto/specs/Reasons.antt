-- Why a SET or an UNSET changes nothing: the first reason that holds.
use Rattle.std.specs.Prelude.{ℕ, ◌==◌, Bool, not, ◌&&◌, if◌then◌else◌, List, Option, Some, None}
use Rattle.std.specs.List.{list_any}
use Rattle.std.specs.Option.{option_or}
use Rattle.rb_registry.specs.declared.row.Row.{Row}
use Rattle.rb_registry.specs.Rows.{rpcb_prog, is_of_key, is_change_left}
use Rattle.rb_answers.specs.declared.context.Context.{Context}
use Rattle.rb_registry.specs.declared.reasons.Refusal.{Refusal}
use Rattle.rb_registry.specs.declared.reasons.Refusal.TheVariants as reasons
use Rattle.rb_answers.specs.Netids.{is_address}
use Rattle.rb_answers.specs.Reserved.{may_own}
use Rattle.rb_answers.specs.Answers.{comes_from_here, has_share}

-- why the caller may not set the row, whatever rows there are
abbrev pub refusal_before : Context → Row → Option Refusal
refusal_before context row =
    if not (comes_from_here context) then Some reasons.MayNotRegister
    else (if row.prog == rpcb_prog then Some reasons.OwnProgram
    else (if not (is_address row.netid row.addr) then Some reasons.NoAddress
    else (if not (may_own context.reserved row) then Some reasons.Reserved
    else None)))

-- why it has no place beside these live rows, after this many changes
abbrev pub refusal_beside : Context → List Row → ℕ → Row → Option Refusal
refusal_beside context rows count row =
    if not (has_share context rows && is_change_left count) then Some reasons.NoPlace
    else (if list_any (is_of_key row) rows then Some reasons.Taken else None)

-- why a SET is refused; none names a netid, or an address by its port, if no row is asked for
abbrev pub refusal_of : Context → List Row → ℕ → Option Row → Option Refusal
refusal_of context rows count None = Some (if comes_from_here context then reasons.NoAddress else reasons.MayNotRegister)
refusal_of context rows count (Some row) = option_or (refusal_before context row) (refusal_beside context rows count row)

-- why an UNSET is, that removed some row or none
abbrev pub removal_refusal : Context → Bool → Option Refusal
removal_refusal context removed =
    if not (comes_from_here context) then Some reasons.MayNotRegister
    else (if removed then None else Some reasons.NothingToRemove)
