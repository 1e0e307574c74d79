-- Each call of 'expire' that does something leaves less that can be due.
use Rattle.std.specs.Prelude.{find, replicate}
use Rattle.std.proofs.Common.{◌≡◌, ◌⊎◌, inl, inr, ℕ, suc, zero, ◌+◌, ◌≤◌, max, Bool, true, false, cond, eqb, Some, List, [], ◌∷◌, length, refl, sym, ap, ◌∙◌, eq-eqb, arith}
use Rattle.std.proofs.lemmas.Grind.{common_steps}
use Rattle.rb_address.specs.declared.caller.Caller.{Caller}
use Rattle.rb_forward.specs.declared.types.FwdId.{FwdId}
use Rattle.rb_forward.specs.Forwards.{Entry, without_first}
use Rattle.rb_model.specs.declared.types.Expired.{Expired}
use Rattle.rb_model.specs.declared.types.Expired.TheVariants as expiries
use Rattle.rb_model.specs.Calls.{Outcome}
use Rattle.rb_model.specs.State.{State, Connection}
use Rattle.rb_model.specs.Connections.{change_first, is_lost, is_live}
use Rattle.rb_model.specs.Losses.{is_due, lose}
use Rattle.rb_model.specs.Ending.{tell, at_fresh_moment, expire}
use Rattle.rb_model.specs.Step.{show_expired, step, after}
use Rattle.rb_model.specs.Step.Event.{Expire}
use Rattle.rb_model.specs.Step.Output.{Nothing}
use Rattle.rb_model.proofs.Expiring.{due-live}
use Rattle.rb_laws.proofs.DueThings.{Expiry, expiry}

-- ---- connections that are not Lost

abbrev pub live_count : List Connection → ℕ
live_count [] = 0
live_count (c ∷ all) = cond (is_lost c.phase) 0 1 + live_count all

at-most-one : (b : Bool) → cond b 0 1 ≤ 1
at-most-one b = grind arith

pub live-few : (all : List Connection) → live_count all ≤ length all
live-few [] = omega arith
live-few (c ∷ all) = let rest = live-few all in let one = at-most-one (is_lost c.phase) in omega (arith, rest, one)

live-not-lost : (id : ℕ) (c : Connection) → is_live id c ≡ true → is_lost c.phase ≡ false
unfolding is_live
live-not-lost id c h = grind arith

changed-count : (id : ℕ) (f : Connection → Connection) (all : List Connection) → live_count (change_first (is_live id) f all) ≤ live_count all
changed-count id f [] = grind (arith, common_steps, live-not-lost, at-most-one)
changed-count id f (c ∷ all) = grind (arith, common_steps, live-not-lost, at-most-one, changed-count id f all)

lost-count : (id : ℕ) (all : List Connection) (c : Connection) → find (is_live id) all ≡ Some c → live_count (change_first (is_live id) lose all) + 1 ≡ live_count all
lost-count id [] c h = grind (arith, common_steps, live-not-lost)
lost-count id (d ∷ all) c h = grind (arith, common_steps, live-not-lost, lost-count id all c)

-- the live connection of the number of the first that is due
pub live-found : (clock : ℕ) (all : List Connection) (c : Connection) → find (is_due clock) all ≡ Some c → (d : Connection) × (find (is_live c.number) all ≡ Some d)
unfolding is_live
live-found clock [] c h = absurd cc
live-found clock (x ∷ all) c h = by_live (is_live c.number x) refl (is_due clock x) refl h (live-found clock all c)
  where
    by_live : (live : Bool) → is_live c.number x ≡ live → (b : Bool) → is_due clock x ≡ b → cond b (Some x) (find (is_due clock) all) ≡ Some c
        → (find (is_due clock) all ≡ Some c → (d : Connection) × (find (is_live c.number) all ≡ Some d)) → (d : Connection) × (cond live (Some x) (find (is_live c.number) all) ≡ Some d)
    by_live true l b t h rest = (x, refl)
    by_live false l true t h rest =
        let same : x ≡ c = cc in
        let number : eqb x.number c.number ≡ true = eq-eqb x.number c.number (ap (λ (y : Connection). y.number) same) in
        let passes : is_live c.number x ≡ true = rw (number, due-live clock x t) refl in
        let clash : true ≡ false = sym passes ∙ l in
        absurd cc
    by_live false l false t h rest = rest h

-- ---- entries

ended-count : (test : Entry → Bool) (all : List Entry) (e : Entry) → find test all ≡ Some e → length (without_first test all) + 1 ≡ length all
ended-count test [] e h = grind arith
ended-count test (x ∷ all) e h = grind (arith, ended-count test all e)

-- ---- what can be due

abbrev pub due_count : State → ℕ
due_count s = length s.ledger.forwards.all + live_count s.connections.all

tell-count : (s : State) (call : FwdId) (caller : Caller) (said : Outcome) → due_count (tell call caller said s).1 ≤ due_count s
tell-count s call caller said = grind (arith, common_steps, changed-count)

less-due : (s : State) (now : ℕ) (r : Expired × State) → Expiry s (max s.clock now) (at_fresh_moment now s) r → (r.0 ≡ expiries.Nothing) ⊎ (due_count r.1 + 1 ≤ due_count s)
less-due s now r p = grind (arith, common_steps, tell-count, ended-count, live-found, lost-count)

shown-nothing : (r : Expired × State) → r.0 ≡ expiries.Nothing → (show_expired r).0 ≡ Nothing
shown-nothing r e = grind arith

shown-state : (r : Expired × State) → (show_expired r).1 ≡ r.1
shown-state r = grind arith

once : (s : State) (now : ℕ) → ((step s (Expire now)).0 ≡ Nothing) ⊎ (due_count (step s (Expire now)).1 + 1 ≤ due_count s)
unfolding step
once s now = grind (arith, common_steps, less-due s now (expire s now) (expiry s now), expiry s now, shown-nothing (expire s now), shown-state (expire s now))

pub record Reaches (s : State) (now most : ℕ) : Type 0 where
  pub calls : ℕ
  pub few : calls ≤ most
  pub nothing : (step (after s (replicate calls (Expire now))) (Expire now)).0 ≡ Nothing

pub reaches : (most : ℕ) (s : State) (now : ℕ) → due_count s ≤ most → Reaches s now most
reaches zero s now few = by_case (once s now)
  where
    by_case : ((step s (Expire now)).0 ≡ Nothing) ⊎ (due_count (step s (Expire now)).1 + 1 ≤ due_count s) → Reaches s now zero
    by_case (inl e) = record { calls = 0; few = omega arith; nothing = e }
    by_case (inr less) = absurd (omega (arith, less, few))
reaches (suc most) s now few = by_case (once s now) (reaches most (step s (Expire now)).1 now)
  where
    by_case : ((step s (Expire now)).0 ≡ Nothing) ⊎ (due_count (step s (Expire now)).1 + 1 ≤ due_count s) → (due_count (step s (Expire now)).1 ≤ most → Reaches (step s (Expire now)).1 now most) → Reaches s now (suc most)
    by_case (inl e) further = record { calls = 0; few = omega arith; nothing = e }
    by_case (inr less) further =
        let r = further (omega (arith, less, few)) in
        record { calls = suc r.calls; few = omega (arith, r.few); nothing = r.nothing }
