-- Which calls over TCP from this machine wait until it is known whose they are.
use Rattle.std.specs.Prelude.{◌≡◌, ℕ, ◌<◌, ◌%◌, ◌^◌, ◌==◌, nat_lt, Bool, true, ◌||◌, ◌&&◌, List, ◌++◌, length, take, Option, Some, None}
use Rattle.rb_xdr.specs.Xdr.{word}
use Rattle.rb_rpc.specs.declared.call.CallHead.{CallHead}
use Rattle.rb_rpc.specs.Records.{one_fragment}
use Rattle.rb_rpc.specs.RecordLaws.{IsMarked}
use Rattle.rb_rpc.specs.Verdict.{verdict}
use Rattle.rb_rpc.specs.declared.call.Verdict.TheVariants.{Call}
use Rattle.rb_policy.specs.declared.asks.Held.{Held}
use Rattle.rb_policy.specs.declared.asks.Held.TheVariants.{Part, Whole}

-- SET and UNSET, and CALLIT, BCAST (5) and INDIRECT (10), which a version has or has not
abbrev pub changes : ℕ → Bool
changes procedure = procedure == 1 || procedure == 2 || procedure == 5 || procedure == 10

-- the first fragment has fewer bytes than the six words that tell what is called
abbrev pub has_short_fragment : List ℕ → Bool
has_short_fragment front = nat_lt (word 0 front % 2 ^ 31) 24

-- ASK-1: A call over TCP from this machine waits for the kernel's tables if it may be a SET, an
-- UNSET or a call to be forwarded; in doubt it waits, and no other call does.
abbrev pub may_change : List ℕ → Bool
may_change front =
    nat_lt (length front) 28 || has_short_fragment front
    || (word 4 front == 100000 && changes (word 6 front))

-- the head of a call to rpcbind whose answer depends on whose it is
abbrev pub asks_for_owner : CallHead → Bool
asks_for_owner head = head.prog == 100000 && changes head.proc

-- However the record of such a call is cut into fragments, and wherever what came of it ends, it is held back.
-- ASK-1
abbrev pub ChangesWait : Type 0
ChangesWait =
    (text content rest : List ℕ) (head : CallHead) (place came : ℕ)
    → IsMarked text content → verdict content ≡ Call head place → asks_for_owner head ≡ true
    → may_change (take came (text ++ rest)) ≡ true

-- ---- how much of it is held back

abbrev pub held_by : Option (List ℕ) → Held
held_by None = Part
held_by (Some content) = Whole

-- ASK-3: A call that is held back is a part until its last byte came, and also if its record is more than one fragment.
abbrev pub held_in : List ℕ → Held
held_in front = held_by (one_fragment front)

-- Whoever keeps back a byte of a call is not waited for.
-- ASK-3
abbrev pub PartsAreNotWhole : Type 0
PartsAreNotWhole =
    (text content : List ℕ) (came : ℕ) → IsMarked text content → came < length text → held_in (take came text) ≡ Part
