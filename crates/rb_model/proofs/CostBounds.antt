-- What bounds costs: a search takes few looks, and a message that walks no rows costs no more than one that does.
use Rattle.std.proofs.Common.{◌≡◌, ◌≤◌, ℕ, zero, suc, ◌+◌, ◌-◌, ◌/◌, Bool, true, false, Option, Some, None, List, length, inl, inr, arith}
use Rattle.std.proofs.lemmas.Bool.{cases_lt}
use Rattle.std.proofs.lemmas.Bool.Decides.{nat_tests}
use Rattle.rb_xdr.specs.Ordered.{halvings, looks}
use Rattle.rb_model.specs.declared.message.Message.{Message}
use Rattle.rb_model.specs.Calls.{kept_of, message_of}
use Rattle.rb_model.specs.Connections.Taking.{Ends}
use Rattle.rb_model.specs.State.{Connection}
use Rattle.rb_model.specs.Costs.{Sizes, asks_for_rows, walked, sizes_where, sizes_for, find_cost, take_cost, recount_cost, given_cost, gives_list, gave_cost, message_cost, answer_cost, record_cost, plain_cost, plain_record_cost}

halvings_few : (most count : ℕ) → halvings most count ≤ count
halvings_few zero count = omega arith
halvings_few (suc most) count =
    elim (cases_lt 1 count) [
      | inl more ↦ let fewer = halvings_few most (count - count / 2) in grind (arith, nat_tests, fewer)
      | inr few ↦ grind (arith, nat_tests)
    ]

-- no more looks than there are numbers
pub looks_few : (count : ℕ) → looks count ≤ count
unfolding looks
looks_few count = halvings_few count count

pub walked_few : (walks : Bool) (size : ℕ) → walked walks size ≤ size
walked_few true size = omega arith
walked_few false size = omega arith

pub walked_more : (walks : Bool) (less more : ℕ) → less ≤ more → walked walks less ≤ walked walks more
walked_more true less more le = omega (arith, le)
walked_more false less more le = omega arith

module _ (walks : Bool) (sizes : Sizes) where
  pub message_most : (args written : ℕ) → message_cost (sizes_where walks sizes) args written ≤ message_cost sizes args written
  message_most args written = omega (arith, walked_few walks sizes.lists, walked_few walks sizes.rows, walked_few walks sizes.left, walked_few walks sizes.change)

  pub answer_most : (args : ℕ) → answer_cost (sizes_where walks sizes) args ≤ answer_cost sizes args
  answer_most args = omega (arith, walked_few walks sizes.lists, walked_few walks sizes.rows, walked_few walks sizes.left, walked_few walks sizes.change)

-- bytes that are given cost no more than those of a list
pub gave_most : (connections rows : ℕ) (m : Option Connection) → gave_cost connections rows m ≤ find_cost connections + given_cost rows + recount_cost
gave_most connections rows None = omega arith
gave_most connections rows (Some c) = omega (arith, walked_few (gives_list c) rows)

-- ---- messages that ask for no rows

module _ (sizes : Sizes) where
  pub plain_most : (may : Bool) (message : Message) (args written : ℕ) → asks_for_rows may message ≡ false → message_cost (sizes_for may message sizes) args written + 2 ≤ plain_cost sizes.looks args written
  plain_most may message args written plain = rw plain (omega arith)

  pub plain_record_most : (may : Bool) (n : ℕ) (content : List ℕ) → asks_for_rows may (message_of content) ≡ false
      → find_cost sizes.connections + take_cost n + recount_cost + record_cost may sizes (Ends n content) ≤ plain_record_cost sizes.looks sizes.connections n (length (kept_of content))
  plain_record_most may n content plain = rw plain (omega arith)
