-- What is said of the bytes that a reader of calls was fed, and of more; and laws of calls.
use Rattle.std.specs.Prelude.{◌≡◌, ◌≤◌, ℕ, nat_lt, not, List, ◌++◌, length, take}
use Rattle.rb_xdr.specs.Xdr.{AreBytes}
use Rattle.rb_rpc.specs.declared.call.CallHead.{CallHead}
use Rattle.rb_rpc.specs.declared.call.Verdict.TheVariants as verdicts
use Rattle.rb_rpc.specs.Verdict.{verdict}
use Rattle.rb_rpc.specs.declared.feed.CallFeed.{CallFeed}
use Rattle.rb_rpc.specs.Stages.{is_call}
use Rattle.rb_rpc.specs.Feeds.{StandsForCall, arguments_of}

-- ---- what is said of the bytes that a feed was fed, and of more

-- After more bytes this feed stands for all of them.
abbrev pub StandsForMore : CallFeed → List ℕ → CallFeed → Type 0
StandsForMore feed more behind = (fed : List ℕ) → StandsForCall feed fed → StandsForCall behind (fed ++ more)

-- This feed stands for what the other one stands for.
abbrev pub StandsForSame : CallFeed → CallFeed → Type 0
StandsForSame feed other = (fed : List ℕ) → StandsForCall feed fed → StandsForCall other fed

-- Of more bytes, these are the call's arguments.
-- FEED-2: For each piece `feed` says where the call's arguments begin in it.
abbrev pub AreArguments : CallFeed → List ℕ → List ℕ → Type 0
AreArguments feed more arguments =
    (fed : List ℕ) → StandsForCall feed fed → arguments_of (fed ++ more) ≡ arguments_of fed ++ arguments

-- ---- laws of calls

-- the greatest head: six words, and a credential and a verifier of a flavor, a length word and 400 bytes (section 8.2)
abbrev pub max_head : ℕ
max_head = 840

-- a call is the same call whatever follows it
abbrev pub CallsStay : Type 0
CallsStay =
    (bytes more : List ℕ) → AreBytes bytes → (head : CallHead) (place : ℕ)
    → verdict bytes ≡ verdicts.Call head place → verdict (bytes ++ more) ≡ verdicts.Call head place

-- The head of a call ends at the place: with fewer bytes it is no call yet.
pub record EndsAtThePlace (bytes : List ℕ) (place : ℕ) : Type 0 where
  pub within : place ≤ length bytes
  pub short : place ≤ max_head
  pub from_there : (n : ℕ) → n ≤ length bytes → is_call (verdict (take n bytes)) ≡ not (nat_lt n place)

abbrev pub HeadsEndAtThePlace : Type 0
HeadsEndAtThePlace =
    (bytes : List ℕ) → AreBytes bytes → (head : CallHead) (place : ℕ)
    → verdict bytes ≡ verdicts.Call head place → EndsAtThePlace bytes place
