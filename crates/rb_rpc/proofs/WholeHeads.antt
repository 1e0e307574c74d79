-- The head of a call that comes whole in a feed's first piece.
use Rattle.std.proofs.Common.{◌≡◌, ◌<◌, ◌-◌, ℕ, true, false, List, [], ◌∷◌, ◌++◌, length, drop, fold, cond, eqb, ltb, Bool, refl, sym, ap, subst, ◌∙◌, append_assoc, arith}
use Rattle.std.proofs.lemmas.List.{nil_from_length}
use Rattle.rb_xdr.specs.Xdr.{AreBytes, AreNumbers, number, number_at, words}
use Rattle.rb_xdr.proofs.Words.{AreBytes-take, AreBytes-drop, number_at_small}
use Rattle.rb_rpc.specs.Messages.{max_auth_body}
use Rattle.rb_rpc.specs.Verdict.{verdict}
use Rattle.rb_rpc.specs.declared.call.CallHead.{CallHead}
use Rattle.rb_rpc.specs.declared.call.Verdict.{Verdict}
use Rattle.rb_rpc.specs.declared.call.Verdict.TheVariants.{Call}
use Rattle.rb_rpc.specs.declared.stage.Stage.TheVariants as stages
use Rattle.rb_rpc.specs.declared.stage.Claim.TheVariants as claims
use Rattle.rb_rpc.specs.Stages.{CallWords, Claim, Stage, claim_of, credential_before, credential_after, arguments_at, stage_behind, verifier_before, verifier_after, stage_after, verdict_at, is_call}
use Rattle.rb_rpc.specs.SysFields.{ends_in_zeros, field_after}
use Rattle.rb_rpc.specs.declared.sys_fields.SysField.TheVariants as fields
use Rattle.rb_rpc.specs.Feeds.{CallFeed, HasPart, StandsForCall, behind_head, arguments_of}
use Rattle.rb_rpc.proofs.WordVerdicts.{whole}
use Rattle.rb_rpc.proofs.CallFeeds.{no_arguments, spelled, ends_rightly, HasFedAll}

-- ---- bytes as words

-- whole words, and the front of one more
record Split (bytes : List ℕ) : Type 0 where
  numbers : List ℕ
  front : List ℕ
  bytes_are : bytes ≡ words numbers ++ front
  fit : AreNumbers numbers
  few : length front < 4

split : (bytes : List ℕ) → AreBytes bytes → Split bytes
split [] are = record { numbers = []; front = []; bytes_are = refl; fit = tt; few = omega arith }
split (a ∷ []) are = record { numbers = []; front = a ∷ []; bytes_are = refl; fit = tt; few = omega arith }
split (a ∷ b ∷ []) are = record { numbers = []; front = a ∷ b ∷ []; bytes_are = refl; fit = tt; few = omega arith }
split (a ∷ b ∷ c ∷ []) are = record { numbers = []; front = a ∷ b ∷ c ∷ []; bytes_are = refl; fit = tt; few = omega arith }
split (a ∷ b ∷ c ∷ d ∷ more) are =
    let four : List ℕ = a ∷ b ∷ c ∷ d ∷ [] in
    let are_four : AreBytes four = AreBytes-take 4 (a ∷ b ∷ c ∷ d ∷ more) are in
    let w : ℕ = number_at 0 four in
    let rest : Split more = split more (AreBytes-drop 4 (a ∷ b ∷ c ∷ d ∷ more) are) in
    record {
      numbers = w ∷ rest.numbers;
      front = rest.front;
      bytes_are = ap (λ (xs : List ℕ). four ++ xs) rest.bytes_are ∙ ap (λ (xs : List ℕ). xs ++ (words rest.numbers ++ rest.front)) (sym (spelled four are_four refl)) ∙ sym (append_assoc (number w) (words rest.numbers) rest.front);
      fit = (number_at_small 0 four are_four, rest.fit);
      few = rest.few;
    }

-- a verdict that is a call is of the stage after its head
in_head : (s : Stage) (head : CallHead) (place : ℕ) → verdict_at s ≡ Call head place → s ≡ stages.Arguments head place
unfolding verdict_at
in_head (stages.Arguments h p) head place e = cc
in_head s head place e = absurd cc

-- ---- before the first byte

abbrev is_xid : Stage → Bool
is_xid stages.Xid = true
is_xid s = false

one_of : (b : Bool) (x y : Stage) → is_xid x ≡ false → is_xid y ≡ false → is_xid (cond b x y) ≡ false
one_of true x y e f = e
one_of false x y e f = f

one_of_three : (b c : Bool) (x y z : Stage) → is_xid x ≡ false → is_xid y ≡ false → is_xid z ≡ false → is_xid (cond b x (cond c y z)) ≡ false
one_of_three b c x y z e f g = one_of b x (cond c y z) e (one_of c y z f g)

behind_verifier : (call : CallWords) (claim : Claim) (place : ℕ) → is_xid (stage_behind call claim place) ≡ false
unfolding stage_behind
behind_verifier call (claims.Taken cred) place = refl
behind_verifier call claims.Unreadable place = refl
behind_verifier call claims.Rejected place = refl

-- no word leads there
moves_on : (s : Stage) (w : ℕ) → is_xid (stage_after s w) ≡ false
unfolding stage_after credential_before credential_after verifier_before verifier_after
moves_on stages.Xid w = refl
moves_on (stages.MessageType xid) w = one_of (eqb w 0) _ _ refl refl
moves_on (stages.RpcVersion xid) w = one_of (eqb w 2) _ _ refl refl
moves_on (stages.Prog xid) w = refl
moves_on (stages.Vers xid prog) w = refl
moves_on (stages.Proc xid prog vers) w = refl
moves_on (stages.CredentialFlavor call) w = refl
moves_on (stages.CredentialLength call flavor) w =
    one_of_three (ltb max_auth_body w) (eqb w 0) (stages.BadCredential call.xid) (stages.VerifierFlavor call (claim_of flavor fields.Stamp) w) (stages.CredentialBody call flavor w w fields.Stamp) refl refl refl
moves_on (stages.CredentialBody call flavor len left field) w =
    one_of_three (ltb 4 left) (ends_in_zeros left w) (stages.CredentialBody call flavor len (left - 4) (field_after field w))
    (stages.VerifierFlavor call (claim_of flavor (cond (eqb left 4) (field_after field w) field)) len) stages.NoCall refl refl refl
moves_on (stages.VerifierFlavor call claim len) w = refl
moves_on (stages.VerifierLength call claim len) w =
    one_of_three (ltb max_auth_body w) (eqb w 0) (stages.BadVerifier call.xid) (stage_behind call claim (arguments_at len w)) (stages.VerifierBody call claim (arguments_at len w) w)
    refl (behind_verifier call claim (arguments_at len w)) refl
moves_on (stages.VerifierBody call claim place left) w =
    one_of_three (ltb 4 left) (ends_in_zeros left w) (stages.VerifierBody call claim place (left - 4)) (stage_behind call claim place) stages.NoCall refl (behind_verifier call claim place) refl
moves_on (stages.Arguments head place) w = refl
moves_on stages.NoCall w = refl
moves_on (stages.RpcMismatch xid) w = refl
moves_on (stages.BadCredential xid) w = refl
moves_on (stages.RejectedCredential xid) w = refl
moves_on (stages.BadVerifier xid) w = refl

never_back : (ws : List ℕ) (s : Stage) → is_xid s ≡ false → is_xid (fold stage_after s ws) ≡ false
never_back [] s e = e
never_back (w ∷ ws) s e = never_back ws (stage_after s w) (moves_on s w)

no_words : (ws : List ℕ) → stages.Xid ≡ fold stage_after stages.Xid ws → ws ≡ []
no_words [] e = refl
no_words (w ∷ ws) e = absurd (both (ap is_xid e ∙ never_back ws (stage_after stages.Xid w) (moves_on stages.Xid w)))
  where
    both : true ≡ false → ⊥
    both e = cc

pub none_came : (feed : CallFeed) (fed : List ℕ) → StandsForCall feed fed → feed.seen ≡ 0 → feed.stage ≡ stages.Xid → fed ≡ []
unfolding verdict_at
none_came feed fed h none at =
    let was : HasPart feed h.front = h.part (ap (λ (s : Stage). is_call (verdict_at s)) at) in
    h.fed_is ∙ ap (λ (ws : List ℕ). words ws ++ h.front) (no_words h.numbers (sym at ∙ h.stage_is)) ∙ nil_from_length h.front (omega (arith, was.seen_is, none))

-- ---- a head that comes whole

all_stand : (feed : CallFeed) (bytes : List ℕ) (head : CallHead) (place : ℕ) → AreBytes bytes → verdict bytes ≡ Call head place
    → StandsForCall (record feed { stage = stages.Arguments head place }) bytes
unfolding verdict_at
all_stand feed bytes head place are e =
    let s : Split bytes = split bytes are in
    record {
      numbers = s.numbers;
      front = s.front;
      fed_is = s.bytes_are;
      fit = s.fit;
      stage_is = sym (in_head (fold stage_after stages.Xid s.numbers) head place (whole s.numbers s.front s.fit s.few ∙ ap verdict (sym s.bytes_are) ∙ e));
      part = λ still. absurd (both still);
    }
  where
    both : true ≡ false → ⊥
    both e = cc

pub head_fed : (feed : CallFeed) (bytes : List ℕ) (head : CallHead) (place : ℕ) → AreBytes bytes → feed.seen ≡ 0 → feed.stage ≡ stages.Xid → verdict bytes ≡ Call head place
    → HasFedAll feed (record feed { stage = stages.Arguments head place }) bytes (drop place bytes)
unfolding arguments_of verdict_at
head_fed feed bytes head place are none at e = record {
  stands = λ fed h. subst (λ (xs : List ℕ). StandsForCall (record feed { stage = stages.Arguments head place }) (xs ++ bytes)) (sym (none_came feed fed h none at)) (all_stand feed bytes head place are e);
  arguments_are = λ fed h.
      let before : arguments_of fed ≡ [] = no_arguments fed (ap is_call (sym (ends_rightly feed fed h)) ∙ ap (λ (s : Stage). is_call (verdict_at s)) at) in
      ap (λ (xs : List ℕ). arguments_of (xs ++ bytes)) (none_came feed fed h none at) ∙ ap (λ (v : Verdict). behind_head v bytes) e
      ∙ ap (λ (xs : List ℕ). xs ++ drop place bytes) (sym before);
}
