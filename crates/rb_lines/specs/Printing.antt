-- What is printed of a run, and that a writer has it.
use Rattle.std.specs.Prelude.{ℕ, Bool, true, false, List, [], ◌∷◌, ◌++◌, Option, Some, None, codes}
use Rattle.std.specs.List.{flat_map}
use Rattle.std.specs.Fmt.{decimal}
use Rattle.std.specs.Io.KnownBytes.{Appends}
use Rattle.rb_address.specs.declared.peer.Peer.{Peer}
use Rattle.rb_address.specs.declared.who.Source.{Source}
use Rattle.rb_address.specs.Callers.{source_text}
use Rattle.rb_address.specs.Peers.{peer_text}
use Rattle.rb_forward.specs.Forwards.{Unsent}
use Rattle.rb_model.specs.declared.types.CoreFault.{CoreFault}
use Rattle.rb_model.specs.declared.types.CoreFault.TheVariants.{NoMemory, BadLimits, Full, Spent, Gone}
use Rattle.rb_model.specs.declared.events.Output as output_type
use Rattle.rb_model.specs.Plain.{OwnedOutput, output_of, outputs_of, plain_output}
use Rattle.rb_model.specs.Step.{Output}
use Rattle.rb_model.specs.Step.Output.{Opened, Refused, TooMuch, Took, TookAndLost, IsPending, Done, LostIs, Replied, Forwarded, Silent, UnsentIs, Ignored, Nothing, ConnectionLost, Ready, RepliedTo}
use Rattle.hex.specs.Hex.{encode_lower}

-- two hexadecimal digits for each byte, in lower case, or `-` for no bytes
abbrev pub hex_text : List ℕ → List ℕ
hex_text [] = codes "-"
hex_text (byte ∷ bytes) = encode_lower (byte ∷ bytes)

-- the word of a refusal
abbrev pub refusal_text : CoreFault → List ℕ
refusal_text Full = codes "full\n"
refusal_text Spent = codes "spent\n"
refusal_text Gone = codes "gone\n"
refusal_text NoMemory = codes "no memory\n"
refusal_text BadLimits = codes "bad limits\n"

-- a word and bytes
abbrev pub bytes_line : List ℕ → List ℕ → List ℕ
bytes_line word bytes = word ++ (hex_text bytes ++ codes "\n")

-- a word, and bytes to or for a peer
abbrev pub peer_line : List ℕ → Peer → List ℕ → List ℕ
peer_line word peer bytes = word ++ (peer_text peer ++ bytes_line (codes " ") bytes)

-- a word, and bytes to where a call came from: a peer, or `local`
abbrev pub source_line : List ℕ → Source → List ℕ → List ℕ
source_line word source bytes = word ++ (source_text source ++ bytes_line (codes " ") bytes)

abbrev pub unsent_line : Unsent → List ℕ
unsent_line unsent = codes "unsent " ++ (decimal unsent.number ++ peer_line (codes " ") unsent.target unsent.call)

-- LINE-1: Each output is a line; no bytes are `-`.
abbrev pub output_text : Output → List ℕ
output_text (Replied bytes) = bytes_line (codes "reply ") bytes
output_text Silent = codes "silent\n"
output_text (Opened id) = codes "open " ++ (decimal id ++ codes "\n")
output_text (Refused fault) = refusal_text fault
output_text (Took n) = codes "took " ++ (decimal n ++ codes "\n")
output_text (TookAndLost n) = codes "took " ++ (decimal n ++ codes " closed\n")
output_text (IsPending bytes) = bytes_line (codes "pending ") bytes
output_text Done = codes "ok\n"
output_text TooMuch = codes "toomuch\n"
output_text (LostIs None) = codes "lost -\n"
output_text (LostIs (Some id)) = codes "lost " ++ (decimal id ++ codes "\n")
output_text Forwarded = codes "forwarded\n"
output_text (UnsentIs None) = codes "unsent -\n"
output_text (UnsentIs (Some unsent)) = unsent_line unsent
output_text Ignored = codes "ignored\n"
output_text Nothing = codes "nothing\n"
output_text (ConnectionLost id) = codes "closed " ++ (decimal id ++ codes "\n")
output_text (Ready id) = codes "ready " ++ (decimal id ++ codes "\n")
output_text (RepliedTo who bytes) = source_line (codes "datagram ") who.source bytes

unfoldable pub report_of : List Output → List ℕ
report_of outputs = flat_map output_text outputs

-- how many steps a run took, and how many it may
-- STEPS-6
abbrev pub steps_line : ℕ → ℕ → List ℕ
steps_line taken bound = codes "steps " ++ (decimal taken ++ (codes " bound " ++ (decimal bound ++ codes "\n")))

-- the last line, if it is asked for
abbrev pub steps_line_if : Bool → ℕ → ℕ → List ℕ
steps_line_if false taken bound = []
steps_line_if true taken bound = steps_line taken bound

-- ---- as the code has them

-- that of an output as the code has it, by what its bytes are as a list
abbrev pub output_line : {B : Type 0} → (B → List ℕ) → output_type.Output B → List ℕ
output_line bytes_of output = output_text (plain_output bytes_of output)

-- the line of an output
abbrev pub printed : OwnedOutput → List ℕ
printed output = output_text (output_of output)

abbrev pub report : List OwnedOutput → List ℕ
report outputs = report_of (outputs_of outputs)

-- If what a writer holds is known, it has grown by this text and by nothing else.
abbrev pub Writes : {T : Type 0} → (T → Option (List ℕ)) → T → T → List ℕ → Type 0
Writes contents old new text = Appends (contents old) (contents new) text
