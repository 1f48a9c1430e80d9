-- The datagrams of traces that no node sent.
use Rattle.std.specs.Prelude.{ℕ, ◌+◌, ◌-◌, ◌^◌, ◌*◌, min, nat_le, ◌==◌, ◌&&◌, ◌||◌, not, nat_lt, List, [], ◌∷◌, ◌++◌}
use Rattle.std.specs.Prelude.{length}
use Rattle.std.specs.Prelude.{Bool, true, false, if◌then◌else◌, Option, Some, None, codes, decimal}
use Rattle.std.specs.List.{flat_map, list_any}
use Rattle.cli_report.specs.declared.findings.NodeFinding.{NodeFinding}
use Rattle.cli_report.specs.declared.unsent.Message.{Message}
use Rattle.cli_report.specs.declared.unsent.Gap.{Gap}
use Rattle.cli_report.specs.declared.unsent.SentMessage.{SentMessage}

-- so many entries and those of these nodes, at most 2^64 - 1
abbrev pub entries_from : ℕ → List NodeFinding → ℕ
entries_from entries [] = entries
entries_from entries (node ∷ nodes) = entries_from (min (entries + node.entries) (2 ^ 64 - 1)) nodes

-- comparing each entry with each datagram that was sent takes few enough comparisons
abbrev pub is_searched : List NodeFinding → List SentMessage → Bool
is_searched nodes sent = nat_le (min (entries_from 0 nodes * length sent) (2 ^ 64 - 1)) 268435456

-- both are requests, or both are none
abbrev pub is_alike : Bool → Bool → Bool
is_alike one other = if one then other else not other

-- a datagram is this message
abbrev pub is_message : Message → Option Message → Bool
is_message message (Some one) = is_alike message.is_request one.is_request && (one.from == message.from
    && (one.slot == message.slot && one.number == message.number))
is_message message None = false

-- the gap of the node of this rank, if it has one
abbrev pub gap_at : List Gap → (rank : ℕ) → Option Gap
gap_at [] rank = None
gap_at (gap ∷ gaps) rank = if gap.rank == rank then Some gap else gap_at gaps rank

-- the node that the message is said to be from sent it to the node of this rank
abbrev pub is_otherwise : Message → (rank : ℕ) → SentMessage → Bool
is_otherwise message rank sent = (sent.from == message.from) && ((sent.to == rank) && is_message message sent.message)

-- the first entry in which it did so
abbrev pub sent_otherwise : List SentMessage → Message → (rank : ℕ) → Option ℕ
sent_otherwise [] message rank = None
sent_otherwise (one ∷ sent) message rank =
    if is_otherwise message rank one then Some one.entry else sent_otherwise sent message rank

-- that entry stands before the gap of the node which sent so
abbrev pub is_before : Option Gap → Option ℕ → Bool
is_before None entry = true
is_before (Some other) (Some entry) = nat_lt entry other.entry
is_before (Some other) None = false

-- a gap with this message is no mere consequence of one of the node that the message is said to be from
abbrev pub is_cause_of : List Gap → List SentMessage → (rank : ℕ) → Option Message → Bool
is_cause_of gaps sent rank None = true
is_cause_of gaps sent rank (Some message) = is_before (gap_at gaps message.from) (sent_otherwise sent message rank)

unfoldable pub is_cause : List Gap → List SentMessage → Gap → Bool
is_cause gaps sent gap = is_cause_of gaps sent gap.rank gap.message

abbrev pub has_cause : List Gap → List SentMessage → Bool
has_cause gaps sent = list_any (is_cause gaps sent) gaps

-- how a message is named
unfoldable pub message_word : (is_request : Bool) → List ℕ
message_word is_request = if is_request then codes "request" else codes "the reply to request"

-- what the node that a message is said to be from sent in its place
unfoldable pub told_of_sender : Option ℕ → List ℕ
told_of_sender (Some turn) = codes ", which sent other bytes in its turn " ++ (decimal turn ++ codes "\n")
told_of_sender None = codes ", which sent no such message to it\n"

-- a message, and what its sender sent
unfoldable pub message_told : Message → Option ℕ → List ℕ
message_told message turn = codes ": " ++ (message_word message.is_request ++ (codes " " ++ (decimal message.number
    ++ (codes " of slot " ++ (decimal message.slot ++ (codes " by node " ++ (decimal message.from
    ++ told_of_sender turn)))))))

-- what stands behind the place of a gap
unfoldable pub gap_end : List SentMessage → (rank : ℕ) → Option Message → List ℕ
gap_end sent rank None = codes "\n"
gap_end sent rank (Some message) = message_told message (sent_otherwise sent message rank)

-- a gap, with its line in the output: the turns begin behind three lines
unfoldable pub gap_line : List SentMessage → Gap → List ℕ
gap_line sent gap = codes "unsent " ++ (decimal gap.rank ++ (codes " " ++ (decimal gap.entry ++ (codes " line "
    ++ (decimal (min (gap.entry + 3) (2 ^ 64 - 1)) ++ gap_end sent gap.rank gap.message)))))

-- the line of a gap that is a cause, or of any
unfoldable pub gap_told : List Gap → List SentMessage → (all : Bool) → Gap → List ℕ
gap_told gaps sent all gap = if all || is_cause gaps sent gap then gap_line sent gap else []

-- the lines of those that are causes, or of all where no one is; where there is none, that is told
abbrev pub gaps_text : List Gap → List SentMessage → (is_blocked : Bool) → List ℕ
gaps_text gaps sent is_blocked =
    if (length gaps == 0) && not is_blocked
    then codes "each datagram was sent, but one or more were got before they were sent\n"
    else flat_map (gap_told gaps sent (not (has_cause gaps sent))) gaps
