-- What is told of what the system kept of a run.
use Rattle.std.specs.Prelude.{◌≡◌, ℕ, ℤ, pos, negsuc, nat_lt, List, [], ◌∷◌, ◌++◌, ◌==◌, if◌then◌else◌, Option, Some}
use Rattle.std.specs.Prelude.{None, codes, decimal}
use Rattle.std.specs.Prelude.{string_bytes}
use Rattle.std.specs.Process.{exit_code}
use Rattle.std.specs.declared.net.socket_addr.SocketAddr.{SocketAddr}
use Rattle.cli_report.specs.Ends.{ends_text}
use Rattle.cli_report.specs.Gathering.{GivesTo}
use Rattle.cli_report.specs.declared.ends.EndedNode.{EndedNode}
use Rattle.cli_report.specs.declared.facts.ChildSeen.{ChildSeen}
use Rattle.cli_report.specs.declared.facts.ChildSeen.TheVariants as child
use Rattle.cli_report.specs.declared.facts.LinkSeen.{LinkSeen}
use Rattle.cli_report.specs.declared.facts.LinkSeen.TheVariants as link
use Rattle.cli_report.specs.declared.facts.Facts.{Facts}

-- how many datagrams came that no peer sent
unfoldable pub strays_told : List ℕ → ℕ → List ℕ
strays_told address strays = if strays == 0 then []
    else codes "gasnet_cli: " ++ (address ++ (codes " dropped " ++ (decimal strays
    ++ codes " datagrams that no peer sent\n")))

-- how many datagrams came that the key didn't seal, and the node of the last
unfoldable pub others_told : List ℕ → (others last : ℕ) → List ℕ
others_told address others last = if others == 0 then []
    else codes "gasnet_cli: " ++ (address ++ (codes " dropped " ++ (decimal others
    ++ (codes " datagrams that the key didn't seal, the last by node " ++ (decimal last ++ codes "\n")))))

-- both, at the address of this text
abbrev pub dropped_text : List ℕ → Facts → List ℕ
dropped_text address facts = strays_told address facts.strays ++ others_told address facts.others facts.last

-- both, at an address, whose text is the system's; nothing where there is no address
abbrev pub IsDroppedAt : Option SocketAddr → Facts → List ℕ → Type 0
IsDroppedAt None facts text = text ≡ []
IsDroppedAt (Some address) facts text = (shown : List ℕ) × (text ≡ dropped_text shown facts)

abbrev pub IsDroppedText : Facts → List ℕ → Type 0
IsDroppedText facts text = IsDroppedAt facts.address facts text

-- an address can't be bound
unfoldable pub bind_text : (address error : List ℕ) → List ℕ
bind_text address error = address ++ (codes " can't be bound: " ++ error)

-- so it is told, with the system's texts of the address and of the error
abbrev pub IsBindText : List ℕ → Type 0
IsBindText text = (address : List ℕ) × (error : List ℕ) × (text ≡ bind_text address error)

-- the socket failed, with the system's text of the error
abbrev pub IsSocketText : List ℕ → Type 0
IsSocketText text = (error : List ℕ) × (text ≡ codes "the socket failed: " ++ error)

-- why a link failed, where it did
abbrev pub IsLinkText : Option LinkSeen → List ℕ → Type 0
IsLinkText None text = text ≡ []
IsLinkText (Some link.NoAddress) text = text ≡ codes "there aren't as many hosts as nodes, or a node has no port"
IsLinkText (Some link.Unread) text = text ≡ codes "nobody reads standard output any more"
IsLinkText (Some (link.Bind address code)) text = IsBindText text
IsLinkText (Some (link.Other code)) text = IsSocketText text

-- a child couldn't be started
unfoldable pub start_line : (rank : ℕ) → (error : List ℕ) → List ℕ
start_line rank error = codes "node " ++ (decimal rank ++ (codes " couldn't be started: " ++ error))

-- which one, with the system's text of the error
abbrev pub IsStartText : Option (ℕ × ℤ) → List ℕ → Type 0
IsStartText None text = text ≡ []
IsStartText (Some start) text = (error : List ℕ) × (text ≡ start_line start.0 error)

-- a status as a byte, where it is one
abbrev pub small_code : Option ℤ → Option ℕ
small_code (Some (pos code)) = if nat_lt code 256 then Some code else None
small_code (Some (negsuc code)) = None
small_code None = None

-- what is told of a child that ended so: of one that the system says ended, its code, and the system's text
abbrev pub IsEndedNode : (rank : ℕ) → ChildSeen → EndedNode → Type 0
IsEndedNode rank child.Unstarted node =
    (node.rank ≡ rank) × (node.code ≡ None) × (string_bytes node.how ≡ codes "not started")
IsEndedNode rank (child.Ended status) node = (node.rank ≡ rank) × (node.code ≡ small_code (exit_code status))
IsEndedNode rank child.Lost node =
    (node.rank ≡ rank) × (node.code ≡ None) × (string_bytes node.how ≡ codes "output lost")

-- what is told of the child of a rank: nothing where no end was kept
abbrev pub AreEnded : (rank : ℕ) → Option ChildSeen → List EndedNode → Type 0
AreEnded rank None nodes = nodes ≡ []
AreEnded rank (Some end) nodes = (node : EndedNode) × IsEndedNode rank end node × (nodes ≡ node ∷ [])

pub record GivesEnded (ended : ℕ → Option ChildSeen → Type 0) (rank : ℕ) (nodes : List EndedNode) : Type 0 where
  pub end : Option ChildSeen
  pub is_end : ended rank end
  pub are : AreEnded rank end nodes

-- how the children of the ranks below 256 ended
pub record IsEndsText (ended : ℕ → Option ChildSeen → Type 0) (text : List ℕ) : Type 0 where
  pub ranks : ℕ
  pub nodes : List EndedNode
  pub all : ranks ≡ 256
  pub are : GivesTo (GivesEnded ended) ranks nodes
  pub is : text ≡ ends_text nodes
