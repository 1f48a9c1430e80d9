-- The parts of `Plan::begin`: serves the code.
use Rattle.std.specs.Prelude.{ℕ, ◌≡◌, ◌+◌, ◌-◌, List, [], ◌∷◌, take, drop, Option, None, Some, Result, Ok, Err}
use Rattle.std.specs.Prelude.{unwrap_or}
use Rattle.node_endpoint.specs.TransferCalls.{RegionBegin, RegionEnd}
use Rattle.node_endpoint.specs.declared.caller.Caller.{Ghosts}
use Rattle.node_endpoint.specs.Making.{Makes, ForItsNode, IsAsBefore}
use Rattle.node_endpoint.specs.Sites.{answer_at}
use Rattle.node_vis.specs.declared.shapes.Vis.{Vis}
use Rattle.node_vis.specs.declared.shapes.Vis.TheVariants as vis
use Rattle.node_vis.specs.declared.begin.OutOfMemory.{OutOfMemory}
use Rattle.node_vis.specs.declared.shapes.Piece.{Piece}
use Rattle.node_vis.specs.Plans.{PlanState}
use Rattle.node_vis.specs.Beginning.{on_transfers, beginnings, first_refused, vis_of}

-- memory ran out, at a call that is no request: so the caller stands for no whole
abbrev pub Never : {K : Type 0} → Ghosts K → K → Type 0
Never caller old = (whole : caller.Whole) → caller.stands old whole → ⊥

-- the answer says that no call but the beginning of the region was made
abbrev pub IsAlone : Vis → Type 0
IsAlone vis.Nested = Unit {0}
IsAlone (vis.Forbidden why) = Unit {0}
IsAlone _ = ⊥

abbrev pub AreAlone : Option Vis → Type 0
AreAlone None = Unit {0}
AreAlone (Some answer) = IsAlone answer

-- a region was begun, or refused, which is the answer to the whole
abbrev pub Opens : {K : Type 0} → (caller : Ghosts K) → K → (thread : ℕ) → Result (Option Vis) OutOfMemory → K → Type 0
Opens caller old thread (Ok refusal) new =
    Makes caller old (on_transfers thread RegionBegin ∷ []) new
    × ForItsNode caller old (λ node. (other : Vis)
    → vis_of (answer_at (caller.site old) node (on_transfers thread RegionBegin)) other ≡ unwrap_or refusal other)
    × AreAlone refusal
Opens caller old thread (Err lacking) new = IsAsBefore caller old new × Never caller old

-- the pieces that were tried, of those from `from` on: up to the one that was refused
abbrev pub pieces_tried : (from : ℕ) → (refused : Option ℕ) → List Piece → List Piece
pieces_tried from None pieces = pieces
pieces_tried from (Some next) pieces = take (next + 1 - from) pieces

-- the pieces were begun, up to the first one that was refused
abbrev pub TriesPlan : {K : Type 0} → (caller : Ghosts K) → K → PlanState → (thread from : ℕ)
    → Result (Option ℕ) OutOfMemory → K → Type 0
TriesPlan caller old plan thread from (Ok refused) new =
    Makes caller old (beginnings plan thread (pieces_tried from refused (drop from plan.pieces))) new
    × ForItsNode caller old (λ node. refused
    ≡ first_refused (caller.site old) node from (beginnings plan thread (drop from plan.pieces)))
TriesPlan caller old plan thread from (Err lacking) new = IsAsBefore caller old new × Never caller old

-- the region was ended
abbrev pub Closes : {K : Type 0} → (caller : Ghosts K) → K → (thread register : ℕ)
    → Result (Unit {0}) OutOfMemory → K → Type 0
Closes caller old thread register (Ok done) new = Makes caller old (on_transfers thread (RegionEnd register) ∷ []) new
Closes caller old thread register (Err lacking) new = IsAsBefore caller old new × Never caller old
