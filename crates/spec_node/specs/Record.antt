-- The record of one node: every request that it asked, and every request that it ran.
-- Origin: the requests and replies of GASNet 1.8.1, core API, active messages. Slots and numbers are this project's
-- profile.
use Rattle.std.specs.Prelude.{ℕ, Bool, List, []}
use Rattle.wire_message.specs.Content.{Content}
pub use Rattle.base_lists.specs.Numbered.{element_at, change}

-- a request that was accepted. The first one to a peer has the number 1, the next one 2, and so on
pub record Request : Type 0 where
  pub slot : ℕ
  pub content : Content
  pub time : ℕ  -- when it was last sent
  pub back : Bool  -- whether its credit came back

-- a request that was run, with its reply
pub record Run : Type 0 where
  pub number : ℕ
  pub slot : ℕ
  pub content : Content
  pub reply : Content

-- Local is what else a node keeps, beside its requests and runs
pub record Node (Local : Type 0) : Type 0 where
  pub asked : ℕ → List Request  -- by peer, the earliest first
  pub ran : ℕ → List Run  -- by peer, the earliest first
  pub local : Local

-- a node that asked and ran nothing
abbrev pub opening_node : {Local : Type 0} → Local → Node Local
opening_node start = record { asked = λ peer. []; ran = λ peer. []; local = start }
