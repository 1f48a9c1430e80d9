-- Chunks are requests: what the node's operations and its requests say of each other, in every state.
-- Origin: this project's profile.
use Rattle.std.specs.Prelude.{ℕ, ◌≡◌, ◌≤◌, true, List, [], Some, length, slice_get}
use Rattle.wire_message.specs.Content.{Content}
use Rattle.base_lists.specs.Numbered.{element_at}
use Rattle.spec_node.specs.Record.{Request, Node}
use Rattle.part_transfers.specs.declared.operation.Next.{Next}
use Rattle.part_transfers.specs.declared.operation.Transfer.{Transfer}
use Rattle.part_transfers.specs.Operation.{Operation, SentChunk, target, size, chunks, chunk_start, chunk_size}
use Rattle.part_transfers.specs.Operation.{is_complete}
use Rattle.node_core.specs.Library.{work_content}
use Rattle.node_rules.specs.EndpointLocal.{EndpointLocal}
use Rattle.node_rules.specs.EndpointRules.{chunk_work}

-- the chunk at this index of a transfer
abbrev pub chunk_at : Transfer → (number index : ℕ) → Next
chunk_at transfer number index = record {
  number = number;
  transfer = transfer;
  start = chunk_start index;
  len = chunk_size (size transfer) index;
}

-- what the request of a chunk says, with these bytes as its payload
abbrev pub chunk_content : (version : ℕ) → Next → (bytes : List ℕ) → Content
chunk_content version next bytes = record (work_content version [] (chunk_work next)) { payload = bytes }

-- the operation of this number has issued the chunk at this index
pub record IsIssuedChunk (operations : List Operation) (number index : ℕ) : Type 0 where
  pub operation : Operation
  pub sent : SentChunk
  pub numbered_so : element_at operations number ≡ Some operation
  pub issued : slice_get operation.sent index ≡ Some sent

-- the request of the chunk: one that was accepted by its target, in its slot, with what the chunk says; it is back
-- exactly where the chunk is
pub record IsRequestOf (version : ℕ) (asked : ℕ → List Request) (number index : ℕ) (operation : Operation)
    (sent : SentChunk)
    : Type 0 where
  pub request : Request
  pub accepted : element_at (asked (target operation.transfer)) sent.number ≡ Some request
  pub slot : request.slot ≡ sent.slot
  pub content : request.content ≡ chunk_content version (chunk_at operation.transfer number index) sent.bytes
  pub back : request.back ≡ sent.back

pub record Tracks (version : ℕ) (asked : ℕ → List Request) (operations : List Operation) : Type 0 where
  -- each chunk that was issued is a request
  pub request : (number index : ℕ) (chunk : IsIssuedChunk operations number index)
      → IsRequestOf version asked number index chunk.operation chunk.sent
  -- no request belongs to two chunks
  pub apart : (number index other place : ℕ)
      (chunk : IsIssuedChunk operations number index) (second : IsIssuedChunk operations other place)
      → target chunk.operation.transfer ≡ target second.operation.transfer
      → chunk.sent.number ≡ second.sent.number
      → (number ≡ other) × (index ≡ place)
  -- no more chunks were issued than there are
  pub few : (number : ℕ) (operation : Operation) → element_at operations number ≡ Some operation
      → length operation.sent ≤ chunks (size operation.transfer)
  -- an operation that was synchronised is complete
  pub complete : (number : ℕ) (operation : Operation) → element_at operations number ≡ Some operation
      → operation.synced ≡ true → is_complete operation ≡ true

-- so it is of a node
abbrev pub NodeTracks : (version : ℕ) → Node EndpointLocal → Type 0
NodeTracks version node = Tracks version node.asked node.local.operations
