-- A chunk of which all is known at the end was done, by the kind of its transfer.
use Rattle.std.proofs.Common.{◌≡◌, ℕ, ◌+◌, ◌<◌, ◌≤◌, List, [], Option, sym, ap, ◌∙◌, arith}
use Rattle.std.specs.Prelude.{replicate, ◌^◌}
use Rattle.wire_message.specs.Parameters.{Parameters}
use Rattle.wire_message.specs.Content.{Content, long_request, short_request, long_reply}
use Rattle.part_handlers.specs.declared.table.Entry.{Entry}
use Rattle.part_handlers.specs.Runs.{Meaning}
use Rattle.part_transfers.specs.declared.operation.Transfer.{Transfer}
use Rattle.part_transfers.specs.declared.operation.Transfer.TheVariants as transfers
use Rattle.part_transfers.specs.Operation.{size, chunks, chunk_start}
use Rattle.node_core.specs.HandlerRuns.{handlers_of, run_request, run_reply}
use Rattle.node_core.specs.Library.{put_handler, get_handler, memset_handler, get_reply_handler, fetch_arguments}
use Rattle.node_core.specs.Library.{fill_arguments}
use Rattle.node_rules.specs.EndpointLocal.{IsByChunks}
use Rattle.node_rules.specs.EndpointRules.{job_of}
use Rattle.node_rules.specs.Tracking.{chunk_at}
use Rattle.law_transfers.specs.Chunks.{EndpointMoment, Piece, IssuesBytes, RunWrites, RunReads, BackWrites, ChunkDone}
use Rattle.law_transfers.proofs.Happening.{sometime_map, sometime_out}
use Rattle.law_transfers.proofs.Landing.{Over, Known, IssuedSo, issued_says, RanSo, RunsAround, runs_so, BacksAround}
use Rattle.law_transfers.proofs.Landing.{backs_so, writes_by}
use Rattle.law_transfers.proofs.Works.{put_writes, memset_writes, get_replies, reply_writes}

-- a chunk begins inside its range
start_below : (all index : ℕ) → index < chunks all → chunk_start index < all
start_below all index inside = omega (arith, inside)

-- an offset into a segment has 64 bits
small : (segment base all start : ℕ) → segment ≤ 2 ^ 40 → base + all ≤ segment → start < all → base + start < 2 ^ 64
small segment base all start low inside below = omega (arith, low, inside, below)

put_done : {settings : Parameters} {table : List (Option Entry)} {meaning : Meaning}
    (over : Over settings table meaning)
    (node to remote local len number index : ℕ)
    → Known over node (chunk_at (transfers.Put to remote local len) number index)
    → ChunkDone (job_of settings table meaning) over.stretch node
    (chunk_at (transfers.Put to remote local len) number index)
put_done {settings} {table} {meaning} over node to remote local len number index K =
    let job = job_of settings table meaning in
    let chunk = chunk_at (transfers.Put to remote local len) number index in
    let place = remote + chunk.start in
    let bytes = K.request.content.payload in
    let piece : Piece = record {
      node = node;
      chunk = chunk;
      local = local + chunk.start;
      remote = place;
      len = chunk.len;
    } in
    let issued = issued_says over node chunk K in
    let says : K.request.content ≡ long_request put_handler [] place bytes
    = sometime_out job (IssuedSo over node chunk K) _ over.stretch.events over.stretch.from
    (λ moment it. it.1 ∙ ap (λ (content : Content). long_request put_handler [] place content.payload) (sym it.1))
    issued in
    record {
      number = K.number;
      bytes = bytes;
      issued = sometime_map job (IssuedSo over node chunk K) (IssuesBytes job piece K.number bytes) over.stretch.events
          over.stretch.from
          (λ moment it. (it.0, ap (λ (content : Content). content.payload) it.1)) issued;
      once = K.once;
      written = sometime_map job (RunsAround over node chunk K)
          (RunWrites job piece K.number (record { offset = place; bytes = bytes })) over.stretch.events
          over.stretch.from
          (λ moment it. (
            it.1.runs,
            writes_by settings table meaning to (record { offset = place; bytes = bytes }) moment over.sound it.0
                (it.1.writes
                ∙ (ap (λ content. (run_request (handlers_of settings table meaning) it.1.contact content
                (moment.before to).local.core).0.writes) says
                ∙ put_writes (handlers_of settings table meaning) it.1.contact place bytes
                (moment.before to).local.core)),
          ))
          (runs_so over node chunk K);
      back = K.back_once;
    }

memset_done : {settings : Parameters} {table : List (Option Entry)} {meaning : Meaning}
    (over : Over settings table meaning) (node to remote len byte number index : ℕ)
    → remote + chunk_start index < 2 ^ 64
    → Known over node (chunk_at (transfers.Memset to remote len byte) number index)
    → ChunkDone (job_of settings table meaning) over.stretch node
    (chunk_at (transfers.Memset to remote len byte) number index)
memset_done {settings} {table} {meaning} over node to remote len byte number index there K =
    let job = job_of settings table meaning in
    let chunk = chunk_at (transfers.Memset to remote len byte) number index in
    let place = remote + chunk.start in
    let piece : Piece = record { node = node; chunk = chunk; local = 0; remote = place; len = chunk.len } in
    let issued = issued_says over node chunk K in
    let says : K.request.content ≡ short_request memset_handler (fill_arguments place chunk.len byte)
    = sometime_out job (IssuedSo over node chunk K) _ over.stretch.events over.stretch.from (λ moment it. it.1) issued
    in
    record {
      number = K.number;
      issued = K.issued;
      once = K.once;
      written = sometime_map job (RunsAround over node chunk K)
          (RunWrites job piece K.number (record { offset = place; bytes = replicate chunk.len byte }))
          over.stretch.events over.stretch.from
          (λ moment it. (
            it.1.runs,
            writes_by settings table meaning to (record { offset = place; bytes = replicate chunk.len byte }) moment
                over.sound it.0
                (it.1.writes
                ∙ (ap (λ content. (run_request (handlers_of settings table meaning) it.1.contact content
                (moment.before to).local.core).0.writes) says
                ∙ memset_writes (handlers_of settings table meaning) it.1.contact place chunk.len byte
                (moment.before to).local.core there)),
          ))
          (runs_so over node chunk K);
      back = K.back_once;
    }

get_done : {settings : Parameters} {table : List (Option Entry)} {meaning : Meaning}
    (over : Over settings table meaning)
    (node to remote local len number index : ℕ)
    → local + chunk_start index < 2 ^ 64 → remote + chunk_start index < 2 ^ 64
    → Known over node (chunk_at (transfers.Get to remote local len) number index)
    → ChunkDone (job_of settings table meaning) over.stretch node
    (chunk_at (transfers.Get to remote local len) number index)
get_done {settings} {table} {meaning} over node to remote local len number index here there K =
    let job = job_of settings table meaning in
    let chunk = chunk_at (transfers.Get to remote local len) number index in
    let far = remote + chunk.start in
    let place = local + chunk.start in
    let handlers = handlers_of settings table meaning in
    let piece : Piece = record { node = node; chunk = chunk; local = place; remote = far; len = chunk.len } in
    let says : K.request.content ≡ short_request get_handler (fetch_arguments place far chunk.len)
    = sometime_out job (IssuedSo over node chunk K) _ over.stretch.events over.stretch.from (λ moment it. it.1)
    (issued_says over node chunk K) in
    let replies = λ (moment : EndpointMoment) (it : RanSo over node chunk K moment).
    it.reply
    ∙ (ap (λ content. (run_request handlers it.contact content (moment.before to).local.core).1) says
    ∙ get_replies handlers it.contact place far chunk.len (moment.before to).local.core here there) in
    let bytes = K.reply.payload in
    let reply : K.reply ≡ long_reply get_reply_handler [] place bytes
    = sometime_out job (RunsAround over node chunk K) _ over.stretch.events over.stretch.from
    (λ moment it. replies moment it.1 ∙ ap
    (λ (content : Content). long_reply get_reply_handler [] place content.payload) (sym (replies moment it.1)))
    (runs_so over node chunk K) in
    record {
      number = K.number;
      bytes = bytes;
      issued = K.issued;
      once = K.once;
      read = sometime_map job (RunsAround over node chunk K) (RunReads job piece K.number bytes) over.stretch.events
          over.stretch.from
          (λ moment it. (it.1.runs, ap (λ (content : Content). content.payload) (replies moment it.1)))
          (runs_so over node chunk K);
      back = K.back_once;
      written = sometime_map job (BacksAround over node chunk K)
          (BackWrites job piece K.number (record { offset = place; bytes = bytes })) over.stretch.events
          over.stretch.from
          (λ moment it. (
            it.1.comes,
            writes_by settings table meaning node (record { offset = place; bytes = bytes }) moment over.sound it.0
                (it.1.writes
                ∙ (ap (λ content. (run_reply handlers it.1.contact content (moment.before node).local.core).writes)
                reply
                ∙ reply_writes handlers it.1.contact place bytes (moment.before node).local.core)),
          ))
          (backs_so over node chunk K);
    }

-- a chunk of a transfer whose ranges lie inside the segments
pub chunk_done : {settings : Parameters} {table : List (Option Entry)} {meaning : Meaning}
    (over : Over settings table meaning) (node number index : ℕ) (transfer : Transfer)
    → IsByChunks settings node transfer → index < chunks (size transfer)
    → Known over node (chunk_at transfer number index)
    → ChunkDone (job_of settings table meaning) over.stretch node (chunk_at transfer number index)
chunk_done over node number index (transfers.Put to remote local len) fits inside K =
    put_done over node to remote local len number index K
chunk_done {settings} over node number index (transfers.Memset to remote len byte) fits inside K =
    memset_done over node to remote len byte number index
    (small settings.segment remote len (chunk_start index) over.range.segment fits.remote
    (start_below len index inside)) K
chunk_done {settings} over node number index (transfers.Get to remote local len) fits inside K =
    get_done over node to remote local len number index
    (small settings.segment local len (chunk_start index) over.range.segment fits.own (start_below len index inside))
    (small settings.segment remote len (chunk_start index) over.range.segment fits.remote
    (start_below len index inside)) K
