-- What the runs of a chunk's request, and of its reply, write and say.
use Rattle.std.proofs.Common.{◌≡◌, ℕ, ◌<◌, List, [], ◌∷◌, ◌++◌, ap, ap₂, ◌∙◌, append-nil}
use Rattle.std.specs.Prelude.{◌^◌, replicate}
use Rattle.wire_message.specs.Content.{short_request, long_request, long_reply}
use Rattle.wire_message.proofs.Notified.{joined_again}
use Rattle.part_segment.specs.Bytes.{part}
use Rattle.part_segment.specs.Image.{Write}
use Rattle.spec_node.specs.Behaviour.{Contact}
use Rattle.node_core.specs.Kept.{Local, segment_of}
use Rattle.node_core.specs.HandlerRuns.{NodeHandlers, run_request, run_reply}
use Rattle.node_core.specs.Library.{put_handler, get_handler, memset_handler, get_reply_handler, fetch_arguments}
use Rattle.node_core.specs.Library.{fill_arguments, argument_number, filling, fetched_content}

-- ---- runs

-- a put's request writes its payload
pub put_writes : (handlers : NodeHandlers) (contact : Contact) (remote : ℕ) (bytes : List ℕ) (core : Local)
    → (run_request handlers contact (long_request put_handler [] remote bytes) core).0.writes
    ≡ core.writes ++ record { offset = remote; bytes = bytes } ∷ []
put_writes handlers contact remote bytes core = append-nil _

-- a memset's writes its byte to each place of its range
pub memset_writes : (handlers : NodeHandlers) (contact : Contact) (remote len byte : ℕ) (core : Local)
    → remote < 2 ^ 64
    → (run_request handlers contact (short_request memset_handler (fill_arguments remote len byte)) core).0.writes
    ≡ core.writes ++ record { offset = remote; bytes = replicate len byte } ∷ []
memset_writes handlers contact remote len byte core there =
    ap₂ (λ (writes : List Write) first. writes ++ filling (record { remote = first; len = len; byte = byte }) ∷ [])
    (append-nil core.writes) (joined_again remote there)

-- a get's replies with the bytes of its range
pub get_replies : (handlers : NodeHandlers) (contact : Contact) (local remote len : ℕ) (core : Local)
    → local < 2 ^ 64 → remote < 2 ^ 64
    → (run_request handlers contact (short_request get_handler (fetch_arguments local remote len)) core).1
    ≡ long_reply get_reply_handler [] local (part (segment_of handlers.settings core) remote len)
get_replies handlers contact local remote len core here there =
    ap (λ (kept : Local). fetched_content (segment_of handlers.settings kept)
    (record {
      remote = argument_number (fetch_arguments local remote len) 0;
      len = len;
      local = argument_number
          (fetch_arguments local remote len) 3;
    }))
    (ap (λ (writes : List Write). record core { writes = writes }) (append-nil core.writes))
    ∙ ap₂ (λ first second. fetched_content (segment_of handlers.settings core)
    (record { remote = first; len = len; local = second }))
    (joined_again remote there) (joined_again local here)

-- the reply writes them
pub reply_writes : (handlers : NodeHandlers) (contact : Contact) (local : ℕ) (bytes : List ℕ) (core : Local)
    → (run_reply handlers contact (long_reply get_reply_handler [] local bytes) core).writes
    ≡ core.writes ++ record { offset = local; bytes = bytes } ∷ []
reply_writes handlers contact local bytes core = append-nil _
