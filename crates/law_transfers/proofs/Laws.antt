-- The laws of transfers hold in every run.
use Rattle.std.proofs.Common.{◌≡◌, inl, inr, ℕ, zero, suc, ◌+◌, ◌-◌, ◌<◌, ◌≤◌, true, false, List, [], ◌∷◌, length}
use Rattle.std.proofs.Common.{Option, None, Some, sym, ap, ap₂, ◌∙◌, subst, arith}
use Rattle.std.specs.Prelude.{not, ◌&&◌, ◌/◌, min, nat_lt}
use Rattle.std.specs.List.{slice_get, list_all}
use Rattle.std.proofs.lemmas.Bool.{cases_eq, and_parts, not-true, ltb-false}
use Rattle.std.proofs.Math.Nat.{le-min, min-le_left}
use Rattle.std.proofs.lemmas.Option.{same_Some}
use Rattle.wire_message.specs.Parameters.{Parameters, AreInRange}
use Rattle.part_handlers.specs.declared.table.Entry.{Entry}
use Rattle.part_handlers.specs.Runs.{Meaning}
use Rattle.base_lists.specs.Numbered.{element_at}
use Rattle.base_lists.specs.Put.{put}
use Rattle.base_lists.proofs.Put.{put_same, put_other}
use Rattle.base_lists.proofs.Places.{slice_get_last, slice_get_there}
use Rattle.spec_node.specs.NodeStep.{node_after}
use Rattle.spec_network.specs.World.{EventAt, Event, Fall, falls, after_at, world_after, run}
use Rattle.spec_network.proofs.Worlds.{step_keeps, opening_holds}
use Rattle.spec_network.proofs.Headline.{end_holds}
use Rattle.part_transfers.specs.declared.operation.Transfer.{Transfer}
use Rattle.part_transfers.specs.Operation.{Operation, SentChunk, size, chunks, chunk_start, has_next, is_complete, fresh}
use Rattle.node_rules.specs.EndpointLocal.{EndpointLocal, IsEndpointKept, IsByChunks, nothing_begun}
use Rattle.node_rules.specs.EndpointRules.{OtherCall, OnTransfers, Records, at_the_opening, job_of}
use Rattle.node_rules.specs.Tracking.{chunk_at, NodeTracks}
use Rattle.node_rules.proofs.Kept.{opening_kept}
use Rattle.node_rules.proofs.Sound.{rules_sound}
use Rattle.node_rules.proofs.Tracking.{event_tracks, opening_tracks}
use Rattle.law_transfers.specs.Chunks.{state_after, ChunkDone}
use Rattle.law_transfers.specs.TransferLaws.{AreAmong, transfer_event, Beginning, since, OverIsDone, SyncIsDone, InEveryJob}
use Rattle.law_transfers.specs.TransferLaws.{TransfersHold, LiesIn, PiecesCover}
use Rattle.law_transfers.proofs.Marking.{Like, Chunked}
use Rattle.law_transfers.proofs.Effects.{call_effect}
use Rattle.law_transfers.proofs.Stretches.{AreSound, transfer_stays}
use Rattle.law_transfers.proofs.Landing.{Over, last_of, holds_last, known}
use Rattle.law_transfers.proofs.Done.{chunk_done}
use Rattle.law_transfers.proofs.Goes.{ok_goes, own_is_done}
use Rattle.law_transfers.proofs.Begins.{caller_of, left_there, begins_last}

-- ---- chunks are requests, in every state

abbrev pub AllTrack : Parameters → Records → Type 0
AllTrack settings world = (node : ℕ) → NodeTracks settings.version (world node)

fall_tracks : (settings : Parameters) (table : List (Option Entry)) (meaning : Meaning) (world : Records) (now : ℕ)
    (fall : Option (Fall OtherCall)) → AllTrack settings world
    → AllTrack settings (after_at (job_of settings table meaning) world now fall)
fall_tracks settings table meaning world now None all node = all node
fall_tracks settings table meaning world now (Some fall) all node =
    let after = node_after (job_of settings table meaning) fall.node (world fall.node) now fall.event in
    elim (cases_eq node fall.node) [
      | inl is ↦ subst (NodeTracks settings.version)
          (sym (ap (put world fall.node after) is ∙ put_same world fall.node after))
          (event_tracks settings table meaning fall.node (world fall.node) now fall.event (all fall.node))
      | inr other ↦ subst (NodeTracks settings.version) (sym (put_other world fall.node after node other)) (all node)
    ]

pub step_tracks : (settings : Parameters) (table : List (Option Entry)) (meaning : Meaning) (world : Records)
    (e : EventAt OtherCall) → AllTrack settings world
    → AllTrack settings (world_after (job_of settings table meaning) world e)
step_tracks settings table meaning world e all =
    fall_tracks settings table meaning world e.now (falls settings world e.event) all

pub run_tracks : (settings : Parameters) (table : List (Option Entry)) (meaning : Meaning)
    (events : List (EventAt OtherCall)) (world : Records) → AllTrack settings world
    → AllTrack settings (run (job_of settings table meaning) events world)
run_tracks settings table meaning [] world all = all
run_tracks settings table meaning (e ∷ events) world all =
    run_tracks settings table meaning events (world_after (job_of settings table meaning) world e)
    (step_tracks settings table meaning world e all)

-- ---- an operation that is complete

-- all of its chunks were issued
all_issued : (operation : Operation) → is_complete operation ≡ true
    → length operation.sent ≤ chunks (size operation.transfer)
    → length operation.sent ≡ chunks (size operation.transfer)
all_issued operation complete few =
    let none : has_next operation ≡ false = not-true (has_next operation)
    (and_parts (not (has_next operation)) (list_all (λ (sent : SentChunk). sent.back) operation.sent) complete).0 in
    let many = ltb-false (length operation.sent) (chunks (size operation.transfer)) none in
    omega (arith, many, few)

back_at : (all : List SentChunk) (index : ℕ) (sent : SentChunk) → list_all (λ (one : SentChunk). one.back) all ≡ true
    → slice_get all index ≡ Some sent → sent.back ≡ true
back_at [] index sent is at = absurd (cc)
back_at (first ∷ later) index sent is at = by_index index at (λ i e. back_at later i sent parts.1 e)
  where
    parts : (first.back ≡ true) × (list_all (λ (one : SentChunk). one.back) later ≡ true)
    parts = and_parts first.back (list_all (λ (one : SentChunk). one.back) later) is

    by_index : (i : ℕ) → slice_get (first ∷ later) i ≡ Some sent
        → ((k : ℕ) → slice_get later k ≡ Some sent → sent.back ≡ true) → sent.back ≡ true
    by_index zero e rest = ap (λ (s : SentChunk). s.back) (sym (same_Some _ _ e)) ∙ parts.0
    by_index (suc k) e rest = rest k e

-- each is back
all_back : (operation : Operation) → is_complete operation ≡ true → (index : ℕ) (sent : SentChunk)
    → slice_get operation.sent index ≡ Some sent → sent.back ≡ true
all_back operation complete index sent at =
    back_at operation.sent index sent
    (and_parts (not (has_next operation)) (list_all (λ (one : SentChunk). one.back) operation.sent) complete).1 at

-- ---- a transfer that is over

abbrev pub over_stretch : (settings : Parameters) (table : List (Option Entry)) (meaning : Meaning)
    → AreInRange settings
    → AreSound settings table meaning → ((node : ℕ) → IsEndpointKept settings node (nothing_begun settings))
    → (beginning : Beginning (job_of settings table meaning)) (events : List (EventAt OtherCall))
    → AreAmong (job_of settings table meaning) events → Over settings table meaning
over_stretch settings table meaning range sound starts beginning events among =
    let job = job_of settings table meaning in
    let kept = IsEndpointKept settings in
    let before = end_holds job kept beginning.before (at_the_opening settings) sound beginning.among
    (opening_holds job kept (λ node. nothing_begun settings) starts) in
    record {
      range = range;
      sound = sound;
      stretch = since job beginning events;
      among = among;
      holds = step_keeps job kept (run job beginning.before (at_the_opening settings))
          (transfer_event beginning.now beginning.node beginning.thread beginning.call) sound before beginning.there;
    }

pub over_is_done : (settings : Parameters) (table : List (Option Entry)) (meaning : Meaning) → AreInRange settings
    → AreSound settings table meaning → ((node : ℕ) → IsEndpointKept settings node (nothing_begun settings))
    → OverIsDone (job_of settings table meaning)
over_is_done settings table meaning range sound starts beginning events operation among there over_or =
    let job = job_of settings table meaning in
    let over = over_stretch settings table meaning range sound starts beginning events among in
    let node = beginning.node in
    let number = beginning.number in
    let before = run job beginning.before (at_the_opening settings) in
    let from = over.stretch.from in
    let last = last_of over in
    let tracks_from = step_tracks settings table meaning before
    (transfer_event beginning.now node beginning.thread beginning.call)
    (run_tracks settings table meaning beginning.before (at_the_opening settings) (λ any. opening_tracks settings)) in
    let tracks = run_tracks settings table meaning events from tracks_from node in
    let complete : is_complete operation
    ≡ true = elim over_or [ inl synced ↦ tracks.complete number operation there synced | inr is ↦ is ] in
    let begins = begins_last settings table meaning before beginning.now node beginning.thread beginning.call
    beginning.transfer number beginning.begins in
    let new = fresh beginning.thread beginning.transfer begins.mode (suc (length (before node).local.operations)) in
    let here : element_at (from node).local.operations number ≡ Some new = ap₂ element_at begins.after_is begins.number_is
    ∙ slice_get_last (before node).local.operations new in
    let stays = transfer_stays settings table meaning events from node number new sound among over.holds here in
    let transfer_is : operation.transfer
    ≡ beginning.transfer = ap (λ (o : Operation). o.transfer) (same_Some _ _ (sym there ∙ stays.1)) ∙ stays.2 in
    let many = all_issued operation complete (tracks.few number operation there) in
    let fits = ((holds_last over).kept node).operations number operation there in
    let unissued = λ (index request : ℕ)
    (C : Chunked (from node).local.operations number index request operation.transfer).
    nothing index C.sent (ap (λ (o : Operation). slice_get o.sent index) (same_Some _ _ (sym here ∙ C.there)) ∙ C.at) in
    record {
      operation = operation;
      there = there;
      transfer_is = transfer_is;
      all_issued = many ∙ ap (λ t. chunks (size t)) transfer_is;
      each = λ index inside.
          subst (λ t. ChunkDone job over.stretch node (chunk_at t number index)) transfer_is
          (each_done over node number index operation tracks there complete many fits
          (subst (λ t. index < chunks (size t)) (sym transfer_is) inside) (λ request C. unissued index request C));
    }
  where
    nothing : (index : ℕ) (sent : SentChunk) → slice_get [] index ≡ Some sent → ⊥
    nothing index sent at = cc

    each_done : (over : Over settings table meaning) (node number index : ℕ) (o : Operation)
        → NodeTracks settings.version (last_of over node)
        → element_at (last_of over node).local.operations number ≡ Some o → is_complete o ≡ true
        → length o.sent ≡ chunks (size o.transfer) → IsByChunks settings node o.transfer
        → index < chunks (size o.transfer)
        → ((request : ℕ) → Chunked (over.stretch.from node).local.operations number index request o.transfer → ⊥)
        → ChunkDone (job_of settings table meaning) over.stretch node (chunk_at o.transfer number index)
    each_done over node number index o tracks at complete many fits inside unissued =
        let sent = slice_get_there o.sent index (omega (arith, many, inside)) in
        chunk_done over node number index o.transfer fits inside
        (known over node number index o sent.0 tracks at sent.1 (all_back o complete index sent.0 sent.1) unissued)

-- ---- a transfer that is synchronised

complete_like : (old new : Operation) → Like old new → is_complete new ≡ true → is_complete old ≡ true
complete_like old new like complete =
    ap₂ (λ (transfer : Transfer) (sent : List SentChunk). not (nat_lt (length sent) (chunks (size transfer))) && list_all
    (λ (one : SentChunk). one.back) sent)
    (sym like.0) (sym like.1) ∙ complete

pub sync_is_done : (settings : Parameters) (table : List (Option Entry)) (meaning : Meaning) → AreInRange settings
    → AreSound settings table meaning → ((node : ℕ) → IsEndpointKept settings node (nothing_begun settings))
    → SyncIsDone (job_of settings table meaning)
sync_is_done settings table meaning range sound starts beginning events sync among syncs =
    let job = job_of settings table meaning in
    let node = beginning.node in
    let number = beginning.number in
    let before = run job beginning.before (at_the_opening settings) in
    let stretch = since job beginning events in
    let world = state_after job stretch in
    let tracks = step_tracks settings table meaning world sync (run_tracks settings table meaning events stretch.from
    (step_tracks settings table meaning before (transfer_event beginning.now node beginning.thread beginning.call)
    (run_tracks settings table meaning beginning.before (at_the_opening settings) (λ any. opening_tracks settings))))
    node in
    let complete : is_complete syncs.new ≡ true = tracks.complete number syncs.new syncs.is syncs.marked in
    let at = transfer_event sync.now node syncs.thread syncs.call in
    let same : sync ≡ at = ap (λ (e : Event OtherCall). record { now = sync.now; event = e }) syncs.event in
    let effect = call_effect settings table meaning (caller_of settings world node syncs.thread)
    (OnTransfers syncs.call) (world node).local in
    let left = ap (λ (e : EventAt OtherCall). (world_after job world e node).local.operations) same
    ∙ ap (λ (l : EndpointLocal). l.operations)
    (left_there settings table meaning world sync.now node syncs.thread syncs.call) in
    let kept = effect.operations.kept number syncs.old syncs.was in
    let new : kept.0 ≡ syncs.new = same_Some _ _
    (sym kept.1 ∙ (ap (λ (ops : List Operation). element_at ops number) (sym left) ∙ syncs.is)) in
    over_is_done settings table meaning range sound starts beginning events syncs.old among syncs.was
    (inr (complete_like syncs.old syncs.new (subst (Like syncs.old) new kept.2) complete))

-- ---- pieces

below_end : (start offset size : ℕ) → start ≤ offset → offset < size → offset < start + 8192
    → offset < start + min 8192 (size - start)
below_end start offset size from inside near =
    let least : (offset - start) + 1 ≤ min 8192 (size - start) = le-min (omega (arith, near))
    (omega (arith, from, inside)) in
    omega (arith, from, least)

-- two chunks don't share a byte
one_piece : (all offset one other : ℕ) → LiesIn all offset one → LiesIn all offset other → other ≡ one
one_piece all offset one other first second =
    let least = min-le_left 8192 (all - chunk_start one) in
    let most = min-le_left 8192 (all - chunk_start other) in
    omega (arith, first.first, first.last, second.first, second.last, least, most)

pub pieces_cover : PiecesCover
pieces_cover all offset inside =
    let start = chunk_start (offset / 8192) in
    let from : start ≤ offset = omega arith in
    let near : offset < start + 8192 = omega arith in
    let here : LiesIn all offset (offset / 8192) = record {
      is = omega (arith, inside);
      first = from;
      last = below_end start offset all from inside near;
    } in
    (offset / 8192, here, λ other there. one_piece all offset (offset / 8192) other here there)

-- ---- all of them

pub transfers_hold : InEveryJob TransfersHold
transfers_hold settings table meaning range lawful =
    let sound = rules_sound settings table meaning range lawful in
    record {
      over = over_is_done settings table meaning range sound (opening_kept settings);
      synchronised = sync_is_done settings table meaning range sound (opening_kept settings);
      goes = ok_goes settings table meaning;
      own = own_is_done settings table meaning;
      cover = pieces_cover;
    }
