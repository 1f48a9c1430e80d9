-- A word that only operations of batches write is what all of them made of it.
use Rattle.std.proofs.Common.{◌≡◌, ℕ, ◌+◌, ◌-◌, ◌%◌, ◌≤◌, List, [], ◌∷◌, ◌++◌, take, Option, Some, None, refl}
use Rattle.std.proofs.Common.{sym, ap, ◌∙◌, subst, arith}
use Rattle.std.specs.Prelude.{fold, option_and_then, ◌==◌}
use Rattle.std.specs.Int.{w64, from_le_bytes}
use Rattle.std.proofs.lemmas.Bool.{and_parts}
use Rattle.std.proofs.lemmas.List.{drop-replicate, take-replicate}
use Rattle.std.proofs.lemmas.List.Sums.{fold-append}
use Rattle.std.proofs.lemmas.List.Elements.{filter-append}
use Rattle.wire_message.specs.Parameters.{Parameters}
use Rattle.wire_message.specs.Content.{Content}
use Rattle.part_segment.specs.Image.{AllFit, image, written_by}
use Rattle.part_segment.proofs.Images.{length-image, image-append}
use Rattle.part_handlers.specs.declared.table.Entry.{Entry}
use Rattle.part_handlers.specs.Runs.{Meaning}
use Rattle.spec_network.specs.World.{EventAt, world_answer, world_after, run}
use Rattle.spec_network.specs.Plain.{plain_of}
use Rattle.spec_network.proofs.Worlds.{step_keeps}
use Rattle.node_rules.specs.EndpointLocal.{IsEndpointKept}
use Rattle.node_rules.specs.EndpointRules.{OtherCall, Records, at_the_opening, job_of}
use Rattle.law_transfers.specs.Chunks.{segment_at, writes_at}
use Rattle.law_transfers.specs.TransferLaws.{AreAmong}
use Rattle.law_transfers.proofs.Bytes.{all_fit_later}
use Rattle.law_transfers.proofs.Stretches.{AreSound, AllHolds}
use Rattle.law_messages.specs.Events.{AtEach, after_all}
use Rattle.law_messages.proofs.Events.{all_holds, opening_all}
use Rattle.law_messages.proofs.Ranges.{word_spared}
use Rattle.node_atomics.specs.declared.word.WordOp.{WordOp}
use Rattle.node_atomics.specs.Asking.{batch_of}
use Rattle.node_atomics.specs.BatchRequests.{BatchRequest, are_words_aligned}
use Rattle.node_atomics.specs.Served.{word_in, changes_of}
use Rattle.law_atomics.specs.Batches.{content_run, left_of, on_word, ops_at, ops_in, ops_of, OnlyBatches}
use Rattle.law_atomics.specs.AtomicLaws.{WordsAreMade, OldsAreMade, all_ops_at}
use Rattle.law_atomics.proofs.Asking.{asks_batch}
use Rattle.law_atomics.proofs.Words.{Good, word_after, length-changed, old_at}

-- ---- the operations of a batch are good

good_ops : (settings : Parameters) (batch : Option BatchRequest) (content : Content)
    → batch_of settings content ≡ batch → Good settings.segment (ops_of batch)
good_ops settings None content is = record { inside = refl; aligned = refl }
good_ops settings (Some batch) content is =
    let it = asks_batch settings content batch is in
    record {
      inside = it.inside;
      aligned = (and_parts (batch.local % 8 == 0) (are_words_aligned batch.ops) it.aligned).1;
    }

good_run : (settings : Parameters) (found : Option Content)
    → Good settings.segment (ops_of (option_and_then (batch_of settings) found))
good_run settings None = record { inside = refl; aligned = refl }
good_run settings (Some content) = good_ops settings (batch_of settings content) content refl

-- so are those that run at an event
good_at : (settings : Parameters) (table : List (Option Entry)) (meaning : Meaning) (world : Records)
    (e : EventAt OtherCall) (node : ℕ)
    → Good settings.segment (ops_at (job_of settings table meaning) world e node)
good_at settings table meaning world e node =
    let job = job_of settings table meaning in
    good_run settings (content_run job (plain_of world) node e.event (world_answer job world e))

-- ---- one event

made_at : (settings : Parameters) (table : List (Option Entry)) (meaning : Meaning) (world : Records)
    (e : EventAt OtherCall) (later : List (EventAt OtherCall)) (node offset : ℕ)
    → AllHolds settings table meaning world
    → AllHolds settings table meaning (world_after (job_of settings table meaning) world e)
    → OnlyBatches (job_of settings table meaning) node offset (record { before = world; timed = e; later = later })
    → offset % 8 ≡ 0
    → word_in (segment_at (job_of settings table meaning) (world_after (job_of settings table meaning) world e) node)
    offset
    ≡ fold left_of (word_in (segment_at (job_of settings table meaning) world node) offset)
    (on_word offset (ops_at (job_of settings table meaning) world e node))
made_at settings table meaning world e later node offset holds then only aligned =
    let job = job_of settings table meaning in
    let len = settings.segment in
    let before = writes_at world node in
    let ops = ops_at job world e node in
    let segment = segment_at job world node in
    let changes = changes_of segment ops in
    let good = good_at settings table meaning world e node in
    let fit = subst (AllFit len) only.writes (then.kept node).core.writes in
    let long = length-image len before (holds.kept node).core.writes in
    let image_is : image len (writes_at (world_after job world e) node)
    ≡ written_by (written_by segment changes) only.beside
    = ap (image len) only.writes
    ∙ (image-append len (before ++ changes) only.beside
    ∙ ap (λ (bytes : List ℕ). written_by bytes only.beside) (image-append len before changes)) in
    ap (λ (bytes : List ℕ). word_in bytes offset) image_is
    ∙ (word_spared len (written_by segment changes) only.beside offset
    (length-changed len segment ops long good) (all_fit_later len (before ++ changes) only.beside fit) only.spare
    ∙ word_after len segment ops offset long good aligned)

-- ---- a run

made_in : (settings : Parameters) (table : List (Option Entry)) (meaning : Meaning)
    (events : List (EventAt OtherCall)) (world : Records) (node offset : ℕ) → AreSound settings table meaning
    → AreAmong (job_of settings table meaning) events → AllHolds settings table meaning world
    → AtEach (job_of settings table meaning) (OnlyBatches (job_of settings table meaning) node offset) events world
    → offset % 8 ≡ 0
    → word_in (segment_at (job_of settings table meaning) (run (job_of settings table meaning) events world) node)
    offset
    ≡ fold left_of (word_in (segment_at (job_of settings table meaning) world node) offset)
    (on_word offset (ops_in (job_of settings table meaning) events world node))
made_in settings table meaning [] world node offset sound among holds only aligned = refl
made_in settings table meaning (e ∷ events) world node offset sound among holds only aligned =
    let job = job_of settings table meaning in
    let after = world_after job world e in
    let then = step_keeps job (IsEndpointKept settings) world e sound holds among.0 in
    let now = on_word offset (ops_at job world e node) in
    let rest = on_word offset (ops_in job events after node) in
    let old = word_in (segment_at job world node) offset in
    made_in settings table meaning events after node offset sound among.1 then only.1 aligned
    ∙ (ap (λ (word : ℕ). fold left_of word rest)
    (made_at settings table meaning world e events node offset holds then only.0 aligned)
    ∙ (sym (fold-append left_of old now rest)
    ∙ ap (fold left_of old) (sym (filter-append (λ (word : WordOp). word.offset == offset)
    (ops_at job world e node) (ops_in job events after node)))))

-- a word is 0 at the opening
opening_word : (len offset : ℕ) → offset + 8 ≤ len → word_in (image len []) offset ≡ 0
opening_word len offset inside =
    ap (from_le_bytes w64) (ap (λ (bytes : List ℕ). take 8 bytes) (drop-replicate offset len 0)
    ∙ take-replicate 8 (len - offset) 0 (omega (arith, inside)))

pub words_are_made : (settings : Parameters) (table : List (Option Entry)) (meaning : Meaning)
    → AreSound settings table meaning → WordsAreMade (job_of settings table meaning)
words_are_made settings table meaning sound events node offset among word =
    let job = job_of settings table meaning in
    made_in settings table meaning events (at_the_opening settings) node offset sound among
    (opening_all settings table meaning) word.only word.aligned
    ∙ ap (λ (old : ℕ). fold left_of old (on_word offset (all_ops_at job events node)))
    (opening_word settings.segment offset word.inside)

pub olds_are_made : (settings : Parameters) (table : List (Option Entry)) (meaning : Meaning)
    → AreSound settings table meaning → OldsAreMade (job_of settings table meaning)
olds_are_made settings table meaning sound events next node offset place found among word at here =
    let job = job_of settings table meaning in
    let world = after_all job events in
    let ops = ops_at job world next node in
    let before = all_ops_at job events node in
    let segment = segment_at job world node in
    let holds = all_holds settings table meaning events sound among in
    old_at settings.segment segment ops place found offset
    (length-image settings.segment (writes_at world node) (holds.kept node).core.writes)
    (good_at settings table meaning world next node) word.aligned at here
    ∙ ap Some (ap (λ (old : ℕ). fold left_of old (on_word offset (take place ops)))
    (words_are_made settings table meaning sound events node offset among word)
    ∙ (sym (fold-append left_of 0 (on_word offset before) (on_word offset (take place ops)))
    ∙ ap (fold left_of 0) (sym (filter-append (λ (word : WordOp). word.offset == offset) before (take place ops)))))
