-- Where what stands at a Long's place stays there, nothing is written: to land the payload there and then to write back
-- what stood there is the same.
use Rattle.std.proofs.Common.{ℕ, ◌≡◌, ◌≤◌, ◌+◌, ◌-◌, ◌++◌, List, [], ◌∷◌, Option, Some, None, Bool, true, false, if◌then◌else◌}
use Rattle.std.proofs.Common.{refl, sym, ap, ◌∙◌, subst, arith, length, take, drop}
use Rattle.std.specs.Prelude.{nat_lt}
use Rattle.std.proofs.lemmas.Bool.{ltb-false}
use Rattle.std.proofs.lemmas.Bool.Decides.{nat_tests}
use Rattle.std.proofs.lemmas.List.{length-drop, length-take-le, take-append-drop, drop-drop}
use Rattle.part_segment.specs.Bytes.{part, with_part}
use Rattle.part_segment.specs.Image.{Write, AllFit, overwritten, written_by}
use Rattle.part_segment.proofs.Lengths.{length-with_part}
use Rattle.part_segment.proofs.Images.{all_fit-append, all_fit_none, all_fit_one}
use Rattle.part_segment.proofs.Lists.{with_part-append}
use Rattle.part_handlers.specs.declared.rules.Role.{Role}
use Rattle.part_handlers.specs.declared.rules.Role.TheVariants as role
use Rattle.part_handlers.specs.Runs.{Frame, Outcome, Meaning, IsLawfulMeaning, IsPlaced, after_return}
use Rattle.wire_message.specs.Message.{Message, spelling}
use Rattle.wire_message.specs.Content.{Content, code, content_of, is_long}
use Rattle.part_window.specs.RepliesState.{RepliesState, with_reply}
use Rattle.spec_node.specs.Behaviour.{Contact}
use Rattle.spec_node.specs.Step.{with_sender}
use Rattle.node_core.specs.HandlerRuns.{frame_of_run, landing, place_of}
use Rattle.node_core.specs.CoreStep.{RunsBy, answer_message, client_delivered, handlers_at, landed_core, start_at, with_client_reply_ran}
use Rattle.node_core.specs.CoreStep.{with_outcome}
use Rattle.node_core.specs.CoreState.{CoreState}
use Rattle.node_core.specs.InPlace.{IsQuiet, RunsOn, client_on, keeping, keeping_in, kept_writes, laid, meant_in}
use Rattle.node_core.specs.InPlace.{with_client_reply_on}
use Rattle.node_core.specs.declared.landing.Landing.{Landing}
use Rattle.node_core.specs.declared.landing.Landing.TheVariants as landings

-- ---- lawful

kept_fit : (len : ℕ) (segment : List ℕ) (place : Option (ℕ × ℕ)) → AllFit len (kept_writes len segment place)
kept_fit len segment None = all_fit_none len
kept_fit len segment (Some place) = by_test (nat_lt len (place.0 + length (part segment place.0 place.1))) refl
  where
    bytes : List ℕ
    bytes = part segment place.0 place.1

    by_test : (far : Bool) → nat_lt len (place.0 + length bytes) ≡ far
        → AllFit len (if far then [] else record { offset = place.0; bytes = bytes } ∷ [])
    by_test true test = all_fit_none len
    by_test false test = all_fit_one len (record { offset = place.0; bytes = bytes }) (ltb-false _ _ test)

-- handlers that are lawful are, too, where they leave at a Long's place what stood there
pub lawful_keeping : (segment : List ℕ) (meaning : Meaning) → IsLawfulMeaning meaning
    → IsLawfulMeaning (keeping_in segment meaning)
lawful_keeping segment meaning lawful handler frame start =
    let law = lawful handler frame start in
    record {
      reply = law.reply;
      writes = all_fit-append (length start.segment) (meaning handler frame start).writes
          (kept_writes (length start.segment) segment frame.arrival.place) law.writes
          (kept_fit (length start.segment) segment frame.arrival.place);
      locks = law.locks;
    }

pub lawful_meant : (how : Landing) (segment : List ℕ) (meaning : Meaning) → IsLawfulMeaning meaning
    → IsLawfulMeaning (meant_in how segment meaning)
lawful_meant landings.Written segment meaning lawful = lawful
lawful_meant landings.Kept segment meaning lawful = lawful_keeping segment meaning lawful

-- ---- nothing is written

-- bytes that are written, and what stood there written back
put_back : (xs ps : List ℕ) (o : ℕ) → o + length ps ≤ length xs
    → with_part (with_part xs o ps) o (part xs o (length ps)) ≡ xs
put_back xs ps o inside =
    let n = length ps in
    let rest = drop (o + n) xs in
    let first : length (take o xs) ≡ o = length-take-le o xs (omega (arith, inside)) in
    let behind : length (drop o xs) ≡ length xs - o = length-drop o xs in
    let second : length (part xs o n) ≡ n = length-take-le n (drop o xs) (omega (arith, inside, behind)) in
    with_part-append (take o xs) ps rest (part xs o n) o first second
    ∙ ap (λ (t : List ℕ). take o xs ++ t)
    (ap (λ (t : List ℕ). part xs o n ++ t) (sym (drop-drop n o xs)) ∙ take-append-drop n (drop o xs))
    ∙ take-append-drop o xs

-- so it is of what lands, and of what is kept
kept_back : (xs : List ℕ) (content : Content) → IsPlaced (length xs) (place_of content)
    → written_by (written_by xs (landing content))
    (kept_writes (length (written_by xs (landing content))) xs (place_of content)) ≡ xs
kept_back xs content placed = by_kind (is_long (code content.kind)) placed
  where
    landed : List ℕ
    landed = with_part xs content.offset content.payload

    by_test : (far : Bool) → far ≡ false → (write : Write)
        → written_by landed (if far then [] else write ∷ []) ≡ overwritten landed write
    by_test false near write = refl
    by_test true near write = cc

    by_kind : (long : Bool)
        → IsPlaced (length xs) (if long then Some (content.offset, length content.payload) else None)
        → (let lands : List Write =
        if long then record { offset = content.offset; bytes = content.payload } ∷ [] else [] in
        written_by (written_by xs lands) (kept_writes (length (written_by xs lands)) xs
        (if long then Some (content.offset, length content.payload) else None)) ≡ xs)
    by_kind false placed = refl
    by_kind true placed =
        let o = content.offset in
        let n = length content.payload in
        let bytes = part xs o n in
        let long : length landed ≡ length xs = length-with_part xs o content.payload placed in
        let behind : length (drop o xs) ≡ length xs - o = length-drop o xs in
        let some : length bytes ≡ n = length-take-le n (drop o xs) (omega (arith, placed, behind)) in
        let near : nat_lt (length landed) (o + length bytes) ≡ false = grind (arith, nat_tests) in
        by_test (nat_lt (length landed) (o + length bytes)) near (record { offset = o; bytes = bytes })
        ∙ put_back xs content.payload o placed

-- the core after a payload landed and a quiet run left what stood there, and the core after that run alone
kept_core : (core : CoreState) (which : Role) (frame : Frame) (content : Content) (outcome : Outcome)
    → outcome.writes ≡ [] → frame.arrival.place ≡ place_of content
    → IsPlaced (length core.segment) (place_of content)
    → with_outcome (landed_core core content) which
    (after_return frame (keeping core.segment frame (start_at (landed_core core content)) outcome))
    ≡ with_outcome core which (after_return frame outcome)
kept_core core which frame content outcome none place placed =
    let landed = landed_core core content in
    let run = after_return frame outcome in
    let made : List ℕ → CoreState = λ (bytes : List ℕ). record (with_outcome core which run) { segment = bytes } in
    let kept : List Write → List Write = λ (writes : List Write).
    writes ++ kept_writes (length landed.segment) core.segment frame.arrival.place in
    let back : written_by landed.segment (kept outcome.writes) ≡ core.segment =
    ap (λ (writes : List Write). written_by landed.segment (kept writes)) none
    ∙ ap (λ (at : Option (ℕ × ℕ)). written_by landed.segment (kept_writes (length landed.segment) core.segment at)) place
    ∙ kept_back core.segment content placed in
    ap made (back ∙ ap (λ (writes : List Write). written_by core.segment writes) (sym none))

-- a request whose handler ran before
pub request_kept : (meaning : Meaning) (core : CoreState) (message : Message) (new : CoreState) → IsQuiet meaning
    → IsPlaced (length core.segment) (place_of (content_of message))
    → RunsOn (client_on meaning core message) core message new
    → RunsBy (client_delivered (keeping_in core.segment meaning) core message) core message new
request_kept meaning core message new quiet placed ran =
    let content = content_of message in
    let contact = with_sender core.me message in
    let landed = landed_core core content in
    let frame = frame_of_run (handlers_at meaning core) role.Request contact content in
    let blind : meaning content.handler frame (start_at landed) ≡ meaning content.handler frame (start_at core) =
    quiet.blind content.handler frame (start_at core) landed.segment in
    let found = meaning content.handler frame (start_at core) in
    let none = quiet.writes content.handler frame (start_at core) in
    let kept_replies : RepliesState = with_reply core.replies message.from message.slot message.number
    (spelling (answer_message core contact (client_on meaning core message))) in
    let run_is : after_return frame (keeping core.segment frame (start_at landed) found)
    ≡ client_delivered (keeping_in core.segment meaning) core message =
    ap (λ (one : Outcome). after_return frame (keeping core.segment frame (start_at landed) one)) (sym blind) in
    subst (λ (run : Outcome). RunsBy run core message new) run_is (record {
      spelled = ran.spelled;
      kept = ran.kept ∙ ap (λ (one : CoreState). record one { replies = kept_replies })
          (sym (kept_core core role.Request frame content found none refl placed));
    })

-- a reply whose handler ran before
pub reply_kept : (meaning : Meaning) (core : CoreState) (contact : Contact) (content : Content) → IsQuiet meaning
    → IsPlaced (length core.segment) (place_of content)
    → with_client_reply_on meaning core contact content
    ≡ with_client_reply_ran (keeping_in core.segment meaning) core contact content
reply_kept meaning core contact content quiet placed =
    let landed = landed_core core content in
    let frame = frame_of_run (handlers_at meaning core) role.Reply contact content in
    let blind : meaning content.handler frame (start_at landed) ≡ meaning content.handler frame (start_at core) =
    quiet.blind content.handler frame (start_at core) landed.segment in
    let found = meaning content.handler frame (start_at core) in
    let none = quiet.writes content.handler frame (start_at core) in
    sym (kept_core core role.Reply frame content found none refl placed)
    ∙ ap (λ (one : Outcome). with_outcome landed role.Reply
    (after_return frame (keeping core.segment frame (start_at landed) one))) (sym blind)

-- the same of both ways
pub request_meant : (how : Landing) (meaning : Meaning) (core : CoreState) (message : Message) (new : CoreState)
    → (how ≡ landings.Kept → IsQuiet meaning) → IsPlaced (length core.segment) (place_of (content_of message))
    → RunsOn (client_on meaning (laid how core (content_of message)) message) (laid how core (content_of message))
    message new
    → RunsBy (client_delivered (meant_in how core.segment meaning) core message) core message new
request_meant landings.Written meaning core message new quiet placed ran = record {
  spelled = ran.spelled;
  kept = ran.kept;
}
request_meant landings.Kept meaning core message new quiet placed ran =
    request_kept meaning core message new (quiet refl) placed ran

pub reply_meant : (how : Landing) (meaning : Meaning) (core : CoreState) (contact : Contact) (content : Content)
    → (how ≡ landings.Kept → IsQuiet meaning) → IsPlaced (length core.segment) (place_of content)
    → with_client_reply_on meaning (laid how core content) contact content
    ≡ with_client_reply_ran (meant_in how core.segment meaning) core contact content
reply_meant landings.Written meaning core contact content quiet placed = refl
reply_meant landings.Kept meaning core contact content quiet placed =
    reply_kept meaning core contact content (quiet refl) placed
