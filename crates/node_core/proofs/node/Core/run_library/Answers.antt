use Rattle.std.proofs.Common.{◌≡◌, ◌∙◌, ℕ, List, None, ap, sym, subst}
use Rattle.wire_message.specs.Content.{Content, content_of}
use Rattle.wire_message.specs.Message.{Message}
use Rattle.wire_message.specs.Reading.{viewed_message}
use Rattle.part_segment.specs.Image.{written_by}
use Rattle.node_core.specs.Library.{library_reply, library_writes}
use Rattle.node_core.specs.HandlerRuns.{landing, reply_or_ack}
use Rattle.node_core.specs.CoreState.{CoreState}
use Rattle.node_core.specs.CoreStep.{IsNewRequest, KeepsAnswer, message_refusal}
use Rattle.node_core.specs.Sizes.{HasSegment}
use Rattle.node_core.proofs.LibraryLaws.{library_delivers, library_written, same_refusal, written_new, written_sized}
use Rattle.node_core.proofs.node.Core.run_library.Goals as goal

-- the core after its payload landed
abbrev landed : CoreState → List ℕ → CoreState
landed core bytes = record core { segment = bytes }

pub write_library-requires-clause-ours : goal.write_library-requires-clause-ours
write_library-requires-clause-ours c =
    let message = viewed_message c.args.message.now in
    subst (λ (core : CoreState). message_refusal core message ≡ None
    → message_refusal (landed core c.land.new.segment) message ≡ None) (sym c.self.view_is)
    (same_refusal c.args.self.now message c.land.new.segment c.args.self.now.replies)
    (subst (λ (core : CoreState). message_refusal core message ≡ None) (sym c.self.view_is) c.requires.new.ours.ours)

-- the core after the payload landed and the run wrote
written : (core new : CoreState) (content : Content) (inside : CoreState) (bytes : List ℕ) → inside ≡ core
    → new ≡ landed inside (written_by bytes (library_writes content))
    → bytes ≡ written_by inside.segment (landing content)
    → new ≡ library_written core content
written core new content inside bytes view is landing_is =
    is ∙ (ap (λ (those : List ℕ). landed inside (written_by those (library_writes content))) landing_is
    ∙ ap (λ (one : CoreState). library_written one content) view)

pub answer_library-requires-clause-segment : goal.answer_library-requires-clause-segment
answer_library-requires-clause-segment c =
    let message = viewed_message c.args.message.now in
    let middle = written c.args.self.now c.write_library.new.self (content_of message) _ c.land.new.segment
    c.self.view_is c.write_library.ensures c.land.ensures.landed in
    subst (λ (core : CoreState). HasSegment core) (sym middle)
    (written_sized c.args.self.now message c.requires.new c.requires.segment)

-- the request is then still new
still_new : (core new : CoreState) (message : Message) → new ≡ library_written core (content_of message)
    → IsNewRequest core message → IsNewRequest new message
still_new core new message is request =
    subst (λ (one : CoreState). IsNewRequest one message) (sym is) (written_new core message request)

pub answer_library-requires-clause-new : goal.answer_library-requires-clause-new
answer_library-requires-clause-new c =
    let message = viewed_message c.args.message.now in
    let middle = written c.args.self.now c.write_library.new.self (content_of message) _ c.land.new.segment
    c.self.view_is c.write_library.ensures c.land.ensures.landed in
    still_new c.args.self.now c.write_library.new.self message middle c.requires.new

pub told-requires-clause-ours : goal.told-requires-clause-ours
told-requires-clause-ours c =
    let message = viewed_message c.args.message.now in
    let middle = written c.args.self.now c.write_library.new.self (content_of message) _ c.land.new.segment
    c.self.view_is c.write_library.ensures c.land.ensures.landed in
    let fresh = still_new c.args.self.now c.write_library.new.self message middle c.requires.new in
    subst (λ (core : CoreState). message_refusal core message ≡ None) (sym c.answer_library.ensures.kept)
    (same_refusal c.write_library.new.self message c.write_library.new.self.segment _ fresh.ours.ours)

pub returns : goal.returns
returns c = λ meaning.
    let message = viewed_message c.args.message.now in
    let content = content_of message in
    let middle = written c.args.self.now c.write_library.new.self content _ c.land.new.segment
    c.self.view_is c.write_library.ensures c.land.ensures.landed in
    let version : c.answer_library.new.self.settings.version ≡ c.args.self.now.settings.version =
    ap (λ (core : CoreState). core.settings.version) c.answer_library.ensures.kept
    ∙ ap (λ (core : CoreState). core.settings.version) middle in
    library_delivers meaning c.args.self.now message c.told.result c.answer_library.new.self c.requires.new
    c.requires.free c.requires.library
    (subst (λ (core : CoreState). KeepsAnswer core message (reply_or_ack (library_reply core.segment content))
    c.answer_library.new.self) middle c.answer_library.ensures)
    (rw (version, c.requires.at) at c.told.ensures)
