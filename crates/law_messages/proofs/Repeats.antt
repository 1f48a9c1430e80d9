-- The message of an open request was sent.
use Rattle.std.proofs.Common.{◌≡◌, ℕ, Bool, true, false, List, Option, Some, None, refl, sym, ap, ◌∙◌}
use Rattle.std.specs.Prelude.{if◌then◌else◌}
use Rattle.std.specs.Option.{option_map}
use Rattle.std.proofs.lemmas.Option.{same_Some}
use Rattle.base_lists.proofs.Numbered.{numbered_at}
use Rattle.wire_message.specs.Parameters.{Parameters}
use Rattle.wire_message.specs.Content.{message_at_address}
use Rattle.wire_message.specs.Message.{spelling}
use Rattle.part_handlers.specs.declared.table.Entry.{Entry}
use Rattle.part_handlers.specs.Runs.{Meaning}
use Rattle.spec_node.specs.Invariant.{address_in, request_message}
use Rattle.spec_node.specs.Record.{Request}
use Rattle.spec_node.specs.Requests.{open_in}
use Rattle.spec_node.specs.SlotMessages.{message_at, has_slot}
use Rattle.spec_node.specs.Step.{request_slot}
use Rattle.spec_node.proofs.Keeping.{open_found}
use Rattle.spec_network.specs.Sent.{Place, Asking}
use Rattle.spec_network.specs.World.{EventAt}
use Rattle.spec_network.proofs.Sending.{sent_are_recorded}
use Rattle.node_rules.specs.EndpointLocal.{IsEndpointKept, nothing_begun}
use Rattle.node_rules.specs.EndpointRules.{OtherCall, job_of}
use Rattle.node_rules.proofs.Kept.{opening_kept}
use Rattle.law_transfers.specs.TransferLaws.{AreAmong}
use Rattle.law_transfers.proofs.Stretches.{AreSound}
use Rattle.law_messages.specs.Events.{after_all}
use Rattle.law_messages.specs.MessageLaws.{WasSent}

-- what a test lets through
behind : {X : Type 0} (test : Bool) (inner : Option X) (x : X) → (if test then inner else None) ≡ Some x
    → inner ≡ Some x
behind true inner x is = is
behind false inner x is = absurd cc

-- what became of what is there
became : {X Y : Type 0} (f : X → Y) (found : Option X) (y : Y) → option_map f found ≡ Some y
    → (x : X) × (found ≡ Some x) × (y ≡ f x)
became f None y is = absurd cc
became f (Some x) y is = (x, refl, sym (same_Some (f x) y is))

pub open_was_sent : (settings : Parameters) (table : List (Option Entry)) (meaning : Meaning)
    (events : List (EventAt OtherCall)) (node to slot : ℕ) (bytes : List ℕ) → AreSound settings table meaning
    → AreAmong (job_of settings table meaning) events
    → message_at settings node (after_all (job_of settings table meaning) events node) (request_slot to slot)
    ≡ Some bytes
    → WasSent (job_of settings table meaning) events node bytes
open_was_sent settings table meaning events node to slot bytes sound among is =
    let job = job_of settings table meaning in
    let requests = (after_all job events node).asked to in
    let spell = λ (o : ℕ × Request). spelling (request_message settings node to o.0 o.1) in
    let open_ = became spell (open_in slot requests) bytes
    (behind (has_slot settings node (request_slot to slot)) (option_map spell (open_in slot requests)) bytes is) in
    let found = open_found slot 1 requests open_.0 open_.1 in
    let number = open_.0.0 in
    let request = open_.0.1 in
    let place : Place = record { from = node; to = to; number = number; slot = slot } in
    record {
      place = place;
      content = request.content;
      own = refl;
      among = (sent_are_recorded job (IsEndpointKept settings) (λ at. nothing_begun settings) events sound
          (opening_kept settings) among (Asking place request.content)).1
          (request, numbered_at requests number found.0 request found.1 found.2, found.4, refl);
      spells = open_.2
          ∙ ap (λ (at : ℕ). spelling (message_at_address (address_in settings node to at number) request.content)) found.4;
    }
