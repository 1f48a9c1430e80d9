-- Which contents are messages, wherever they go.
use Rattle.std.proofs.Common.{◌≡◌, ◌≤◌, true, false, true≢false, length, refl, sym, ◌∙◌, arith}
use Rattle.std.proofs.Common.{ne_eqb}
use Rattle.wire_message.specs.Content.{Content, IsWellFormed, IsWellAddressed, message_at_address, ack, code, is_kind}
use Rattle.wire_message.specs.Content.{is_ack}
use Rattle.wire_message.specs.Content.{is_long, is_bare}
use Rattle.wire_message.specs.declared.content.Address.{Address}

-- what a message for a handler says
pub record IsForHandler (content : Content) : Type 0 where
  pub kind : is_kind (code content.kind) ≡ true
  pub no_ack : is_ack (code content.kind) ≡ false
  pub some_handler : 1 ≤ content.handler
  pub few_args : length content.args ≤ 16
  pub long_offset : is_long (code content.kind) ≡ false → content.offset ≡ 0
  pub short_payload : length content.payload ≤ 8192
  pub bare_payload : is_bare (code content.kind) ≡ true → length content.payload ≡ 0

pub for_handler : (address : Address) (content : Content) → IsWellAddressed address → IsForHandler content
    → IsWellFormed (message_at_address address content)
for_handler address content at is = record {
  version = at.version;
  kind = is.kind;
  apart = at.apart;
  numbered = at.numbered;
  ack_handler = is.no_ack ∙ sym (ne_eqb content.handler 0 (λ e. omega (arith, e, is.some_handler)));
  count = is.few_args;
  ack_args = λ e. absurd (true≢false (sym e ∙ is.no_ack));
  long_offset = is.long_offset;
  payload_length = is.short_payload;
  bare_payload = is.bare_payload;
}

pub ack_formed : (address : Address) → IsWellAddressed address → IsWellFormed (message_at_address address ack)
ack_formed address at = record {
  version = at.version;
  kind = refl;
  apart = at.apart;
  numbered = at.numbered;
  ack_handler = refl;
  count = omega arith;
  ack_args = λ e. refl;
  long_offset = λ e. refl;
  payload_length = omega arith;
  bare_payload = λ e. refl;
}
