-- What C is told of a delivery, from what was read and what it would be answered.
use Rattle.std.proofs.Common.{◌≡◌, ◌≤◌, ◌+◌, ◌-◌, ◌*◌, ◌/◌, ◌++◌, ℕ, List, length, take, drop, min, None, Some, refl, sym, ap, ◌∙◌}
use Rattle.std.proofs.Common.{subst, arith}
use Rattle.std.proofs.lemmas.List.{length-append, length-drop, take_at, drop_at, drop-drop}
use Rattle.std.specs.Prelude.{Ok}
use Rattle.wire_message.specs.Message.{Message, Spells}
use Rattle.wire_message.specs.Reading.{Shows, integers_of, viewed_message}
use Rattle.wire_message.specs.Refusals.{first_refusal}
use Rattle.wire_message.specs.declared.viewed.View.{View}
use Rattle.wire_message.proofs.Laws.{length-spelling}
use Rattle.spec_node.specs.declared.answer.Delivered.{Delivered}
use Rattle.node_endpoint.specs.EndpointState.{EndpointState, IsAnsweredAlways, WouldDeliver}
use Rattle.gasnet_c.specs.Peeking.{Peeks, ShowsOf, TellsView, runs_by}
use Rattle.gasnet_c.specs.declared.coming.Coming.{Coming}

-- the words stand behind the header
words_there : (words payload bytes : List ℕ) (first behind : ℕ) → first ≡ 40 → behind ≡ length words + 40
    → words ++ payload ≡ drop 40 bytes → take (behind - first) (drop first bytes) ≡ words
words_there words payload bytes first behind is_first is_behind parts =
    let long : length words ≡ behind - 40 = omega arith in
    subst (λ (k : ℕ). take (behind - k) (drop k bytes) ≡ words) (sym is_first)
    (subst (λ (rest : List ℕ). take (behind - 40) rest ≡ words) parts (take_at words payload (behind - 40) long))

-- the payload stands behind them
payload_there : (words payload bytes : List ℕ) (behind : ℕ) → behind ≡ length words + 40
    → words ++ payload ≡ drop 40 bytes → drop behind bytes ≡ payload
payload_there words payload bytes behind is_behind parts =
    let same : 40 + length words ≡ behind = omega arith in
    subst (λ (k : ℕ). drop k bytes ≡ payload) same
    (sym (drop-drop (length words) 40 bytes) ∙ ap (λ (rest : List ℕ). drop (length words) rest) (sym parts)
    ∙ drop_at words payload (length words) refl)

-- there are four bytes of words for each argument
four_each : (view : View) (bytes : List ℕ) → Spells (viewed_message view) bytes
    → view.words.now ++ view.payload.now ≡ drop 40 bytes
    → length view.words.now ≡ 4 * length (integers_of view.words.now)
four_each view bytes spells parts =
    let whole : length bytes ≡ 40 + 4 * length (integers_of view.words.now) + length view.payload.now =
    ap length spells.is ∙ length-spelling (viewed_message view) in
    let split : length view.words.now + length view.payload.now ≡ length bytes - 40 =
    sym (length-append view.words.now view.payload.now) ∙ ap length parts ∙ length-drop 40 bytes in
    omega arith

counted : (bytes n : ℕ) → bytes ≡ 4 * n → n ≤ 16 → min (bytes / 4) 16 ≡ n
counted bytes n four few = omega arith

-- so C is told of the message that was read
pub shows_of : (view : View) (bytes : List ℕ) (coming : Coming) → Spells (viewed_message view) bytes
    → view.words.now ++ view.payload.now ≡ drop 40 bytes → TellsView view coming
    → ShowsOf (viewed_message view) bytes coming
shows_of view bytes coming spells parts told = record {
  from = told.from;
  handler = told.handler;
  category = told.category;
  count = told.count
      ∙ counted (length view.words.now) (length (integers_of view.words.now)) (four_each view bytes spells parts)
      spells.fits.count;
  args = ap integers_of (words_there view.words.now view.payload.now bytes coming.args_at coming.payload_at told.args_at
      told.payload_at parts);
  payload = payload_there view.words.now view.payload.now bytes coming.payload_at told.payload_at parts;
  payload_len = told.payload_len;
  place = told.place;
}

no_some : {X : Type 0} (x : X) → None ≡ Some x → ⊥
no_some x e = cc

-- of bytes that were read, in the version of the endpoint
pub peeks_read : (endpoint : EndpointState) (version : ℕ) (bytes : List ℕ) (coming : Coming) (answer : Delivered)
    (view : View) → endpoint.core.settings.version ≡ version
    → WouldDeliver endpoint bytes answer → IsAnsweredAlways endpoint bytes answer
    → ((message : Message) → message.version ≡ version → Spells message bytes → Shows message (Ok view))
    → None ≡ first_refusal version bytes → Spells (viewed_message view) bytes
    → view.words.now ++ view.payload.now ≡ drop 40 bytes → coming.runs ≡ runs_by answer view.handler
    → TellsView view coming → Peeks endpoint bytes coming
peeks_read endpoint version bytes coming answer view same would agrees only fine spells parts runs told = record {
  answer = answer;
  would = would;
  agrees = agrees;
  runs = λ message of spelled. runs
      ∙ ap (λ (m : Message). runs_by answer m.handler) (only message (of ∙ same) spelled);
  shows = λ message of spelled. subst (λ (m : Message). ShowsOf m bytes coming)
      (only message (of ∙ same) spelled) (shows_of view bytes coming spells parts told);
  unread = λ reason is. absurd (no_some reason
      (fine ∙ ap (λ (number : ℕ). first_refusal number bytes) (sym same) ∙ is));
}

-- of others
pub peeks_unread : (endpoint : EndpointState) (version : ℕ) (bytes : List ℕ) (coming : Coming) (answer : Delivered)
    → endpoint.core.settings.version ≡ version
    → WouldDeliver endpoint bytes answer → IsAnsweredAlways endpoint bytes answer
    → ((message : Message) → message.version ≡ version → Spells message bytes → ⊥) → coming.runs ≡ 0
    → Peeks endpoint bytes coming
peeks_unread endpoint version bytes coming answer same would agrees never runs = record {
  answer = answer;
  would = would;
  agrees = agrees;
  runs = λ message of spelled. absurd (never message (of ∙ same) spelled);
  shows = λ message of spelled. absurd (never message (of ∙ same) spelled);
  unread = λ reason is. runs;
}
