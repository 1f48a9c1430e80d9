-- One turn more of a replay, and one datagram more.
use Rattle.std.proofs.Common.{◌≡◌, ℕ, ◌+◌, List, [], ◌∷◌, ◌++◌, length, take, sym, ap, ◌∙◌, arith}
use Rattle.std.proofs.Common.{Some, None, slice_get, take_all, inl, inr}
use Rattle.std.proofs.lemmas.List.{append-nil, append_assoc, map-append, take_more}
use Rattle.std.proofs.lemmas.Option.{get_or_from_slice_get, slice_get_cases, slice_get_within}
use Rattle.base_turns.specs.Replay.{Steps, after_entry, given_by, replay_state}
use Rattle.base_turns.specs.declared.entry.Entry.{Entry}
use Rattle.text_trace.specs.Sending.{numbered_sends, sent_from}
use Rattle.text_trace.specs.declared.sent.Sent.{Sent}

pub sent_from-push : {State : Type 0} (steps : Steps State) (state : State) (number : ℕ) (entries : List Entry)
    (last : Entry) (place : ℕ) → place ≡ number + length entries
    → sent_from steps state number (entries ++ last ∷ [])
    ≡ sent_from steps state number entries ++ numbered_sends place (given_by steps (replay_state steps state entries) last)
sent_from-push steps state number [] last place is =
    append-nil (numbered_sends number (given_by steps state last))
    ∙ ap (λ n. numbered_sends n (given_by steps state last)) (omega (arith, is))
sent_from-push steps state number (entry ∷ entries) last place is =
    let next = after_entry steps state entry in
    let given = numbered_sends number (given_by steps state entry) in
    ap (λ (more : List Sent). given ++ more)
    (sent_from-push steps next (number + 1) entries last place (omega (arith, is)))
    ∙ sym (append_assoc given (sent_from steps next (number + 1) entries)
    (numbered_sends place (given_by steps (replay_state steps next entries) last)))

pub taken_next : {A : Type 0} (xs : List A) (place : ℕ) (x : A) → slice_get xs place ≡ Some x
    → take (place + 1) xs ≡ take place xs ++ x ∷ []
taken_next xs place x at =
    take_more xs place x (slice_get_within xs place x at)
    ∙ ap (λ one. take place xs ++ one ∷ []) (get_or_from_slice_get xs place x x at)

taken_past : {A : Type 0} (xs : List A) (place : ℕ) → slice_get xs place ≡ None → take (place + 1) xs ≡ take place xs
taken_past xs place none = elim (slice_get_cases xs place).1 [
  | inl found ↦ let is = found.2 in absurd (cc)
  | inr past ↦
      let low = past.0 in
      take_all (place + 1) xs (omega (arith, low)) ∙ sym (take_all place xs low)
]

abbrev made_of : (number : ℕ) → ℕ × List ℕ → Sent
made_of number one = record { entry = number; to = one.0; bytes = one.1 }

-- one datagram more was kept
pub kept_more : (number place : ℕ) (datagrams : List (ℕ × List ℕ)) (before now : List Sent) (one : ℕ × List ℕ)
    → slice_get datagrams place ≡ Some one
    → now ≡ before ++ record { entry = number; to = one.0; bytes = one.1 } ∷ []
    → (first : List Sent) → before ≡ first ++ numbered_sends number (take place datagrams)
    → now ≡ first ++ numbered_sends number (take (place + 1) datagrams)
kept_more number place datagrams before now one at is first so_far =
    let this : Sent = record { entry = number; to = one.0; bytes = one.1 } in
    is ∙ ap (λ (all : List Sent). all ++ this ∷ []) so_far
    ∙ append_assoc first (numbered_sends number (take place datagrams)) (this ∷ [])
    ∙ ap (λ (all : List Sent). first ++ all)
    (sym (ap (numbered_sends number) (taken_next datagrams place one at)
    ∙ map-append (made_of number) (take place datagrams) (one ∷ [])))

-- there was none
pub kept_all : (number place : ℕ) (datagrams : List (ℕ × List ℕ)) (now first : List Sent)
    → slice_get datagrams place ≡ None → now ≡ first ++ numbered_sends number (take place datagrams)
    → now ≡ first ++ numbered_sends number (take (place + 1) datagrams)
kept_all number place datagrams now first none so_far =
    so_far ∙ ap (λ (all : List (ℕ × List ℕ)). first ++ numbered_sends number all)
    (sym (taken_past datagrams place none))
