-- One entry more.
use Rattle.std.proofs.Common.{◌≡◌, ℕ, List, [], ◌∷◌, ◌++◌, Option, refl, sym, ap, ◌∙◌, subst}
use Rattle.std.proofs.lemmas.List.{append-nil, append_assoc}
use Rattle.std.specs.Option.{option_to_list}
use Rattle.base_turns.specs.declared.entry.Entry.{Entry}
use Rattle.base_turns.specs.declared.turns.Machine.{Ghosts}
use Rattle.base_turns.specs.Replay.{Steps, steps_of, after_entry, replay_state, got_in, given_by, sent_in, StandsFor}

pub replayed-push : {State : Type 0} (s : Steps State) (state : State) (entries : List Entry) (last : Entry)
    → replay_state s state (entries ++ last ∷ []) ≡ after_entry s (replay_state s state entries) last
replayed-push s state [] last = refl
replayed-push s state (e ∷ es) last = replayed-push s (after_entry s state e) es last

pub sent_in-push : {State : Type 0} (s : Steps State) (state : State) (entries : List Entry) (last : Entry)
    → sent_in s state (entries ++ last ∷ []) ≡ sent_in s state entries ++ given_by s (replay_state s state entries) last
sent_in-push s state [] last = append-nil (given_by s state last)
sent_in-push s state (e ∷ es) last =
    ap (λ xs. given_by s state e ++ xs) (sent_in-push s (after_entry s state e) es last)
    ∙ sym (append_assoc (given_by s state e) (sent_in s (after_entry s state e) es)
    (given_by s (replay_state s (after_entry s state e) es) last))

pub got_in-push : (entries : List Entry) (last : Entry)
    → got_in (entries ++ last ∷ []) ≡ got_in entries ++ option_to_list last.got
got_in-push [] last = append-nil (option_to_list last.got)
got_in-push (e ∷ es) last =
    ap (λ xs. option_to_list e.got ++ xs) (got_in-push es last)
    ∙ sym (append_assoc (option_to_list e.got) (got_in es) (option_to_list last.got))

-- after one turn more the machine stands for the replay of one entry more
pub stands_push : {M : Type 0} (g : Ghosts M) (first old new : M) (entries more : List Entry) (last : Entry)
    (got : Option (List ℕ))
    → more ≡ entries ++ last ∷ [] → got ≡ last.got
    → ((r : g.State) → g.stands old r → g.stands new (g.after r last.thread last.now got))
    → StandsFor g first entries old → StandsFor g first more new
stands_push g first old new entries more last got is_more same after stood r s =
    subst (g.stands new)
    (ap (g.after (replay_state (steps_of g) r entries) last.thread last.now) same
    ∙ (sym (replayed-push (steps_of g) r entries last) ∙ ap (replay_state (steps_of g) r) (sym is_more)))
    (after (replay_state (steps_of g) r entries) (stood r s))
