-- One datagram more, or none.
use Rattle.std.proofs.Common.{ℕ, List, Vec, Global, ◌++◌, ◌∷◌, [], sym, ap, ◌∙◌}
use Rattle.std.specs.Option.{option_map}
use Rattle.text_trace.proofs.Turns.{kept_all, kept_more}
use Rattle.text_trace.specs.declared.sent.Sent.{Sent}
use Rattle.text_trace.proofs.sent.keep_sent.Goals as goal
use Rattle.text_trace.proofs.sent.keep_sent.Goals.{in-Some+in_ok-to_vec+in_ok-push, in_default}

pub loop-i-preserved : goal.loop-i-preserved
loop-i-preserved g c = λ state stands. elim c.match-outgoing.branch [
  | in-Some+in_ok-to_vec+in_ok-push w ↦
      let told = sym (c.outgoing.ensures state stands) ∙ ap (option_map (λ p. (p.0, p.1.now))) w.in-Some.is in
      let bytes = w.of-bytes.ensures ∙ w.in_ok-to_vec.ensures.items_if_clones_equal (λ x y e. e) in
      kept_more c.args.entry c.loop-i.i (g.M.Machine.sent state) c.loop-i.sent.items c.match-outgoing.sent.items
      (w.in-Some.to, w.in-Some.bytes.now) told
      (ap (λ (it : Vec Sent Global). it.items) w.sent-is ∙ w.in_ok-push.ensures.items
      ∙ ap (λ (all : List ℕ). c.loop-i.sent.items ++ record { entry = c.args.entry; to = w.in-Some.to; bytes = all } ∷ [])
      bytes)
      c.args.sent.now.items (c.loop-i.invariant state stands)
  | in_default w ↦
      let told = sym (c.outgoing.ensures state stands) ∙ ap (option_map (λ p. (p.0, p.1.now))) w.in_default.is in
      kept_all c.args.entry c.loop-i.i (g.M.Machine.sent state) c.match-outgoing.sent.items c.args.sent.now.items told
      (ap (λ (it : Vec Sent Global). it.items) w.sent-is ∙ c.loop-i.invariant state stands)
]
