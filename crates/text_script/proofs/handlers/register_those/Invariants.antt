use Rattle.std.proofs.Common.{◌≡◌, length, take}
use Rattle.text_script.specs.Places.{AtRegistering, placing, register_turn}
use Rattle.text_script.proofs.handlers.register_those.Given as goal

-- those of the turn so far are registered
abbrev pub invariant-loop-place : goal.invariant-loop-place
invariant-loop-place l = record {
  at : AtRegistering l.texts (register_turn l.any (take l.place l.texts))
      (placing l.initial.table l.initial.places) (placing l.table l.places);
  long : length l.places ≡ 128;
}
