-- What a line is read by, beside its own words.
use Rattle.std.specs.Prelude.{Bool, ◌==◌}
use Rattle.text_calls.specs.declared.scope.Scope.{Scope}

-- the datagrams have the second version
abbrev pub is_second : Scope → Bool
is_second scope = scope.settings.version == 2
