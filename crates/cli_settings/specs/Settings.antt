-- What the environment sets, by what the system tells of it.
use Rattle.std.specs.Prelude.{◌≡◌, ℕ, List, Bool, false, Option, Some, None, Result, Ok, Err, String, codes}
use Rattle.std.specs.Prelude.{string_bytes}
use Rattle.std.specs.Global.{Global}
use Rattle.std.specs.Str.{bytes_eq}
use Rattle.std.specs.declared.env.VarError.{VarError}
use Rattle.std.specs.declared.env.VarError.TheVariants as told
use Rattle.cli_settings.specs.declared.settings.Refusal.{Refusal}
use Rattle.cli_settings.specs.declared.settings.Refusal.TheVariants as refused

-- what is told of a refusal
unfoldable pub refusal_text : Refusal → List ℕ
refusal_text refused.NoText = codes "a variable GASNET_.. isn't UTF-8"
refusal_text refused.NoHosts = codes "GASNET_HOSTS or GASNET_HOSTS_FILE has no list of IPv4 and IPv6 addresses"
refusal_text refused.NoHostsFile = codes "the file of GASNET_HOSTS_FILE can't be read"
refusal_text refused.NoKeyFile = codes "the file of GASNET_KEY_FILE can't be read"
refusal_text refused.OpenKeyFile = codes "others than its owner may use the file of GASNET_KEY_FILE"
refusal_text refused.NoKey = codes "the file of GASNET_KEY_FILE isn't 64 hexadecimal digits"
refusal_text refused.NoMemory = codes "memory ran out"

-- the exit status of the program then
abbrev pub refusal_code : Refusal → ℕ
refusal_code refused.NoText = 2
refusal_code refused.NoHosts = 2
refusal_code refused.NoHostsFile = 2
refusal_code refused.NoKeyFile = 2
refusal_code refused.OpenKeyFile = 2
refusal_code refused.NoKey = 2
refusal_code refused.NoMemory = 8

-- the status line then
abbrev pub refusal_line : Refusal → List ℕ
refusal_line refused.NoText = codes "status 2 usage"
refusal_line refused.NoHosts = codes "status 2 usage"
refusal_line refused.NoHostsFile = codes "status 2 usage"
refusal_line refused.NoKeyFile = codes "status 2 usage"
refusal_line refused.OpenKeyFile = codes "status 2 usage"
refusal_line refused.NoKey = codes "status 2 usage"
refusal_line refused.NoMemory = codes "status 8 no-memory"

-- what a variable holds, by what was told of it
abbrev pub IsValue : Result (String Global) VarError → Result (Option (String Global)) Refusal → Type 0
IsValue (Ok text) value = value ≡ Ok (Some text)
IsValue (Err told.NotPresent) value = value ≡ Ok None
IsValue (Err told.NotUnicode) value = value ≡ Err refused.NoText
IsValue (Err told.OutOfMemory) value = value ≡ Err refused.NoMemory

-- a variable is 1
abbrev pub is_one : Option (String Global) → Bool
is_one (Some text) = bytes_eq (string_bytes text) (codes "1")
is_one None = false
