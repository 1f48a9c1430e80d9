-- What the environment sets, by what its variables and files were found to hold.
use Rattle.std.specs.Prelude.{◌≡◌, ◌≢◌, ◌⊎◌, ℕ, List, Bool, false, Option, Some, None, Result, Ok, Err, String, bit_and}
use Rattle.std.specs.Prelude.{codes, is_ok, string_bytes}
use Rattle.std.specs.Str.{trim}
use Rattle.std.specs.Global.{Global}
use Rattle.hex.specs.Hex.{decode_sized}
use Rattle.cli_settings.specs.Settings.{is_one}
use Rattle.cli_settings.specs.declared.environment.KeyFile.{KeyFile}
use Rattle.cli_settings.specs.declared.settings.Refusal.{Refusal}
use Rattle.cli_settings.specs.declared.settings.Refusal.TheVariants.{NoHosts, NoHostsFile, NoKey, NoKeyFile, NoMemory}
use Rattle.cli_settings.specs.declared.settings.Refusal.TheVariants.{OpenKeyFile}

-- what variables were found to hold, by name
abbrev pub Variables : Type 1
Variables = List ℕ → Result (Option (String Global)) Refusal → Type 0

-- what files of hosts were found to have, by path
abbrev pub Texts : Type 1
Texts = List ℕ → Option (String Global) → Type 0

-- what files of keys were found to be, by path
abbrev pub KeyFiles : Type 1
KeyFiles = List ℕ → Option KeyFile → Type 0

-- a text is that of the file of this path, which could be read
abbrev pub FilesText : Texts → List ℕ → Option (String Global) → Type 0
FilesText texts path None = ⊥
FilesText texts path (Some text) = texts path (Some text)

-- a text is that of the file which a variable names, or none is
abbrev pub IsTextOf : Texts → Option (String Global) → Option (String Global) → Type 0
IsTextOf texts None text = text ≡ None
IsTextOf texts (Some path) text = FilesText texts (string_bytes path) text

-- the text of the hosts by the variable of their file
pub record IsHostsFile (sets : Variables) (texts : Texts) (hosts : Option (String Global)) : Type 0 where
  pub path : Option (String Global)
  pub is_path : sets (codes "GASNET_HOSTS_FILE") (Ok path)
  pub is : IsTextOf texts path hosts

-- the text that a variable holds; else that of the file which another names
abbrev pub IsHostsBy : Variables → Texts → Option (String Global) → Option (String Global) → Type 0
IsHostsBy sets texts None hosts = IsHostsFile sets texts hosts
IsHostsBy sets texts (Some text) hosts = hosts ≡ Some text

-- the text of the hosts
pub record IsHosts (sets : Variables) (texts : Texts) (hosts : Option (String Global)) : Type 0 where
  pub own : Option (String Global)
  pub is_own : sets (codes "GASNET_HOSTS") (Ok own)
  pub is : IsHostsBy sets texts own hosts

-- the hosts are those that a text names, else this one
abbrev pub AreHostsOf : {H : Type 0} → (names : List ℕ → Option H → Type 0) → (local : H → Type 0)
    → Option (String Global) → H → Type 0
AreHostsOf names local None hosts = local hosts
AreHostsOf names local (Some text) hosts = names (string_bytes text) (Some hosts)

pub record AreHosts {H : Type 0} (sets : Variables) (texts : Texts) (names : List ℕ → Option H → Type 0)
    (local : H → Type 0) (hosts : H) : Type 0 where
  pub text : Option (String Global)
  pub is_text : IsHosts sets texts text
  pub are : AreHostsOf names local text hosts

-- the variable of the file of hosts can't be used, or the file that it names can't be read
abbrev pub RefusesHostsFile : Variables → Texts → Refusal → Type 0
RefusesHostsFile sets texts why =
    sets (codes "GASNET_HOSTS_FILE") (Err why)
    ⊎ ((path : String Global) × sets (codes "GASNET_HOSTS_FILE") (Ok (Some path)) × texts (string_bytes path) None
    × (why ≡ NoHostsFile))

-- the variable of the hosts can't be used; or it isn't set, and their file can't be used
abbrev pub RefusesHostsText : Variables → Texts → Refusal → Type 0
RefusesHostsText sets texts why =
    sets (codes "GASNET_HOSTS") (Err why)
    ⊎ (sets (codes "GASNET_HOSTS") (Ok None) × RefusesHostsFile sets texts why)

-- the text of the hosts can't be had, or names none; or memory ran out for what it names
abbrev pub RefusesHosts : {H : Type 0} → Variables → Texts → (names : List ℕ → Option H → Type 0) → Refusal → Type 0
RefusesHosts sets texts names why =
    RefusesHostsText sets texts why
    ⊎ (((text : String Global) × IsHosts sets texts (Some text) × names (string_bytes text) None × (why ≡ NoHosts))
    ⊎ ((text : String Global) × IsHosts sets texts (Some text) × (why ≡ NoMemory)))

-- the text of a file of a key, which no other than its owner may use
pub record IsKeyText (files : KeyFiles) (path : List ℕ) (text : String Global) : Type 0 where
  pub mode : ℕ
  pub is_file : files path (Some (record { mode = mode; text = Some text }))
  pub private : bit_and mode 63 ≡ 0

-- the file of a key can't be read, or others than its owner may use it
abbrev pub RefusesKeyText : KeyFiles → List ℕ → Refusal → Type 0
RefusesKeyText files path why =
    (files path None × (why ≡ NoKeyFile))
    ⊎ ((file : KeyFile) × files path (Some file)
    × (((bit_and file.mode 63 ≢ 0) × (why ≡ OpenKeyFile))
    ⊎ ((bit_and file.mode 63 ≡ 0) × (file.text ≡ None) × (why ≡ NoKeyFile))))

-- the bytes of a key are those whose digits its file has between white space
pub record IsKey (files : KeyFiles) (path : List ℕ) (secret : List ℕ) : Type 0 where
  pub text : String Global
  pub is_text : IsKeyText files path text
  pub decodes : decode_sized (trim (string_bytes text)) 32 ≡ Ok secret

-- the text of the file of a key can't be had, or has no digits of a key between white space
abbrev pub RefusesKey : KeyFiles → List ℕ → Refusal → Type 0
RefusesKey files path why =
    RefusesKeyText files path why
    ⊎ ((text : String Global) × IsKeyText files path text
    × (is_ok (decode_sized (trim (string_bytes text)) 32) ≡ false) × (why ≡ NoKey))

-- so for a file which a variable names; else there is no key
abbrev pub IsSecretOf : KeyFiles → Option (String Global) → Option (List ℕ) → Type 0
IsSecretOf files None secret = secret ≡ None
IsSecretOf files (Some path) None = ⊥
IsSecretOf files (Some path) (Some secret) = IsKey files (string_bytes path) secret

pub record IsSecret (sets : Variables) (files : KeyFiles) (secret : Option (List ℕ)) : Type 0 where
  pub path : Option (String Global)
  pub is_path : sets (codes "GASNET_KEY_FILE") (Ok path)
  pub is : IsSecretOf files path secret

-- the variable of the key can't be used, or the file that it names has no key for this user alone
abbrev pub RefusesSecret : Variables → KeyFiles → Refusal → Type 0
RefusesSecret sets files why =
    sets (codes "GASNET_KEY_FILE") (Err why)
    ⊎ ((path : String Global) × sets (codes "GASNET_KEY_FILE") (Ok (Some path))
    × RefusesKey files (string_bytes path) why)

-- whether the steps are told
pub record IsSetOne (sets : Variables) (steps : Bool) : Type 0 where
  pub value : Option (String Global)
  pub is_value : sets (codes "GASNET_STEPS") (Ok value)
  pub is : steps ≡ is_one value

-- the first of the settings that can't be used, in their order
abbrev pub RefusesSettings : Variables → KeyFiles → Refusal → Type 0
RefusesSettings sets files why =
    RefusesSecret sets files why
    ⊎ (((secret : Option (List ℕ)) × IsSecret sets files secret)
    × (sets (codes "GASNET_AGENT") (Err why)
    ⊎ (((agent : Option (String Global)) × sets (codes "GASNET_AGENT") (Ok agent))
    × (sets (codes "GASNET_KEEP") (Err why)
    ⊎ (((folder : Option (String Global)) × sets (codes "GASNET_KEEP") (Ok folder))
    × sets (codes "GASNET_STEPS") (Err why))))))
