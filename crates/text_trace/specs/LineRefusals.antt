-- What a refusal of a text of lines means, apart from its reader.
use Rattle.std.specs.Prelude.{◌≡◌, ◌⊎◌, ℕ, suc, List, [], ◌∷◌, ◌++◌, length, Result, Ok, Err}
use Rattle.std.specs.List.{AllByRecursion}
use Rattle.text_trace.specs.declared.fault.TraceFault.{TraceFault}
use Rattle.text_trace.specs.declared.fault.TraceFault.TheVariants.{Bad, NoMemory}
use Rattle.base_text.specs.declared.why.LineWhy.{LineWhy}
use Rattle.base_text.specs.declared.why.LineWhy.TheVariants.{Early, Text, Form, Value}
use Rattle.base_text.specs.LineTexts.{Line, IsLine, line_text, spell}

-- texts of one kind: what they are of, and the text of each; and of a line behind others, whether it has a form of its
-- place, and whether it may stand there in a text of the kind
pub record TextKind (A : Type 0) : Type 1 where
  pub IsOne : A → Type 0
  pub text_of : A → List ℕ
  pub HasForm : (before : List Line) → Line → Type 0
  pub MayStand : (before : List Line) → Line → Type 0

-- some text of the kind begins with the bytes, and goes on behind them
pub record IsPrefix {A : Type 0} (kind : TextKind A) (bytes : List ℕ) : Type 0 where
  pub one : A
  pub more : List ℕ
  pub is : kind.IsOne one
  pub text : kind.text_of one ≡ bytes ++ more
  pub goes_on : more ≡ [] → ⊥

-- no text of the kind begins with the bytes
abbrev pub IsNoPrefix : {A : Type 0} → TextKind A → List ℕ → Type 0
IsNoPrefix {A} kind bytes = (one : A) (more : List ℕ) → kind.IsOne one → kind.text_of one ≡ bytes ++ more → ⊥

-- the lines before the one of this number, and the bytes from it on
pub record Before (bytes : List ℕ) (line : ℕ) : Type 0 where
  pub lines : List Line
  pub rest : List ℕ
  pub are : AllByRecursion IsLine lines
  pub text : bytes ≡ spell lines ++ rest
  pub count : line ≡ suc (length lines)

-- the bytes end behind the beginning of a text
pub record EndsEarly {A : Type 0} (kind : TextKind A) (bytes : List ℕ) (line : ℕ) : Type 0 where
  pub before : Before bytes line
  pub prefix : IsPrefix kind (spell before.lines)
  pub none : before.rest ≡ []

-- the line isn't one of words, behind the beginning of a text
pub record HasNoText {A : Type 0} (kind : TextKind A) (bytes : List ℕ) (line : ℕ) : Type 0 where
  pub before : Before bytes line
  pub prefix : IsPrefix kind (spell before.lines)
  pub some : before.rest ≡ [] → ⊥
  pub no_text : (words : Line) (more : List ℕ) → IsLine words → before.rest ≡ line_text words ++ more → ⊥

-- what is wrong with the words of a line behind others
abbrev pub IsAtFault : {A : Type 0} → TextKind A → LineWhy → (before : List Line) → Line → Type 0
IsAtFault kind Form before words = kind.HasForm before words → ⊥
IsAtFault kind Value before words = kind.HasForm before words × (kind.MayStand before words → ⊥)
IsAtFault kind why before words = ⊥

-- the lines before this one begin some text, those with it begin none, and this is wrong with it
pub record IsWrong {A : Type 0} (kind : TextKind A) (bytes : List ℕ) (line : ℕ) (why : LineWhy) : Type 0 where
  pub before : Before bytes line
  pub prefix : IsPrefix kind (spell before.lines)
  pub words : Line
  pub are : IsLine words
  pub more : List ℕ
  pub text : before.rest ≡ line_text words ++ more
  pub none : IsNoPrefix kind (spell (before.lines ++ words ∷ []))
  pub fault : IsAtFault kind why before.lines words

-- what a refusal at a line means
abbrev pub Means : {A : Type 0} → TextKind A → List ℕ → (line : ℕ) → LineWhy → Type 0
Means kind bytes line Early = EndsEarly kind bytes line
Means kind bytes line Text = HasNoText kind bytes line
Means kind bytes line why = IsWrong kind bytes line why

-- a refusal means that, unless memory ran out
abbrev pub IsMeant : {A : Type 0} → TextKind A → List ℕ → TraceFault → Type 0
IsMeant kind bytes NoMemory = Unit {0}
IsMeant kind bytes (Bad line why) = Means kind bytes line why

-- memory ran out
abbrev pub IsNoMemory : TraceFault → Type 0
IsNoMemory NoMemory = Unit {0}
IsNoMemory (Bad line why) = ⊥

-- this line and this reason are told, unless memory ran out
abbrev pub IsTold : {R : Type 0} → Result R TraceFault → (line : ℕ) → LineWhy → Type 0
IsTold (Ok read) line why = ⊥
IsTold (Err fault) line why = IsNoMemory fault ⊎ (fault ≡ Bad line why)
