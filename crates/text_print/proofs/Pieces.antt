-- What is left of a text begins with the piece that is written next.
use Rattle.std.proofs.Common.{◌≡◌, ℕ, ◌+◌, ◌<◌, List, [], ◌∷◌, ◌++◌, length, map, drop, get_or, refl, sym, ap, ◌∙◌}
use Rattle.std.proofs.Common.{append_assoc, append-nil, codes, decimal, Option, Some}
use Rattle.std.specs.List.{flat_map}
use Rattle.std.proofs.lemmas.List.{drop_more}
use Rattle.std.proofs.lemmas.List.Concat.{flat_map-append}
use Rattle.text_job.specs.JobText.{Line, handler_lines, head_lines, job_text, lines_with_collect, pair_line}
use Rattle.text_job.specs.JobText.{schedule_lines, script_lines}
use Rattle.text_job.specs.JobText.{atomics_lines, collect_lines, spell}
use Rattle.text_job.specs.Places.{collect_text}
use Rattle.text_job.specs.declared.job.CollectArea.{CollectArea}
use Rattle.text_job.specs.declared.job.Job.{Job}
use Rattle.node_vis.specs.declared.shapes.Level.{Level}
use Rattle.node_vis.specs.declared.shapes.Way.{Way}
use Rattle.node_vis.specs.declared.shapes.Way.TheVariants.{Put, Get}
use Rattle.text_calls.specs.Forms.{Spans, Strides, bundle_text, entry_text, none_text}
use Rattle.text_vis.specs.VisLines.{entry_by}
use Rattle.text_vis.specs.declared.vis.VisShape.TheVariants as shapes
use Rattle.text_print.specs.Writing.{indexed_name, spaced_word, strided_name, word_bytes, words_then}
use Rattle.text_print.specs.declared.words.Word.{Word}
use Rattle.text_print.specs.declared.words.Word.TheVariants as word

-- the lines `end` and `done`
abbrev pub end_line : List ℕ
end_line = 101 ∷ 110 ∷ 100 ∷ 10 ∷ []

abbrev pub last_line : List ℕ
last_line = 100 ∷ 111 ∷ 110 ∷ 101 ∷ 10 ∷ []

-- the line of collectives, where there is one
pub collect_parts : (found : Option CollectArea) (area : CollectArea) → found ≡ Some area
    → spell (collect_lines found) ≡ collect_text area ++ 10 ∷ []
collect_parts found area is =
    ap (λ (o : Option CollectArea). spell (collect_lines o)) is ∙ append-nil (collect_text area ++ 10 ∷ [])

-- a space and the next word
pub next_spaced : {A : Type 0} (text : A → List ℕ) (words : List A) (i : ℕ) (d : A) → i < length words
    → flat_map (λ word. 32 ∷ text word) (drop i words)
    ≡ (32 ∷ []) ++ (text (get_or words i d) ++ flat_map (λ word. 32 ∷ text word) (drop (i + 1) words))
next_spaced {A} text words i d low =
    ap (λ (left : List A). flat_map (λ word. 32 ∷ text word) left) (drop_more words i d low)

pub next_spaced_item : {A : Type 0} (text : A → List ℕ) (words : List A) (i : ℕ) (item : A) → i < length words
    → item ≡ get_or words i item
    → flat_map (λ word. 32 ∷ text word) (drop i words)
    ≡ (32 ∷ []) ++ (text item ++ flat_map (λ word. 32 ∷ text word) (drop (i + 1) words))
next_spaced_item {A} text words i item low is =
    next_spaced text words i item low
    ∙ ap (λ (x : A). (32 ∷ []) ++ (text x ++ flat_map (λ word. 32 ∷ text word) (drop (i + 1) words))) (sym is)

-- the next line, and byte 10
pub next_line_at : {A : Type 0} (text : A → Line) (items : List A) (i : ℕ) (d : A) → i < length items
    → spell (map text (drop i items))
    ≡ text (get_or items i d) ++ ((10 ∷ []) ++ spell (map text (drop (i + 1) items)))
next_line_at {A} text items i d low =
    ap (λ (left : List A). spell (map text left)) (drop_more items i d low)
    ∙ append_assoc (text (get_or items i d)) (10 ∷ []) (spell (map text (drop (i + 1) items)))

pub next_line : {A : Type 0} (text : A → Line) (items : List A) (i : ℕ) (item : A) → i < length items
    → item ≡ get_or items i item
    → spell (map text (drop i items)) ≡ text item ++ ((10 ∷ []) ++ spell (map text (drop (i + 1) items)))
next_line {A} text items i item low is =
    next_line_at text items i item low
    ∙ ap (λ (x : A). text x ++ ((10 ∷ []) ++ spell (map text (drop (i + 1) items)))) (sym is)

-- the next lines
pub next_part : {A : Type 0} (lines : A → List Line) (items : List A) (i : ℕ) (item : A) → i < length items
    → item ≡ get_or items i item
    → spell (flat_map lines (drop i items)) ≡ spell (lines item) ++ spell (flat_map lines (drop (i + 1) items))
next_part {A} lines items i item low is =
    ap (λ (left : List A). spell (flat_map lines left)) (drop_more items i item low)
    ∙ flat_map-append (λ (line : Line). line ++ 10 ∷ []) (lines (get_or items i item))
    (flat_map lines (drop (i + 1) items))
    ∙ ap (λ (x : A). spell (lines x) ++ spell (flat_map lines (drop (i + 1) items))) (sym is)

-- the next item
pub next_text : {A : Type 0} (text : A → List ℕ) (items : List A) (i : ℕ) (default : A) → i < length items
    → flat_map text (drop i items) ≡ text (get_or items i default) ++ flat_map text (drop (i + 1) items)
next_text {A} text items i default low = ap (λ (left : List A). flat_map text left) (drop_more items i default low)

-- words, and what stands behind them
pub words_parts : (words : List Word) (bytes : List ℕ) → words_then words bytes ≡ flat_map spaced_word words ++ bytes
words_parts [] bytes = refl
words_parts (word ∷ words) bytes =
    ap (λ (rest : List ℕ). 32 ∷ (word_bytes word ++ rest)) (words_parts words bytes)
    ∙ ap (λ (rest : List ℕ). 32 ∷ rest) (sym (append_assoc (word_bytes word) (flat_map spaced_word words) bytes))

-- two words, and what stands behind them
two_then : (one two rest : List ℕ) → one ++ (32 ∷ (two ++ rest)) ≡ (one ++ (32 ∷ (two ++ []))) ++ rest
two_then one two rest =
    sym (append_assoc one (32 ∷ (two ++ [])) rest ∙ ap (λ (x : List ℕ). one ++ (32 ∷ (x ++ rest))) (append-nil two))

-- the word `call` with a node and a thread, and what stands behind them
pub call_parts : (node thread : ℕ) (text : List ℕ)
    → codes "call" ++ (32 ∷ (decimal node ++ (32 ∷ (decimal thread ++ (32 ∷ text)))))
    ≡ (codes "call" ++ (32 ∷ (decimal node ++ (32 ∷ (decimal thread ++ []))))) ++ ((32 ∷ []) ++ text)
call_parts node thread text =
    ap (λ (x : List ℕ). codes "call" ++ (32 ∷ x)) (two_then (decimal node) (decimal thread) (32 ∷ text))

-- a line, other lines, and the line `end`
pub section_parts : (first : Line) (lines : List Line)
    → spell (first ∷ (lines ++ codes "end" ∷ [])) ≡ (first ++ 10 ∷ []) ++ (spell lines ++ end_line)
section_parts first lines =
    ap (λ (rest : List ℕ). (first ++ 10 ∷ []) ++ rest)
    (flat_map-append (λ (line : Line). line ++ 10 ∷ []) lines (codes "end" ∷ []))

-- lines, and one more
pub one_more : (lines : List Line) (last : Line) → spell (lines ++ last ∷ []) ≡ spell lines ++ (last ++ 10 ∷ [])
one_more lines last =
    flat_map-append (λ (line : Line). line ++ 10 ∷ []) lines (last ∷ [])
    ∙ ap (λ (rest : List ℕ). spell lines ++ rest) (append-nil (last ++ 10 ∷ []))

-- lines, and other ones behind them
both : (prefix back : List Line) → spell (prefix ++ back) ≡ spell prefix ++ spell back
both prefix back = flat_map-append (λ (line : Line). line ++ 10 ∷ []) prefix back

both_then : (prefix back : List Line) (rest : List ℕ)
    → spell (prefix ++ back) ++ rest ≡ spell prefix ++ (spell back ++ rest)
both_then prefix back rest =
    ap (λ (text : List ℕ). text ++ rest) (both prefix back) ∙ append_assoc (spell prefix) (spell back) rest

head_parts : (head pairs atomics collect : List Line) (rest : List ℕ)
    → spell (((head ++ pairs) ++ atomics) ++ collect) ++ rest
    ≡ spell head ++ (spell pairs ++ (spell atomics ++ (spell collect ++ rest)))
head_parts head pairs atomics collect rest =
    both_then ((head ++ pairs) ++ atomics) collect rest
    ∙ both_then (head ++ pairs) atomics (spell collect ++ rest)
    ∙ both_then head pairs (spell atomics ++ (spell collect ++ rest))

tail_parts : (prefix handlers scripts schedule : List Line)
    → spell (((prefix ++ handlers) ++ scripts) ++ (schedule ++ codes "done" ∷ []))
    ≡ spell prefix ++ (spell handlers ++ (spell scripts ++ (spell schedule ++ last_line)))
tail_parts prefix handlers scripts schedule =
    let rest = spell (schedule ++ codes "done" ∷ []) in
    both ((prefix ++ handlers) ++ scripts) (schedule ++ codes "done" ∷ [])
    ∙ both_then (prefix ++ handlers) scripts rest
    ∙ both_then prefix handlers (spell scripts ++ rest)
    ∙ ap (λ (text : List ℕ). spell prefix ++ (spell handlers ++ (spell scripts ++ text)))
    (both schedule (codes "done" ∷ []))

-- the parts of a job's text
pub text_parts : (job : Job) → job_text job
    ≡ spell (head_lines job) ++ (spell (map pair_line job.settings.pairs) ++ (spell (atomics_lines job.atomics)
    ++ (spell (collect_lines job.collect) ++ (spell (flat_map handler_lines job.handlers)
    ++ (spell (flat_map script_lines job.scripts) ++ (spell (schedule_lines job.settings job.schedule) ++ last_line))))))
text_parts job =
    tail_parts (lines_with_collect job) (flat_map handler_lines job.handlers) (flat_map script_lines job.scripts)
    (schedule_lines job.settings job.schedule)
    ∙ head_parts (head_lines job) (map pair_line job.settings.pairs) (atomics_lines job.atomics)
    (collect_lines job.collect) (spell (flat_map handler_lines job.handlers)
    ++ (spell (flat_map script_lines job.scripts) ++ (spell (schedule_lines job.settings job.schedule) ++ last_line)))

-- ---- lines that begin transfers of many pieces

-- the words of such a line, by its name
abbrev pub strided_words : (register from to remote local len : ℕ) → List Word
strided_words register from to remote local len = word.U8 register ∷ word.U16 from ∷ word.U16 to ∷ word.U64 remote
    ∷ word.U64 local ∷ word.U64 len ∷ []

pub strided_parts : (way : Way) (register from to remote local len : ℕ) (levels : List Level)
    → entry_text none_text (entry_by way (shapes.Strided remote local len levels) register from to)
    ≡ strided_name way ++ words_then (strided_words register from to remote local len)
    (flat_map (bundle_text Strides) levels)
strided_parts Put register from to remote local len levels = refl
strided_parts Get register from to remote local len levels = refl

abbrev pub indexed_words : (register from to count : ℕ) → List Word
indexed_words register from to count =
    word.U8 register ∷ word.U16 from ∷ word.U16 to ∷ word.U64 count ∷ []

pub indexed_parts : (way : Way) (register from to : ℕ) (remote local : List (ℕ × ℕ))
    → entry_text none_text (entry_by way (shapes.Indexed remote local) register from to)
    ≡ indexed_name way ++ words_then (indexed_words register from to (length remote))
    (flat_map (bundle_text Spans) remote ++ flat_map (bundle_text Spans) local)
indexed_parts Put register from to remote local = refl
indexed_parts Get register from to remote local = refl
