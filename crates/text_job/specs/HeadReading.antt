-- Reading the head of a job: the lines of a name and a number, and the sieve.
use Rattle.std.specs.Prelude.{ℕ, List, [], ◌∷◌, Option, Some, None, Result, Ok, Err, Bool, true, false}
use Rattle.wire_message.specs.Parameters.{Parameters}
use Rattle.base_text.specs.Chains.{◌>>=◌}
use Rattle.base_text.specs.Lines.{Word}
use Rattle.base_text.specs.Lines as options
use Rattle.text_calls.specs.Forms.{table_at, none_at, if_passes}
use Rattle.text_calls.specs.FormTests.{table_form}
use Rattle.base_text.specs.Reasons.{reason}
use Rattle.text_job.specs.Places.{Setting, Version, Nodes, Credits, Threads, Segment, Last, Resend, Patience}
use Rattle.text_job.specs.Places as places
use Rattle.text_job.specs.Places.{setting_name, least, greatest, setting_fits, number_row, sieve_row}
use Rattle.text_job.specs.JobReading.{BadLine, least_job, item_of_line}
use Rattle.base_text.specs.declared.why.LineWhy.{LineWhy}
use Rattle.text_job.specs.declared.job.Job.{Job}
use Rattle.text_job.specs.declared.job.SieveRule.{SieveRule}

-- what was found in a line, or why it wasn't
abbrev pub found_in_line : {A : Type 0} → (line : ℕ) → LineWhy → Option A → Result A BadLine
found_in_line line why None = Err (record { line = line; why = why })
found_in_line line why (Some x) = Ok x

-- a number of this name and range, and the bytes after its line
unfoldable pub number_line : Word → (low high : ℕ) → List ℕ → Option (ℕ × List ℕ)
number_line name low high bytes = item_of_line (table_at none_at (number_row name low high ∷ []) (λ number. true)) bytes

-- a line of a name and a number: from `low` to `high`, and such that it fits
pub record NumberForm : Type 0 where
  pub name : Word
  pub low : ℕ
  pub high : ℕ
  pub fits : ℕ → Bool

-- any number of a range
abbrev pub in_range : Word → (low high : ℕ) → NumberForm
in_range name low high = record { name = name; low = low; high = high; fits = λ number. true }

-- the number of a setting behind these
abbrev pub setting_form : Setting → Parameters → NumberForm
setting_form setting settings = record {
  name = setting_name setting;
  low = least setting;
  high = greatest setting;
  fits = setting_fits setting settings;
}

-- the nodes of a version, and the credits and the segment of so many nodes
abbrev pub nodes_form : (version : ℕ) → NumberForm
nodes_form version = setting_form Nodes (record least_job.settings { version = version })

abbrev pub credits_form : (nodes : ℕ) → NumberForm
credits_form nodes = setting_form Credits (record least_job.settings { nodes = nodes })

abbrev pub segment_form : (nodes : ℕ) → NumberForm
segment_form nodes = setting_form Segment (record least_job.settings { nodes = nodes })

-- a number of the form, and the bytes after its line
unfoldable pub fitting_line : NumberForm → List ℕ → Option (ℕ × List ℕ)
fitting_line form bytes = options.◌>>=◌ (number_line form.name form.low form.high bytes) (if_passes form.fits)

-- the reason where there is none
unfoldable pub number_why : Word → List ℕ → LineWhy
number_why name bytes = reason (table_form (λ b. false) (number_row name 0 0 ∷ [])) bytes

-- the number, or the reason
unfoldable pub number_from : NumberForm → (line : ℕ) → List ℕ → Result (ℕ × List ℕ) BadLine
number_from form line bytes = found_in_line line (number_why form.name bytes) (fitting_line form bytes)

-- the line of the sieve
unfoldable pub sieve_line : List ℕ → Option (SieveRule × List ℕ)
sieve_line bytes = item_of_line (table_at none_at (sieve_row ∷ []) (λ rule. true)) bytes

-- the reason where there is none
unfoldable pub sieve_why : List ℕ → LineWhy
sieve_why bytes = reason (table_form (λ b. false) (sieve_row ∷ [])) bytes

-- the ten lines of the head
unfoldable pub head_at : List ℕ → Result (Job × List ℕ) BadLine
head_at bytes = do
  version ← number_from (in_range (setting_name Version) 1 2) 1 bytes
  job ← number_from (in_range (setting_name places.Job) 0 (greatest places.Job)) 2 version.1
  nodes ← number_from (nodes_form version.0) 3 job.1
  credits ← number_from (credits_form nodes.0) 4 nodes.1
  threads ← number_from (in_range (setting_name Threads) 1 16) 5 credits.1
  segment ← number_from (segment_form nodes.0) 6 threads.1
  last ← number_from (in_range (setting_name Last) 1 (greatest Last)) 7 segment.1
  resend ← number_from (in_range (setting_name Resend) 1 1000000) 8 last.1
  patience ← number_from (in_range (setting_name Patience) 1 1000000) 9 resend.1
  rule ← found_in_line 10 (sieve_why patience.1) (sieve_line patience.1)
  Ok (
    record {
      settings = record {
        version = version.0;
        job = job.0;
        nodes = nodes.0;
        credits = credits.0;
        pairs = [];
        threads = threads.0;
        segment = segment.0;
        last = last.0;
        resend = resend.0;
      };
      patience = patience.0;
      sieve = rule.0;
      atomics = false;
      collect = None;
      handlers = [];
      scripts = [];
      schedule = None;
    },
    rule.1,
  )
