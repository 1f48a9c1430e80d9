use Rattle.std.proofs.Common.{refl, []}
use Rattle.text_job.specs.Places.{Setting, Version, Nodes, Credits, Threads, Segment, Last, Resend, Patience}
use Rattle.text_job.specs.Places as places
use Rattle.text_job.specs.JobReading.{least_job}
use Rattle.text_job.specs.JobText.{setting_number}
use Rattle.text_job.specs.declared.job.Job.{Job}
use Rattle.text_job.proofs.Ranges.{AreNumbers, IsNumber, settings_range}
use Rattle.text_job.proofs.head.head_at.Goals as goal

pub returns-in-None-clause-value : goal.returns-in-None-clause-value
returns-in-None-clause-value c =
    let job : Job = record least_job {
      settings = record {
        version = c.in_ok-version.version;
        job = c.in_ok-job.job;
        nodes = c.in_ok-nodes.nodes;
        credits = c.in_ok-credits.credits;
        pairs = [];
        threads = c.in_ok-threads.threads;
        segment = c.in_ok-segment.segment;
        last = c.in_ok-last.last;
        resend = c.in_ok-resend.resend;
      };
      patience = c.in_ok-patience.patience;
    } in
    let all : AreNumbers job = λ setting. elim setting as (λ s. IsNumber s job.settings (setting_number s job)) [
      | Version ↦ record { low = c.in_ok-version.ensures.range.0; high = c.in_ok-version.ensures.range.1; fits = refl }
      | places.Job ↦ record { low = c.in_ok-job.ensures.range.0; high = c.in_ok-job.ensures.range.1; fits = refl }
      | Nodes ↦ record {
        low = c.in_ok-nodes.ensures.range.0;
        high = c.in_ok-nodes.ensures.range.1;
        fits = c.in_ok-nodes.ensures.few;
      }
      | Credits ↦ record {
        low = c.in_ok-credits.ensures.range.0;
        high = c.in_ok-credits.ensures.range.1;
        fits = c.in_ok-credits.ensures.few;
      }
      | Threads ↦ record { low = c.in_ok-threads.ensures.range.0; high = c.in_ok-threads.ensures.range.1; fits = refl }
      | Segment ↦ record {
        low = c.in_ok-segment.ensures.range.0;
        high = c.in_ok-segment.ensures.range.1;
        fits = c.in_ok-segment.ensures.few;
      }
      | Last ↦ record { low = c.in_ok-last.ensures.range.0; high = c.in_ok-last.ensures.range.1; fits = refl }
      | Resend ↦ record { low = c.in_ok-resend.ensures.range.0; high = c.in_ok-resend.ensures.range.1; fits = refl }
      | Patience ↦ record {
        low = c.in_ok-patience.ensures.range.0;
        high = c.in_ok-patience.ensures.range.1;
        fits = refl;
      }
    ] in
    absurd (c.in-None.ensures (settings_range job refl all))
