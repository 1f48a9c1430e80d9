use Rattle.text_job.proofs.Refusing.{gives_prefix_found}
use Rattle.text_job.proofs.Meanings.{gives_prefix_one, gives_prefix_meant, gives_prefix_none}
use Rattle.text_job.proofs.OneReason.{gives_prefix_told}
use Rattle.text_job.proofs.reading.read_job_prefix.Goals as goal

pub returns-clause-found : goal.returns-clause-found
returns-clause-found c = gives_prefix_found c.sized_job_at.result c.args.bytes.now c.sized_job_at.ensures

pub returns-clause-one : goal.returns-clause-one
returns-clause-one c = gives_prefix_one c.sized_job_at.result c.args.bytes.now c.sized_job_at.ensures

pub returns-clause-meant : goal.returns-clause-meant
returns-clause-meant c = gives_prefix_meant c.sized_job_at.result c.args.bytes.now c.sized_job_at.ensures

pub returns-clause-none : goal.returns-clause-none
returns-clause-none c = gives_prefix_none c.sized_job_at.result c.args.bytes.now c.sized_job_at.ensures

pub returns-clause-told : goal.returns-clause-told
returns-clause-told c = gives_prefix_told c.sized_job_at.result c.args.bytes.now c.sized_job_at.ensures
