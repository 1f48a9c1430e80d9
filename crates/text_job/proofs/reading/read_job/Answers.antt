use Rattle.text_job.proofs.Refusing.{gives_found}
use Rattle.text_job.proofs.Meanings.{gives_one, gives_meant, gives_none}
use Rattle.text_job.proofs.OneReason.{gives_told}
use Rattle.text_job.proofs.reading.read_job.Goals as goal

pub returns-clause-found : goal.returns-clause-found
returns-clause-found c = gives_found c.job_at.result c.args.bytes.now c.job_at.ensures

pub returns-clause-one : goal.returns-clause-one
returns-clause-one c = gives_one c.job_at.result c.args.bytes.now c.job_at.ensures

pub returns-clause-meant : goal.returns-clause-meant
returns-clause-meant c = gives_meant c.job_at.result c.args.bytes.now c.job_at.ensures

pub returns-clause-none : goal.returns-clause-none
returns-clause-none c = gives_none c.job_at.result c.args.bytes.now c.job_at.ensures

pub returns-clause-told : goal.returns-clause-told
returns-clause-told c = gives_told c.job_at.result c.args.bytes.now c.job_at.ensures
