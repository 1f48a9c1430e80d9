use Rattle.cli_commands.proofs.status.write_status.Goals as goal

pub returns-in-Done : goal.returns-in-Done
returns-in-Done g c = rw c.in-Done.is c.write_named.ensures

pub returns-in-Violations : goal.returns-in-Violations
returns-in-Violations g c = rw c.in-Violations.is c.write_named-in-Violations.ensures

pub returns-in-Usage : goal.returns-in-Usage
returns-in-Usage g c = rw c.in-Usage.is c.write_named-in-Usage.ensures

pub returns-in-BadJob : goal.returns-in-BadJob
returns-in-BadJob g c = rw c.in-BadJob.is c.write_bad_job.ensures

pub returns-in-ReadFault : goal.returns-in-ReadFault
returns-in-ReadFault g c = rw c.in-ReadFault.is c.write_named-in-ReadFault.ensures

pub returns-in-WriteFault : goal.returns-in-WriteFault
returns-in-WriteFault g c = rw c.in-WriteFault.is c.write_named-in-WriteFault.ensures

pub returns-in-NoMemory : goal.returns-in-NoMemory
returns-in-NoMemory g c = rw c.in-NoMemory.is c.write_named-in-NoMemory.ensures

pub returns-in-LinkFault : goal.returns-in-LinkFault
returns-in-LinkFault g c = rw c.in-LinkFault.is c.write_named-in-LinkFault.ensures

pub returns-in-SpawnFault : goal.returns-in-SpawnFault
returns-in-SpawnFault g c = rw c.in-SpawnFault.is c.write_named-in-SpawnFault.ensures

pub returns-in-Stuck : goal.returns-in-Stuck
returns-in-Stuck g c = rw c.in-Stuck.is c.write_named-in-Stuck.ensures

pub returns-in-JournalFull : goal.returns-in-JournalFull
returns-in-JournalFull g c = rw c.in-JournalFull.is c.write_named-in-JournalFull.ensures

pub returns-in-NotARun : goal.returns-in-NotARun
returns-in-NotARun g c = rw c.in-NotARun.is c.write_not_a_run.ensures

pub returns-in-Child : goal.returns-in-Child
returns-in-Child g c = rw c.in-Child.is c.write_child.ensures
