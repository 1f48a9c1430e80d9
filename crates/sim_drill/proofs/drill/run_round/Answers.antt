use Rattle.std.proofs.Common.{arith}
use Rattle.sim_drill.proofs.drill.run_round.Goals as goal

pub returns-in-Short-clause-runs : goal.returns-in-Short-clause-runs
returns-in-Short-clause-runs c = rw c.in-Short.is c.run_short.ensures.runs

pub returns-in-Put-clause-runs : goal.returns-in-Put-clause-runs
returns-in-Put-clause-runs c = rw c.in-Put.is c.run_put.ensures.runs

pub returns-in-Request-clause-runs : goal.returns-in-Request-clause-runs
returns-in-Request-clause-runs c = rw c.in-Request.is c.run_request.ensures.runs

pub returns-in-Reply-clause-runs : goal.returns-in-Reply-clause-runs
returns-in-Reply-clause-runs c = rw c.in-Reply.is c.run_reply.ensures.runs

pub returns-in-Tick-clause-runs : goal.returns-in-Tick-clause-runs
returns-in-Tick-clause-runs c = rw c.in-Tick.is c.run_event.ensures.runs

pub returns-in-Short-clause-few : goal.returns-in-Short-clause-few
returns-in-Short-clause-few c = λ most h word. let once = c.run_short.ensures.few most h word in omega (arith, once)

pub returns-in-Tick-clause-few : goal.returns-in-Tick-clause-few
returns-in-Tick-clause-few c = λ most h word. let once = c.run_event.ensures.few most h word in omega (arith, once)

pub returns-in-Request-clause-few : goal.returns-in-Request-clause-few
returns-in-Request-clause-few c = λ most h word. let once = c.run_request.ensures.few most h word in omega (arith, once)

pub returns-in-Reply-clause-few : goal.returns-in-Reply-clause-few
returns-in-Reply-clause-few c = λ most h word. let once = c.run_reply.ensures.few most h word in omega (arith, once)
