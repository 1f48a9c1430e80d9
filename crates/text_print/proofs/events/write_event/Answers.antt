use Rattle.text_print.proofs.events.write_event.Goals as goal

pub returns-in-Call : goal.returns-in-Call
returns-in-Call g c = λ nodes threads. rw c.in-Call.is (c.write_thread_call.ensures nodes threads)

pub returns-in-Vis : goal.returns-in-Vis
returns-in-Vis g c = λ nodes threads.
    rw c.in-Vis.is (rw c.text.ensures at (c.write_thread_vis.ensures nodes threads))

pub returns-in-Request : goal.returns-in-Request
returns-in-Request g c = λ nodes threads. rw c.in-Request.is c.write.ensures

pub returns-in-Reply : goal.returns-in-Reply
returns-in-Reply g c = λ nodes threads. rw c.in-Reply.is c.write-in-Reply.ensures

pub returns-in-Tick : goal.returns-in-Tick
returns-in-Tick g c = λ nodes threads. rw c.in-Tick.is c.write-in-Tick.ensures

pub returns-in-Settle : goal.returns-in-Settle
returns-in-Settle g c = λ nodes threads. rw c.in-Settle.is c.write-in-Settle.ensures

pub returns-in-Collective : goal.returns-in-Collective
returns-in-Collective g c = λ nodes threads. rw c.in-Collective.is (c.write_thread_collective.ensures nodes threads)
