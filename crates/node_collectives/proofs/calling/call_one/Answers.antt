use Rattle.node_collectives.proofs.calling.call_one.Goals as goal

pub returns-in-Answer : goal.returns-in-Answer
returns-in-Answer g c = record {
  made = (
    record {
      site = c.call.ensures.site;
      lent = c.call.ensures.lent;
      whole = λ whole stands. (c.call.ensures.answered c.in-Answer.answer c.in-Answer.is whole stands).1;
    },
    λ whole stands. (c.call.ensures.answered c.in-Answer.answer c.in-Answer.is whole stands).0,
  );
  site = c.call.ensures.site;
  reference = c.call.ensures.lent;
}

pub returns-in-NoMemory : goal.returns-in-NoMemory
returns-in-NoMemory g c = record {
  made = ((c.call.ensures.site, c.call.ensures.lent), λ whole stands. c.call.ensures.no_memory c.in-NoMemory.is whole stands);
  site = c.call.ensures.site;
  reference = c.call.ensures.lent;
}
