use Rattle.node_endpoint.proofs.making.make_call.Goals as goal

pub returns-in-Answer : goal.returns-in-Answer
returns-in-Answer g c = (
  record {
    site = c.call.ensures.site;
    lent = c.call.ensures.lent;
    whole = λ whole stands. (c.call.ensures.answered c.in-Answer.answer c.in-Answer.is whole stands).1;
  },
  λ whole stands. (c.call.ensures.answered c.in-Answer.answer c.in-Answer.is whole stands).0,
)

pub returns-in-NoMemory : goal.returns-in-NoMemory
returns-in-NoMemory g c =
    ((c.call.ensures.site, c.call.ensures.lent), λ whole stands. c.call.ensures.no_memory c.in-NoMemory.is whole stands)
