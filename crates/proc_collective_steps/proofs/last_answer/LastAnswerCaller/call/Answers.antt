-- A call of a caller that keeps its last answer: a step of its endpoint.
use Rattle.std.proofs.Common.{refl}
use Rattle.node_endpoint.specs.Sites.{Site, called_by}
use Rattle.proc_collective_steps.proofs.AtLast.{called_so}
use Rattle.proc_collective_steps.proofs.last_answer.LastAnswerCaller.call.Goals as goal

pub step-answer-requires : goal.step-answer-requires
step-answer-requires g c = c.requires.called

pub returns : goal.returns
returns g c =
    let steps = c.step-answer.ensures.steps in
    let at : Site = record {
      settings = c.args.self.now.endpoint.now.core.settings;
      table = c.args.self.now.endpoint.now.core.table;
      meaning = g.H.Handlers.meaning c.args.self.now.handlers.now;
      node = c.args.self.now.endpoint.now.core.me;
      now = c.args.self.now.now;
    } in
    record {
      site = λ i. record at {
        settings = steps.same.settings i;
        table = steps.same.table i;
        node = steps.same.me_is i;
      };
      lent = refl;
      answered = λ answer is whole stands.
          let both = steps.steps whole.node stands.stands in
          called_so at whole (called_by c.args.thread c.args.call.now) c.step-answer.result answer
          c.step-answer.new.self (cc) both.0 both.1;
      no_memory = λ is. absurd (cc);
    }
