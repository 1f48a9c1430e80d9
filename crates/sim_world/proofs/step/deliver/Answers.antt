use Rattle.std.proofs.Common.{rules, ◌≡◌, ◌<◌, ◌+◌, List, length, get_or, arith}
use Rattle.std.proofs.lemmas.Option.{slice_get-get_or}
use Rattle.node_endpoint.specs.EndpointState.{EndpointState}
use Rattle.sim_world.proofs.Halves.{here_left, here_right, changed_left, changed_right}
use Rattle.sim_world.proofs.Ways.{way_goes, delivers_happens}
use Rattle.sim_world.proofs.step.deliver.Goals as goal

pub returns-then-sender-receiver : goal.returns-then-sender-receiver
returns-then-sender-receiver g c =
    let all : List EndpointState = c.args.endpoints.now in
    let split = c.split_at_mut-below in
    let xs : List EndpointState = split.result.0.now in
    let ys : List EndpointState = split.result.1.now in
    let from = c.way_of-sender.result.0 in
    let to = c.way_of-sender.result.1 in
    let way = way_goes (length all) c.args.context.now.event.now c.way_of-sender.result c.way_of-sender.ensures
    c.requires.delivers c.requires.between in
    let before : from < to = omega (arith, c.if-sender-receiver.true) in
    let long : to ≡ length xs + 0 = omega (arith, split.ensures.front_len) in
    let low : from < length xs = omega (arith, before, long) in
    let some : 0 < length ys = omega (arith, split.ensures.back_len, way.receiver) in
    let receiver : EndpointState = get_or ys 0 c.index-above-0.result in
    let sender : EndpointState = get_or xs from c.index-below-sender.result in
    let new : EndpointState = c.arrive.new.endpoint in
    delivers_happens (g.H.Handlers.meaning c.args.context.now.handlers.now)
    (record { endpoints = all; exchanges = c.args.exchanges.now; most = c.args.most.now }) c.args.context.now.now
    c.args.context.now.event.now c.arrive.result _ c.way_of-sender.result receiver new sender c.way_of-sender.ensures
    c.requires.delivers
    (record {
      there = here_right all xs ys 0 to receiver split.ensures.value long
          (slice_get-get_or ys 0 c.index-above-0.result some);
      changed = changed_right all xs ys 0 to new split.ensures.value long;
      same = c.arrive.ensures.same;
    })
    (here_left all xs ys from sender split.ensures.value low
    (slice_get-get_or xs from c.index-below-sender.result low))
    (search (rules, c.arrive.ensures.steps))

pub returns-else-sender-receiver : goal.returns-else-sender-receiver
returns-else-sender-receiver g c =
    let all : List EndpointState = c.args.endpoints.now in
    let split = c.split_at_mut-below-else-sender-receiver in
    let arrived = c.arrive-else-sender-receiver in
    let xs : List EndpointState = split.result.0.now in
    let ys : List EndpointState = split.result.1.now in
    let from = c.way_of-sender.result.0 in
    let to = c.way_of-sender.result.1 in
    let way = way_goes (length all) c.args.context.now.event.now c.way_of-sender.result c.way_of-sender.ensures
    c.requires.delivers c.requires.between in
    let before : to < from = omega (arith, c.if-sender-receiver.false, way.apart) in
    let long : from ≡ length xs + 0 = omega (arith, split.ensures.front_len) in
    let low : to < length xs = omega (arith, before, long) in
    let some : 0 < length ys = omega (arith, split.ensures.back_len, way.sender) in
    let receiver : EndpointState = get_or xs to c.index-below-receiver.result in
    let sender : EndpointState = get_or ys 0 c.index-above-0-else-sender-receiver.result in
    let new : EndpointState = arrived.new.endpoint in
    delivers_happens (g.H.Handlers.meaning c.args.context.now.handlers.now)
    (record { endpoints = all; exchanges = c.args.exchanges.now; most = c.args.most.now }) c.args.context.now.now
    c.args.context.now.event.now arrived.result _ c.way_of-sender.result receiver new sender c.way_of-sender.ensures
    c.requires.delivers
    (record {
      there = here_left all xs ys to receiver split.ensures.value low
          (slice_get-get_or xs to c.index-below-receiver.result low);
      changed = changed_left all xs ys to new split.ensures.value low;
      same = arrived.ensures.same;
    })
    (here_right all xs ys 0 from sender split.ensures.value long
    (slice_get-get_or ys 0 c.index-above-0-else-sender-receiver.result some))
    (search (rules, arrived.ensures.steps))
