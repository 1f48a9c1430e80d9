use Rattle.std.proofs.Common.{◌≡◌, ◌≤◌, vec_len, length}
use Rattle.proc_seal.specs.Seal.{opened_datagrams}
use Rattle.proc_seal.proofs.link.SealedLinkLink.receive.Given as goal

abbrev pub invariant-loop : goal.invariant-loop
invariant-loop g l = record {
  bound : g.L.Link.bound l.self-inside.inner ≡ g.L.Link.bound l.initial.self-inside.inner;
  sent : g.L.Link.sent l.self-inside.inner ≡ g.L.Link.sent l.initial.self-inside.inner;
  received : opened_datagrams l.self-inside.key (g.L.Link.received l.self-inside.inner)
      ≡ opened_datagrams l.initial.self-inside.key (g.L.Link.received l.initial.self-inside.inner);
  key : l.self-inside.key ≡ l.initial.self-inside.key;
  refused : l.self-inside.refused ≡ l.initial.self-inside.refused;
  later : g.L.Link.faults l.initial.self-inside.inner ≤ g.L.Link.faults l.self-inside.inner;
  room : vec_len l.self-inside.buffer ≡ 8313;
  space : 8296 ≤ length l.buf;
}
