use Rattle.base_io.proofs.MemoryLinks.{gives_at}
use Rattle.base_io.proofs.memory_link.give_at.Goals as goal

pub returns : goal.returns
returns c =
    let prefix = c.deref.ensures.value in
    gives_at c.args.datagrams.now.items c.index_mut-datagram.result.now c.truncate.new.self c.args.place
    c.copy_prefix-n.result c.args.buf.now c.copy_prefix-n.new.buf
    c.requires c.index_mut-datagram.ensures.value (rw prefix at c.copy_prefix-n.ensures.count)
    (rw prefix at c.copy_prefix-n.ensures.copied) c.truncate.ensures.items
