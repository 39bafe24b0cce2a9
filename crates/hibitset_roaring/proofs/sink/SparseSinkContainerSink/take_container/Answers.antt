use Rattle.std.proofs.Common.{ap, length}
use Rattle.hibitset_sparse.specs.SparseBitSet.{has}
use Rattle.hibitset_roaring.proofs.SinkLemmas.{container_added}
use Rattle.hibitset_roaring.proofs.sink.SparseSinkContainerSink.take_container.Goals as goal

pub returns-clause-members : goal.returns-clause-members
returns-clause-members c =
    container_added c.args.bytes.now c.args.k c.key-key.result c.clear.new.self.items c.read_container.new.words.items (has c.args.self.now.set) (has c.add_words.new.self)
    c.key-key.ensures.key (ap length c.clear.ensures.items) c.in_ok-read_container.ensures.length c.in_ok-read_container.ensures.members (rw c.deref.ensures.value at c.in_ok-add_words.ensures.added)
