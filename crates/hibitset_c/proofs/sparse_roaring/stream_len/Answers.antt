use Rattle.hibitset_c.proofs.StreamLemmas.{plain_of_members}
use Rattle.hibitset_c.proofs.sparse_roaring.stream_len.Goals as goal

pub returns : goal.returns
returns c = λ bytes is. c.serialized_len_like.ensures bytes (plain_of_members c.args.members.now bytes is)
