use Rattle.std.proofs.Common.{◌≡◌, ◌∙◌, drop, length, sym, ap, subst, arith}
use Rattle.std.proofs.lemmas.List.{take_at}
use Rattle.hibitset_roaring.specs.Format.{IsCanonicalStream}
use Rattle.hibitset_sparse.specs.SparseBitSet.{has}
use Rattle.hibitset_c.proofs.StreamLemmas.{canonical_of_members, same_length}
use Rattle.hibitset_c.proofs.sparse_roaring.write_stream.Goals as goal

pub returns-then-len-buffer-clause-len : goal.returns-then-len-buffer-clause-len
returns-then-len-buffer-clause-len c = λ _ bytes is.
    let same = same_length c.args.members.now c.in-Ok.stream.items bytes c.in-Ok.ensures.stream is in
    let long = c.len-len.ensures in
    omega (arith, same, long)

pub returns-clause-stream : goal.returns-clause-stream
returns-clause-stream c =
    let stream = c.in-Ok.stream.items in
    let front = c.copy_from_slice.new.self in
    let len = c.len-len.result in
    let front-is : front ≡ stream = c.copy_from_slice.ensures.after ∙ c.deref.ensures.value in
    let same = ap length front-is in
    let long = c.len-len.ensures in
    let taken = take_at front (drop len c.args.buffer.now) len (omega (arith, same, long)) in
    λ _. subst (IsCanonicalStream (has c.args.members.now)) (sym (taken ∙ front-is)) (canonical_of_members c.args.members.now stream c.in-Ok.ensures.stream)

pub returns-clause-len : goal.returns-clause-len
returns-clause-len c = λ _ bytes is.
    let same = same_length c.args.members.now c.in-Ok.stream.items bytes c.in-Ok.ensures.stream is in
    let long = c.len-len.ensures in
    omega (arith, same, long)
