use Rattle.std.proofs.Common.{arith, length, refl}
use Rattle.std.proofs.lemmas.List.Elements.{length_all_zip}
use Rattle.std.proofs.lemmas.Option.{slice_get_read}
use Rattle.hibitset_sparse.specs.Copy.{IsSameChunk}
use Rattle.hibitset_sparse.proofs.CopyLemmas.{table-same, table-then, zip-same, zip-set}
use Rattle.hibitset_sparse.proofs.shrink.shrink_each.Goals as goal

pub chunks-init : goal.chunks-init
chunks-init c = record { same = zip-same IsSameChunk (λ x. table-same x.words) c.args.chunks.now.items; capacity = refl }

pub chunks-preserved : goal.chunks-preserved
chunks-preserved c =
    let items = c.chunks.chunks.items in
    let old = c.index_mut.result.now in
    let long = length_all_zip IsSameChunk c.args.chunks.now.items items c.chunks.invariant.same in
    let is = slice_get_read items (length items) c.chunks.k old refl (omega (arith, long)) c.index_mut.ensures.value in
    record {
      same = zip-set IsSameChunk c.args.chunks.now.items items c.chunks.k old _ c.chunks.invariant.same is
          (λ x same. table-then x.words old.words c.shrink_table.new.table same c.shrink_table.ensures.same);
      capacity = c.chunks.invariant.capacity;
    }
