use Rattle.std.proofs.Common.{true, sym, ◌∙◌, arith}
use Rattle.std.proofs.Math.Bool.{and-true}
use Rattle.hibitset_sparse.specs.Chunk.{has_in}
use Rattle.hibitset_sparse.proofs.KeptLemmas.{chunk-gone, chunk-kept, ne-false, ne-true}
use Rattle.hibitset_sparse.proofs.kept.WithMembersChangeChunk.change.Goals as goal

pub returns-clause-leaves : goal.returns-clause-leaves
returns-clause-leaves c = λ yes. chunk-kept (λ j. true) c.args._i c.args.value.now c.args.value.now (λ r small. sym (and-true (has_in c.args.value.now r)))
    (let some = ne-true _ yes in let root = c.layer2.ensures in omega (arith, some, root))

pub returns-clause-goes : goal.returns-clause-goes
returns-clause-goes c = λ no. chunk-gone (λ j. true) c.args._i c.args.value.now c.args.value.now (λ r small. sym (and-true (has_in c.args.value.now r)))
    (sym c.layer2.ensures ∙ ne-false _ no)
