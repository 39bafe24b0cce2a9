use Rattle.std.proofs.Common.{ℕ, ◌+◌, ◌*◌, List, ◌∙◌, arith}
use Rattle.std.proofs.lemmas.List.{get_or_past}
use Rattle.hibitset_roaring.proofs.SlotLemmas.{ones_skip}
use Rattle.hibitset_roaring.proofs.WordLemmas.{ones_first}
use Rattle.hibitset_roaring.proofs.source.WordSourceContainerSource.next_key.Goals as goal

pub returns-else-from-self-clause-skips : goal.returns-else-from-self-clause-skips
returns-else-from-self-clause-skips c = λ key low high.
    let words : List ℕ = c.args.self.now.words.now in
    let past = c.if-from-self.false in
    ones_skip words (1024 * key) 0 1024 (omega arith) (λ q from below. get_or_past words (1024 * key + q) 0 (omega (arith, past, low))) ∙ ones_first words (1024 * key)
