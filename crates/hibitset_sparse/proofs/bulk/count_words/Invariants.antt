use Rattle.std.proofs.Common.{◌≡◌, ℕ, ◌+◌, ◌*◌, ◌≤◌, List, length}
use Rattle.std.specs.List.{zip}
use Rattle.hibitset_sparse.specs.Walk.{in_words}
use Rattle.hibitset_sparse.proofs.CountLemmas.{zip_from}
use Rattle.hibitset_sparse.proofs.bulk.count_words.Given as goal

-- what is counted and what is left are all
abbrev pub invariant-words : goal.invariant-words
invariant-words l = record {
  counted : (base : ℕ) (places : List ℕ) → length places ≡ length l.words → l.count + length (in_words base (zip_from l.word-index places l.words))
      ≡ length (in_words base (zip places l.words));
  few : l.count ≤ 64 * l.word-index;
}
