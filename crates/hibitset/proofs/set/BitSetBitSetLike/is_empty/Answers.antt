use Rattle.std.proofs.Common.{arith, ◌≡◌, ℕ, ◌==◌, ◌-◌, true}
use Rattle.std.proofs.lemmas.Bool.Decides.{nat_tests}
use Rattle.hibitset_base.specs.declared.util.TheConstants.{LAYERS}
use Rattle.hibitset_base.proofs.ReadBoundLemmas.{top_tells_empty}
use Rattle.hibitset.specs.BitSet.{has, word_of, has_is_lawful}
use Rattle.hibitset_base.specs.StoredWords.{summed_exact}
use Rattle.hibitset.proofs.LayerLemmas.{shaped}
use Rattle.hibitset.proofs.set.BitSetBitSetLike.is_empty.Goals as goal

zero_test : (x : ℕ) → (x == 0) ≡ true → x ≡ 0
zero_test x h = grind (arith, nat_tests)

test_zero : (x : ℕ) → x ≡ 0 → (x == 0) ≡ true
test_zero x h = grind (arith, nat_tests)

pub returns : goal.returns
unfolding word_of
returns c =
    let self = c.args.self.now in
    let top = top_tells_empty (LAYERS - 1) (has self) (word_of self) (has_is_lawful self) (summed_exact LAYERS self.summed) (shaped self.layers).words in
    let word : c.top.result ≡ word_of self (LAYERS - 1) 0 = c.top.ensures in
    (λ h. top.0 (rw (← word) (zero_test c.top.result h)), λ h. test_zero c.top.result (rw word (top.1 h)))
