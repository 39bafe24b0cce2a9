-- The words of layer 0 of any set, as a list.
use Rattle.std.specs.Prelude.{◌≡◌, ℕ, zero, suc, ◌+◌, ◌%◌, ◌^◌, ◌<◌, ◌≤◌, List, [], ◌∷◌, get_or, length, refl}
use Rattle.std.proofs.Common.{ap, ◌∙◌, arith}

-- n words, from one on. It stays shut, so that nothing computes over a whole set.
unfoldable pub words_from : (ℕ → ℕ) → ℕ → ℕ → List ℕ
words_from word p zero = []
words_from word p (suc n) = word p ∷ words_from word (suc p) n

-- a word of layer 0
abbrev pub word_at : (ℕ → ℕ → ℕ) → ℕ → ℕ
word_at word p = word 0 p % 2 ^ 64

-- all words of layer 0
abbrev pub words_of : (ℕ → ℕ → ℕ) → List ℕ
words_of word = words_from (word_at word) 0 16777216

length_is : (word : ℕ → ℕ) (p n : ℕ) → length (words_from word p n) ≡ n
unfolding words_from
length_is word p zero = refl
length_is word p (suc n) = ap suc (length_is word (suc p) n)

each_fits : (word : ℕ → ℕ) → ((p : ℕ) → word p < 2 ^ 64) → (p n q : ℕ) → get_or (words_from word p n) q 0 < 2 ^ 64
unfolding words_from
each_fits word fits p zero q = omega arith
each_fits word fits p (suc n) zero = fits p
each_fits word fits p (suc n) (suc q) = each_fits word fits (suc p) n q

-- there are as many as layer 0 has
pub words_short : (word : ℕ → ℕ → ℕ) → length (words_of word) ≤ 16777216
words_short word = let l = length_is (word_at word) 0 16777216 in omega (arith, l)

-- and each is one
pub words_fit : (word : ℕ → ℕ → ℕ) (q : ℕ) → get_or (words_of word) q 0 < 2 ^ 64
words_fit word q = each_fits (word_at word) (λ p. omega arith) 0 16777216 q

-- each is that of its position
pub word_is : (word : ℕ → ℕ) (p n q : ℕ) → q < n → get_or (words_from word p n) q 0 ≡ word (p + q)
unfolding words_from
word_is word p zero q below = absurd (omega (arith, below))
word_is word p (suc n) zero below = ap word (omega arith)
word_is word p (suc n) (suc q) below = word_is word (suc p) n q (omega (arith, below)) ∙ ap word (omega arith)
