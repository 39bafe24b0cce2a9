-- The hash of a set's members is that of its words.
use Rattle.std.proofs.Common.{◌≡◌, ℕ, zero, suc, ◌+◌, ◌-◌, ◌*◌, ◌/◌, ◌%◌, ◌^◌, ◌<◌, ◌≤◌, Bool, refl, sym, ap, ◌∙◌, get_or, length, arith}
use Rattle.std.specs.Int.{bit_at}
use Rattle.std.proofs.Math.Nat.{pow-suc}
use Rattle.std.proofs.lemmas.List.{get_or_past}
use Rattle.std.proofs.lemmas.Nat.Bits.{bit_at_lowest, bit_at-suc}
use Rattle.hibitset_base.specs.Sets.{bit_of}
use Rattle.hibitset_base.specs.declared.util.TheConstants.{LAYERS}
use Rattle.hibitset_c.specs.Hash.{member_bits, with_word, hash_to, hash_of}
use Rattle.hibitset_c.specs.LentSet.{has, word_of, has_is_lawful}
use Rattle.hibitset_c.specs.declared.hash.TheConstants.{SEED}
use Rattle.hibitset_c.specs.declared.lent_set.LentSet.{LentSet}

double : (x : ℕ) → x ≡ x % 2 + 2 * (x / 2)
double x = omega arith

half_fits : (w n : ℕ) → w < 2 ^ suc n → w / 2 < 2 ^ n
half_fits w n fits = let e : 2 ^ suc n ≡ 2 ^ n * 2 = pow-suc 2 n in omega (arith, fits, e)

-- a number is that of its bits
by_bits : (holds : ℕ → Bool) (a n w : ℕ) → w < 2 ^ n → ((b : ℕ) → b < n → bit_at w b ≡ bit_of (holds (a + b))) → w ≡ member_bits holds a n
unfolding member_bits
by_bits holds a zero w fits bits = omega (arith, fits)
by_bits holds a (suc n) w fits bits =
    let rest : w / 2 ≡ member_bits holds (suc a) n = by_bits holds (suc a) n (w / 2) (half_fits w n fits) (λ b small.
    let shift : a + suc b ≡ suc a + b = omega arith in
    sym (bit_at-suc w b) ∙ (bits (suc b) (omega (arith, small)) ∙ ap (λ i. bit_of (holds i)) shift)) in
    let zero_on : a + 0 ≡ a = omega arith in
    let low : w % 2 ≡ bit_of (holds a) = sym (bit_at_lowest w) ∙ (bits 0 (omega arith) ∙ ap (λ i. bit_of (holds i)) zero_on) in
    double w ∙ (ap (λ x. x + 2 * (w / 2)) low ∙ ap (λ x. bit_of (holds a) + 2 * x) rest)

-- the word of a set at a position has the bits of its members there
pub word_bits : (set : LentSet) (p : ℕ) → p < 64 ^ (LAYERS - 1) → get_or set.layer0.now p 0 < 2 ^ 64 → get_or set.layer0.now p 0 ≡ member_bits (has set) (64 * p) 64
unfolding word_of
word_bits set p range fits = by_bits (has set) (64 * p) 64 (get_or set.layer0.now p 0) fits (λ b small. (has_is_lawful set).members p b range small)

-- no word yet
pub hash_none : (holds : ℕ → Bool) → SEED ≡ hash_to holds 0
unfolding hash_to
hash_none holds = refl

-- one more word
pub hash_next : (holds : ℕ → Bool) (p : ℕ) → hash_to holds (p + 1) ≡ with_word (hash_to holds p) p (member_bits holds (64 * p) 64)
unfolding hash_to
hash_next holds p = let e : p + 1 ≡ suc p = omega arith in rw e refl

no_word : (hash p word : ℕ) → word ≡ 0 → with_word hash p word ≡ hash
unfolding with_word
no_word hash p word e = rw e refl

-- words that are 0 change nothing
hash_past : (holds : ℕ → Bool) (n k : ℕ) → ((p : ℕ) → n ≤ p → p < n + k → member_bits holds (64 * p) 64 ≡ 0) → hash_to holds (n + k) ≡ hash_to holds n
hash_past holds n zero none = let e : n + 0 ≡ n = omega arith in ap (hash_to holds) e
hash_past holds n (suc k) none =
    let e : n + suc k ≡ n + k + 1 = omega arith in
    ap (hash_to holds) e
    ∙ (hash_next holds (n + k)
    ∙ (no_word (hash_to holds (n + k)) (n + k) (member_bits holds (64 * (n + k)) 64) (none (n + k) (omega arith) (omega arith))
    ∙ hash_past holds n k (λ p from below. none p from (omega (arith, below)))))

-- past the last word of layer 0 there are none
pub hash_whole : (set : LentSet) → hash_to (has set) (length set.layer0.now) ≡ hash_of (has set)
hash_whole set =
    let short = set.short in
    let words = set.layer0.now in
    let n : ℕ = length words in
    let e : n + (64 ^ (LAYERS - 1) - n) ≡ 64 ^ (LAYERS - 1) = omega (arith, short) in
    sym (hash_past (has set) n (64 ^ (LAYERS - 1) - n) (λ p from below.
    let zero_word : get_or words p 0 ≡ 0 = get_or_past words p 0 from in
    sym (word_bits set p (omega (arith, below, e)) (omega (arith, zero_word))) ∙ zero_word))
    ∙ ap (hash_to (has set)) e
