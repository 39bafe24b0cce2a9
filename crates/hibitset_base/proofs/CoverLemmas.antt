-- What a set covers, it covers still where bits are taken out.
use Rattle.std.proofs.Common.{◌≡◌, ℕ, bit_and, Bool, arith}
use Rattle.std.specs.Int.{bit_at}
use Rattle.std.proofs.lemmas.Nat.Bits.{bit_at_and, bit_at-lt}
use Rattle.hibitset_base.specs.WordsRead.{CoversWords}

-- a set covers its own words
pub covers-own : {n : ℕ} {p : ℕ → Bool} {a v : ℕ → ℕ → ℕ} → CoversWords n p a v → CoversWords n p a a
covers-own e = record { lawful = e.lawful; exact = e.exact; words = e.words; inside = λ l q b on. on }

-- words that it covers, with bits taken out
pub covers-left : {n : ℕ} {p : ℕ → Bool} {a v : ℕ → ℕ → ℕ} (w : ℕ → ℕ → ℕ) → CoversWords n p a v → CoversWords n p a (λ l q. bit_and (v l q) (w l q))
covers-left {v = v} w e = record {
  lawful = e.lawful;
  exact = e.exact;
  words = e.words;
  inside = λ l q b on. e.inside l q b (let both = bit_at_and (v l q) (w l q) b in let small = bit_at-lt (v l q) b in let other = bit_at-lt (w l q) b in omega (arith, both, on, small, other));
}

-- the same, from the other side
pub covers-right : {n : ℕ} {p : ℕ → Bool} {a v : ℕ → ℕ → ℕ} (w : ℕ → ℕ → ℕ) → CoversWords n p a v → CoversWords n p a (λ l q. bit_and (w l q) (v l q))
covers-right {v = v} w e = record {
  lawful = e.lawful;
  exact = e.exact;
  words = e.words;
  inside = λ l q b on. e.inside l q b (let both = bit_at_and (w l q) (v l q) b in let small = bit_at-lt (v l q) b in let other = bit_at-lt (w l q) b in omega (arith, both, on, small, other));
}
