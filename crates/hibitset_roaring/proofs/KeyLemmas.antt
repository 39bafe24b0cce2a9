-- The keys of the containers of a set, which its members determine.
use Rattle.std.proofs.Common.{◌≡◌, ℕ, ◌+◌, ◌*◌, ◌/◌, ◌^◌, ◌<◌, ◌≤◌, Bool, true, List, get_or, length, ◌∙◌, arith}
use Rattle.hibitset.specs.WordBits.{stands_in}
use Rattle.hibitset_roaring.specs.Streams.{AreHeads}
use Rattle.hibitset_roaring.specs.Runs.{members_under}
use Rattle.hibitset_roaring.proofs.SequenceLemmas.{Ascends, AreAmong, same_numbers, no_more}
use Rattle.hibitset_roaring.proofs.CardinalityLemmas.{ones_counted, member_under}
use Rattle.hibitset_roaring.proofs.MemberLemmas.{some_under, word_there}

-- Each of the first n keys, ascending, has a member, and each member has one of them.
pub record AreKeys (has : ℕ → Bool) (key : ℕ → ℕ) (n : ℕ) : Type 0 where
  pub up : Ascends key n
  pub some : (k : ℕ) → k < n → (v : ℕ) × (v < 65536) × (members_under has (key k) v ≡ true)
  pub all : (i : ℕ) → has i ≡ true → (k : ℕ) × (k < n) × (key k ≡ i / 65536)

keys_among : (has : ℕ → Bool) (f g : ℕ → ℕ) (n m : ℕ) → AreKeys has f n → AreKeys has g m → AreAmong f n g m
keys_among has f g n m fs gs = record {
  index = λ k below.
      let s = fs.some k below in
      let v : ℕ = s.0 in
      let small : v < 65536 = s.1 in
      let high : (65536 * f k + v) / 65536 ≡ f k = omega (arith, small) in
      let h = gs.all (65536 * f k + v) s.2 in
      (h.0, h.1, h.2 ∙ high);
}

module _ (has : ℕ → Bool) (f g : ℕ → ℕ) (n m : ℕ) (fs : AreKeys has f n) (gs : AreKeys has g m) where
  pub as_many_keys : n ≡ m
  as_many_keys =
      let a = no_more f g n m fs.up gs.up (keys_among has f g n m fs gs) (keys_among has g f m n gs fs) in
      let b = no_more g f m n gs.up fs.up (keys_among has g f m n gs fs) (keys_among has f g n m fs gs) in
      omega (arith, a, b)

  pub same_keys : (k : ℕ) → k < n → f k ≡ g k
  same_keys k below = same_numbers f g n m fs.up gs.up (keys_among has f g n m fs gs) (keys_among has g f m n gs fs) k below

-- those that were listed
pub head_keys : (words keys counts : List ℕ) (bound : ℕ) → ((p : ℕ) → get_or words p 0 < 2 ^ 64) → AreHeads words keys counts bound → length words ≤ 1024 * bound → AreKeys (stands_in words) (λ k. get_or keys k 0) (length keys)
head_keys words keys counts bound fits heads short = record {
  up = record { step = heads.ascending };
  some = λ k below.
      let c = heads.counted k below in
      let s = heads.some k below in
      let o = ones_counted words (get_or keys k 0) fits in
      member_under (stands_in words) (get_or keys k 0) (omega (arith, c, s, o));
  all = λ i on. (let there = word_there words i on in heads.all (i / 65536) (omega (arith, there, short)) (some_under words i on));
}
