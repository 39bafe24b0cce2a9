use Rattle.std.proofs.Common.{◌≡◌, ℕ, suc, ◌+◌, ◌-◌, ◌*◌, ◌/◌, ◌%◌, ◌^◌, ◌<◌, ◌≤◌, length, ◌∙◌, ap, ap₂, arith}
use Rattle.std.proofs.Math.Nat.{pow-suc}
use Rattle.hibitset_base.specs.Bits.{HasPart}
use Rattle.hibitset_base.specs.Members.{members}
use Rattle.hibitset_base.specs.declared.util.TheConstants.{LAYERS}
use Rattle.hibitset_base.proofs.MemberLemmas.{members-length}
use Rattle.hibitset_base.proofs.PartLemmas.{items_of_part}
use Rattle.hibitset_base.proofs.ranks.count_part.Goals as goal

pub returns-then-to-from : goal.returns-then-to-from
returns-then-to-from g c =
    let holds = g.T.BitSetLike.holds c.args.set.now in
    let none : c.args.to - c.args.from ≡ 0 = omega arith in
    let zero : (c.args.to - c.args.from) * 64 ^ c.args.layer ≡ 0 = ap (λ d. d * 64 ^ c.args.layer) none ∙ omega arith in
    let few = members-length holds (c.args.from * 64 ^ c.args.layer) ((c.args.to - c.args.from) * 64 ^ c.args.layer) in
    omega (arith, few, zero)

-- a word with positions of the layer lies in it
word_inside : (n l from to : ℕ) → l < n → from < to → to ≤ 64 ^ (n - l) → from / 64 < 64 ^ (n - 1 - l)
word_inside n l from to below some within =
    let size : 64 ^ (n - l) ≡ 64 ^ (n - 1 - l) * 64 = (let s : n - l ≡ suc (n - 1 - l) = omega (arith, below) in ap (λ x. 64 ^ x) s ∙ pow-suc 64 (n - 1 - l)) in
    omega (arith, size, some, within)

pub read-word-requires-clause-position : goal.read-word-requires-clause-position
read-word-requires-clause-position g c top =
    let layer : ℕ = c.args.layer in
    let none : LAYERS - 1 - layer ≡ 0 = omega (arith, top) in
    let inside : c.args.from / 64 < 64 ^ 0 = rw none at (word_inside LAYERS layer c.args.from c.args.to c.requires.layer (omega arith) c.requires.within) in
    omega (arith, inside)

pub count_bits-requires-clause-within : goal.count_bits-requires-clause-within
count_bits-requires-clause-within g c = let within = c.requires.within in omega (arith, within)

pub returns : goal.returns
returns g c =
    let holds = g.T.BitSetLike.holds c.args.set.now in
    let word = g.T.BitSetLike.word c.args.set.now in
    let layer : ℕ = c.args.layer in
    let from : ℕ = c.args.from in
    let to : ℕ = c.args.to in
    let below = c.requires.layer in
    let one_word = c.requires.one_word in
    let has : HasPart (word layer (from / 64)) (from % 64) (to - 64 * (from / 64)) c.part.result = rw c.read-word.ensures.word at c.part.ensures in
    let items = items_of_part LAYERS holds word (g.met.T.BitSetLike.lawful c.args.set.now) layer (LAYERS - 1 - layer) (from / 64) (from % 64) (to - 64 * (from / 64)) c.part.result (omega (arith, below)) (word_inside LAYERS layer from to below (omega arith) c.requires.within) has in
    let first : 64 * (from / 64) + from % 64 ≡ from = omega arith in
    let count : to - 64 * (from / 64) - from % 64 ≡ to - from = omega arith in
    c.count_bits.ensures ∙ ap length (items ∙ ap₂ (λ x y. members holds (x * 64 ^ layer) (y * 64 ^ layer)) first count)
