use Rattle.std.proofs.Common.{◌≡◌, ℕ, zero, suc, ◌+◌, ◌-◌, ◌^◌, ◌≤◌, ◌++◌, ◌∷◌, [], length, ap, arith, sym, ◌∙◌, append_assoc, append-nil, length-append}
use Rattle.std.specs.Int.RustNames.{count_ones}
use Rattle.hibitset_base.specs.Places.{bits_from}
use Rattle.hibitset_base.proofs.OneCountLemmas.{bits-count, some_ones}
use Rattle.hibitset_base.proofs.PlaceLemmas.{bits-none}
use Rattle.std.proofs.lemmas.Nat.Bits.{bit_at_ones}
use Rattle.hibitset_sparse.specs.Rank.{rank_in}
use Rattle.hibitset_sparse.proofs.RankLemmas.{rank-all, rank-more, rank-none}
use Rattle.hibitset_sparse.proofs.bulk.push_bits.Goals as goal

pub push_reserved-requires : goal.push_reserved-requires
push_reserved-requires c =
    let some = some_ones c.bits.rest (let test = c.bits-test.true in omega (arith, test)) in
    let room = c.bits.invariant.room in
    let ok = c.bits.list.ok in
    omega (arith, some, room, ok.0)

pub bits-preserved : goal.bits-preserved
bits-preserved c =
    let first = c.args.first in
    let rest = c.bits.rest in
    let next = c.take_bit.new.word in
    let x = first + c.take_bit.result in
    let items = c.bits.list.items in
    let bits : bits_from first rest ≡ x ∷ bits_from first next = c.take_bit.ensures.first first in
    let pushed = c.push_reserved.ensures.items in
    let ones = bits-count first rest (omega arith) in
    let fewer = bits-count first next (omega arith) in
    let one = ap length bits in
    let longer = ap length pushed ∙ length-append items (x ∷ []) in
    let room = c.bits.invariant.room in
    let capacity = c.push_reserved.ensures.capacity in
    record {
      pushed = rw pushed (append_assoc items (x ∷ []) (bits_from first next) ∙ (ap (λ xs. items ++ xs) (sym bits) ∙ c.bits.invariant.pushed));
      room = omega (arith, ones, fewer, one, longer, room, capacity);
      capacity = capacity ∙ c.bits.invariant.capacity;
    }

pub returns-clause-pushed : goal.returns-clause-pushed
returns-clause-pushed c =
    let none = bits-none c.args.first c.bits.rest c.bits-test.false in
    sym (append-nil c.bits.list.items) ∙ (ap (λ xs. c.bits.list.items ++ xs) (sym none) ∙ c.bits.invariant.pushed)

full-rank : (k : ℕ) → k ≤ 64 → rank_in (2 ^ 64 - 1) k ≡ k
full-rank zero few = rank-none (2 ^ 64 - 1)
full-rank (suc k) few =
    let one : k + 1 ≡ suc k = omega arith in
    let more = rank-more (2 ^ 64 - 1) k in
    let lower = full-rank k (omega arith) in
    let bit = bit_at_ones 64 k (omega arith) in
    let here : rank_in (2 ^ 64 - 1) (k + 1) ≡ k + 1 = omega (arith, more, lower, bit) in
    rw one at here

pub push_all-requires-clause-capacity : goal.push_all-requires-clause-capacity
push_all-requires-clause-capacity c =
    let all = rank-all (2 ^ 64 - 1) (omega arith) in
    let full = full-rank 64 (omega arith) in
    let ones = ap count_ones c.if-word-eq18446744073709551615.true in
    let room = c.requires.capacity in
    omega (arith, all, full, ones, room)
