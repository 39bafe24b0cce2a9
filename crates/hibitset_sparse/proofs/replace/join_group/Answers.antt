use Rattle.std.proofs.Common.{◌≡◌, ℕ, ◌+◌, ◌*◌, ◌%◌, Some, None, refl, ◌∙◌, sym, ap, max, arith}
use Rattle.std.specs.Int.{bit_at}
use Rattle.std.specs.Int.RustNames.{count_ones}
use Rattle.std.proofs.lemmas.Nat.{or_lt}
use Rattle.std.proofs.lemmas.Nat.Bits.{bit_at-zero, bit_at_or}
use Rattle.hibitset_sparse.specs.Replacement.{later}
use Rattle.hibitset_sparse.specs.Table.{group_word, value_at}
use Rattle.hibitset_sparse.proofs.AppendLemmas.{TakesLowest}
use Rattle.hibitset_sparse.proofs.JoinLemmas.{free-here, join-first, join-more, none-is-put, room-here}
use Rattle.hibitset_sparse.proofs.ReplaceLemmas.{IsPut, capacity-fewer, when_ok}
use Rattle.hibitset_sparse.proofs.replace.join_group.Goals as goal

pub places-init : goal.places-init
places-init c =
    let one = c.word.ensures in
    let two = c.word-2.ensures in
    join-first c.args.q c.args.first.now c.args.second.now c.args.table.now _
    (λ b. bit_at_or c.word.result c.word-2.result b
    ∙ (ap (λ w. max (bit_at w b) (bit_at c.word-2.result b)) one ∙ ap (λ w. max (bit_at (group_word c.args.first.now c.args.q) b) (bit_at w b)) two))
    (or_lt 64 c.word.result c.word-2.result (omega arith) (omega arith)) (omega (arith, one)) (omega (arith, two)) c.requires.absent

pub insert-put-requires-clause-free : goal.insert-put-requires-clause-free
insert-put-requires-clause-free c =
    let bit = c.take_bit.ensures in
    let takes : TakesLowest c.places.places c.take_bit.new.word c.take_bit.result = record {
      below = bit.in_word;
      stood = bit.bit_was_set;
      lowest = bit.lowest;
      gone = bit.bit_cleared;
      same = bit.same;
    } in
    let more : ℕ = count_ones (group_word c.args.first.now c.args.q) + count_ones (group_word c.args.second.now c.args.q) in
    free-here c.args.q c.args.first.now c.args.second.now c.args.table.now c.places.places c.take_bit.new.word more c.take_bit.result (64 * c.args.q + c.take_bit.result)
    c.places.first c.places.second c.places.table c.take_chunk-before.new.chunks c.take_chunk-after.new.chunks c.places.table None c.places.invariant takes refl c.requires.group

pub places-preserved-in-Some : goal.places-preserved-in-Some
places-preserved-in-Some c =
    let bit = c.take_bit.ensures in
    let takes : TakesLowest c.places.places c.take_bit.new.word c.take_bit.result = record {
      below = bit.in_word;
      stood = bit.bit_was_set;
      lowest = bit.lowest;
      gone = bit.bit_cleared;
      same = bit.same;
    } in
    let more : ℕ = count_ones (group_word c.args.first.now c.args.q) + count_ones (group_word c.args.second.now c.args.q) in
    let room = room-here c.args.q c.args.first.now c.args.second.now c.args.table.now c.places.places c.take_bit.new.word more c.take_bit.result (64 * c.args.q + c.take_bit.result)
    c.places.first c.places.second c.places.table c.take_chunk-before.new.chunks c.take_chunk-after.new.chunks c.insert-put.new.self (Some c.in-Some.chunk) c.places.invariant takes refl c.requires.group c.requires.capacity (omega arith) (omega arith) in
    let put : IsPut c.places.table c.insert-put.new.self (64 * c.args.q + c.take_bit.result) (Some c.in-Some.chunk) =
    when_ok c.insert-put.result (c.insert-put.ensures.succeeds (count_ones c.take_bit.new.word) room).0 c.insert-put.ensures.put in
    let there : Some c.in-Some.chunk ≡ later (value_at c.places.first (64 * c.args.q + c.take_bit.result)) (value_at c.places.second (64 * c.args.q + c.take_bit.result)) =
    sym c.in-Some.is ∙ (c.later_chunk.ensures ∙ (ap (λ o. later o c.take_chunk-after.result) c.take_chunk-before.ensures.old_value
    ∙ ap (later (value_at c.places.first (64 * c.args.q + c.take_bit.result))) c.take_chunk-after.ensures.old_value)) in
    join-more c.args.q c.args.first.now c.args.second.now c.args.table.now c.places.places c.take_bit.new.word more c.take_bit.result (64 * c.args.q + c.take_bit.result)
    c.places.first c.places.second c.places.table c.take_chunk-before.new.chunks c.take_chunk-after.new.chunks c.insert-put.new.self (Some c.in-Some.chunk) c.places.invariant takes refl c.requires.group there put
    c.take_chunk-before.ensures.others c.take_chunk-after.ensures.others c.take_chunk-before.ensures.words c.take_chunk-after.ensures.words
    (λ n capacity. (c.insert-put.ensures.succeeds n capacity).1) (omega arith) (omega arith)

pub places-preserved : goal.places-preserved
places-preserved c =
    let bit = c.take_bit.ensures in
    let takes : TakesLowest c.places.places c.take_bit.new.word c.take_bit.result = record {
      below = bit.in_word;
      stood = bit.bit_was_set;
      lowest = bit.lowest;
      gone = bit.bit_cleared;
      same = bit.same;
    } in
    let more : ℕ = count_ones (group_word c.args.first.now c.args.q) + count_ones (group_word c.args.second.now c.args.q) in
    let free = free-here c.args.q c.args.first.now c.args.second.now c.args.table.now c.places.places c.take_bit.new.word more c.take_bit.result (64 * c.args.q + c.take_bit.result)
    c.places.first c.places.second c.places.table c.take_chunk-before.new.chunks c.take_chunk-after.new.chunks c.places.table None c.places.invariant takes refl c.requires.group in
    let there : None ≡ later (value_at c.places.first (64 * c.args.q + c.take_bit.result)) (value_at c.places.second (64 * c.args.q + c.take_bit.result)) =
    sym c.in_default.is ∙ (c.later_chunk.ensures ∙ (ap (λ o. later o c.take_chunk-after.result) c.take_chunk-before.ensures.old_value
    ∙ ap (later (value_at c.places.first (64 * c.args.q + c.take_bit.result))) c.take_chunk-after.ensures.old_value)) in
    join-more c.args.q c.args.first.now c.args.second.now c.args.table.now c.places.places c.take_bit.new.word more c.take_bit.result (64 * c.args.q + c.take_bit.result)
    c.places.first c.places.second c.places.table c.take_chunk-before.new.chunks c.take_chunk-after.new.chunks c.places.table None c.places.invariant takes refl c.requires.group there (none-is-put c.places.table (64 * c.args.q + c.take_bit.result) free)
    c.take_chunk-before.ensures.others c.take_chunk-after.ensures.others c.take_chunk-before.ensures.words c.take_chunk-after.ensures.words
    (λ n capacity. capacity-fewer n (n + 1) c.places.table (omega arith) capacity) (omega arith) (omega arith)

pub returns-clause-joined : goal.returns-clause-joined
returns-clause-joined c = λ k small here. c.places.invariant.done k small here (ap (λ w. bit_at w (k % 64)) c.places-test.false ∙ bit_at-zero (k % 64))

pub returns-clause-capacity : goal.returns-clause-capacity
returns-clause-capacity c = λ n capacity. capacity-fewer n (n + count_ones c.places.places) c.places.table (omega arith) (c.places.invariant.room n capacity)
