use Rattle.std.proofs.Common.{◌≡◌, ℕ, ◌/◌, ◌%◌, ◌<◌, ◌==◌, ◌||◌, Option, Some, None, sym, ◌∙◌, ap, set, arith, length}
use Rattle.std.specs.Prelude.{if◌then◌else◌}
use Rattle.std.proofs.lemmas.Option.{slice_get_read}
use Rattle.std.proofs.Math.ListN.{length-set}
use Rattle.hibitset_sparse.specs.AddedWords.{is_in_word}
use Rattle.hibitset_sparse.specs.Layout.{AreLaidOut, value_of_place}
use Rattle.hibitset_sparse.specs.Rank.{bit_is_set}
use Rattle.hibitset_sparse.specs.PackedArray.{value_in}
use Rattle.hibitset_sparse.specs.SparseBitSet.{has, word_of}
use Rattle.hibitset_sparse.specs.Table.{value_at}
use Rattle.hibitset_sparse.specs.declared.chunk.Chunk.{Chunk}
use Rattle.hibitset_sparse.proofs.AddedWordLemmas.{set-word-added}
use Rattle.hibitset_sparse.proofs.ChunkLemmas.{same-value}
use Rattle.hibitset_sparse.proofs.ExactLemmas.{full-summed}
use Rattle.hibitset_sparse.proofs.LayoutLemmas.{set-values}
use Rattle.hibitset_sparse.proofs.SetLemmas.{full-insert, full-put, has_under, holds-under, none-under, on_err, on_err_always, on_ok, place-past, root-kept, set-same}
use Rattle.hibitset_sparse.proofs.set.SparseBitSet.add_bits.Goals as goal

pub invariant_of-self : goal.invariant_of-self
invariant_of-self c =
    let chunks = c.args.self.now.chunks in
    let id : ℕ = c.args.id in
    let was : Chunk = c.index_mut.result.now in
    let now : Chunk = c.add_bits.new.self in
    let is : value_at chunks (id / 262144) ≡ Some was = (c.in-Some.ensures.found.1 ∙ slice_get_read chunks.items.items (length chunks.items.items) c.in-Some.at c.index_mut.result.now (omega arith) c.in-Some.ensures.found.0 c.index_mut.ensures.value) in
    let put : (k : ℕ) → k < 4096 → value_of_place (value_in chunks.groups) (set chunks.items.items c.in-Some.at now) k ≡ (if k == id / 262144 then Some now else value_at chunks k) =
    set-values (value_in chunks.groups) (length chunks.items.items) (id / 262144) c.in-Some.at chunks.items.items now chunks.laid_out (omega arith) c.in-Some.ensures.is_place c.in-Some.ensures.found.0 in
    let new : ℕ → Option Chunk = value_of_place (value_in chunks.groups) (set chunks.items.items c.in-Some.at now) in
    let old_past = place-past chunks.groups chunks.items.items in
    let new_past = place-past chunks.groups (set chunks.items.items c.in-Some.at now) in
    let root = root-kept c.add_bits.result was now c.add_bits.ensures.nonempty c.add_bits.ensures.err (c.args.self.now.full (id / 262144) was (omega arith) is) in
    let full = full-put (value_at chunks) new id now put old_past new_past root c.args.self.now.full in
    let long : length (set chunks.items.items c.in-Some.at now) ≡ length chunks.items.items = length-set chunks.items.items c.in-Some.at now in
    let laid : AreLaidOut (value_in chunks.groups) (length (set chunks.items.items c.in-Some.at now)) = rw long chunks.laid_out in
    ((laid, tt), (full, (full-summed _ full, tt)))

pub returns-in-Some-clause-added : goal.returns-in-Some-clause-added
unfolding has word_of
returns-in-Some-clause-added c =
    let chunks = c.args.self.now.chunks in
    let id : ℕ = c.args.id in
    let was : Chunk = c.index_mut.result.now in
    let now : Chunk = c.add_bits.new.self in
    let is : value_at chunks (id / 262144) ≡ Some was = (c.in-Some.ensures.found.1 ∙ slice_get_read chunks.items.items (length chunks.items.items) c.in-Some.at c.index_mut.result.now (omega arith) c.in-Some.ensures.found.0 c.index_mut.ensures.value) in
    let put : (k : ℕ) → k < 4096 → value_of_place (value_in chunks.groups) (set chunks.items.items c.in-Some.at now) k ≡ (if k == id / 262144 then Some now else value_at chunks k) =
    set-values (value_in chunks.groups) (length chunks.items.items) (id / 262144) c.in-Some.at chunks.items.items now chunks.laid_out (omega arith) c.in-Some.ensures.is_place c.in-Some.ensures.found.0 in
    let new : ℕ → Option Chunk = value_of_place (value_in chunks.groups) (set chunks.items.items c.in-Some.at now) in
    let old_past = place-past chunks.groups chunks.items.items in
    let new_past = place-past chunks.groups (set chunks.items.items c.in-Some.at now) in
    on_ok c.add_bits.result c.add_bits.ensures.added (λ added i.
    holds-under _ i
    ∙ (set-word-added (value_at chunks) new id c.args.bits now put old_past new_past c.requires.index (λ r low. added r low ∙ ap (λ o. has_under o r || is_in_word (id % 262144) c.args.bits r) (sym is)) i
    ∙ ap (λ b. b || is_in_word id c.args.bits i) (sym (holds-under chunks i))))

pub returns-in-Some-clause-err : goal.returns-in-Some-clause-err
unfolding has word_of
returns-in-Some-clause-err c =
    let chunks = c.args.self.now.chunks in
    let id : ℕ = c.args.id in
    let was : Chunk = c.index_mut.result.now in
    let now : Chunk = c.add_bits.new.self in
    let is : value_at chunks (id / 262144) ≡ Some was = (c.in-Some.ensures.found.1 ∙ slice_get_read chunks.items.items (length chunks.items.items) c.in-Some.at c.index_mut.result.now (omega arith) c.in-Some.ensures.found.0 c.index_mut.ensures.value) in
    let put : (k : ℕ) → k < 4096 → value_of_place (value_in chunks.groups) (set chunks.items.items c.in-Some.at now) k ≡ (if k == id / 262144 then Some now else value_at chunks k) =
    set-values (value_in chunks.groups) (length chunks.items.items) (id / 262144) c.in-Some.at chunks.items.items now chunks.laid_out (omega arith) c.in-Some.ensures.is_place c.in-Some.ensures.found.0 in
    let new : ℕ → Option Chunk = value_of_place (value_in chunks.groups) (set chunks.items.items c.in-Some.at now) in
    let old_past = place-past chunks.groups chunks.items.items in
    let new_past = place-past chunks.groups (set chunks.items.items c.in-Some.at now) in
    on_err c.add_bits.result c.add_bits.ensures.err (λ same i.
    holds-under _ i
    ∙ (set-same (value_at chunks) new id now put old_past new_past c.requires.index (λ r low. ap (λ w. bit_is_set w (r % 64)) (same 0 (r / 64) (omega arith)) ∙ ap (λ o. has_under o r) (sym is)) i
    ∙ sym (holds-under chunks i)))

pub invariant_of-self-2 : goal.invariant_of-self-2
invariant_of-self-2 c =
    let full = full-insert c.insert.result c.args.self.now.chunks c.insert.new.self c.args.id c.add_bits-2.new.self c.insert.ensures.put c.insert.ensures.err c.in_ok-add_bits.ensures.nonempty c.args.self.now.full in
    record { full = full; summed = full-summed c.insert.new.self full }

pub returns-in_err-insert-clause-err : goal.returns-in_err-insert-clause-err
unfolding has word_of
returns-in_err-insert-clause-err c = on_err_always c.from_residual-in_err-insert.result (λ i.
    holds-under c.insert.new.self i
    ∙ (ap (λ o. has_under o (i % 262144)) (same-value c.args.self.now.chunks c.insert.new.self c.in_err-insert.ensures.err (i / 262144))
    ∙ sym (holds-under c.args.self.now.chunks i)))

pub returns-clause-added : goal.returns-clause-added
unfolding has word_of
returns-clause-added c = λ i.
    let chunks = c.args.self.now.chunks in
    let id : ℕ = c.args.id in
    let none : value_at chunks (id / 262144) ≡ None = c.in_default.ensures.absent in
    holds-under c.insert.new.self i
    ∙ (set-word-added (value_at chunks) (value_at c.insert.new.self) id c.args.bits c.add_bits-2.new.self c.in_ok-insert.ensures.put (place-past chunks.groups chunks.items.items) (place-past c.insert.new.self.groups c.insert.new.self.items.items) c.requires.index
    (λ r low. c.in_ok-add_bits.ensures.added r low ∙ ap (λ b. b || is_in_word (id % 262144) c.args.bits r) (c.new-chunk.ensures r ∙ sym (ap (λ o. has_under o r) none ∙ none-under r))) i
    ∙ ap (λ b. b || is_in_word id c.args.bits i) (sym (holds-under chunks i)))
