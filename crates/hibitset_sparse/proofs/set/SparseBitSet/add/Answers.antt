use Rattle.std.proofs.Common.{◌≡◌, ℕ, ◌/◌, ◌%◌, ◌<◌, ◌==◌, ◌||◌, Option, Some, None, sym, ◌∙◌, ap, set, arith, length}
use Rattle.std.specs.Prelude.{if◌then◌else◌}
use Rattle.std.proofs.lemmas.Option.{slice_get_read}
use Rattle.std.proofs.Math.ListN.{length-set}
use Rattle.hibitset_base.specs.Words.{holds_at}
use Rattle.hibitset_sparse.specs.Chunk.{chunk_word, has_in}
use Rattle.hibitset_sparse.specs.Chunks.{word_in, word_under}
use Rattle.hibitset_sparse.specs.Layout.{AreLaidOut, value_of_place}
use Rattle.hibitset_sparse.specs.Rank.{bit_is_set}
use Rattle.hibitset_sparse.specs.PackedArray.{value_in}
use Rattle.hibitset_sparse.specs.SparseBitSet.{has, word_of}
use Rattle.hibitset_sparse.specs.Table.{value_at}
use Rattle.hibitset_sparse.specs.declared.chunk.Chunk.{Chunk}
use Rattle.hibitset_sparse.proofs.ChunkLemmas.{same-value}
use Rattle.hibitset_sparse.proofs.ExactLemmas.{full-summed}
use Rattle.hibitset_sparse.proofs.LayoutLemmas.{set-values}
use Rattle.hibitset_sparse.proofs.MemberWordLemmas.{no-word, word-under}
use Rattle.hibitset_sparse.proofs.SetLemmas.{full-insert, full-put, has_under, holds-under, if_ok, none-under, on_err, on_err_always, on_ok, place-past, root-kept, set-added, set-same}
use Rattle.hibitset_sparse.proofs.set.SparseBitSet.add.Goals as goal

pub invariant_of-self : goal.invariant_of-self
invariant_of-self c =
    let chunks = c.args.self.now.chunks in
    let id : ℕ = c.args.id in
    let was : Chunk = c.index_mut.result.now in
    let now : Chunk = c.add.new.self in
    let is : value_at chunks (id / 262144) ≡ Some was = (c.in-Some.ensures.found.1 ∙ slice_get_read chunks.items.items (length chunks.items.items) c.in-Some.at c.index_mut.result.now (omega arith) c.in-Some.ensures.found.0 c.index_mut.ensures.value) in
    let put : (k : ℕ) → k < 4096 → value_of_place (value_in chunks.groups) (set chunks.items.items c.in-Some.at now) k ≡ (if k == id / 262144 then Some now else value_at chunks k) =
    set-values (value_in chunks.groups) (length chunks.items.items) (id / 262144) c.in-Some.at chunks.items.items now chunks.laid_out (omega arith) c.in-Some.ensures.is_place c.in-Some.ensures.found.0 in
    let new : ℕ → Option Chunk = value_of_place (value_in chunks.groups) (set chunks.items.items c.in-Some.at now) in
    let old_past = place-past chunks.groups chunks.items.items in
    let new_past = place-past chunks.groups (set chunks.items.items c.in-Some.at now) in
    let root = root-kept c.add.result was now c.add.ensures.nonempty c.add.ensures.err (c.args.self.now.full (id / 262144) was (omega arith) is) in
    let full = full-put (value_at chunks) new id now put old_past new_past root c.args.self.now.full in
    let long : length (set chunks.items.items c.in-Some.at now) ≡ length chunks.items.items = length-set chunks.items.items c.in-Some.at now in
    let laid : AreLaidOut (value_in chunks.groups) (length (set chunks.items.items c.in-Some.at now)) = rw long chunks.laid_out in
    ((laid, tt), (full, (full-summed _ full, tt)))

pub returns-in-Some-clause-was_member : goal.returns-in-Some-clause-was_member
unfolding has word_of
returns-in-Some-clause-was_member c =
    let chunks = c.args.self.now.chunks in
    let id : ℕ = c.args.id in
    let was : Chunk = c.index_mut.result.now in
    let is : value_at chunks (id / 262144) ≡ Some was = (c.in-Some.ensures.found.1 ∙ slice_get_read chunks.items.items (length chunks.items.items) c.in-Some.at c.index_mut.result.now (omega arith) c.in-Some.ensures.found.0 c.index_mut.ensures.value) in
    let there : holds_at (word_in chunks) id ≡ has_in was (id % 262144) = holds-under chunks id ∙ ap (λ o. has_under o (id % 262144)) is in
    if_ok c.add.result c.add.ensures.was_member (λ x e. e ∙ sym there)

pub returns-in-Some-clause-added : goal.returns-in-Some-clause-added
unfolding has word_of
returns-in-Some-clause-added c =
    let chunks = c.args.self.now.chunks in
    let id : ℕ = c.args.id in
    let was : Chunk = c.index_mut.result.now in
    let now : Chunk = c.add.new.self in
    let is : value_at chunks (id / 262144) ≡ Some was = (c.in-Some.ensures.found.1 ∙ slice_get_read chunks.items.items (length chunks.items.items) c.in-Some.at c.index_mut.result.now (omega arith) c.in-Some.ensures.found.0 c.index_mut.ensures.value) in
    let put : (k : ℕ) → k < 4096 → value_of_place (value_in chunks.groups) (set chunks.items.items c.in-Some.at now) k ≡ (if k == id / 262144 then Some now else value_at chunks k) =
    set-values (value_in chunks.groups) (length chunks.items.items) (id / 262144) c.in-Some.at chunks.items.items now chunks.laid_out (omega arith) c.in-Some.ensures.is_place c.in-Some.ensures.found.0 in
    let new : ℕ → Option Chunk = value_of_place (value_in chunks.groups) (set chunks.items.items c.in-Some.at now) in
    let old_past = place-past chunks.groups chunks.items.items in
    let new_past = place-past chunks.groups (set chunks.items.items c.in-Some.at now) in
    on_ok c.add.result c.add.ensures.added (λ added i.
    holds-under _ i
    ∙ (set-added (value_at chunks) new id now put old_past new_past c.requires (λ r low. added r low ∙ ap (λ o. has_under o r || r == id % 262144) (sym is)) i
    ∙ ap (λ b. b || i == id) (sym (holds-under chunks i))))

pub returns-in-Some-clause-err : goal.returns-in-Some-clause-err
unfolding has word_of
returns-in-Some-clause-err c =
    let chunks = c.args.self.now.chunks in
    let id : ℕ = c.args.id in
    let was : Chunk = c.index_mut.result.now in
    let now : Chunk = c.add.new.self in
    let is : value_at chunks (id / 262144) ≡ Some was = (c.in-Some.ensures.found.1 ∙ slice_get_read chunks.items.items (length chunks.items.items) c.in-Some.at c.index_mut.result.now (omega arith) c.in-Some.ensures.found.0 c.index_mut.ensures.value) in
    let put : (k : ℕ) → k < 4096 → value_of_place (value_in chunks.groups) (set chunks.items.items c.in-Some.at now) k ≡ (if k == id / 262144 then Some now else value_at chunks k) =
    set-values (value_in chunks.groups) (length chunks.items.items) (id / 262144) c.in-Some.at chunks.items.items now chunks.laid_out (omega arith) c.in-Some.ensures.is_place c.in-Some.ensures.found.0 in
    let new : ℕ → Option Chunk = value_of_place (value_in chunks.groups) (set chunks.items.items c.in-Some.at now) in
    let old_past = place-past chunks.groups chunks.items.items in
    let new_past = place-past chunks.groups (set chunks.items.items c.in-Some.at now) in
    on_err c.add.result c.add.ensures.err (λ same i.
    holds-under _ i
    ∙ (set-same (value_at chunks) new id now put old_past new_past c.requires (λ r low. ap (λ w. bit_is_set w (r % 64)) (same 0 (r / 64) (omega arith)) ∙ ap (λ o. has_under o r) (sym is)) i
    ∙ sym (holds-under chunks i)))

pub returns-in-Some-clause-succeeds : goal.returns-in-Some-clause-succeeds
unfolding word_of
returns-in-Some-clause-succeeds c = λ some.
    let chunks = c.args.self.now.chunks in
    let id : ℕ = c.args.id in
    let was : Chunk = c.index_mut.result.now in
    let is : value_at chunks (id / 262144) ≡ Some was = (c.in-Some.ensures.found.1 ∙ slice_get_read chunks.items.items (length chunks.items.items) c.in-Some.at c.index_mut.result.now (omega arith) c.in-Some.ensures.found.0 c.index_mut.ensures.value) in
    let word : word_in chunks 0 (id / 64) ≡ chunk_word was 0 (id % 262144 / 64) = word-under chunks id ∙ ap (λ o. word_under o 0 (id % 262144 / 64)) is in
    c.add.ensures.succeeds (omega (arith, word, some))

pub returns-in_err-add-clause-succeeds : goal.returns-in_err-add-clause-succeeds
unfolding word_of
returns-in_err-add-clause-succeeds c = λ some.
    let none = no-word c.args.self.now.chunks c.args.id c.in_default.ensures.absent in
    absurd (omega (arith, none, some))

pub returns-in_err-insert-clause-succeeds : goal.returns-in_err-insert-clause-succeeds
unfolding word_of
returns-in_err-insert-clause-succeeds c = λ some.
    let none = no-word c.args.self.now.chunks c.args.id c.in_default.ensures.absent in
    absurd (omega (arith, none, some))

pub invariant_of-self-2 : goal.invariant_of-self-2
invariant_of-self-2 c =
    let full = full-insert c.insert.result c.args.self.now.chunks c.insert.new.self c.args.id c.add-2.new.self c.insert.ensures.put c.insert.ensures.err c.in_ok-add.ensures.nonempty c.args.self.now.full in
    record { full = full; summed = full-summed c.insert.new.self full }

pub returns-in_err-insert-clause-err : goal.returns-in_err-insert-clause-err
unfolding has word_of
returns-in_err-insert-clause-err c = on_err_always c.from_residual-in_err-insert.result (λ i.
    holds-under c.insert.new.self i
    ∙ (ap (λ o. has_under o (i % 262144)) (same-value c.args.self.now.chunks c.insert.new.self c.in_err-insert.ensures.err (i / 262144))
    ∙ sym (holds-under c.args.self.now.chunks i)))

pub returns-clause-was_member : goal.returns-clause-was_member
unfolding has word_of
returns-clause-was_member c =
    let chunks = c.args.self.now.chunks in
    let none : value_at chunks (c.args.id / 262144) ≡ None = c.in_default.ensures.absent in
    sym (holds-under chunks c.args.id ∙ (ap (λ o. has_under o (c.args.id % 262144)) none ∙ none-under (c.args.id % 262144)))

pub returns-clause-added : goal.returns-clause-added
unfolding has word_of
returns-clause-added c = λ i.
    let chunks = c.args.self.now.chunks in
    let id : ℕ = c.args.id in
    let none : value_at chunks (id / 262144) ≡ None = c.in_default.ensures.absent in
    holds-under c.insert.new.self i
    ∙ (set-added (value_at chunks) (value_at c.insert.new.self) id c.add-2.new.self c.in_ok-insert.ensures.put (place-past chunks.groups chunks.items.items) (place-past c.insert.new.self.groups c.insert.new.self.items.items) c.requires
    (λ r low. c.in_ok-add.ensures.added r low ∙ ap (λ b. b || r == id % 262144) (c.new-chunk.ensures r ∙ sym (ap (λ o. has_under o r) none ∙ none-under r))) i
    ∙ ap (λ b. b || i == id) (sym (holds-under chunks i)))
