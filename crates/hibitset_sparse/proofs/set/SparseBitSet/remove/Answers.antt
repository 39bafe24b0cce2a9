use Rattle.std.proofs.Common.{◌≡◌, ℕ, ◌/◌, ◌%◌, ◌^◌, ◌<◌, ◌==◌, ◌&&◌, not, true, false, List, Option, Some, None, refl, sym, ◌∙◌, ap, set, arith, length, inl, inr}
use Rattle.std.specs.Prelude.{if◌then◌else◌}
use Rattle.std.proofs.lemmas.Option.{same_Some, slice_get_read}
use Rattle.std.proofs.Math.ListN.{length-set}
use Rattle.hibitset_base.specs.Decisions.{eq_other, eq_same, same_or_not}
use Rattle.hibitset_base.specs.Words.{holds_at}
use Rattle.hibitset_sparse.specs.Chunks.{AreFull, word_in}
use Rattle.hibitset_sparse.specs.Layout.{value_of_place}
use Rattle.hibitset_sparse.specs.PackedArray.{value_in}
use Rattle.hibitset_sparse.specs.SparseBitSet.{has, word_of}
use Rattle.hibitset_sparse.specs.Table.{value_at}
use Rattle.hibitset_sparse.specs.declared.chunk.Chunk.{Chunk}
use Rattle.hibitset_sparse.proofs.EditLemmas.{get-set_at}
use Rattle.hibitset_sparse.proofs.ExactLemmas.{full-summed}
use Rattle.hibitset_sparse.proofs.LayoutLemmas.{set-values}
use Rattle.hibitset_sparse.proofs.SetLemmas.{full-put, full-removed, has_under, holds-under, none-removed, none-under, place-past, root-none, set-removed}
use Rattle.hibitset_sparse.proofs.set.SparseBitSet.remove.Goals as goal

-- one that was written over and then taken out is gone, and the others are as before
without : (d k : ℕ) (old mid new : Option Chunk) (now : Chunk) → mid ≡ (if k == d then Some now else old) → new ≡ (if k == d then None else mid) → new ≡ (if k == d then None else old)
without d k old mid new now put cut = elim (same_or_not k d) [
  | inl same ↦ (let yes : (k == d) ≡ true = eq_same k d same in rw yes (cut ∙ rw yes refl))
  | inr other ↦ (let no : (k == d) ≡ false = eq_other k d other in rw no (cut ∙ (rw no refl ∙ (put ∙ rw no refl))))
]

pub returns-then-id-ge-MAX_EID-clause-was_member : goal.returns-then-id-ge-MAX_EID-clause-was_member
unfolding has word_of
returns-then-id-ge-MAX_EID-clause-was_member c =
    let chunks = c.args.self.now.chunks in
    let none : value_at chunks (c.args.id / 262144) ≡ None = (let past = c.if-id-ge-MAX_EID.true in place-past chunks.groups chunks.items.items (c.args.id / 262144) (omega (arith, past))) in
    sym (holds-under chunks c.args.id ∙ (ap (λ o. has_under o (c.args.id % 262144)) none ∙ none-under (c.args.id % 262144)))

pub returns-then-id-ge-MAX_EID-clause-removed : goal.returns-then-id-ge-MAX_EID-clause-removed
unfolding has word_of
returns-then-id-ge-MAX_EID-clause-removed c =
    let chunks = c.args.self.now.chunks in
    let none : value_at chunks (c.args.id / 262144) ≡ None = (let past = c.if-id-ge-MAX_EID.true in place-past chunks.groups chunks.items.items (c.args.id / 262144) (omega (arith, past))) in
    none-removed (holds_at (word_in chunks)) c.args.id (holds-under chunks c.args.id ∙ (ap (λ o. has_under o (c.args.id % 262144)) none ∙ none-under (c.args.id % 262144)))

pub returns-in_default-clause-was_member : goal.returns-in_default-clause-was_member
unfolding has word_of
returns-in_default-clause-was_member c =
    let chunks = c.args.self.now.chunks in
    let none : value_at chunks (c.args.id / 262144) ≡ None = c.in_default.ensures.absent in
    sym (holds-under chunks c.args.id ∙ (ap (λ o. has_under o (c.args.id % 262144)) none ∙ none-under (c.args.id % 262144)))

pub returns-in_default-clause-removed : goal.returns-in_default-clause-removed
unfolding has word_of
returns-in_default-clause-removed c =
    let chunks = c.args.self.now.chunks in
    let none : value_at chunks (c.args.id / 262144) ≡ None = c.in_default.ensures.absent in
    none-removed (holds_at (word_in chunks)) c.args.id (holds-under chunks c.args.id ∙ (ap (λ o. has_under o (c.args.id % 262144)) none ∙ none-under (c.args.id % 262144)))

pub invariant_of-self-then-layer2-eq0 : goal.invariant_of-self-then-layer2-eq0
invariant_of-self-then-layer2-eq0 c =
    let chunks = c.args.self.now.chunks in
    let id : ℕ = c.args.id in
    let within : id < 2 ^ 30 = (let low = c.if-id-ge-MAX_EID.false in omega (arith, low)) in
    let was : Chunk = c.index_mut.result.now in
    let now : Chunk = c.remove-was.new.self in
    let is : value_at chunks (id / 262144) ≡ Some was = (c.in-Some.ensures.found.1 ∙ slice_get_read chunks.items.items (length chunks.items.items) c.in-Some.at was refl c.in-Some.ensures.found.0 c.index_mut.ensures.value) in
    let written : List Chunk = set chunks.items.items c.in-Some.at now in
    let put : (k : ℕ) → k < 4096 → value_of_place (value_in chunks.groups) written k ≡ (if k == id / 262144 then Some now else value_at chunks k) =
    set-values (value_in chunks.groups) (length chunks.items.items) (id / 262144) c.in-Some.at chunks.items.items now chunks.laid_out (omega arith) c.in-Some.ensures.is_place c.in-Some.ensures.found.0 in
    let gone : (k : ℕ) → k < 4096 → value_at c.remove-chunk.new.self k ≡ (if k == id / 262144 then None else value_at chunks k) =
    λ k small. without (id / 262144) k (value_at chunks k) (value_of_place (value_in chunks.groups) written k) (value_at c.remove-chunk.new.self k) now (put k small) (c.remove-chunk.ensures.put k small) in
    let full : AreFull c.remove-chunk.new.self = full-removed (value_at chunks) (value_at c.remove-chunk.new.self) (id / 262144) gone (λ k x small other some. c.args.self.now.full k x small some) in
    record { full = full; summed = full-summed c.remove-chunk.new.self full }

pub returns-then-layer2-eq0-clause-was_member : goal.returns-then-layer2-eq0-clause-was_member
unfolding has word_of
returns-then-layer2-eq0-clause-was_member c =
    let chunks = c.args.self.now.chunks in
    let id : ℕ = c.args.id in
    let within : id < 2 ^ 30 = (let low = c.if-id-ge-MAX_EID.false in omega (arith, low)) in
    let was : Chunk = c.index_mut.result.now in
    let now : Chunk = c.remove-was.new.self in
    let is : value_at chunks (id / 262144) ≡ Some was = (c.in-Some.ensures.found.1 ∙ slice_get_read chunks.items.items (length chunks.items.items) c.in-Some.at was refl c.in-Some.ensures.found.0 c.index_mut.ensures.value) in
    let written : List Chunk = set chunks.items.items c.in-Some.at now in
    let put : (k : ℕ) → k < 4096 → value_of_place (value_in chunks.groups) written k ≡ (if k == id / 262144 then Some now else value_at chunks k) =
    set-values (value_in chunks.groups) (length chunks.items.items) (id / 262144) c.in-Some.at chunks.items.items now chunks.laid_out (omega arith) c.in-Some.ensures.is_place c.in-Some.ensures.found.0 in
    c.remove-was.ensures.was_member ∙ sym (holds-under chunks id ∙ ap (λ o. has_under o (id % 262144)) is)

pub returns-then-layer2-eq0-clause-removed : goal.returns-then-layer2-eq0-clause-removed
unfolding has word_of
returns-then-layer2-eq0-clause-removed c = λ i.
    let chunks = c.args.self.now.chunks in
    let id : ℕ = c.args.id in
    let within : id < 2 ^ 30 = (let low = c.if-id-ge-MAX_EID.false in omega (arith, low)) in
    let was : Chunk = c.index_mut.result.now in
    let now : Chunk = c.remove-was.new.self in
    let is : value_at chunks (id / 262144) ≡ Some was = (c.in-Some.ensures.found.1 ∙ slice_get_read chunks.items.items (length chunks.items.items) c.in-Some.at was refl c.in-Some.ensures.found.0 c.index_mut.ensures.value) in
    let written : List Chunk = set chunks.items.items c.in-Some.at now in
    let put : (k : ℕ) → k < 4096 → value_of_place (value_in chunks.groups) written k ≡ (if k == id / 262144 then Some now else value_at chunks k) =
    set-values (value_in chunks.groups) (length chunks.items.items) (id / 262144) c.in-Some.at chunks.items.items now chunks.laid_out (omega arith) c.in-Some.ensures.is_place c.in-Some.ensures.found.0 in
    let gone : (k : ℕ) → k < 4096 → value_at c.remove-chunk.new.self k ≡ (if k == id / 262144 then None else value_at chunks k) =
    λ k small. without (id / 262144) k (value_at chunks k) (value_of_place (value_in chunks.groups) written k) (value_at c.remove-chunk.new.self k) now (put k small) (c.remove-chunk.ensures.put k small) in
    let long : length written ≡ length chunks.items.items = length-set chunks.items.items c.in-Some.at now in
    let low : c.in-Some.at < length written = (let l = c.in-Some.ensures.found.0 in omega (arith, l, long)) in
    let seen : c.index.result.now ≡ now = same_Some c.index.result.now now (sym (slice_get_read written (length written) c.in-Some.at c.index.result.now refl low c.index.ensures) ∙ get-set_at chunks.items.items c.in-Some.at now c.in-Some.ensures.found.0) in
    let root : c.layer2.result ≡ now.words.groups.word = c.layer2.ensures ∙ ap (λ x. x.words.groups.word) seen in
    let empty : now.words.groups.word ≡ 0 = sym root ∙ c.if-layer2-eq0.true in
    holds-under c.remove-chunk.new.self i
    ∙ (set-removed (value_at chunks) (value_at c.remove-chunk.new.self) id None gone (place-past chunks.groups chunks.items.items) (place-past c.remove-chunk.new.self.groups c.remove-chunk.new.self.items.items) within
    (λ r small. none-under r ∙ (sym (root-none now empty r) ∙ (c.remove-was.ensures.removed r small ∙ ap (λ o. has_under o r && not (r == id % 262144)) (sym is)))) i
    ∙ ap (λ b. b && not (i == id)) (sym (holds-under chunks i)))

pub invariant_of-self-else-layer2-eq0 : goal.invariant_of-self-else-layer2-eq0
invariant_of-self-else-layer2-eq0 c =
    let chunks = c.args.self.now.chunks in
    let id : ℕ = c.args.id in
    let within : id < 2 ^ 30 = (let low = c.if-id-ge-MAX_EID.false in omega (arith, low)) in
    let was : Chunk = c.index_mut.result.now in
    let now : Chunk = c.remove-was.new.self in
    let is : value_at chunks (id / 262144) ≡ Some was = (c.in-Some.ensures.found.1 ∙ slice_get_read chunks.items.items (length chunks.items.items) c.in-Some.at was refl c.in-Some.ensures.found.0 c.index_mut.ensures.value) in
    let written : List Chunk = set chunks.items.items c.in-Some.at now in
    let put : (k : ℕ) → k < 4096 → value_of_place (value_in chunks.groups) written k ≡ (if k == id / 262144 then Some now else value_at chunks k) =
    set-values (value_in chunks.groups) (length chunks.items.items) (id / 262144) c.in-Some.at chunks.items.items now chunks.laid_out (omega arith) c.in-Some.ensures.is_place c.in-Some.ensures.found.0 in
    let long : length written ≡ length chunks.items.items = length-set chunks.items.items c.in-Some.at now in
    let low : c.in-Some.at < length written = (let l = c.in-Some.ensures.found.0 in omega (arith, l, long)) in
    let seen : c.index.result.now ≡ now = same_Some c.index.result.now now (sym (slice_get_read written (length written) c.in-Some.at c.index.result.now refl low c.index.ensures) ∙ get-set_at chunks.items.items c.in-Some.at now c.in-Some.ensures.found.0) in
    let root : c.layer2.result ≡ now.words.groups.word = c.layer2.ensures ∙ ap (λ x. x.words.groups.word) seen in
    let some : 0 < now.words.groups.word = (let other = c.if-layer2-eq0.false in omega (arith, other, root)) in
    let full = full-put (value_at chunks) (value_of_place (value_in chunks.groups) written) id now put (place-past chunks.groups chunks.items.items) (place-past chunks.groups written) some c.args.self.now.full in
    record { full = full; summed = full-summed _ full }

pub returns-clause-was_member : goal.returns-clause-was_member
unfolding has word_of
returns-clause-was_member c =
    let chunks = c.args.self.now.chunks in
    let id : ℕ = c.args.id in
    let within : id < 2 ^ 30 = (let low = c.if-id-ge-MAX_EID.false in omega (arith, low)) in
    let was : Chunk = c.index_mut.result.now in
    let now : Chunk = c.remove-was.new.self in
    let is : value_at chunks (id / 262144) ≡ Some was = (c.in-Some.ensures.found.1 ∙ slice_get_read chunks.items.items (length chunks.items.items) c.in-Some.at was refl c.in-Some.ensures.found.0 c.index_mut.ensures.value) in
    let written : List Chunk = set chunks.items.items c.in-Some.at now in
    let put : (k : ℕ) → k < 4096 → value_of_place (value_in chunks.groups) written k ≡ (if k == id / 262144 then Some now else value_at chunks k) =
    set-values (value_in chunks.groups) (length chunks.items.items) (id / 262144) c.in-Some.at chunks.items.items now chunks.laid_out (omega arith) c.in-Some.ensures.is_place c.in-Some.ensures.found.0 in
    c.remove-was.ensures.was_member ∙ sym (holds-under chunks id ∙ ap (λ o. has_under o (id % 262144)) is)

pub returns-clause-removed : goal.returns-clause-removed
unfolding has word_of
returns-clause-removed c = λ i.
    let chunks = c.args.self.now.chunks in
    let id : ℕ = c.args.id in
    let within : id < 2 ^ 30 = (let low = c.if-id-ge-MAX_EID.false in omega (arith, low)) in
    let was : Chunk = c.index_mut.result.now in
    let now : Chunk = c.remove-was.new.self in
    let is : value_at chunks (id / 262144) ≡ Some was = (c.in-Some.ensures.found.1 ∙ slice_get_read chunks.items.items (length chunks.items.items) c.in-Some.at was refl c.in-Some.ensures.found.0 c.index_mut.ensures.value) in
    let written : List Chunk = set chunks.items.items c.in-Some.at now in
    let put : (k : ℕ) → k < 4096 → value_of_place (value_in chunks.groups) written k ≡ (if k == id / 262144 then Some now else value_at chunks k) =
    set-values (value_in chunks.groups) (length chunks.items.items) (id / 262144) c.in-Some.at chunks.items.items now chunks.laid_out (omega arith) c.in-Some.ensures.is_place c.in-Some.ensures.found.0 in
    holds-under _ i
    ∙ (set-removed (value_at chunks) (value_of_place (value_in chunks.groups) written) id (Some now) put (place-past chunks.groups chunks.items.items) (place-past chunks.groups written) within
    (λ r small. c.remove-was.ensures.removed r small ∙ ap (λ o. has_under o r && not (r == id % 262144)) (sym is)) i
    ∙ ap (λ b. b && not (i == id)) (sym (holds-under chunks i)))
