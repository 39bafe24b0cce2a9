use Rattle.std.proofs.Common.{◌≡◌, ℕ, ◌/◌, ◌%◌, ◌==◌, ◌||◌, ◌&&◌, Bool, List, ap, sym, ◌∙◌, arith}
use Rattle.hibitset.specs.WordBits.{stands_in}
use Rattle.hibitset_roaring.specs.Format.{in_bits, in_container}
use Rattle.hibitset_roaring.specs.Words.{Adds}
use Rattle.hibitset_roaring.proofs.AddLemmas.{adds_same}
use Rattle.hibitset_roaring.proofs.ContainerLemmas.{at_bits, in_bits_is}
use Rattle.hibitset_roaring.proofs.decode_container.read_container.Goals as goal

pub append_bits-requires : goal.append_bits-requires
append_bits-requires c =
    let card = c.cardinality-cardinality.ensures.cardinality in
    let more = c.if-cardinality-le-MAX_ARRAY_LEN.false in
    let p = at_bits c.args.bytes.now c.args.k (sym c.is_run.ensures ∙ c.if-is_run.false) (omega (arith, card, more)) in
    let w = c.requires.within in
    let at = c.requires.at in
    omega (arith, p, w, at)

-- words with the same members gain the same
adds_after : (high : ℕ) (low : ℕ → Bool) (old mid new : List ℕ) → ((i : ℕ) → stands_in mid i ≡ stands_in old i) → Adds high low mid new → Adds high low old new
adds_after high low old mid new same adds = record { bits = λ i. adds.bits i ∙ ap (λ t. t || ((i / 65536 == high) && low (i % 65536))) (same i) }

pub returns-clause-members : goal.returns-clause-members
returns-clause-members c =
    let bytes = c.args.bytes.now in
    let key : ℕ = c.args.key in
    let card = c.cardinality-cardinality.ensures.cardinality in
    let more = c.if-cardinality-le-MAX_ARRAY_LEN.false in
    let adds = adds_after key (in_bits bytes c.args.at) c.args.words.now.items c.lengthen-2.new.words.items c.append_bits.new.words.items c.lengthen-2.ensures.same (c.in_ok-count.ensures.members key c.in_ok-lengthen-2.ensures.length) in
    adds_same key (in_bits bytes c.args.at) (in_container bytes c.args.k) _ _
    (λ v. ap (λ a. in_bits bytes a v) c.requires.at ∙ in_bits_is bytes c.args.k (sym c.is_run.ensures ∙ c.if-is_run.false) (omega (arith, card, more)) v) adds
