use Rattle.std.proofs.Common.{◌≡◌, ◌≢◌, ℕ, suc, ◌+◌, ◌-◌, ◌*◌, ◌^◌, ◌<◌, ◌++◌, ◌∷◌, [], Bool, List, ◌∙◌, ap, arith, inl, inr, subst}
use Rattle.std.proofs.lemmas.Bool.{cases_lt}
use Rattle.hibitset_base.specs.Places.{Place, places_in, bits_from}
use Rattle.hibitset_base.specs.RevCursor.{rev_left, rev_mask, IsRevEmptyBelow}
use Rattle.hibitset_base.specs.declared.rev_cursor.RevCursor.{RevCursor}
use Rattle.hibitset_base.specs.declared.util.TheConstants.{LAYERS}
use Rattle.hibitset_base.proofs.RevWalkLemmas.{stays_back, goes_down_back}
use Rattle.hibitset_base.proofs.rev_iter.descend_last.Goals as goal

pub returns-then-is_empty-clause-end : goal.returns-then-is_empty-clause-end
returns-then-is_empty-clause-end g c = λ _ l below. elim (cases_lt l c.args.layer) [
  | inl lower ↦ c.requires.lowest l lower
  | inr upper ↦ (let is : l ≡ c.args.layer = omega (arith, below, upper) in ap (rev_mask c.args.cursor.now) is ∙ c.is_empty.ensures.empty c.if-is_empty.true)
]

pub returns-then-is_empty-clause-goes : goal.returns-then-is_empty-clause-goes
returns-then-is_empty-clause-goes g c = stays_back c.args.reads.now.count (rev_left c.args.cursor.now)

-- the layer below has nothing left
nothing_below : (cursor new : RevCursor LAYERS) (layer : ℕ) → 0 < layer → ((l : ℕ) → l ≢ layer → rev_mask new l ≡ rev_mask cursor l) → IsRevEmptyBelow cursor layer → IsRevEmptyBelow new (layer - 1 + 1)
nothing_below cursor new layer above others lowest l lower = others l (λ e. absurd (omega (arith, e, lower, above))) ∙ lowest l (omega (arith, lower, above))

pub push_bits-requires : goal.push_bits-requires
push_bits-requires g c =
    let above = c.requires.above in
    let below = c.requires.layer in
    let one : LAYERS - 1 - (c.args.layer - 1) ≡ LAYERS - c.args.layer = omega (arith, above) in
    (omega arith, (omega (arith, below), (rw one c.take_last-position.ensures.within, nothing_below c.args.cursor.now c.take_last-position.new.self c.args.layer above c.take_last-position.ensures.others c.requires.lowest)))

pub returns-clause-goes : goal.returns-clause-goes
returns-clause-goes g c =
    let layer : ℕ = c.args.layer in
    let q : ℕ = c.take_last-position.result in
    let holds : ℕ → Bool = g.T.BitSetLike.holds c.args.set.now in
    let word : ℕ → ℕ → ℕ = g.T.BitSetLike.word c.args.set.now in
    let above = c.requires.above in
    let below = c.requires.layer in
    let rest : List Place = rev_left c.take_last-position.new.self in
    let one : layer ≡ suc (layer - 1) = omega (arith, above) in
    let next : layer - 1 + 1 ≡ layer = omega (arith, above) in
    let read : c.read-word.result ≡ word (layer - 1) q = c.read-word.ensures.word in
    let fits : word (layer - 1) q < 2 ^ 64 = subst (λ v. v < 2 ^ 64) read (omega arith) in
    let within : q < 64 ^ (LAYERS - (layer - 1 + 1)) = rw next c.take_last-position.ensures.within in
    let down = goes_down_back LAYERS holds word (g.met.T.BitSetLike.lawful c.args.set.now) (layer - 1) q (omega (arith, below, above)) within fits rest c.args.reads.now.count in
    let old : rev_left c.args.cursor.now ≡ rest ++ ((record { layer = suc (layer - 1); position = q }) ∷ []) = c.take_last-position.ensures.taken ∙ ap (λ l. rest ++ ((record { layer = l; position = q }) ∷ [])) one in
    let new : rev_left c.push_bits.new.self ≡ rest ++ places_in (layer - 1) (bits_from (64 * q) (word (layer - 1) q)) = c.push_bits.ensures.left ∙ ap (λ v. rest ++ places_in (layer - 1) (bits_from (64 * q) v)) read in
    rw (old, new, c.read-word.ensures.reads) down
