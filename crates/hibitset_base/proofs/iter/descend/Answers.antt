use Rattle.std.proofs.Common.{◌≡◌, ℕ, ◌+◌, ◌-◌, ◌*◌, ◌/◌, ◌%◌, ◌^◌, ◌<◌, ◌≤◌, ◌++◌, Bool, List, arith, subst, ◌∙◌, inl, inr}
use Rattle.std.proofs.Math.Nat.{eq-or-lt_of_le}
use Rattle.std.proofs.lemmas.Bool.{cases_lt}
use Rattle.hibitset_base.specs.Places.{Place, places_in, bits_from}
use Rattle.hibitset_base.specs.Cursor.{cursor_places, mask}
use Rattle.hibitset_base.specs.declared.util.TheConstants.{LAYERS}
use Rattle.hibitset_base.proofs.WordPlaceLemmas.{shifted}
use Rattle.hibitset_base.proofs.DescentLemmas.{steps_down, goes_down, fewer_after}
use Rattle.hibitset_base.proofs.iter.descend.Goals as goal

-- where the word under a place begins in its layer
word_start : (layer position : ℕ) → 64 ^ LAYERS ≤ 2 ^ 32 → 0 < layer → layer < LAYERS → position < 64 ^ (LAYERS - layer) → position * 64 % 4294967296 ≡ 64 * position
word_start layer position fits above lower within =
    let one : layer - 1 + 1 ≡ layer = omega arith in
    shifted LAYERS (layer - 1) position fits (omega arith) (rw one within)

pub push_bits_from-requires : goal.push_bits_from-requires
push_bits_from-requires g c =
    let layer : ℕ = c.args.layer in
    let position : ℕ = c.take_first-position.result in
    let one : layer - 1 + 1 ≡ layer = omega arith in
    let starts = word_start layer position c.args.cursor.now.positions_fit c.requires.above c.requires.layer c.take_first-position.ensures.rest.within in
    let back : position * 64 % 4294967296 / 64 ≡ position = omega (arith, starts) in
    (omega arith, (omega arith, (omega (arith, starts), rw (one, back) c.take_first-position.ensures.rest)))

pub returns-clause-goes : goal.returns-clause-goes
returns-clause-goes g c =
    let layer : ℕ = c.args.layer in
    let position : ℕ = c.take_first-position.result in
    let holds : ℕ → Bool = g.T.BitSetLike.holds c.args.set.now in
    let word : ℕ → ℕ → ℕ = g.T.BitSetLike.word c.args.set.now in
    let rest : List Place = cursor_places c.take_first-position.new.self in
    let read : c.read-word.result ≡ word (layer - 1) position = c.read-word.ensures.word in
    let one : layer - 1 + 1 ≡ layer = omega arith in
    let within : position < 64 ^ (LAYERS - (layer - 1 + 1)) = rw one c.take_first-position.ensures.rest.within in
    let starts = word_start layer position c.args.cursor.now.positions_fit c.requires.above c.requires.layer c.take_first-position.ensures.rest.within in
    let put : cursor_places c.push_bits_from.new.self ≡ places_in (layer - 1) (bits_from (64 * position) c.read-word.result) ++ rest = subst (λ s. cursor_places c.push_bits_from.new.self ≡ places_in (layer - 1) (bits_from s c.read-word.result) ++ rest) starts c.push_bits_from.ensures.left in
    let steps = steps_down word (cursor_places c.args.cursor.now) (cursor_places c.push_bits_from.new.self) rest layer position c.read-word.result c.requires.above c.take_first-position.ensures.taken put read in
    let fits : word (layer - 1) position < 2 ^ 64 = subst (λ v. v < 2 ^ 64) read (omega arith) in
    rw (steps.before, steps.after, c.read-word.ensures.reads)
    (goes_down LAYERS holds word (g.met.T.BitSetLike.lawful c.args.set.now) (layer - 1) position c.args.reads.now.count rest (omega arith) within fits)

pub returns-clause-fewer : goal.returns-clause-fewer
returns-clause-fewer g c =
    let layer : ℕ = c.args.layer in
    let position : ℕ = c.take_first-position.result in
    let word : ℕ → ℕ → ℕ = g.T.BitSetLike.word c.args.set.now in
    let rest : List Place = cursor_places c.take_first-position.new.self in
    let starts = word_start layer position c.args.cursor.now.positions_fit c.requires.above c.requires.layer c.take_first-position.ensures.rest.within in
    let put : cursor_places c.push_bits_from.new.self ≡ places_in (layer - 1) (bits_from (64 * position) c.read-word.result) ++ rest = subst (λ s. cursor_places c.push_bits_from.new.self ≡ places_in (layer - 1) (bits_from s c.read-word.result) ++ rest) starts c.push_bits_from.ensures.left in
    let steps = steps_down word (cursor_places c.args.cursor.now) (cursor_places c.push_bits_from.new.self) rest layer position c.read-word.result c.requires.above c.take_first-position.ensures.taken put c.read-word.ensures.word in
    let fewer = fewer_after word (layer - 1) position rest in
    rw (steps.before, steps.after) (omega (arith, fewer))

pub returns-clause-alone : goal.returns-clause-alone
returns-clause-alone g c alone few l other =
    let layer : ℕ = c.args.layer in
    let taken : (j : ℕ) → mask c.take_first-position.new.self j ≡ 0 = λ j. elim (cases_lt j layer) [
      | inl lower ↦ c.take_first-position.ensures.others j (omega arith) ∙ alone j (omega arith)
      | inr from ↦ elim (eq-or-lt_of_le from) [
        | inl e ↦ subst (λ x. mask c.take_first-position.new.self x ≡ 0) e (c.take_first-position.ensures.last few)
        | inr above ↦ c.take_first-position.ensures.others j (omega arith) ∙ alone j (omega arith)
      ]
    ] in
    c.push_bits_from.ensures.others l other ∙ taken l

pub returns-clause-empty_below : goal.returns-clause-empty_below
returns-clause-empty_below g c l lower =
    c.push_bits_from.ensures.others l (λ e. absurd (omega arith)) ∙ (c.take_first-position.ensures.others l (λ e. absurd (omega arith)) ∙ c.requires.lowest l (omega arith))
