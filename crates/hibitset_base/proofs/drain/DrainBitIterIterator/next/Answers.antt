use Rattle.std.proofs.Common.{◌≡◌, ◌≢◌, ℕ, ◌==◌, ◌&&◌, not, length, Bool, false, ◌∷◌, refl, sym, ap, ◌∙◌, arith}
use Rattle.std.proofs.Math.Bool.{and-true}
use Rattle.std.proofs.lemmas.Bool.Decides.{nat_tests}
use Rattle.hibitset_base.specs.Cursor.{cursor_places}
use Rattle.hibitset_base.specs.Drain.{items_to_drain}
use Rattle.hibitset_base.specs.declared.util.TheConstants.{LAYERS}
use Rattle.hibitset_base.proofs.DrainLemmas.{items_without, later_than}
use Rattle.hibitset_base.proofs.drain.DrainBitIterIterator.next.Goals as goal

eq_other : (a b : ℕ) → a ≢ b → (a == b) ≡ false
eq_other a b other = grind (arith, nat_tests)

kept : (b c d : Bool) → d ≡ (b && not c) → c ≡ false → b ≡ d
kept b c d e f = sym (e ∙ (ap (λ x. b && not x) f ∙ and-true b))

pub returns-clause-steps : goal.returns-clause-steps
unfolding items_to_drain
returns-clause-steps g c =
    let i : ℕ = c.in_ok-index.index in
    let cursor = c.next_index.new.cursor in
    let p : ℕ → Bool = g.T.BitSetLike.holds c.args.self.now.set.now in
    let r : ℕ → Bool = g.T.BitSetLike.holds c.remove.new.self in
    let same : (j : ℕ) → j ≢ i → p j ≡ r j = λ j other. kept (p j) (j == i) (r j) (c.remove.ensures.removed j) (eq_other j i other) in
    let later = later_than LAYERS cursor.masks cursor.prefix i c.in_ok-index.ensures.before cursor.formed.long in
    (sym c.in_ok-index.ensures.goes.items ∙ ap (λ xs. i ∷ xs) (items_without p r i same (cursor_places cursor) later), refl, c.remove.ensures.removed, c.remove.ensures.keeps_room)

pub returns-clause-goes : goal.returns-clause-goes
returns-clause-goes g c =
    let shorter = ap length ((returns-clause-steps g c).0) in
    record { on = λ finite. (tt, tt, omega (arith, shorter)); keeps = tt; rests = λ finite. tt }
