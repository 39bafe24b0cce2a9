use Rattle.std.proofs.Common.{◌≡◌, ◌≢◌, ℕ, ◌==◌, ◌&&◌, not, Bool, false, ◌∙◌, arith}
use Rattle.std.proofs.lemmas.Bool.Decides.{nat_tests}
use Rattle.hibitset_base.proofs.drain.keep_or_remove.Goals as goal

-- what is left of a test where one number was taken out
gone : (a : Bool) (i : ℕ) → (a && not (i == i)) ≡ false
gone a i = grind (arith, nat_tests)

stays : (a : Bool) (i x : ℕ) → i ≢ x → (a && not (i == x)) ≡ a
stays a i x other = grind (arith, nat_tests)

pub returns-then-keep-clause-answer : goal.returns-then-keep-clause-answer
returns-then-keep-clause-answer g c on = rw on c.if-keep.ensures

pub returns-clause-answer : goal.returns-clause-answer
returns-clause-answer g c on =
    let off : g.T.BitSetLike.holds c.remove.new.self c.args.index ≡ false = c.remove.ensures.removed c.args.index ∙ gone (g.T.BitSetLike.holds c.args.set.now c.args.index) c.args.index in
    rw off c.if-keep.ensures

pub returns-clause-others : goal.returns-clause-others
returns-clause-others g c = λ i other. c.remove.ensures.removed i ∙ stays (g.T.BitSetLike.holds c.args.set.now i) i c.args.index other
