use Rattle.std.proofs.Common.{◌≡◌, ℕ, ◌*◌, ◌/◌, subst, arith}
use Rattle.std.proofs.Math.ListN.{set}
use Rattle.hibitset_base.specs.Places.{IsWellFormed}
use Rattle.hibitset_base.proofs.WordPlaceLemmas.{formed_after}
use Rattle.hibitset_base.proofs.PlaceLemmas.{left-put}
use Rattle.hibitset_base.proofs.cursor.Cursor.push_bits_from.Goals as goal

pub invariant_of-self : goal.invariant_of-self
invariant_of-self g c =
    let n : ℕ = g.row.N in
    let layer : ℕ = c.args.layer in
    let formed = c.args.self.now.formed in
    let e : 64 * (c.args.start / 64) ≡ c.args.start = omega (arith, c.requires.aligned) in
    record {
      positions_fit = c.args.self.now.positions_fit;
      formed = subst (λ s. IsWellFormed n (set c.args.self.now.masks layer c.args.word) (set c.args.self.now.prefix layer s)) e (formed_after n layer c.args.self.now.masks c.args.self.now.prefix c.args.word (c.args.start / 64) formed formed.long (omega arith) c.requires.layer c.requires.rest);
    }

pub returns-clause-left : goal.returns-clause-left
returns-clause-left g c =
    left-put c.args.layer c.args.word c.args.start c.args.self.now.masks c.args.self.now.prefix (omega arith) (omega arith) (λ j lower. c.requires.rest.below j (omega arith))
