use Rattle.std.proofs.Common.{◌≡◌, ℕ, ◌*◌, ◌/◌, ◌%◌, ◌++◌, subst, arith}
use Rattle.hibitset_base.specs.Places.{places_in, bits_from}
use Rattle.hibitset_base.specs.Cursor.{cursor_places}
use Rattle.hibitset_base.proofs.WordPlaceLemmas.{shifted}
use Rattle.hibitset_base.proofs.cursor.Cursor.push_bits.Goals as goal

pub push_bits_from-requires : goal.push_bits_from-requires
push_bits_from-requires g c =
    let position : ℕ = c.args.position in
    let e = shifted g.row.N c.args.layer position c.args.self.now.positions_fit c.requires.layer c.requires.rest.within in
    let back : position * 64 % 4294967296 / 64 ≡ position = omega (arith, e) in
    (omega arith, (c.requires.layer, (omega (arith, e), rw back c.requires.rest)))

pub returns-clause-left : goal.returns-clause-left
returns-clause-left g c =
    let e = shifted g.row.N c.args.layer c.args.position c.args.self.now.positions_fit c.requires.layer c.requires.rest.within in
    subst (λ s. cursor_places c.push_bits_from.new.self ≡ places_in c.args.layer (bits_from s c.args.word) ++ cursor_places c.args.self.now) e c.push_bits_from.ensures.left
