use Rattle.std.proofs.Common.{◌≡◌, ◌-◌, ◌^◌, ◌<◌, get_or, arith, subst}
use Rattle.hibitset_base.proofs.cursor.Cursor.start_of.Goals as goal

pub returns-then-layer : goal.returns-then-layer
returns-then-layer g c =
    let aligned = c.args.self.now.formed.aligned c.args.layer c.requires.layer c.requires.nonempty in
    let one : g.row.N - c.args.layer ≡ 1 = (let top = c.if-layer.true in omega (arith, top)) in
    let within = subst (λ k. get_or c.args.self.now.prefix c.args.layer 0 < 64 ^ k) one aligned.1 in
    let multiple = aligned.0 in
    omega (arith, within, multiple)
