use Rattle.std.proofs.Common.{◌≡◌, ℕ, true, subst}
use Rattle.std.specs.List.{All}
use Rattle.std.proofs.lemmas.List.Elements.{All-head, All-rest}
use Rattle.hibitset_base.specs.Walk.{items_left}
use Rattle.hibitset_store.specs.Columns.{value_of}
use Rattle.hibitset_store.specs.Joins.{in_both}
use Rattle.hibitset_store.proofs.walks.next_pair.Goals as goal

pub pair_at-requires : goal.pair_at-requires
pair_at-requires g c =
    let here : ℕ → Type 0 = λ i. in_both (value_of c.args.first.now) (value_of c.args.second.now) i ≡ true in
    All-head here c.in_ok-id.id (items_left g.S.BitSetLike.holds c.next.new.self) (subst (All here) c.in_ok-id.ensures.steps.0 c.requires)

pub returns-clause-keys : goal.returns-clause-keys
returns-clause-keys g c =
    All-rest (λ i. in_both (value_of c.args.first.now) (value_of c.args.second.now) i ≡ true) c.in_ok-id.id (items_left g.S.BitSetLike.holds c.next.new.self) (items_left g.S.BitSetLike.holds c.args.walk.now) c.in_ok-id.ensures.steps.0 c.requires
