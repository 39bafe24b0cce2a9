use Rattle.std.proofs.Common.{◌≡◌, true}
use Rattle.std.specs.Option.{is_some}
use Rattle.std.proofs.lemmas.List.Elements.{All-rest}
use Rattle.hibitset.specs.BitSet.{has}
use Rattle.hibitset_base.specs.Walk.{items_left}
use Rattle.hibitset_store.specs.Columns.{value_of}
use Rattle.hibitset_store.proofs.walks.next_entry.Goals as goal

pub returns-clause-keys : goal.returns-clause-keys
returns-clause-keys g c =
    All-rest (λ i. is_some (value_of c.args.column.now i) ≡ true) c.in_ok-id.id (items_left (λ set. has set.now) c.next.new.self) (items_left (λ set. has set.now) c.args.walk.now) c.in_ok-id.ensures.steps.0 c.requires
