use Rattle.std.proofs.Common.{◌≡◌, ℕ, ◌+◌, ◌*◌, ◌<◌, Some, None, length, set, refl, sym, ◌∙◌, ap, subst, arith}
use Rattle.std.specs.List.{slice_get}
use Rattle.std.proofs.Math.ListN.{length-set}
use Rattle.std.proofs.lemmas.Option.{slice_get_read}
use Rattle.hibitset_sparse.specs.Parts.{item_from}
use Rattle.hibitset_sparse.specs.Rank.{rank_in}
use Rattle.hibitset_sparse.specs.Retain.{LeavesOf}
use Rattle.hibitset_sparse.proofs.AppendLemmas.{TakesLowest}
use Rattle.hibitset_sparse.proofs.EditLemmas.{get-set_other}
use Rattle.hibitset_sparse.proofs.RetainLemmas.{at-upto, from-old, here-within, masked-off, masked-on, retain-first, retain-gone, retain-kept, retain-last, swap-here, swap-long, swap-others}
use Rattle.hibitset_sparse.proofs.retain.retain_group.Goals as goal

pub places-init : goal.places-init
places-init g c =
    let word = c.args.group.word in
    let mask = c.places-2.result in
    retain-first _ c.args.group.word c.args.group.start c.args.to c.args.items.now.items c.requires.order _ (λ b small on. masked-on word mask b on)
    (λ b x small off on. c.places-2.ensures b x small (masked-off word mask b off on))

pub overflow_add-here : goal.overflow_add-here
overflow_add-here g c =
    let bit = c.take_bit-bit.ensures in
    let takes : TakesLowest c.places.left c.take_bit-bit.new.word c.take_bit-bit.result = record {
      below = bit.in_word;
      stood = bit.bit_was_set;
      lowest = bit.lowest;
      gone = bit.bit_cleared;
      same = bit.same;
    } in
    let within = here-within _ c.args.group.word c.args.group.start c.args.to c.args.items.now.items c.requires.order c.places.left c.take_bit-bit.new.word c.take_bit-bit.result c.places.kept c.places.at c.places.items.items takes c.places.invariant c.requires.within in
    let rank = c.rank.ensures in
    omega (arith, within, rank, c.places.items.ok.0, c.places.items.small)

pub index_mut-requires : goal.index_mut-requires
index_mut-requires g c =
    let bit = c.take_bit-bit.ensures in
    let takes : TakesLowest c.places.left c.take_bit-bit.new.word c.take_bit-bit.result = record {
      below = bit.in_word;
      stood = bit.bit_was_set;
      lowest = bit.lowest;
      gone = bit.bit_cleared;
      same = bit.same;
    } in
    let within = here-within _ c.args.group.word c.args.group.start c.args.to c.args.items.now.items c.requires.order c.places.left c.take_bit-bit.new.word c.take_bit-bit.result c.places.kept c.places.at c.places.items.items takes c.places.invariant c.requires.within in
    let rank = c.rank.ensures in
    omega (arith, within, rank, c.places.items.ok.0)

pub swap-requires-clause-i_in_bounds : goal.swap-requires-clause-i_in_bounds
swap-requires-clause-i_in_bounds g c =
    let bit = c.take_bit-bit.ensures in
    let takes : TakesLowest c.places.left c.take_bit-bit.new.word c.take_bit-bit.result = record {
      below = bit.in_word;
      stood = bit.bit_was_set;
      lowest = bit.lowest;
      gone = bit.bit_cleared;
      same = bit.same;
    } in
    let within = here-within _ c.args.group.word c.args.group.start c.args.to c.args.items.now.items c.requires.order c.places.left c.take_bit-bit.new.word c.take_bit-bit.result c.places.kept c.places.at c.places.items.items takes c.places.invariant c.requires.within in
    let rank = c.rank.ensures in
    let upto = at-upto _ c.args.group.word c.args.group.start c.args.to c.args.items.now.items c.requires.order c.places.left c.take_bit-bit.new.word c.take_bit-bit.result c.places.kept c.places.at c.places.items.items takes c.places.invariant in
    omega (arith, within, upto, c.places.items.ok.0)

pub swap-requires-clause-j_in_bounds : goal.swap-requires-clause-j_in_bounds
swap-requires-clause-j_in_bounds g c =
    let bit = c.take_bit-bit.ensures in
    let takes : TakesLowest c.places.left c.take_bit-bit.new.word c.take_bit-bit.result = record {
      below = bit.in_word;
      stood = bit.bit_was_set;
      lowest = bit.lowest;
      gone = bit.bit_cleared;
      same = bit.same;
    } in
    let within = here-within _ c.args.group.word c.args.group.start c.args.to c.args.items.now.items c.requires.order c.places.left c.take_bit-bit.new.word c.take_bit-bit.result c.places.kept c.places.at c.places.items.items takes c.places.invariant c.requires.within in
    let rank = c.rank.ensures in
    omega (arith, within, rank, c.places.items.ok.0)

pub places-preserved-then-change : goal.places-preserved-then-change
places-preserved-then-change g c =
    let bit = c.take_bit-bit.ensures in
    let takes : TakesLowest c.places.left c.take_bit-bit.new.word c.take_bit-bit.result = record {
      below = bit.in_word;
      stood = bit.bit_was_set;
      lowest = bit.lowest;
      gone = bit.bit_cleared;
      same = bit.same;
    } in
    let within = here-within _ c.args.group.word c.args.group.start c.args.to c.args.items.now.items c.requires.order c.places.left c.take_bit-bit.new.word c.take_bit-bit.result c.places.kept c.places.at c.places.items.items takes c.places.invariant c.requires.within in
    let rank = c.rank.ensures in
    let items = c.places.items.items in
    let here : ℕ = c.args.group.start + c.rank.result in
    let is : here ≡ c.args.group.start + rank_in c.args.group.word c.take_bit-bit.result = ap (λ r. c.args.group.start + r) rank in
    let inside : here < length items = omega (arith, within, rank) in
    let found : item_from c.args.items.now.items c.args.group.start c.args.group.word c.take_bit-bit.result ≡ Some c.index_mut.result.now =
    from-old _ c.args.group.word c.args.group.start c.args.to c.args.items.now.items c.requires.order c.places.left c.take_bit-bit.new.word c.take_bit-bit.result c.places.kept c.places.at c.places.items.items takes c.places.invariant
    ∙ (ap (slice_get items) (sym is) ∙ slice_get_read items (length items) here c.index_mut.result.now refl inside c.index_mut.ensures.value) in
    let upto = at-upto _ c.args.group.word c.args.group.start c.args.to c.args.items.now.items c.requires.order c.places.left c.take_bit-bit.new.word c.take_bit-bit.result c.places.kept c.places.at c.places.items.items takes c.places.invariant in
    let low : c.places.at < length items = omega (arith, within, upto) in
    retain-kept _ c.args.group.word c.args.group.start c.args.to c.args.items.now.items c.requires.order c.places.left c.take_bit-bit.new.word c.take_bit-bit.result c.places.kept c.places.at c.places.items.items takes c.places.invariant
    c.with_bit-kept.result c.swap.new.self.items c.change.new.value (omega arith) c.with_bit-kept.ensures.here c.with_bit-kept.ensures.same
    (swap-here items c.swap.new.self.items c.places.at here c.change.new.value low inside c.swap.ensures.by_index)
    (λ k apart other. swap-others items c.swap.new.self.items c.places.at here c.change.new.value low inside c.swap.ensures.by_index k apart (λ same. other (same ∙ is)))
    (swap-long items c.swap.new.self.items c.places.at here c.change.new.value low inside c.swap.ensures.by_index)
    (subst (λ o. LeavesOf (g.C.Change.leaves c.args.by.now (64 * c.args.q + c.take_bit-bit.result)) o (Some c.change.new.value)) (sym found)
    (c.change.ensures.leaves c.if-change.true))

pub places-preserved : goal.places-preserved
places-preserved g c =
    let bit = c.take_bit-bit.ensures in
    let takes : TakesLowest c.places.left c.take_bit-bit.new.word c.take_bit-bit.result = record {
      below = bit.in_word;
      stood = bit.bit_was_set;
      lowest = bit.lowest;
      gone = bit.bit_cleared;
      same = bit.same;
    } in
    let within = here-within _ c.args.group.word c.args.group.start c.args.to c.args.items.now.items c.requires.order c.places.left c.take_bit-bit.new.word c.take_bit-bit.result c.places.kept c.places.at c.places.items.items takes c.places.invariant c.requires.within in
    let rank = c.rank.ensures in
    let items = c.places.items.items in
    let here : ℕ = c.args.group.start + c.rank.result in
    let is : here ≡ c.args.group.start + rank_in c.args.group.word c.take_bit-bit.result = ap (λ r. c.args.group.start + r) rank in
    let inside : here < length items = omega (arith, within, rank) in
    let found : item_from c.args.items.now.items c.args.group.start c.args.group.word c.take_bit-bit.result ≡ Some c.index_mut.result.now =
    from-old _ c.args.group.word c.args.group.start c.args.to c.args.items.now.items c.requires.order c.places.left c.take_bit-bit.new.word c.take_bit-bit.result c.places.kept c.places.at c.places.items.items takes c.places.invariant
    ∙ (ap (slice_get items) (sym is) ∙ slice_get_read items (length items) here c.index_mut.result.now refl inside c.index_mut.ensures.value) in
    retain-gone _ c.args.group.word c.args.group.start c.args.to c.args.items.now.items c.requires.order c.places.left c.take_bit-bit.new.word c.take_bit-bit.result c.places.kept c.places.at c.places.items.items takes c.places.invariant
    (set items here c.change.new.value) (λ k other. get-set_other items here c.change.new.value k (λ same. other (same ∙ is))) (length-set items here c.change.new.value)
    (subst (λ o. LeavesOf (g.C.Change.leaves c.args.by.now (64 * c.args.q + c.take_bit-bit.result)) o None) (sym found) (c.change.ensures.goes c.if-change.false))

pub returns : goal.returns
returns g c = retain-last _ c.args.group.word c.args.group.start c.args.to c.args.items.now.items c.requires.order c.places.left c.places.kept c.places.at c.places.items.items c.places-test.false c.places.invariant
