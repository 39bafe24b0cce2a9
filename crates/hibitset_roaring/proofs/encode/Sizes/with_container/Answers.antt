use Rattle.std.proofs.Common.{ℕ, ◌||◌, sym, ◌∙◌, arith, inl, inr}
use Rattle.std.proofs.lemmas.Bool.{or_cases, or_parts}
use Rattle.hibitset.specs.WordBits.{stands_in}
use Rattle.hibitset_roaring.specs.Kinds.{chosen_are_runs}
use Rattle.hibitset_roaring.proofs.SizeLemmas.{sizes_skip, sizes_push}
use Rattle.hibitset_roaring.proofs.encode.Sizes.with_container.Goals as goal

pub returns-then-count-eq0 : goal.returns-then-count-eq0
returns-then-count-eq0 g c =
    let words = g.S.ContainerSource.words c.args.source.now in
    sizes_skip words (chosen_are_runs c.args.optimized (stands_in words)) c.args.key c.args.self.count c.args.self.some c.args.self.bytes c.requires.sizes (let e = c.count_under-count.ensures.count in let z = c.if-count-eq0.true in omega (arith, e, z))

pub returns : goal.returns
returns g c =
    let words = g.S.ContainerSource.words c.args.source.now in
    let count : ℕ = c.count_under-count.result in
    let runs : ℕ = c.kind_of-runs.result in
    let shorter = c.are_shorter-shorter.ensures.shorter in
    let some = c.if-count-eq0.false in
    rw c.container_size-size.ensures.size (sizes_push words (chosen_are_runs c.args.optimized (stands_in words)) c.args.key c.args.self.count c.args.self.some c.args.self.bytes c.requires.sizes count runs
    (sym c.count_under-count.ensures.count) (omega (arith, some)) c.count_under-count.ensures.max c.kind_of-runs.ensures.kind c.kind_of-runs.ensures.exact (c.args.self.some || c.are_shorter-shorter.result)
    (λ on. elim (or_cases c.args.self.some c.are_shorter-shorter.result on) [ inl before ↦ inl before | inr here ↦ inr (sym shorter ∙ here) ])
    (λ off. (let both = or_parts c.args.self.some c.are_shorter-shorter.result off in (both.0, sym shorter ∙ both.1))))
