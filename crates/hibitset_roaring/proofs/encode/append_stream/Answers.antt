use Rattle.std.proofs.Common.{◌≡◌, ℕ, ◌<◌, List, drop, get_or, length, ap, ◌∙◌, arith}
use Rattle.hibitset.specs.WordBits.{stands_in}
use Rattle.hibitset_roaring.specs.Format.{Appends}
use Rattle.hibitset_roaring.specs.Kinds.{IsStreamOf}
use Rattle.hibitset_roaring.proofs.AppendLemmas.{appends_from, take_whole}
use Rattle.hibitset_roaring.proofs.encode.append_stream.Goals as goal

pub returns-clause-stream : goal.returns-clause-stream
returns-clause-stream g c = λ kinds kinds_are.
    let old : List ℕ = c.args.out.now.items in
    let new : List ℕ = c.write_behind.new.out in
    let rest : List ℕ = drop (length new) c.resize.new.self.items in
    let from : ℕ = c.len-from.result in
    let value = c.deref_mut.ensures.value in
    let long = c.write_behind.auto.out in
    let len = ap length value in
    let was = c.args.out.now.ok in
    let now = c.resize.new.self.ok in
    let start = c.len-from.ensures in
    let n = c.in_ok-resize.ensures.len in
    let P : List ℕ → Type 0 = IsStreamOf (stands_in (g.S.ContainerSource.words c.args.source.now)) kinds in
    let front : (k : ℕ) → k < from → get_or new k 0 ≡ get_or old k 0 = λ k below.
    c.write_behind.ensures.before.byte k below ∙ (ap (λ xs. get_or xs k 0) value ∙ c.in_ok-resize.ensures.by_index.0 k 0 (omega (arith, below)) (omega (arith, below, start))) in
    let all : Appends P old new = appends_from P old new from (omega (arith, start, was)) (omega (arith, long, len, now, n)) front (c.write_behind.ensures.stream kinds kinds_are) in
    rw (take_whole new rest c.resize.new.self.len (omega (arith, long, len, now))) all
