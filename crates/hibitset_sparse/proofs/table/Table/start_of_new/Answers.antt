use Rattle.std.proofs.Common.{◌≡◌, ℕ, ◌+◌, ◌-◌, ◌/◌, ◌^◌, ◌<◌, sym, ◌∙◌, ap, arith}
use Rattle.std.specs.Int.{bit_at, trailing_zeros, w64}
use Rattle.std.proofs.lemmas.Nat.Bits.{bit_at-zero}
use Rattle.std.proofs.lemmas.Option.{none-some}
use Rattle.hibitset_sparse.specs.Layout.{values_before}
use Rattle.hibitset_sparse.specs.PackedArray.{value_in}
use Rattle.hibitset_sparse.proofs.LayoutLemmas.{before-gap}
use Rattle.hibitset_sparse.proofs.WordLemmas.{first-bit, none-between, array-some}
use Rattle.hibitset_sparse.proofs.table.Table.start_of_new.Goals as goal

pub returns-then-above-eq0 : goal.returns-then-above-eq0
returns-then-above-eq0 g c =
    let row = c.args.self.now.groups in
    let q : ℕ = c.args.q in
    let upto : q + (64 - q) ≡ 64 = omega arith in
    let clear : row.word / 2 ^ q ≡ 0 = c.if-above-eq0.true in
    let gap : values_before (value_in row) (q + (64 - q)) ≡ values_before (value_in row) q = before-gap (value_in row) q (64 - q)
    (none-between row q (64 - q) (λ j low. ap (λ x. bit_at x j) clear ∙ bit_at-zero j)) in
    let gap2 : values_before (value_in row) 64 ≡ values_before (value_in row) q = rw upto at gap in
    let all = c.args.self.now.laid_out.all in
    let len = c.len.ensures in
    omega (arith, gap2, all, len, c.args.self.now.items.ok.0)

pub get-requires : goal.get-requires
get-requires g c =
    let some : 0 < c.args.self.now.groups.word / 2 ^ c.args.q = (let other = c.if-above-eq0.false in omega (arith, other)) in
    (first-bit c.args.self.now.groups c.args.q some).0

pub returns-in-Some : goal.returns-in-Some
returns-in-Some g c =
    let row = c.args.self.now.groups in
    let q : ℕ = c.args.q in
    let some : 0 < row.word / 2 ^ q = (let other = c.if-above-eq0.false in omega (arith, other)) in
    let t : ℕ = trailing_zeros w64 (row.word / 2 ^ q) in
    let first = first-bit row q some in
    c.args.self.now.laid_out.starts (q + t) c.in-Some.group.now first.0 c.in-Some.ensures ∙ before-gap (value_in row) q t (none-between row q t first.2)

pub returns-in-None : goal.returns-in-None
returns-in-None g c =
    let row = c.args.self.now.groups in
    let some : 0 < row.word / 2 ^ c.args.q = (let other = c.if-above-eq0.false in omega (arith, other)) in
    let first = first-bit row c.args.q some in
    let found = array-some row (c.args.q + trailing_zeros w64 (row.word / 2 ^ c.args.q)) first.1 in
    absurd (none-some found.0 (sym c.in-None.ensures ∙ found.1))
