use Rattle.std.proofs.Common.{◌≡◌, ℕ, ◌+◌, ◌-◌, ◌*◌, ◌<◌, ◌≤◌, ◌++◌, ◌∷◌, [], Bool, List, length, get_or, min, refl, sym, ◌∙◌, ap, ap₂, arith, inl, inr}
use Rattle.std.proofs.lemmas.Bool.{cases_lt}
use Rattle.std.proofs.lemmas.List.{length-append, get_or_append_left, get_or_push}
use Rattle.hibitset.specs.Prelude.{members, MAX_EID, has}
use Rattle.uses.proofs.results.histogram.Goals as goal

-- Of windows of a width below an end, so many are counted, and the next one begins before the end.
module _ (p : ℕ → Bool) (end width : ℕ) (counts new : List ℕ) (start next count : ℕ) (at : start ≡ min (length counts * width) end) (more : start < end) (push : new ≡ counts ++ (count ∷ [])) where
  abbrev n : ℕ
  n = length counts

  abbrev Counted : ℕ → ℕ → Type 0
  Counted k c = c ≡ length (members p (k * width) (min (k * width + width) end - k * width))

  long : length new ≡ n + 1
  long = ap length push ∙ length-append counts (count ∷ [])

  begins : start ≡ n * width
  begins = omega (arith, at, more)

  grows : (n + 1) * width ≡ n * width + width
  grows = omega arith

  pub start_next : next ≡ min (start + width) end → next ≡ min (length new * width) end
  start_next is = is ∙ (ap (λ x. min (x + width) end) begins ∙ (ap (λ x. min x end) (sym grows) ∙ ap (λ m. min (m * width) end) (sym long)))

  pub needed_next : ((k : ℕ) → k < n → k * width < end) → (k : ℕ) → k < length new → k * width < end
  needed_next needed k below = elim (cases_lt k n) [
    | inl before ↦ needed k before
    | inr last ↦ (let is : k ≡ n = omega (arith, last, below, long) in rw is (omega (arith, begins, more)))
  ]

  pub each_next : Counted n count → ((k : ℕ) → k < n → Counted k (get_or counts k 0)) → (k : ℕ) → k < length new → Counted k (get_or new k 0)
  each_next here each k below = elim (cases_lt k n) [
    | inl before ↦ ap (λ xs. get_or xs k 0) push ∙ (get_or_append_left counts (count ∷ []) 0 k before ∙ each k before)
    | inr last ↦
        let is : k ≡ n = omega (arith, last, below, long) in
        let pushed : get_or new n 0 ≡ count = ap (λ xs. get_or xs n 0) push ∙ get_or_push counts count 0 n refl in
        rw is (pushed ∙ here)
  ]

pub windows-preserved : goal.windows-preserved
windows-preserved c =
    let holds = has c.args.found.now in
    let inv = c.windows.invariant in
    let more : c.windows.start < c.args.end = c.windows-test.true in
    let pushed = c.in_ok-push.ensures.items in
    let end = c.requires.end in
    let one = c.saturating_add.ensures in
    let two = c.min-next.ensures in
    let next : c.min-next.result ≡ min (c.windows.start + c.args.width) c.args.end = omega (arith, one, two, end, more) in
    let begins : c.windows.start ≡ length c.windows.counts.items * c.args.width = omega (arith, inv.start, more) in
    let same : min c.min-next.result MAX_EID - c.windows.start ≡ min (length c.windows.counts.items * c.args.width + c.args.width) c.args.end - length c.windows.counts.items * c.args.width = omega (arith, next, begins, end) in
    let here : c.len_range.result ≡ length (members holds (length c.windows.counts.items * c.args.width) (min (length c.windows.counts.items * c.args.width + c.args.width) c.args.end - length c.windows.counts.items * c.args.width)) =
    c.len_range.ensures ∙ ap₂ (λ a m. length (members holds a m)) begins same in
    record {
      start = start_next holds c.args.end c.args.width c.windows.counts.items c.push.new.self.items c.windows.start c.min-next.result c.len_range.result inv.start more pushed next;
      needed = needed_next holds c.args.end c.args.width c.windows.counts.items c.push.new.self.items c.windows.start c.min-next.result c.len_range.result inv.start more pushed inv.needed;
      each = each_next holds c.args.end c.args.width c.windows.counts.items c.push.new.self.items c.windows.start c.min-next.result c.len_range.result inv.start more pushed here inv.each;
    }

pub returns : goal.returns
returns c =
    let inv = c.windows.invariant in
    let done : c.args.end ≤ c.windows.start = c.windows-test.false in
    record { reaches = (let at = inv.start in omega (arith, at, done)); needed = inv.needed; each = inv.each }
