-- Counts beside a set:
-- they grow by a block, and tell how many members come before an index and in which block one lies.
use Rattle.std.proofs.Common.{◌≡◌, ℕ, ◌+◌, ◌-◌, ◌*◌, ◌^◌, ◌<◌, ◌≤◌, Bool, true, false, List, [], ◌∷◌, ◌++◌, length, min, nat_le, refl, sym, ◌∙◌, ap, ap₂, arith, inl, inr, get_or, length-append, None}
use Rattle.std.specs.Prelude.{slice_get, slice_index_or}
use Rattle.std.specs.List.Sorted.{IsPartitionedBy, IsPartitionPoint}
use Rattle.std.proofs.Math.Seq.{get_or-append_seam}
use Rattle.std.proofs.lemmas.Bool.{cases_lt, leb-true, leb-false, le-leb}
use Rattle.std.proofs.lemmas.List.{append-nil, get_or_append_left}
use Rattle.std.proofs.lemmas.Option.{slice_get_past}
use Rattle.hibitset_base.specs.Members.{members, members_below}
use Rattle.hibitset_base.specs.Places.{places_in, bits_from, items_of}
use Rattle.hibitset_base.specs.Ranks.{AreCounts, CountsBefore, block_size}
use Rattle.hibitset_base.specs.Sets.{IsLawful}
use Rattle.hibitset_base.specs.declared.util.TheConstants.{LAYERS, MAX_EID}
use Rattle.hibitset_base.proofs.DescentLemmas.{items_after}
use Rattle.hibitset_base.proofs.ListLemmas.{get_or_any}
use Rattle.hibitset_base.proofs.MemberLemmas.{members-append, members-length, members-none}
use Rattle.hibitset_base.proofs.RankLemmas.{in_front, in_rest}

-- the list of all, cut at an index
pub cut_at : (p : ℕ → Bool) (a b : ℕ) → a ≤ b → members_below b p ≡ members_below a p ++ members p a (b - a)
cut_at p a b order =
    let whole : b ≡ a + (b - a) = omega (arith, order) in
    let first : 0 + a ≡ a = omega arith in
    ap (λ n. members_below n p) whole ∙ (members-append p 0 a (b - a) ∙ ap (λ s. members_below a p ++ members p s (b - a)) first)

-- how many come before a later index
pub count_to : (p : ℕ → Bool) (a b : ℕ) → a ≤ b → length (members_below b p) ≡ length (members_below a p) + length (members p a (b - a))
count_to p a b order = ap length (cut_at p a b order) ∙ length-append (members_below a p) (members p a (b - a))

-- one more block
pub one_more : (p : ℕ → Bool) (counts : List ℕ) (count : ℕ) → count ≡ length (members_below (block_size * length counts) p) → CountsBefore p counts → CountsBefore p (counts ++ count ∷ [])
one_more p counts count is each k within = elim (cases_lt k (length counts)) [
  | inl old ↦ get_or_append_left counts (count ∷ []) 0 k old ∙ each k old
  | inr new ↦
      let long : length (counts ++ count ∷ []) ≡ length counts + 1 = length-append counts (count ∷ []) in
      let last : k ≡ length counts = omega (arith, within, long, new) in
      ap (λ j. get_or (counts ++ count ∷ []) j 0) last ∙ (get_or-append_seam counts count [] 0 ∙ (is ∙ ap (λ j. length (members_below (block_size * j) p)) (sym last)))
]

-- a count is no greater than one after it
grows : (p : ℕ → Bool) (counts : List ℕ) → CountsBefore p counts → (i j : ℕ) → i ≤ j → j < length counts → get_or counts i 0 ≤ get_or counts j 0
grows p counts each i j order within =
    let one = each i (omega (arith, order, within)) in
    let two = each j within in
    let sum = count_to p (block_size * i) (block_size * j) (omega (arith, order)) in
    omega (arith, one, two, sum)

module _ (p : ℕ → Bool) (counts : List ℕ) (are : AreCounts p counts) where
  -- the last count is that of all members before any index past its block
  pub count_of_all : (end : ℕ) → block_size * (length counts - 1) ≤ end → get_or counts (length counts - 1) 0 ≡ length (members_below (min end MAX_EID) p)
  count_of_all end past =
      let last : ℕ = block_size * (length counts - 1) in
      let some = are.some in
      let within : last ≤ MAX_EID = are.within in
      let count = are.each (length counts - 1) (omega (arith, some)) in
      let to_end = count_to p last (min end MAX_EID) (omega (arith, past, within)) in
      let to_all = count_to p (min end MAX_EID) MAX_EID (omega arith) in
      let all : length (members_below last p) ≡ length (members_below MAX_EID p) = ap length are.all in
      omega (arith, count, to_end, to_all, all)

  -- the counts up to a number come before those above it
  pub split_by : (at : ℕ) → IsPartitionedBy (λ count. nat_le count at) counts
  split_by at i j d order within upto =
      let here : slice_index_or counts j d ≡ get_or counts j 0 = get_or_any counts j d 0 within in
      let there : slice_index_or counts i d ≡ get_or counts i 0 = get_or_any counts i d 0 (omega (arith, order, within)) in
      let less = grows p counts are.each i j order within in
      let most = leb-true (slice_index_or counts j d) at upto in
      le-leb (slice_index_or counts i d) at (omega (arith, here, there, less, most))

  -- a member lies before some block, since the first count is 0
  pub some_upto : (at next : ℕ) → IsPartitionPoint (λ count. nat_le count at ≡ true) (λ count. nat_le count at ≡ false) counts next → 1 ≤ next
  some_upto at next point = elim (cases_lt 0 next) [
    | inl some ↦ some
    | inr none ↦
        let first = are.each 0 are.some in
        let few = members-length p 0 (block_size * 0) in
        let above = leb-false (get_or counts 0 0) at (point.1 0 0 none are.some) in
        absurd (omega (arith, first, few, above))
  ]

  -- past all counts no member is left
  pub none_past : (at next : ℕ) → IsPartitionPoint (λ count. nat_le count at ≡ true) (λ count. nat_le count at ≡ false) counts next → next ≡ length counts → None ≡ slice_get (members_below MAX_EID p) at
  none_past at next point end =
      let last : ℕ = length counts - 1 in
      let some = are.some in
      let upto = leb-true (get_or counts last 0) at (point.0 last 0 (omega arith) (omega (arith, some, end))) in
      let count = are.each last (omega (arith, some)) in
      let all : length (members_below (block_size * last) p) ≡ length (members_below MAX_EID p) = ap length are.all in
      sym (slice_get_past (members_below MAX_EID p) at (omega (arith, upto, count, all)))

  pub upto_block : (at next : ℕ) → IsPartitionPoint (λ count. nat_le count at ≡ true) (λ count. nat_le count at ≡ false) counts next → get_or counts (next - 1) 0 ≤ at
  upto_block at next point = let some = some_upto at next point in leb-true (get_or counts (next - 1) 0) at (point.0 (next - 1) 0 (omega arith) (omega (arith, some)))

  -- the member at a position is that at a position of its block
  pub in_block : (at next : ℕ) → IsPartitionPoint (λ count. nat_le count at ≡ true) (λ count. nat_le count at ≡ false) counts next → next < length counts
      → slice_get (members p (block_size * (next - 1)) block_size) (at - get_or counts (next - 1) 0) ≡ slice_get (members_below MAX_EID p) at
  in_block at next point within =
      let k : ℕ = next - 1 in
      let start : ℕ = block_size * k in
      let count : ℕ = get_or counts k 0 in
      let some = some_upto at next point in
      let upto = upto_block at next point in
      let above = leb-false (get_or counts next 0) at (point.1 next 0 (omega arith) within) in
      let fits : start + block_size ≤ MAX_EID = (let most = are.within in omega (arith, most, some, within)) in
      let here = are.each k (omega (arith, within)) in
      let there = are.each next within in
      let next-is : block_size * next ≡ start + block_size = omega (arith, some) in
      let size : start + block_size - start ≡ block_size = omega arith in
      let sum : get_or counts next 0 ≡ count + length (members p start block_size) =
      there
      ∙ (ap (λ b. length (members_below b p)) next-is
      ∙ (count_to p start (start + block_size) (omega arith)
      ∙ ap₂ (λ a b. a + length (members p start b)) (sym here) size)) in
      let rest : ℕ = MAX_EID - (start + block_size) in
      let all : MAX_EID - start ≡ block_size + rest = omega (arith, fits) in
      let tail : members p start (MAX_EID - start) ≡ members p start block_size ++ members p (start + block_size) rest = ap (members p start) all ∙ members-append p start block_size rest in
      in_front (members p start (MAX_EID - start)) (members p start block_size) (members p (start + block_size) rest) (length (members p start block_size)) (at - count) tail refl (omega (arith, upto, above, sum))
      ∙ in_rest (members_below MAX_EID p) (members_below start p) (members p start (MAX_EID - start)) count at (cut_at p start MAX_EID (omega (arith, fits))) here upto

-- the members under a word of layer 1
pub block_of_word : (p : ℕ → Bool) (w : ℕ → ℕ → ℕ) → IsLawful LAYERS p w → (q word : ℕ) → q < 64 ^ (LAYERS - 2) → word ≡ w 1 q → items_of p (places_in 1 (bits_from (64 * q) word)) ≡ members p (block_size * q) block_size
block_of_word p w lawful q word within read =
    let start : q * 64 ^ 2 ≡ block_size * q = omega arith in
    ap (λ m. items_of p (places_in 1 (bits_from (64 * q) m))) read
    ∙ (ap (items_of p) (sym (append-nil (places_in 1 (bits_from (64 * q) (w 1 q)))))
    ∙ (items_after LAYERS lawful 1 q [] (omega arith) within
    ∙ (append-nil (members p (q * 64 ^ 2) (64 ^ 2))
    ∙ ap (λ s. members p s block_size) start)))

-- no index lies before 0
pub none_before : (p : ℕ → Bool) → 0 ≡ length (members_below 0 p)
none_before p = let few = members-length p 0 0 in omega (arith, few)

-- the counts as they begin
pub first_count : (p : ℕ → Bool) (counts : List ℕ) → counts ≡ 0 ∷ [] → CountsBefore p counts
first_count p counts is k within = ap (λ xs. get_or xs k 0) is ∙ one_more p [] 0 (none_before p) (λ j below. absurd (omega (arith, below))) k (let long = ap length is in omega (arith, within, long))

-- the counts as they go on
pub next_count : (p : ℕ → Bool) (old new : List ℕ) (count block : ℕ) → length old ≡ block + 1 → new ≡ old ++ count ∷ [] → count ≡ length (members_below (block_size * (block + 1)) p) → CountsBefore p old → CountsBefore p new
next_count p old new count block many is counted each k within =
    ap (λ xs. get_or xs k 0) is
    ∙ one_more p old count (counted ∙ ap (λ b. length (members_below (block_size * b) p)) (sym many)) each k (let long = ap length is in omega (arith, within, long))

-- the members of a block are counted in
pub count_block : (p : ℕ → Bool) (block count more : ℕ) → count ≡ length (members_below (block_size * block) p) → more ≡ length (members p (64 * block * 64 ^ 1) ((64 * block + 64 - 64 * block) * 64 ^ 1)) → count + more ≡ length (members_below (block_size * (block + 1)) p)
count_block p block count more before here =
    let start : 64 * block * 64 ^ 1 ≡ block_size * block = omega arith in
    let size : (64 * block + 64 - 64 * block) * 64 ^ 1 ≡ block_size * (block + 1) - block_size * block = omega arith in
    let same = ap₂ (λ a n. length (members p a n)) start size in
    let sum = count_to p (block_size * block) (block_size * (block + 1)) (omega arith) in
    omega (arith, before, here, same, sum)

-- counts up to a block past which no member lies
pub counts_of_all : (p : ℕ → Bool) (counts : List ℕ) (blocks : ℕ) → length counts ≡ blocks + 1 → block_size * blocks ≤ MAX_EID → CountsBefore p counts → ((i : ℕ) → block_size * blocks ≤ i → i < MAX_EID → p i ≡ false) → AreCounts p counts
counts_of_all p counts blocks many fits each none =
    let last : ℕ = block_size * (length counts - 1) in
    let last-is : last ≡ block_size * blocks = omega (arith, many) in
    let empty : members p last (MAX_EID - last) ≡ [] = members-none p last (MAX_EID - last) (λ i from below. none i (omega (arith, from, last-is)) (omega (arith, from, below, last-is, fits))) in
    record {
      some = omega (arith, many);
      within = omega (arith, last-is, fits);
      each = each;
      all = sym (cut_at p last MAX_EID (omega (arith, last-is, fits)) ∙ (ap (λ xs. members_below last p ++ xs) empty ∙ append-nil (members_below last p)));
    }
