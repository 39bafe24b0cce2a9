-- Where layer 0 is as long, so is each layer above it; and an index whose word layer 0 has, or lacks.
use Rattle.std.proofs.Common.{◌≡◌, ℕ, ◌-◌, ◌/◌, ◌^◌, ◌<◌, ◌≤◌, Bool, true, false, ◌==◌, ◌&&◌, not, sym, ap, subst, ◌∙◌, refl, lit<, Option, Some, None, arith}
use Rattle.std.specs.Prelude.{is_some}
use Rattle.std.proofs.lemmas.Bool.Decides.{nat_tests}
use Rattle.hibitset_base.specs.declared.util.TheConstants.{LAYERS, MAX_EID}
use Rattle.hibitset.specs.BitSet.{slice_len, word_of}
use Rattle.hibitset.specs.Layout.{layer_len}
use Rattle.hibitset.specs.declared.set.BitSet.{BitSet}
use Rattle.hibitset.proofs.LayerLemmas.{laid, length_of, length_first}
use Rattle.hibitset.proofs.WithinLemmas.{none_past_slice}
use Rattle.hibitset_c.specs.Set.{has_in}
use Rattle.hibitset_c.specs.Words.{Shows}
use Rattle.hibitset_c.specs.declared.words.Words.{Words}

same_length : (a b : BitSet) → slice_len a 0 ≡ slice_len b 0 → (l : ℕ) → l < LAYERS - 1 → slice_len a l ≡ slice_len b l
same_length a b e l below =
    length_of a.layers l below ∙ (ap (layer_len l) (sym (length_first a.layers) ∙ (e ∙ length_first b.layers)) ∙ sym (length_of b.layers l below))

-- Words that showed a set show, with another top word, one whose layer 0 is as long.
pub shows_next : (words new : Words) (before after : BitSet) → Shows words (Some before) → slice_len after 0 ≡ words.len0
    → new.len0 ≡ words.len0 → new.len1 ≡ words.len1 → new.len2 ≡ words.len2 → new.len3 ≡ words.len3 → new.top ≡ word_of after 4 0 → Shows new (Some after)
shows_next words new before after shows long e0 e1 e2 e3 top =
    let same = same_length before after (sym shows.len0 ∙ sym long) in record {
      len0 = e0 ∙ sym long;
      len1 = e1 ∙ (shows.len1 ∙ same 1 (lit< tt));
      len2 = e2 ∙ (shows.len2 ∙ same 2 (lit< tt));
      len3 = e3 ∙ (shows.len3 ∙ same 3 (lit< tt));
      top = top;
    }

-- Layer 0 has the word of an index: so there is a set, and the index is in range.
short : (set : BitSet) → slice_len set 0 ≤ 64 ^ (LAYERS - 1)
short set = let whole = laid set.layers in let within = whole.within in let room = whole.short in let first = length_first set.layers in omega (arith, within, room, first)

pub there : (words : Words) (set : Option BitSet) (index : ℕ) → Shows words set → index / 64 < words.len0 → (is_some set ≡ true) × (index < MAX_EID)
there words None index shows below = absurd (let none = shows.len0 in omega (arith, none, below))
there words (Some set) index shows below = (refl, let long = shows.len0 in let most = short set in omega (arith, long, most, below))

pub not_there : (words : Words) (set : Option BitSet) (index : ℕ) → Shows words set → words.len0 ≤ index / 64 → has_in set index ≡ false
not_there words None index shows past = refl
not_there words (Some set) index shows past = none_past_slice set index (let long = shows.len0 in omega (arith, long, past))

same_without : (index i : ℕ) (was : Bool) → (i ≡ index → was ≡ false) → was ≡ (was && not (i == index))
same_without index i was clear = grind (arith, nat_tests)

-- To take out what is not there changes nothing.
pub stays_without : (set : Option BitSet) (index : ℕ) → has_in set index ≡ false → (i : ℕ) → has_in set i ≡ (has_in set i && not (i == index))
stays_without set index clear i = same_without index i (has_in set i) (λ e. subst (λ k. has_in set k ≡ false) (sym e) clear)
