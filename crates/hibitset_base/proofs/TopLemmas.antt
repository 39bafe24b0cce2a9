-- What a walk has left, up or down, that has read the top word alone.
use Rattle.std.proofs.Common.{ℕ, ◌-◌, ◌∷◌, Bool, sym, ap}
use Rattle.std.specs.List.{flat_map}
use Rattle.hibitset_base.specs.Sets.{IsLawful}
use Rattle.hibitset_base.specs.Places.{places_in, bits_from}
use Rattle.hibitset_base.specs.WordsRead.{words_under, AreBoundByMembers}
use Rattle.hibitset_base.specs.Walk.{AreUnderTop}
use Rattle.hibitset_base.specs.declared.util.TheConstants.{LAYERS}
use Rattle.hibitset_base.proofs.DescentLemmas.{top_items, top_words, drawn_from_word}
use Rattle.hibitset_base.proofs.ReadBoundLemmas.{walk_is_bound}

-- of a lawful set, the places of the top word's bits
pub under_top : (p : ℕ → Bool) (w : ℕ → ℕ → ℕ) → IsLawful LAYERS p w → AreUnderTop p w (places_in (LAYERS - 1) (bits_from 0 (w (LAYERS - 1) 0)))
under_top p w lawful = record {
  items = top_items (LAYERS - 1) p w lawful;
  from_set = drawn_from_word w (LAYERS - 1) 0;
  bound = λ q a covers.
      let bound : AreBoundByMembers LAYERS q (flat_map (words_under w (LAYERS - 1)) (bits_from 0 (w (LAYERS - 1) 0))) = walk_is_bound (LAYERS - 1) q a w covers in
      rw (top_words (LAYERS - 1) w) bound;
  ahead = ap (λ ws. (record { layer = LAYERS - 1; position = 0 }) ∷ ws) (sym (top_words (LAYERS - 1) w));
}
