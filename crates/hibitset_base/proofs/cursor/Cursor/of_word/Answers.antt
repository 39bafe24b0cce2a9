use Rattle.std.proofs.Common.{◌≡◌, ◌≢◌, ℕ, ◌+◌, ◌-◌, ◌%◌, ◌^◌, ◌<◌, List, length, get_or, replicate, ◌∙◌, ap, ap₂, arith}
use Rattle.std.proofs.Math.ListN.{set}
use Rattle.std.proofs.lemmas.List.{length-set, length-replicate, get_or-set_same, get_or-set_other}
use Rattle.hibitset_base.specs.Places.{IsWellFormed, places_in, bits_from}
use Rattle.hibitset_base.proofs.CutLemmas.{left-alone}
use Rattle.hibitset_base.proofs.StartLemmas.{none_left, alone_formed}
use Rattle.hibitset_base.proofs.cursor.Cursor.of_word.Goals as goal

module _ (n l v s : ℕ) (layer : l < n) where
  abbrev masks : List ℕ
  masks = set (replicate n 0) l v

  abbrev prefixes : List ℕ
  prefixes = set (replicate n 0) l s

  room : l < length (replicate {A = ℕ} n 0)
  room = let e = length-replicate {A = ℕ} n 0 in omega (arith, e, layer)

  mask_here : get_or masks l 0 ≡ v
  mask_here = get_or-set_same (replicate n 0) l v 0 room

  prefix_here : get_or prefixes l 0 ≡ s
  prefix_here = get_or-set_same (replicate n 0) l s 0 room

  others : (j : ℕ) → j ≢ l → get_or masks j 0 ≡ 0
  others j other = get_or-set_other (replicate n 0) l j v 0 other ∙ none_left n j

  formed : s % 64 ≡ 0 → s < 64 ^ (n - l) → IsWellFormed n masks prefixes
  formed aligned within = alone_formed n l masks prefixes others (length-set (replicate n 0) l v ∙ length-replicate n 0) (ap (λ x. x % 64) prefix_here ∙ aligned) (rw prefix_here within)

pub invariant_of-result : goal.invariant_of-result
invariant_of-result g c = record { positions_fit = c.requires.positions_fit; formed = formed g.row.N c.args.layer c.args.word c.args.start c.requires.layer c.requires.aligned c.requires.within }

pub returns : goal.returns
returns g c =
    let n : ℕ = g.row.N in
    let l : ℕ = c.args.layer in
    let layer = c.requires.layer in
    let z : l ≡ 0 + l = omega arith in
    left-alone l l 0 _ _ z (let e = length-set (replicate n 0) l c.args.word in let f = length-replicate {A = ℕ} n 0 in omega (arith, e, f, layer)) (others n l c.args.word c.args.start layer)
    ∙ ap₂ (λ s m. places_in l (bits_from s m)) (prefix_here n l c.args.word c.args.start layer) (mask_here n l c.args.word c.args.start layer)
