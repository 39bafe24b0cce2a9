-- A walk goes on in several steps.
use Rattle.std.proofs.Common.{ℕ, ◌≤◌, ◌<◌, Bool, List, [], ◌++◌, length, refl, sym, ◌∙◌, ap, arith, length-append, append_assoc}
use Rattle.hibitset_base.specs.Places.{Place}
use Rattle.hibitset_base.specs.WordsRead.{words_of, ReadsTo}

module _ {n : ℕ} {holds : ℕ → Bool} {word : ℕ → ℕ → ℕ} where
  pub goes_nowhere : (r : ℕ) (ps : List Place) → ReadsTo n holds word r ps r ps
  goes_nowhere r ps = record { items = refl; taken = []; ahead = refl; count = omega arith; from_set = λ h. h; few = λ exact drawn. omega arith }

  pub goes_both : {r s t : ℕ} {ps qs xs : List Place} → ReadsTo n holds word r ps s qs → ReadsTo n holds word s qs t xs → ReadsTo n holds word r ps t xs
  goes_both a b = record {
    items = b.items ∙ a.items;
    taken = a.taken ++ b.taken;
    ahead = a.ahead ∙ (ap (λ ws. a.taken ++ ws) b.ahead ∙ sym (append_assoc a.taken b.taken _));
    count = let h = a.count in let k = b.count in let e = length-append a.taken b.taken in omega arith;
    from_set = λ h. b.from_set (a.from_set h);
    few = λ exact drawn. let h = a.few exact drawn in let k = b.few exact (a.from_set drawn) in omega arith;
  }

  -- what is ahead gets no more
  pub no_more : {r s : ℕ} {ps qs : List Place} → ReadsTo n holds word r ps s qs → length (words_of word qs) ≤ length (words_of word ps)
  no_more {r} {s} {ps} {qs} goes = let e = ap length goes.ahead in let k = length-append goes.taken (words_of word qs) in omega (arith, e, k)

  -- and stays fewer
  pub fewer_after : {r s m : ℕ} {ps qs : List Place} → length (words_of word ps) < m → ReadsTo n holds word r ps s qs → length (words_of word qs) < m
  fewer_after fewer goes = let h = no_more goes in omega (arith, fewer, h)
