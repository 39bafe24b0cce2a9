use Rattle.std.proofs.Common.{◌≡◌, ℕ, ◌-◌, ◌++◌, List, length, take, drop, min, reverse, sym, ◌∙◌, ap, arith, inl, inr, length-drop}
use Rattle.std.proofs.lemmas.Bool.{cases_lt}
use Rattle.std.proofs.lemmas.List.{length-reverse, reverse-append, reverse-reverse, take-append-drop, take-append-le, take_all}
use Rattle.hibitset.specs.Prelude.{members_below, MAX_EID, has}
use Rattle.uses.proofs.results.page_before.Goals as goal

-- the first of a list reversed, turned again, are the last of the list
turned : (xs : List ℕ) (n : ℕ) → reverse (take n (reverse xs)) ≡ drop (length xs - n) xs
turned xs n = elim (cases_lt n (length xs)) [
  | inl few ↦
      let m : ℕ = length xs - n in
      let front : List ℕ = take m xs in
      let back : List ℕ = drop m xs in
      let long : length (reverse back) ≡ n = (let a = length-reverse back in let b = length-drop m xs in omega (arith, a, b, few)) in
      let rev : reverse xs ≡ reverse back ++ reverse front = ap reverse (sym (take-append-drop m xs)) ∙ reverse-append front back in
      let cut : take n (reverse back ++ reverse front) ≡ reverse back = take-append-le n (reverse back) (reverse front) (omega (arith, long)) ∙ take_all n (reverse back) (omega (arith, long)) in
      ap (λ ys. reverse (take n ys)) rev ∙ (ap reverse cut ∙ reverse-reverse back)
  | inr all ↦
      let none : length xs - n ≡ 0 = omega (arith, all) in
      let long = length-reverse xs in
      ap reverse (take_all n (reverse xs) (omega (arith, all, long))) ∙ (reverse-reverse xs ∙ sym (ap (λ m. drop m xs) none))
]

pub returns : goal.returns
returns c = c.reverse.ensures.items ∙ (ap reverse c.in_ok-page.ensures ∙ turned (members_below (min c.args.row MAX_EID) (has c.args.found.now)) c.args.count)
