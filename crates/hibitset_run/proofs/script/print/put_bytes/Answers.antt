use Rattle.std.proofs.Common.{◌≡◌, ℕ, ◌-◌, ◌++◌, List, length, take, drop, ap, sym, ◌∙◌, append_assoc, arith}
use Rattle.std.proofs.lemmas.List.{take_all, take-append-drop, length-drop}
use Rattle.hibitset_run.proofs.TextLemmas.{appends_more}
use Rattle.hibitset_run.proofs.script.print.put_bytes.Goals as goal

-- what follows the first n bytes, up to the end
behind : (n : ℕ) (bytes : List ℕ) → take (length bytes - n) (drop n bytes) ≡ drop n bytes
behind n bytes = let few = length-drop n bytes in take_all (length bytes - n) (drop n bytes) (omega (arith, few))

pub loop-round-preserved : goal.loop-round-preserved
loop-round-preserved g c =
    let so_far = c.loop-round.invariant in
    let rest : List ℕ = c.loop-round.rest.now in
    let count : ℕ = c.in-Some.count in (
      so_far.0 ++ take count rest,
      appends_more (g.W.Write.contents c.args.writer.now) (g.W.Write.contents c.loop-round.writer) (g.W.Write.contents c.put_some.new.writer) so_far.0 (take count rest) so_far.1 c.in-Some.ensures.written,
      so_far.2 ∙ ap (λ z. so_far.0 ++ z) (sym (take-append-drop count rest)) ∙ sym (append_assoc so_far.0 (take count rest) (drop count rest)) ∙ ap (λ z. (so_far.0 ++ take count rest) ++ z) (sym (behind count rest)),
    )
