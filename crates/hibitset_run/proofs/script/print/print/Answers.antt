use Rattle.std.proofs.Common.{◌≡◌, ℕ, ◌+◌, [], ◌∷◌, ◌++◌, append-nil, drop, take, ap, sym, subst, ◌∙◌, is_ok, true}
use Rattle.std.specs.Prelude.{string_bytes}
use Rattle.std.proofs.lemmas.List.{take_all, take_more}
use Rattle.std.proofs.lemmas.Result.{IfErr-weaker}
use Rattle.hibitset_run.specs.Text.{printed}
use Rattle.hibitset_run.proofs.TextLemmas.{IsPrinted, printed_front, printed_more, printed_part, printed_push, printed_split, handed_on, not_false, on_ok}
use Rattle.hibitset_run.proofs.script.print.print.Goals as goal

pub loop-reply-preserved : goal.loop-reply-preserved
loop-reply-preserved g c =
    let shown = g.R.Printed.shown in
    let so_far = take c.loop-reply.reply-index c.args.replies.now in
    let reply = c.reply-item.result in
    let fine : is_ok c.put_line.result ≡ true = not_false c.is_err.result (is_ok c.put_line.result) c.is_err.ensures.negation c.if-is_err.false in
    let more : take (c.loop-reply.reply-index + 1) c.args.replies.now ≡ so_far ++ reply ∷ [] =
    take_more c.args.replies.now c.loop-reply.reply-index reply c.loop-reply-test.true ∙ ap (λ x. so_far ++ x ∷ []) (sym c.reply-item.is) in
    subst (IsPrinted (g.W.Write.contents c.args.writer.now) (g.W.Write.contents c.put_piece.new.writer) (string_bytes c.put_piece.new.text))
    (sym (ap (printed shown) more ∙ printed_push shown so_far reply))
    (printed_more (g.W.Write.contents c.args.writer.now) (g.W.Write.contents c.loop-reply.writer) (g.W.Write.contents c.put_piece.new.writer)
    (string_bytes c.loop-reply.text) (string_bytes c.put_line.new.text) (string_bytes c.put_piece.new.text) (printed shown so_far) (shown reply ++ 10 ∷ [])
    c.loop-reply.invariant (on_ok c.put_line.result (string_bytes c.put_line.new.text ≡ string_bytes c.loop-reply.text ++ (shown reply ++ 10 ∷ [])) c.put_line.ensures fine) c.in_ok-put_piece.ensures.ok)

pub returns-then-is_err-clause-err : goal.returns-then-is_err-clause-err
returns-then-is_err-clause-err g c =
    let shown = g.R.Printed.shown in
    let count : ℕ = c.loop-reply.reply-index in
    (tt, printed_part (g.W.Write.contents c.args.writer.now) (g.W.Write.contents c.loop-reply.writer) (string_bytes c.loop-reply.text) (printed shown (take count c.args.replies.now)) (printed shown (drop count c.args.replies.now)) (printed shown c.args.replies.now) c.loop-reply.invariant (printed_split shown c.args.replies.now count))

pub returns-in_err-put_piece-clause-err : goal.returns-in_err-put_piece-clause-err
returns-in_err-put_piece-clause-err g c =
    let shown = g.R.Printed.shown in
    let replies = c.args.replies.now in
    let count : ℕ = c.loop-reply.reply-index in
    let reply = c.reply-item.result in
    let line = shown reply ++ 10 ∷ [] in
    let so_far = take count replies in
    let others = printed shown (drop (count + 1) replies) in
    let fine : is_ok c.put_line.result ≡ true = not_false c.is_err.result (is_ok c.put_line.result) c.is_err.ensures.negation c.if-is_err.false in
    let ready : string_bytes c.put_line.new.text ≡ string_bytes c.loop-reply.text ++ line = on_ok c.put_line.result (string_bytes c.put_line.new.text ≡ string_bytes c.loop-reply.text ++ line) c.put_line.ensures fine in
    let more : take (count + 1) replies ≡ so_far ++ reply ∷ [] = take_more replies count reply c.loop-reply-test.true ∙ ap (λ x. so_far ++ x ∷ []) (sym c.reply-item.is) in
    let whole : printed shown replies ≡ (printed shown so_far ++ line) ++ others = printed_split shown replies (count + 1) ∙ ap (λ x. x ++ others) (ap (printed shown) more ∙ printed_push shown so_far reply) in
    let fault = c.in_err-put_piece.ensures.err in
    handed_on _ c.from_residual.result c.in_err-put_piece.field-0.0 c.from_residual.ensures.1
    (fault.0, printed_front (g.W.Write.contents c.args.writer.now) (g.W.Write.contents c.loop-reply.writer) (g.W.Write.contents c.put_piece.new.writer) (string_bytes c.loop-reply.text) (string_bytes c.put_line.new.text) line others (printed shown so_far) (printed shown replies) c.loop-reply.invariant ready fault.1 whole)

pub returns-clause-err : goal.returns-clause-err
returns-clause-err g c =
    let shown = g.R.Printed.shown in
    let replies = c.args.replies.now in
    let text = string_bytes c.loop-reply.text in
    let all : take c.loop-reply.reply-index replies ≡ replies = take_all c.loop-reply.reply-index replies c.loop-reply-test.false in
    let whole : printed shown replies ≡ (printed shown (take c.loop-reply.reply-index replies) ++ []) ++ [] = sym (append-nil _ ∙ append-nil _ ∙ ap (printed shown) all) in
    IfErr-weaker c.put_out.result _ _ (λ fault front. (
      front.0,
      printed_front (g.W.Write.contents c.args.writer.now) (g.W.Write.contents c.loop-reply.writer) (g.W.Write.contents c.put_out.new.writer) text text [] [] (printed shown (take c.loop-reply.reply-index replies)) (printed shown replies) c.loop-reply.invariant (sym (append-nil text)) front.1 whole,
    ))
    c.put_out.ensures.err
