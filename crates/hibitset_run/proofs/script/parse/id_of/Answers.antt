use Rattle.std.proofs.Common.{◌≡◌, sym, ◌∙◌, drop, codes, arith}
use Rattle.std.proofs.lemmas.Bool.Decides.{Decides-eqb}
use Rattle.std.proofs.lemmas.Slice.Eq.{slice_eq-Decides, starts_is}
use Rattle.std.specs.Str.{IsUtf8, IsValidUpTo, valid_up_to}
use Rattle.hibitset_run.proofs.NumberLemmas.{is_zero, none_padded, none_signed, none_strange, reads_number, err_says, ok_says, apart}
use Rattle.hibitset_run.proofs.script.parse.id_of.Goals as goal
use Rattle.hibitset_run.proofs.script.parse.id_of.Goals.{then-starts_with-via-then-starts_with, then-starts_with-via-else-starts_with+then-starts_with-2}

pub returns-then-eq : goal.returns-then-eq
returns-then-eq c =
    (omega arith, (slice_eq-Decides Decides-eqb c.args.word.now c.as_slice.result.now c.eq.result c.eq.ensures).0 c.if-eq.true ∙ c.as_slice.ensures ∙ is_zero.1)

pub returns-then-starts_with : goal.returns-then-starts_with
returns-then-starts_with c = elim c.then-starts_with.branch [
  | then-starts_with-via-then-starts_with w ↦
      none_padded c.args.word.now (drop 1 c.args.word.now)
      (λ e. apart c.eq.result ((slice_eq-Decides Decides-eqb c.args.word.now c.as_slice.result.now c.eq.result c.eq.ensures).1 (e ∙ sym c.as_slice.ensures)) c.if-eq.false)
      ((starts_is Decides-eqb c.args.word.now (codes "0") c.starts_with.result c.starts_with.ensures.value).0 w.if-starts_with.true)
  | then-starts_with-via-else-starts_with+then-starts_with-2 w ↦
      none_signed c.args.word.now (drop 1 c.args.word.now)
      ((starts_is Decides-eqb c.args.word.now (codes "+") w.starts_with-else-starts_with.result w.starts_with-else-starts_with.ensures.value).0 w.if-starts_with-2.true)
]

pub returns-in_err-ok : goal.returns-in_err-ok
returns-in_err-ok c =
    rw c.from_residual.ensures (none_strange c.args.word.now (err_says c.from_utf8.result (λ s. (s.now ≡ c.args.word.now) × IsUtf8 c.args.word.now) (λ e. ¬ (IsUtf8 c.args.word.now) × IsValidUpTo c.args.word.now (valid_up_to e)) c.from_utf8.ensures.cases (sym c.ok.ensures.value ∙ c.in_err-ok.was) (λ e h. h.0)))

pub returns : goal.returns
returns c =
    let same : c.in_ok-ok.field-0.now ≡ c.args.word.now = (ok_says c.from_utf8.result c.in_ok-ok.field-0 (λ s. (s.now ≡ c.args.word.now) × IsUtf8 c.args.word.now) (λ e. ¬ (IsUtf8 c.args.word.now) × IsValidUpTo c.args.word.now (valid_up_to e)) c.from_utf8.ensures.cases (sym c.ok.ensures.value ∙ c.in_ok-ok.was)).0 in
    rw c.ok-2.ensures.value (reads_number c.args.word.now c.parse.result (rw same at c.parse.ensures.value.0)
    (λ rest e. apart c.starts_with-else-starts_with.result ((starts_is Decides-eqb c.args.word.now (codes "+") c.starts_with-else-starts_with.result c.starts_with-else-starts_with.ensures.value).1 rest e) c.if-starts_with-2.false)
    (λ rest e. apart c.starts_with.result ((starts_is Decides-eqb c.args.word.now (codes "0") c.starts_with.result c.starts_with.ensures.value).1 rest e) c.if-starts_with.false))
