use Rattle.std.proofs.Common.{ℕ, List, Contains, sym, subst}
use Rattle.uses.proofs.workers.do_job.Goals as goal

pub returns : goal.returns
returns c =
    let done = c.add_list-new.ensures in
    let list = c.as_slice.ensures.value in
    record {
      sound = (done.belongs, done.new, λ i there. (done.reported i there).0);
      weight = done.weight;
      known = λ i there range. done.known i (subst (λ (items : List ℕ). Contains items i) (sym list) there) range;
      reported = λ i there. subst (λ (items : List ℕ). Contains items i) list (done.reported i there).1;
    }
