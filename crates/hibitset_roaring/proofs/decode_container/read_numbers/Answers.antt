use Rattle.std.proofs.Common.{◌<◌, ap, sym, ◌∙◌, arith}
use Rattle.std.proofs.lemmas.Result.{on_ok_weaker, IfErr-weaker}
use Rattle.hibitset_roaring.specs.Format.{in_runs, in_array, in_container, container_count, container_at}
use Rattle.hibitset_roaring.proofs.LayoutLemmas.{next_at}
use Rattle.hibitset_roaring.proofs.AddLemmas.{adds_same}
use Rattle.hibitset_roaring.proofs.ContainerLemmas.{size_runs, at_array, in_runs_is, in_array_is}
use Rattle.hibitset_roaring.proofs.FaultLemmas.{array_fault, runs_fault}
use Rattle.hibitset_roaring.proofs.decode_container.read_numbers.Goals as goal

pub read_runs_of-requires-clause-within : goal.read_runs_of-requires-clause-within
read_runs_of-requires-clause-within c =
    let n = next_at c.args.bytes.now c.args.k c.args.at c.requires.at in
    let s = size_runs c.args.bytes.now c.args.k c.args.at (sym c.is_run.ensures ∙ c.if-is_run.true) in
    let w = c.requires.within in
    omega (arith, n, s, w)

pub returns-then-is_run-clause-members : goal.returns-then-is_run-clause-members
returns-then-is_run-clause-members c = on_ok_weaker c.read_runs_of.result (λ adds.
    adds_same c.args.key (in_runs c.args.bytes.now c.args.at) (in_container c.args.bytes.now c.args.k) _ _
    (λ v. ap (λ a. in_runs c.args.bytes.now a v) c.requires.at ∙ in_runs_is c.args.bytes.now c.args.k (sym c.is_run.ensures ∙ c.if-is_run.true) v) adds) c.read_runs_of.ensures.members

pub read_array-requires-clause-within : goal.read_array-requires-clause-within
read_array-requires-clause-within c =
    let card = c.cardinality-cardinality.ensures.cardinality in
    let few = c.requires.numbers (sym c.is_run.ensures ∙ c.if-is_run.false) in
    let p = at_array c.args.bytes.now c.args.k (sym c.is_run.ensures ∙ c.if-is_run.false) few in
    let w = c.requires.within in
    let at = c.requires.at in
    omega (arith, p, w, card, at)

pub returns-clause-members : goal.returns-clause-members
returns-clause-members c =
    let card = c.cardinality-cardinality.ensures.cardinality in
    let few = c.requires.numbers (sym c.is_run.ensures ∙ c.if-is_run.false) in
    on_ok_weaker c.read_array.result (λ adds.
    adds_same c.args.key (in_array c.args.bytes.now c.args.at c.cardinality-cardinality.result) (in_container c.args.bytes.now c.args.k) _ _
    (λ v. ap (λ a. in_array c.args.bytes.now a c.cardinality-cardinality.result v) c.requires.at ∙ (ap (λ n. in_array c.args.bytes.now (container_at c.args.bytes.now c.args.k) n v) card ∙ in_array_is c.args.bytes.now c.args.k (sym c.is_run.ensures ∙ c.if-is_run.false) few v)) adds) c.read_array.ensures.members

pub returns-then-is_run-clause-fault : goal.returns-then-is_run-clause-fault
returns-then-is_run-clause-fault c =
    let n = c.requires.header.count_is in
    let which = c.requires.which in
    let below : c.args.k < container_count c.args.bytes.now = omega (arith, n, which) in
    IfErr-weaker c.read_runs_of.result _ _ (λ m bad. λ end. runs_fault c.args.bytes.now end c.args.k c.args.at c.requires.at below m.fault m.at (sym c.is_run.ensures ∙ c.if-is_run.true) c.cardinality-cardinality.result c.cardinality-cardinality.ensures.cardinality bad) c.read_runs_of.ensures.fault

pub returns-clause-fault : goal.returns-clause-fault
returns-clause-fault c =
    let n = c.requires.header.count_is in
    let which = c.requires.which in
    let below : c.args.k < container_count c.args.bytes.now = omega (arith, n, which) in
    let few = c.requires.numbers (sym c.is_run.ensures ∙ c.if-is_run.false) in
    IfErr-weaker c.read_array.result _ _ (λ m bad. λ end. array_fault c.args.bytes.now end c.args.k c.args.at c.requires.at below m.fault m.at (sym c.is_run.ensures ∙ c.if-is_run.false) c.cardinality-cardinality.result c.cardinality-cardinality.ensures.cardinality (let card = c.cardinality-cardinality.ensures.cardinality in omega (arith, few, card)) bad) c.read_array.ensures.fault
