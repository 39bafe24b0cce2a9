use Rattle.hibitset_bench_threads.proofs.shared.+fn-spread-back+fn-spread-front+spread.Given as goal

abbrev pub decreases-back : goal.decreases-back
decreases-back g l = l.rest

abbrev pub decreases-front : goal.decreases-front
decreases-front g l = l.half

abbrev pub decreases-spread : goal.decreases-spread
decreases-spread g l = l.threads
