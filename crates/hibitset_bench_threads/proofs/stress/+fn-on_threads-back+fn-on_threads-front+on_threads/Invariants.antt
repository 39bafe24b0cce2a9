use Rattle.hibitset_bench_threads.proofs.stress.+fn-on_threads-back+fn-on_threads-front+on_threads.Given as goal

abbrev pub decreases-back : goal.decreases-back
decreases-back g l = l.rest

abbrev pub decreases-front : goal.decreases-front
decreases-front g l = l.half

abbrev pub decreases-on_threads : goal.decreases-on_threads
decreases-on_threads g l = l.count
