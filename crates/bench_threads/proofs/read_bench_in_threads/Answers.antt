use Rattle.std.proofs.{lemmas.Result.{IfOk-weaker, IfErr-weaker}, Common.{inl, inr}}
use Rattle.bench_threads.proofs.read_bench_in_threads.Goals as goal

pub returns-clause-accepted : goal.returns-clause-accepted
returns-clause-accepted g c = IfOk-weaker c.circuit_of_in_threads.result _ _
    (λ d h. rw h.0 (c.in_ok-lines.ensures.lines.accepted (rw h.0 at h.1)))
    c.circuit_of_in_threads.ensures.accepted

pub returns-clause-refused : goal.returns-clause-refused
returns-clause-refused g c = IfErr-weaker c.circuit_of_in_threads.result _ _
    (λ f h. elim h [ inl e ↦ inl e | inr r ↦ inr (c.in_ok-lines.ensures.lines.refused f r) ])
    c.circuit_of_in_threads.ensures.refused
