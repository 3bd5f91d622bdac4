use Rattle.std.proofs.Common.{◌≡◌, ◌⊎◌, ◌<◌, ◌≤◌, ◌+◌, ◌∷◌, [], ◌∙◌, inl, inr, arith, ap, ℕ, length}
use Rattle.std.{proofs.Common.{length-append, refl}, specs.Prelude.{None, slice_index_or}}
use Rattle.std.proofs.lemmas.Bool.{cases_lt}
use Rattle.fault_model.specs.Collapse.{kind_of}
use Rattle.fault_model.proofs.classes.kinds_of.Goals as goal

pub loop-signal-preserved : goal.loop-signal-preserved
loop-signal-preserved c = record {
  count = ap length c.in_ok-push.ensures.items
      ∙ length-append c.loop-signal.kinds.items (c.kind_of.result ∷ [])
      ∙ ap (λ n. n + 1) c.loop-signal.invariant.count;
  each = λ i lt. go i lt (cases_lt i c.loop-signal.signal);
}
  where
    same : c.loop-signal.kinds.len ≡ c.loop-signal.signal
    same = omega (arith, c.loop-signal.kinds.ok.0, c.loop-signal.invariant.count)

    go : (i : ℕ) → i < c.loop-signal.signal + 1
        → (i < c.loop-signal.signal) ⊎ (c.loop-signal.signal ≤ i)
        → slice_index_or c.push.new.self.items i None ≡ kind_of c.args.circuit.now i
    go i lt (inl h) = c.in_ok-push.ensures.by_index.0 i None (omega (arith, h, same))
        ∙ c.loop-signal.invariant.each i h
    go i lt (inr h) =
        let here : i ≡ c.loop-signal.signal = omega (arith, lt, h) in
        let own : i ≡ c.loop-signal.kinds.len = omega (arith, here, same) in
        ap (λ k. slice_index_or c.push.new.self.items k None) own
        ∙ c.in_ok-push.ensures.by_index.1 None refl
        ∙ c.kind_of.ensures ∙ ap (kind_of c.args.circuit.now) (omega (arith, here))
