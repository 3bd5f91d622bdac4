use Rattle.std.proofs.Common.{◌≡◌, ℕ, ◌+◌, List, length, slice_index, replicate, ap, ◌∙◌, arith}
use Rattle.fault_ledger.proofs.{JoinAndPart.opens, WordGroups.{zeros_at, zeros_long}}
use Rattle.fault_ledger.proofs.words.Words.new.Goals as goal

pub of_words-requires : goal.of_words-requires
of_words-requires c =
    let n = c.div_ceil.result + 1 in
    let zeros : c.in_ok-zeros.zeros.items ≡ replicate n 0 =
    c.in_ok-zeros.ensures.items_if_clones_equal (λ y h. h) in
    let items : c.as_slice.result.now ≡ replicate n 0 = c.as_slice.ensures.value ∙ zeros in
    opens c.args.shape c.as_slice.result.now c.requires (ap length items ∙ zeros_long n
    ∙ (let e = c.div_ceil.ensures in let p = c.pieces-pieces.ensures in omega arith))
    (λ i. ap (λ (l : List ℕ). slice_index l i) items ∙ zeros_at n i)
