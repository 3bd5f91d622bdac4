use Rattle.std.proofs.Common.{◌≡◌, ◌<◌, ◌+◌, ◌-◌, ◌∙◌, ◌++◌, ◌∷◌, [], List, ℕ, sym, ap, subst, take}
use Rattle.std.proofs.{Common.{get_or, length, arith}, lemmas.Bool.ne_eqb, lemmas.List.take_more}
use Rattle.block_coverage.{specs.Tallies.IsTally, proofs.Tallies.{tally_next, tally_other}}
use Rattle.block_coverage.proofs.tally.Tally.add_name.Goals.{then-byte-separator+in_ok-add_block}
use Rattle.block_coverage.proofs.tally.Tally.add_name.Goals.{else-byte-separator}
use Rattle.block_coverage.proofs.tally.Tally.add_name.Goals as goal

pub loop-place-init : goal.loop-place-init
loop-place-init c = λ names flags even tally.
    tally_next c.args.separator names flags c.args.detected even c.args.self.now tally

pub loop-place-preserved : goal.loop-place-preserved
loop-place-preserved c = λ names flags even tally.
    let so_far = c.loop-place.invariant names flags even tally in
    let s = c.args.separator in
    let name = c.args.name.now in
    let place = c.loop-place.place in
    let more = flags ++ c.args.detected ∷ [] in
    let is = c.as_bytes-byte-items.ensures.value in
    let test = c.loop-place-test.true in
    let lt : place < length name = subst (λ (l : List ℕ). place < length l) is test in
    let next = take_more name place 0 lt in
    elim c.if-byte-separator.branch [
      | then-byte-separator+in_ok-add_block w ↦ (let none : place - 0 ≡ place = omega arith in
          let front : w.range.result.now ≡ take place name =
          w.range.ensures.value ∙ ap (λ n. take n name) none in
          let byte : get_or name place 0 ≡ s =
          ap (λ (l : List ℕ). get_or l place 0) (sym is) ∙ w.if-byte-separator.true in
          let counted = w.in_ok-add_block.ensures s names flags even
          (subst (λ p. IsTally s (names ++ p ∷ []) more c.loop-place.self) (sym front) so_far) in
          let grown : w.range.result.now ++ s ∷ [] ≡ take (place + 1) name =
          ap (λ p. p ++ s ∷ []) front
          ∙ (ap (λ b. take place name ++ b ∷ []) (sym byte) ∙ sym next) in
          subst (λ t. IsTally s (names ++ take (place + 1) name ∷ []) more t) (sym w.self-is)
          (subst (λ p. IsTally s (names ++ p ∷ []) more w.add_block.new.self) grown counted))
      | else-byte-separator w ↦
          (let byte : get_or name place 0 ≡ s → ⊥ = λ e. w.if-byte-separator.false
          (ap (λ (l : List ℕ). get_or l place 0) is ∙ e) in
          let counted = tally_other s names flags c.args.detected even c.loop-place.self
          (take place name) (get_or name place 0) (ne_eqb (get_or name place 0) s byte) so_far in
          subst (λ t. IsTally s (names ++ take (place + 1) name ∷ []) more t) (sym w.self-is)
          (subst (λ p. IsTally s (names ++ p ∷ []) more c.loop-place.self) (sym next) counted))
    ]
