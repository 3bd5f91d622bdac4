use Rattle.std.{proofs.Common.{◌+◌, ◌*◌, get_or, ap, ◌∙◌, arith}, specs.Int.bit_at}
use Rattle.patterns.specs.{Tests.{IsWord, as_number, bit}, Octets.tests_in_bytes}
use Rattle.patterns.proofs.Octets.{IsTestList-from_bytes, IsWord-from_bytes}
use Rattle.patterns.proofs.octet.Octet.bytes.Goals as goal

pub returns-clause-list : goal.returns-clause-list
returns-clause-list c = rw (← c.self.view_is) (IsTestList-from_bytes _ _ _ c.self.invariant)

pub returns-clause-bytes : goal.returns-clause-bytes
returns-clause-bytes c = λ source in_width k in_word.
    let own = c.self.inside in
    let word : IsWord (tests_in_bytes own.width own.count own.bytes.items) 0 source
    (get_or own.bytes.items source 0) =
    IsWord-from_bytes own.width own.count own.bytes.items source c.self.invariant
    (omega (arith, in_width, ap (λ t. t.width) c.self.view_is)) in
    ap (λ l. bit_at (get_or l source 0) k) c.as_slice.ensures.value ∙ word k in_word
    ∙ ap (λ t. as_number (bit t.tests (64 * 0 + k) source)) c.self.view_is
