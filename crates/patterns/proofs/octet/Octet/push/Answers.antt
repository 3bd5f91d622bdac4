use Rattle.std.proofs.Common.{◌≡◌, ◌≢◌, ◌+◌, ◌<◌, ◌==◌, ◌∷◌, ◌++◌, [], ℕ, length, get_or, map, ap}
use Rattle.std.{proofs.Common.{sym, subst, ◌∙◌, arith}, specs.Int.bit_at, specs.Vec.with_items}
use Rattle.std.proofs.lemmas.List.{with_items_is}
use Rattle.patterns.specs.Octets.{AreBytes, tests_in_bytes}
use Rattle.patterns.proofs.Octets.{AreBytes-push, octet-count, tests_in_bytes-push}
use Rattle.patterns.proofs.octet.Octet.push.Goals.{After-set_bits}
use Rattle.patterns.proofs.octet.Octet.push.Goals as goal

pub set_bits-requires-clause-lane : goal.set_bits-requires-clause-lane
set_bits-requires-clause-lane c =
    let own = c.self.inside in
    omega (arith, octet-count own.width own.count own.bytes.items c.args.self.now c.self.view_is)

few : (c : After-set_bits) → c.self.inside.count < 8
few c =
    let own = c.self.inside in
    omega (arith, octet-count own.width own.count own.bytes.items c.args.self.now c.self.view_is)

len : (c : After-set_bits) → length c.set_bits.new.bytes ≡ length c.self.inside.bytes.items
len c = c.set_bits.auto.bytes ∙ ap length c.deref_mut.ensures.value

row_len : (c : After-set_bits) → length c.args.row.now ≡ c.self.inside.width
row_len c = c.requires.width ∙ sym (ap (λ t. t.width) c.self.view_is)

others : (c : After-set_bits) → (source k : ℕ) → k ≢ c.self.inside.count
    → bit_at (get_or c.set_bits.new.bytes source 0) k
    ≡ bit_at (get_or c.self.inside.bytes.items source 0) k
others c source k ne = c.set_bits.ensures.others source k ne
    ∙ ap (λ l. bit_at (get_or l source 0) k) c.deref_mut.ensures.value

written : (c : After-set_bits)
    → (with_items c.self.inside.bytes c.set_bits.new.bytes).items ≡ c.set_bits.new.bytes
written c = with_items_is c.self.inside.bytes c.set_bits.new.bytes
    (len c ∙ sym c.self.inside.bytes.ok.0)

pub invariant_of-self : goal.invariant_of-self
invariant_of-self c =
    let own = c.self.inside in
    let at = (goal.at.invariant_of-self c).After-set_bits in
    subst (AreBytes own.width (own.count + 1)) (sym (written at))
    (AreBytes-push own.width own.count own.bytes.items c.set_bits.new.bytes c.args.row.now
    c.self.invariant (few at) (len at) (row_len at) c.set_bits.ensures.set (others at))

pub returns : goal.returns
returns c =
    let own = c.self.inside in
    let at = (goal.at.returns c).After-set_bits in
    let row = map (λ b. b == 49) c.args.row.now in
    ap (λ tests. record { width = own.width; tests = tests })
    (ap (tests_in_bytes own.width (own.count + 1)) (written at)
    ∙ tests_in_bytes-push own.width own.count own.bytes.items c.set_bits.new.bytes c.args.row.now
    c.self.invariant (few at) (len at) (row_len at) c.set_bits.ensures.set (others at))
    ∙ ap (λ t. record { width = t.width; tests = t.tests ++ row ∷ [] }) c.self.view_is
