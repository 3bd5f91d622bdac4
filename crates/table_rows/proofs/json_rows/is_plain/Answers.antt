use Rattle.std.proofs.Common.{◌≡◌, ◌≢◌, ◌≤◌, ◌∷◌, [], ℕ, arith, get_or, refl, take}
use Rattle.std.proofs.lemmas.{Bool.Decides.nat_tests, Grind.common_steps, List.take_more}
use Rattle.std.proofs.lemmas.List.Concat.{flat_map-append}
use Rattle.json.specs.Print.{escape_byte}
use Rattle.table_rows.proofs.json_rows.is_plain.Goals as goal

-- a byte that has no escape
plain_byte : (x : ℕ) → 32 ≤ x → x ≢ 34 → x ≢ 92 → escape_byte x ≡ x ∷ []
unfolding escape_byte
plain_byte x low quote slash = grind (arith, nat_tests, common_steps)

pub loop-byte-preserved : goal.loop-byte-preserved
loop-byte-preserved c =
    let bytes = c.args.bytes.now in
    let i = c.loop-byte.byte-index in
    let plain = plain_byte (get_or bytes i 0) (omega (arith, c.if-byte-lt32.false))
    (c.if-byte-eq34.false) (c.if-byte-eq92.false) in
    rw (take_more bytes i 0 (omega arith), flat_map-append escape_byte (take i bytes) _)
    (rw (c.loop-byte.invariant, plain) refl)
