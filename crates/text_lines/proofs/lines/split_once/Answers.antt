use Rattle.std.proofs.Common.{ℕ, ◌+◌, ◌==◌, length, take, drop, sym, ap, ◌∙◌, arith, rules}
use Rattle.std.proofs.{Common.take_all, lemmas.List.Sums.position_or_len_is}
use Rattle.std.proofs.lemmas.List.{take_rest, drop_all}
use Rattle.text_lines.proofs.lines.split_once.Goals as goal

pub returns-in-Some : goal.returns-in-Some
returns-in-Some c =
    let bytes = c.args.bytes.now in
    let found = position_or_len_is (λ (b : ℕ). b == c.args.separator) bytes c.in-Some.at 0
    (search rules) (search rules) (search rules) in
    record {
      before = ap (λ n. take n bytes) (sym found);
      after = take_rest bytes _ ∙ ap (λ n. drop (n + 1) bytes) (sym found);
    }

pub returns-in-None : goal.returns-in-None
returns-in-None c =
    let bytes = c.args.bytes.now in
    let none = position_or_len_is (λ (b : ℕ). b == c.args.separator) bytes (length bytes) 0
    (omega arith) (search rules) (search rules) in
    record {
      before = sym (ap (λ n. take n bytes) none ∙ take_all (length bytes) bytes (omega arith));
      after =
          sym (ap (λ n. drop (n + 1) bytes) none ∙ drop_all (length bytes + 1) bytes (omega arith));
    }
