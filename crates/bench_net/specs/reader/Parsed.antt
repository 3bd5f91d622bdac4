-- The tokens and the statement of a line, computed from its front, and the results of the functions
-- that read lines.
use Rattle.std.specs.Prelude.{◌≡◌, ◌⊎◌, ◌<◌, ℕ, Bool, true, false, ◌==◌, nat_le, List, [], ◌∷◌}
use Rattle.std.specs.Prelude.{◌++◌, length, map, Option, Some, None, if◌then◌else◌, option_map}
use Rattle.std.specs.Prelude.{option_and_then, codes, Result, Ok, Err, ⊤}
use Rattle.std.specs.List.{find}
use Rattle.std.specs.Str.{str_eq_ignore_ascii_case}
use Rattle.std.specs.Borrow.{Bor}
use Rattle.bench_net.specs.declared.Kind.{Kind}
use Rattle.bench_net.specs.declared.Kind.TheVariants.{And, Nand, Or, Nor, Xor, Xnor, Not, Buff}
use Rattle.bench_net.specs.declared.BenchFault.{BenchFault}
use Rattle.bench_net.specs.declared.BenchFault.TheVariants.{Memory}
use Rattle.bench_net.specs.declared.line_error.LineError.{LineError}
use Rattle.bench_net.specs.declared.line_error.LineError.TheVariants as error
use Rattle.bench_net.specs.declared.tokens.Front.{Front}
use Rattle.bench_net.specs.declared.tokens.Front.TheVariants as front
use Rattle.bench_net.specs.declared.statement.Stated.{Stated}
use Rattle.bench_net.specs.declared.statement.Stated.TheVariants as stated
use Rattle.text_lines.specs.Lines.{is_blank, begins_comment}
use Rattle.bench_net.specs.Text.{Token, Open, Close, Comma, Equals, Word, is_mark, is_word_byte}
use Rattle.bench_net.specs.Statement.{Name, Statement, Input, Output, Gate, Dff}
use Rattle.bench_net.specs.Reading.{names_kind}

abbrev pub mark_of : ℕ → Token
mark_of b = if b == 40 then Open else if b == 41 then Close else if b == 44 then Comma else Equals

-- the word that was read so far, if it has a byte, and then the tokens after it
abbrev pub with_word : List ℕ → Option (List Token) → Option (List Token)
with_word [] tokens = tokens
with_word (b ∷ w) tokens = option_map (λ ts. Word (b ∷ w) ∷ ts) tokens

-- the tokens from a byte on that no word has, given the tokens after it
abbrev pub from_byte : ℕ → Option (List Token) → Option (List Token)
from_byte b tokens =
    if begins_comment b then Some []
    else if is_blank b then tokens
    else if is_mark b then option_map (λ ts. mark_of b ∷ ts) tokens
    else None

-- the tokens of a line after the word that was read so far, or None if the line has a byte that
-- isn't allowed
abbrev pub tokens_after : List ℕ → List ℕ → Option (List Token)
tokens_after w [] = with_word w (Some [])
tokens_after w (b ∷ line) = elim (is_word_byte b) [
  | true ↦ tokens_after (w ++ b ∷ []) line
  | false ↦ with_word w (from_byte b (tokens_after [] line))
]

abbrev pub tokens_of : List ℕ → Option (List Token)
tokens_of line = tokens_after [] line

abbrev pub kinds : List Kind
kinds = And ∷ Nand ∷ Or ∷ Nor ∷ Xor ∷ Xnor ∷ Not ∷ Buff ∷ []

-- the kind that a word names, in any ASCII case
abbrev pub kind_of : List ℕ → Option Kind
kind_of w = find (names_kind w) kinds

-- the arguments before a closing parenthesis that ends the line
abbrev pub args_of : List Token → Option (List Name)
args_of (Word a ∷ Close ∷ []) = Some (a ∷ [])
args_of (Word a ∷ Comma ∷ tokens) = option_map (λ args. a ∷ args) (args_of tokens)
args_of _ = None

abbrev pub has_arity : Kind → List Name → Bool
has_arity Not args = length args == 1
has_arity Buff args = length args == 1
has_arity _ args = nat_le 1 (length args)

abbrev pub gate_with : Name → List Name → Kind → Option Statement
gate_with n args kind = if has_arity kind args then Some (Gate n kind args) else None

abbrev pub cell_with : Name → List Name → Option Statement
cell_with q (d ∷ []) = Some (Dff q d)
cell_with q _ = None

abbrev pub driven_by : Name → List ℕ → List Name → Option Statement
driven_by n w args =
    if str_eq_ignore_ascii_case w (codes "DFF") then cell_with n args
    else option_and_then (gate_with n args) (kind_of w)

abbrev pub port : List ℕ → List Name → Option Statement
port w (n ∷ []) =
    if str_eq_ignore_ascii_case w (codes "INPUT") then Some (Input n)
    else if str_eq_ignore_ascii_case w (codes "OUTPUT") then Some (Output n)
    else None
port w _ = None

-- the statement that tokens read as
abbrev pub read_tokens : List Token → Option Statement
read_tokens (Word w ∷ Open ∷ tokens) = option_and_then (port w) (args_of tokens)
read_tokens (Word n ∷ Equals ∷ Word w ∷ Open ∷ tokens) =
    option_and_then (driven_by n w) (args_of tokens)
read_tokens _ = None

-- the statement of the line, if any: None if the line has an error
abbrev pub stated_by : List Token → Option (Option Statement)
stated_by [] = Some None
stated_by (token ∷ tokens) = option_map Some (read_tokens (token ∷ tokens))

abbrev pub stated_of : List ℕ → Option (Option Statement)
stated_of line = option_and_then stated_by (tokens_of line)

-- a token is the front of a line, and the rest of the line is shorter
pub record Leads (line : List ℕ) (token : Token) (rest : List ℕ) : Type 0 where
  pub tokens : tokens_of line ≡ option_map (λ ts. token ∷ ts) (tokens_of rest)
  pub shorter : length rest < length line

-- the front of a line, and the bytes after it
abbrev pub IsFront : List ℕ → Front × Bor (List ℕ) → Type 0
IsFront line (front.Open, rest) = Leads line Open rest.now
IsFront line (front.Close, rest) = Leads line Close rest.now
IsFront line (front.Comma, rest) = Leads line Comma rest.now
IsFront line (front.Equals, rest) = Leads line Equals rest.now
IsFront line (front.Word w, rest) = Leads line (Word w.now) rest.now
IsFront line (front.End, rest) = tokens_of line ≡ Some []
IsFront line (front.Bad, rest) = tokens_of line ≡ None

-- the names that references point to
abbrev pub names_of : List (Bor Name) → List Name
names_of args = map (λ a. a.now) args

-- the statement that the reader's statement stands for
abbrev pub stands_for : Stated → Statement
stands_for (stated.Input n) = Input n.now
stands_for (stated.Output n) = Output n.now
stands_for (stated.Gate n kind args) = Gate n.now kind (names_of args.items)
stands_for (stated.Dff q d) = Dff q.now d.now

-- the arguments that bytes spell, up to the parenthesis that ends the line
abbrev pub args_in : List ℕ → Option (List Name)
args_in bytes = option_and_then args_of (tokens_of bytes)

-- memory ran out, or the error comes at the right time
abbrev pub FailsBy : BenchFault → Type 0 → BenchFault → Type 0
FailsBy refusal Gone fault = (fault ≡ Memory) ⊎ ((fault ≡ refusal) × Gone)

-- the result stands for what is found, and an error of the line means that nothing is found
abbrev pub IsFoundAs : {T S : Type 0} → (T → S) → Option S → Result T LineError → Type 0
IsFoundAs stands found (Ok s) = found ≡ Some (stands s)
IsFoundAs stands found (Err (error.Wrong wrong)) = found ≡ None
IsFoundAs stands found (Err error.Memory) = ⊤

-- and so with this error in place of the line's
abbrev pub IsReadAs : {T S : Type 0} → BenchFault → (T → S) → Option S → Result T BenchFault
    → Type 0
IsReadAs refusal stands found (Ok s) = found ≡ Some (stands s)
IsReadAs refusal stands found (Err fault) = FailsBy refusal (found ≡ None) fault
