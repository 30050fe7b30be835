-- The tokens of a source that was read: each but the marks was found at its place, so that its bytes are a lexeme with its value.
-- Assumes nothing.
use mathlib.Core.Path.{◌≡◌, refl, sym, ap, ◌∙◌}
use mathlib.Core.Bool.{true}
use mathlib.Core.List.{List, []}
use Prim.Native.Nat.{ℕ}
use lib.ListN.{length}
use Rattle.std.specs.Prelude.{Some}
use Rattle.token.specs.Code as Code
use Rattle.tokens.specs.Token.{Token, token}
use Rattle.numbers.specs.Integer.{in_i64}
use Rattle.literal.specs.declared.Literal.TheVariants as L
use Rattle.raw_token.specs.Table.{raw_token, token_at_lem}
use Rattle.lexer.specs.Value.{value_of}
use Rattle.lexer.specs.Scan.{scanned, mark, token_list}
use Rattle.lexer.proofs.Values.{value_int}
use Rattle.lexer.proofs.Properties.{Each, Each.none, Each.more, bytes_of}
use Rattle.lexer.proofs.Promise.{Tokens, indent, dedent, raw, eof, promise}
use Rattle.rendered.proofs.Lexeme.{Reads}
use Rattle.rendered.proofs.Ints.{read_int, int_read}
use Rattle.rendered.proofs.Lexemes.{name_reads, float_reads}

-- a token that is no mark, as it was found
pub record Origin (s : List ℕ) (t : Token) : Type 0 where
  pub found : token_at_lem s t.start ≡ Some (raw_token t.code t.end)
  pub used : ℕ
  pub value : value_of t.code (bytes_of s t) used ≡ Some t.literal

abbrev pub FromSource : List ℕ → Token → Type 0
FromSource s t = (t.code ≡ Code.Indent → ⊥) → (t.code ≡ Code.Dedent → ⊥) → (t.code ≡ Code.Eof → ⊥) → Origin s t

origins : {s : List ℕ} {lo hi depth used : ℕ} {ts : List Token} {bs : List ℕ} → Tokens s lo hi depth used ts bs → Each (FromSource s) ts
origins (indent {start} {end} h k m n t) = more {t = mark Code.Indent start end} (λ a b c. absurd (a refl)) (origins t)
origins (dedent {start} {end} h k m n t) = more {t = mark Code.Dedent start end} (λ a b c. absurd (b refl)) (origins t)
origins (raw {used} {start} {code} {end} {v} h k e f t) = more {t = token code start end v} (λ a b c. record { found = e; used = used; value = f }) (origins t)
origins {s} (eof h k) = more {t = mark Code.Eof (length s) (length s)} (λ a b c. absurd (c refl)) none

pub tokens_origin : (s : List ℕ) (ts : List Token) (bs : List ℕ) → token_list s ≡ scanned ts bs → Each (FromSource s) ts
tokens_origin s ts bs e = origins (promise s ts bs e)

-- ---- what the tree keeps of them

module _ (s : List ℕ) (t : Token) (o : Origin s t) where
  -- an Int's number, whose halves are words (numbers/proofs/Halved.antt)
  pub int_origin : t.code ≡ Code.Int → (t.literal ≡ L.Int (read_int (bytes_of s t))) × (in_i64 (read_int (bytes_of s t)) ≡ true)
  int_origin e = int_read (bytes_of s t) t.literal (sym (value_int t.code (bytes_of s t) o.used e) ∙ o.value)

  -- a name's and a Float's bytes
  pub found_as : (code : ℕ) → t.code ≡ code → token_at_lem s t.start ≡ Some (raw_token code t.end)
  found_as code e = o.found ∙ ap (λ (c : ℕ). Some (raw_token c t.end)) e

  pub name_origin : t.code ≡ Code.Identifier → Reads Code.Identifier (bytes_of s t) (λ used. L.None) []
  name_origin e = name_reads s t.start t.end (found_as Code.Identifier e)

  pub float_origin : t.code ≡ Code.Float → Reads Code.Float (bytes_of s t) (λ used. t.literal) []
  float_origin e =
      float_reads s t.start t.end (found_as Code.Float e) o.used t.literal (ap (λ (c : ℕ). value_of c (bytes_of s t) o.used) (sym e) ∙ o.value)
