-- Fixed texts and truth values are lexemes.
-- Assumes nothing.
use mathlib.Core.Path.{◌≡◌, ◌∙◌, refl, sym, ap}
use mathlib.Core.Bool.{Bool, true, false, not, ◌&&◌, ◌||◌, true≢false}
use mathlib.Core.List.{List, [], ◌∷◌}
use Prim.Native.Nat.{ℕ, ◌<◌, zero-le}
use native.Mathlib.Omega.{arith}
use lib.Dec.{eqb, leb}
use lib.ListN.{length}
use borrow.Author.Tests.{eqb-true, leb-true}
use Rattle.std.specs.Prelude.{Some, Option, None}
use Rattle.source.specs.Bytes.{between}
use Rattle.source.proofs.Bools.{and_left, and_right, or_either, or_rest}
use Rattle.source.proofs.Ranges.{at_each}
use Rattle.utf8.specs.Table.{rows, sequence_length}
use Rattle.utf8.specs.Character.{first_code}
use Rattle.xid.specs.Ranges.{holds}
use Rattle.xid.specs.Tables.{xid_start, xid_continue}
use Rattle.token.specs.Code as Code
use Rattle.raw_token.specs.Pattern as P
use Rattle.raw_token.specs.Table.{raw_token, table, token_at_lem}
use Rattle.raw_token.specs.declared.RawToken.{RawToken}
use Rattle.literal.specs.declared.Literal.TheVariants as L
use Rattle.lexer.specs.Value.{value_of}
use Rattle.rendered.proofs.Lexeme.{Lexeme, is_fixed}
use Rattle.rendered.specs.Spelled.{spelled_fixed, spelled_bool}

-- the token at the front, computed
read : List ℕ → Option RawToken
unfolding token_at_lem table P.behind P.literal P.name P.int P.fraction P.exponent P.float rows sequence_length first_code holds xid_start xid_continue
read w = token_at_lem w 0

is_token : ℕ → ℕ → Option RawToken → Bool
is_token code n (Some t) = eqb t.code code && eqb t.end n
is_token code n None = false

is-token : (code n : ℕ) (t : Option RawToken) → is_token code n t ≡ true → t ≡ Some (raw_token code n)
unfolding is_token
is-token code n (Some t) e =
    let p = eqb-true t.code code (and_left (eqb t.code code) (eqb t.end n) e) in
    let q = eqb-true t.end n (and_right (eqb t.code code) (eqb t.end n) e) in
    ap (λ (c : ℕ). Some (raw_token c t.end)) p ∙ ap (λ (m : ℕ). Some (raw_token code m)) q
is-token code n None e = absurd (true≢false (sym e))

reads_back : ℕ → Bool
reads_back code = not (is_fixed code) || is_token code (length (spelled_fixed code)) (read (spelled_fixed code))

fixed_below : (code : ℕ) → is_fixed code ≡ true → code < 49
fixed_below code =
    or_either (between Code.If Code.None code) (between Code.Plus Code.Dot code)
    (λ e. omega (arith, leb-true code Code.None (and_right (leb Code.If code) (leb code Code.None) e)))
    (λ e. omega (arith, leb-true code Code.Dot (and_right (leb Code.Plus code) (leb code Code.Dot) e)))

-- each fixed text
pub fixed_lexeme : (code : ℕ) → is_fixed code ≡ true → Lexeme code (spelled_fixed code)
unfolding reads_back is_token read spelled_fixed
fixed_lexeme code e =
    let w = spelled_fixed code in
    is-token code (length w) (token_at_lem w 0)
    (or_rest (not (is_fixed code)) (is_token code (length w) (token_at_lem w 0)) (at_each reads_back 0 49 tt code zero-le (fixed_below code e)) (ap not e))

pub bool_lexeme : (t : Bool) → Lexeme Code.Bool (spelled_bool t)
unfolding read
bool_lexeme true = refl
bool_lexeme false = refl

pub bool_value : (t : Bool) (used : ℕ) → value_of Code.Bool (spelled_bool t) used ≡ Some (L.Bool t)
unfolding value_of
bool_value true used = refl
bool_value false used = refl

-- the t of t{list}, a name
pub tree_lexeme : Lexeme Code.Identifier (116 ∷ [])
unfolding read
tree_lexeme = refl
