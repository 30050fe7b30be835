-- The literal of a token, whatever its code: it can be written as words, and has its text's length.
-- Assumes nothing.
use mathlib.Core.Path.{◌≡◌, refl}
use mathlib.Core.Bool.{Bool, true, false, cond}
use mathlib.Core.List.{List}
use Prim.Native.Nat.{ℕ, ◌+◌}
use native.Mathlib.Decide.{ℕ_discrete}
use native.Mathlib.Numerals.{add-one}
use lib.Dec.{T, eqb}
use lib.ListN.{length, get_or}
use borrow.Author.Tests.{ne_eqb}
use Rattle.std.specs.Prelude.{Float, ℤ, Option, Some, None}
use Rattle.source.specs.Bytes.{part}
use Rattle.token.specs.Code as code
use Rattle.numbers.specs.Decimal.{decimal_of}
use Rattle.numbers.specs.Integer.{integer_of}
use Rattle.numbers.proofs.Nearest.{no_nan}
use Rattle.literal.specs.declared.Literal.{Literal}
use Rattle.literal.specs.declared.Literal.TheVariants as L
use Rattle.literal.specs.Literal.{of_integer, of_decimal, lex_integer_lem, lex_float_lem, lex_string_lem, has_bits}
use Rattle.lexer.specs.Value.{value_of, text_of, literal_in}
use Rattle.lookahead.specs.Tokens.{code_at, start_at, end_at, bytes_at, text_before, token_of}
use Rattle.expr_leaves.specs.TextLength.{text_length}

-- a literal with these bytes of text
pub record Apt (n : ℕ) (v : Literal) : Type 0 where
  pub bits : T (has_bits v)
  pub text : text_length v ≡ n

plain_int : (l : List ℕ) → Apt 0 (literal_in (lex_integer_lem l))
unfolding lex_integer_lem
plain_int l = go (integer_of l)
  where
    go : (n : Option ℤ) → Apt 0 (literal_in (of_integer n))
    go (Some n) = record { bits = tt; text = refl }
    go None = record { bits = tt; text = refl }

plain_float : (l : List ℕ) → Apt 0 (literal_in (lex_float_lem l))
unfolding lex_float_lem
plain_float l = go (decimal_of l) refl
  where
    go : (d : Option Float) → decimal_of l ≡ d → Apt 0 (literal_in (of_decimal d))
    go (Some x) h = record { bits = no_nan l x h; text = refl }
    go None h = record { bits = tt; text = refl }

plain : (l : List ℕ) (b i f t : Bool) → Apt 0 (literal_in (cond b (Some (L.Bool t)) (cond i (lex_integer_lem l) (cond f (lex_float_lem l) (Some L.None)))))
plain l true i f t = record { bits = tt; text = refl }
plain l false true f t = plain_int l
plain l false false true t = plain_float l
plain l false false false t = record { bits = tt; text = refl }

pub apt : (c : ℕ) (l : List ℕ) (used : ℕ) → Apt (length (text_of c l)) (literal_in (value_of c l used))
unfolding value_of text_of lex_string_lem
apt c l used = go (ℕ_discrete c code.String)
  where
    go : Dec (c ≡ code.String) → Apt (length (text_of c l)) (literal_in (value_of c l used))
    go (yes e) = rw e (record { bits = tt; text = refl })
    go (no n) = rw (ne_eqb c code.String n) (plain l (eqb c code.Bool) (eqb c code.Int) (eqb c code.Float) (eqb (get_or l 0 0) 84))

-- l is the literal of token t, and u the text before it
pub record Given (src toks : List ℕ) (t : ℕ) (l : Literal) (u : ℕ) : Type 0 where
  pub same : l ≡ (token_of src toks t).literal
  pub bits : T (has_bits l)
  pub text : u + text_length l ≡ text_before src toks (t + 1)

-- from the words that were read
pub given : (src toks : List ℕ) (t : ℕ) {c x y u : ℕ} {l : Literal} → l ≡ literal_in (value_of c (part src x y) u) → c ≡ code_at toks t → x ≡ start_at toks t → y ≡ end_at toks t → u ≡ text_before src toks t
    → Given src toks t l u
unfolding text_before
given src toks t {u = u} {l} a e f g h =
    let same : l ≡ (token_of src toks t).literal = rw (e, f, g, h) at a in
    let w = apt (code_at toks t) (bytes_at src toks t) (text_before src toks t) in
    record { same = same; bits = rw same w.bits; text = rw (add-one, same, w.text, h) }
