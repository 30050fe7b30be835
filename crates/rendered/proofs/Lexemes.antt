-- What a writer puts is read as one token, with the literal that it was written for.
-- Assumes nothing.
use mathlib.Core.Path.{◌≡◌, refl, sym, ap, ◌∙◌}
use mathlib.Core.Bool.{Bool, true, false, true≢false}
use mathlib.Core.List.{List, [], ◌∷◌}
use Prim.Native.Nat.{ℕ}
use native.Mathlib.Omega.{arith}
use lib.IntN.{ℤ}
use lib.ListN.{length}
use borrow.Author.Tests.{ne_eqb}
use Rattle.std.specs.Prelude.{Some}
use Rattle.source.specs.Bytes.{part}
use Rattle.token.specs.Code as Code
use Rattle.raw_token.specs.Table.{raw_token, token_at_lem}
use Rattle.numbers.specs.Integer.{in_i64}
use Rattle.literal.specs.declared.Literal.{Literal}
use Rattle.literal.specs.declared.Literal.TheVariants as L
use Rattle.lexer.specs.Value.{value_of, text_of}
use Rattle.lexer.proofs.Values.{value_int, value_float, value_none}
use Rattle.rendered.proofs.Lexeme.{Lexeme, Reads, is_fixed}
use Rattle.rendered.specs.Spelled.{spelled_fixed, spelled_bool, spelled_int, spelled_string}
use Rattle.rendered.proofs.Cuts.{alone}
use Rattle.rendered.proofs.Fixed.{fixed_lexeme, bool_lexeme, bool_value, tree_lexeme}
use Rattle.rendered.proofs.Ints.{int_lexeme, int-value}
use Rattle.rendered.proofs.Strings.{string_lexeme, string_text, string_value}

-- only a String adds to the text
no_text : (code : ℕ) (w : List ℕ) → (code ≡ Code.String → ⊥) → text_of code w ≡ []
unfolding text_of
no_text code w n = rw (ne_eqb code Code.String n)

-- a fixed text has no code of another sort
pub fixed_other : (code k : ℕ) → is_fixed code ≡ true → is_fixed k ≡ false → code ≡ k → ⊥
fixed_other code k e f q = true≢false (sym e ∙ ap is_fixed q ∙ f)

pub fixed_reads : (code : ℕ) → is_fixed code ≡ true → Reads code (spelled_fixed code) (λ used. L.None) []
fixed_reads code e = record {
  lexeme = fixed_lexeme code e;
  no_feed = fixed_other code Code.Newline e refl;
  valued = λ used.
      value_none code (spelled_fixed code) used (fixed_other code Code.Int e refl) (fixed_other code Code.Float e refl) (fixed_other code Code.String e refl) (fixed_other code Code.Bool e refl);
  adds = no_text code (spelled_fixed code) (fixed_other code Code.String e refl);
}

pub truth_reads : (t : Bool) → Reads Code.Bool (spelled_bool t) (λ used. L.Bool t) []
truth_reads t = record { lexeme = bool_lexeme t; no_feed = omega arith; valued = bool_value t; adds = no_text Code.Bool (spelled_bool t) (omega arith) }

pub integer_reads : (z : ℤ) → in_i64 z ≡ true → Reads Code.Int (spelled_int z) (λ used. L.Int z) []
integer_reads z e = record {
  lexeme = int_lexeme z;
  no_feed = omega arith;
  valued = λ used. value_int Code.Int (spelled_int z) used refl ∙ int-value z e;
  adds = no_text Code.Int (spelled_int z) (omega arith);
}

pub string_reads : (l : List ℕ) → Reads Code.String (spelled_string l) (λ used. L.String used (length l)) l
string_reads l = record { lexeme = string_lexeme l; no_feed = omega arith; valued = string_value l; adds = string_text l }

-- the bytes of a name; the name `t`; a name that was read
named : (w : List ℕ) → Lexeme Code.Identifier w → Reads Code.Identifier w (λ used. L.None) []
named w e = record {
  lexeme = e;
  no_feed = omega arith;
  valued = λ used. value_none Code.Identifier w used (omega arith) (omega arith) (omega arith) (omega arith);
  adds = no_text Code.Identifier w (omega arith);
}

pub tee_reads : Reads Code.Identifier (116 ∷ []) (λ used. L.None) []
tee_reads = named (116 ∷ []) tree_lexeme

module _ (s : List ℕ) (start end : ℕ) where
  pub name_reads : token_at_lem s start ≡ Some (raw_token Code.Identifier end) → Reads Code.Identifier (part s start end) (λ used. L.None) []
  name_reads e = named (part s start end) (alone s start Code.Identifier end e)

  -- a Float that was read: the same bytes have the same value
  pub float_reads : token_at_lem s start ≡ Some (raw_token Code.Float end) → (used : ℕ) (v : Literal) → value_of Code.Float (part s start end) used ≡ Some v → Reads Code.Float (part s start end) (λ used. v) []
  float_reads e used v val =
      let w = part s start end in
      record {
        lexeme = alone s start Code.Float end e;
        no_feed = omega arith;
        valued = λ u. value_float Code.Float w u refl ∙ sym (value_float Code.Float w used refl) ∙ val;
        adds = no_text Code.Float w (omega arith);
      }
