-- The value and the text of a token, by its code.
-- Assumes nothing.
use mathlib.Core.Path.{◌≡◌, refl, sym, ap, ◌∙◌}
use mathlib.Core.Bool.{Bool, true, false, cond}
use mathlib.Core.List.{List, []}
use Prim.Native.Nat.{ℕ, ◌+◌, ◌-◌, ◌≤◌}
use native.Mathlib.Omega.{arith}
use lib.Dec.{eqb}
use lib.ListN.{length, get_or, drop, length-drop, length-take}
use lib.Seq.{sets, take-take, drop-drop}
use borrow.Author.Tests.{ne_eqb}
use Rattle.std.specs.Prelude.{Option, Some, None}
use Rattle.std.specs.Option.{option_and}
use Rattle.source.specs.Bytes.{part}
use Rattle.source.proofs.Lists.{drop_take}
use Rattle.strings.specs.Decoded.{decoded}
use Rattle.token.specs.Code as Code
use Rattle.literal.specs.Literal.{lex_integer_lem, lex_float_lem, lex_string_lem, unquoted}
use Rattle.literal.specs.declared.Literal.{Literal}
use Rattle.literal.specs.declared.Literal.TheVariants as L
use Rattle.lexer.specs.Value.{value_of, text_of}
use Rattle.lexer.specs.Steps.{taken_of}

pub length_part : (s : List ℕ) (start end : ℕ) → end ≤ length s → length (part s start end) ≡ end - start
length_part s start end h = length-take (end - start) (drop start s) ∙ omega (arith, length-drop start s)

-- what stands between the quotes of a part is a part
pub unquoted_part : (s : List ℕ) (start end : ℕ) → start + 2 ≤ end → end ≤ length s → unquoted (part s start end) ≡ part s (start + 1) (end - 1)
unquoted_part s start end h k =
    let m : length (part s start end) - 1 - 1 ≡ end - 1 - (start + 1) = omega (arith, length_part s start end k) in
    rw (m, drop_take 1 (end - start) (drop start s), drop-drop 1 start s) (take-take (end - 1 - (start + 1)) (end - start - 1) (drop (start + 1) s) (omega arith))

-- ---- the value by its code

module _ (code : ℕ) (l : List ℕ) (used : ℕ) where
  pub value_bool : code ≡ Code.Bool → value_of code l used ≡ Some (L.Bool (eqb (get_or l 0 0) 84))
  unfolding value_of
  value_bool e = rw e

  pub value_int : code ≡ Code.Int → value_of code l used ≡ lex_integer_lem l
  unfolding value_of
  value_int e = rw e

  pub value_float : code ≡ Code.Float → value_of code l used ≡ lex_float_lem l
  unfolding value_of
  value_float e = rw e

  pub value_string : code ≡ Code.String → value_of code l used ≡ Some (lex_string_lem l used)
  unfolding value_of
  value_string e = rw e

  module _ (a : code ≡ Code.Int → ⊥) (b : code ≡ Code.Float → ⊥) (d : code ≡ Code.String → ⊥) where
    bool_or_none : value_of code l used ≡ cond (eqb code Code.Bool) (Some (L.Bool (eqb (get_or l 0 0) 84))) (Some L.None)
    unfolding value_of
    bool_or_none = rw (ne_eqb code Code.Int a, ne_eqb code Code.Float b, ne_eqb code Code.String d)

    pub value_none : (code ≡ Code.Bool → ⊥) → value_of code l used ≡ Some L.None
    value_none e = bool_or_none ∙ rw (ne_eqb code Code.Bool e)

-- the text is as long as it was, unless the value is refused
pub taken_same : (v : Option Literal) (used : ℕ) → option_and v (Some used) ≡ taken_of v used
taken_same (Some v) used = refl
taken_same None used = refl

-- what a function has done that took the value v and wrote the text bs
abbrev pub Took : ℕ → List ℕ → ℕ → List ℕ → Option ℕ → List ℕ → Type 0
Took code l used text r text' =
    (r ≡ taken_of (value_of code l used) (used + length (text_of code l))) × (text' ≡ sets text used (text_of code l))

either_used : (t : Bool) (v w : Literal) (used : ℕ) → taken_of (cond t (Some v) (Some w)) used ≡ Some used
either_used true v w used = refl
either_used false v w used = refl

module _ (code : ℕ) (l : List ℕ) (used : ℕ) (text : List ℕ) where
  took : (v : Option Literal) (bs : List ℕ) (r : Option ℕ) (text' : List ℕ) → value_of code l used ≡ v → text_of code l ≡ bs → r ≡ taken_of v (used + length bs) → text' ≡ sets text used bs → Took code l used text r text'
  took v bs r text' e f a b = rw (e, f) (a, b)

  used_same : (v : Option Literal) (w : Option Literal) → v ≡ w → taken_of w used ≡ taken_of v (used + 0)
  used_same v w e = rw e (ap (taken_of w) (omega arith))

  pub took_int : code ≡ Code.Int → (v : Option Literal) → lex_integer_lem l ≡ v → Took code l used text (taken_of v used) text
  unfolding text_of
  took_int e v q = took v [] (taken_of v used) text (value_int code l used e ∙ q) (rw e) (used_same v v refl) refl

  pub took_float : code ≡ Code.Float → (v : Option Literal) → lex_float_lem l ≡ v → Took code l used text (taken_of v used) text
  unfolding text_of
  took_float e v q = took v [] (taken_of v used) text (value_float code l used e ∙ q) (rw e) (used_same v v refl) refl

  pub took_string : code ≡ Code.String → (r : ℕ) (text' : List ℕ) → r ≡ used + length (decoded (unquoted l)) → text' ≡ sets text used (decoded (unquoted l)) → Took code l used text (Some r) text'
  unfolding text_of
  took_string e r text' a b = took (Some (lex_string_lem l used)) (decoded (unquoted l)) (Some r) text' (value_string code l used e) (rw e) (ap Some a) b

  pub took_none : (code ≡ Code.Int → ⊥) → (code ≡ Code.Float → ⊥) → (code ≡ Code.String → ⊥) → Took code l used text (Some used) text
  unfolding text_of
  took_none a b d =
      took (cond (eqb code Code.Bool) (Some (L.Bool (eqb (get_or l 0 0) 84))) (Some L.None)) [] (Some used) text (bool_or_none code l used a b d) (rw (ne_eqb code Code.String d))
      (sym (either_used (eqb code Code.Bool) (L.Bool (eqb (get_or l 0 0) 84)) L.None (used + 0) ∙ ap Some (omega arith))) refl
