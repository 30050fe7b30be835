-- The tokens of a scanned source are such as `Plain` asks.
-- Assumes nothing.
use mathlib.Core.Path.{◌≡◌, ap}
use mathlib.Core.Bool.{Bool, true, false, cond}
use mathlib.Core.List.{List}
use Prim.Native.Nat.{ℕ, zero, suc, ◌<◌}
use native.Mathlib.Omega.{arith}
use lib.Dec.{T}
use lib.ListN.{length, get_or}
use Rattle.std.specs.Prelude.{Float, ℤ, Option, Some, None}
use Rattle.grammar.specs.Sets.{mem}
use Rattle.numbers.specs.Decimal.{decimal_of}
use Rattle.numbers.specs.Integer.{integer_of}
use Rattle.literal.specs.Literal.{of_integer, of_decimal, lex_integer_lem, lex_float_lem, lex_string_lem}
use Rattle.literal.specs.declared.Literal.{Literal}
use Rattle.literal.specs.declared.Literal.TheVariants as L
use Rattle.tokens.specs.Token.{Token}
use Rattle.tokens.specs.Token as tok
use Rattle.lexer.specs.Value.{value_of}
use Rattle.lexer.specs.Scan.{token_list, scanned}
use Rattle.lexer.proofs.Properties.{Valued, bytes_of, each_at}
use Rattle.lexer.proofs.Laws.{tokens_valued, tokens_coded}
use Rattle.pyhyeon.specs.Symbol.{Tee, is_tee}
use Rattle.pyhyeon.specs.Action.{token_at_lem}
use Rattle.pyhyeon.specs.Rules.{literals}
use Rattle.unparse.specs.Trees as to
use Rattle.unparse.proofs.Machine.{literal_of_lem}
use Rattle.trees.proofs.Apt.{each}
use Rattle.standard.proofs.Erasing.{Plain, sort_of}

-- the value of a token, by its number
valued_at : {s : List ℕ} {used : ℕ} {ts : List Token} {bs : List ℕ} → Valued s used ts bs → (d : Token) (i : ℕ) → i < length ts →
    (used' : ℕ) × (value_of (get_or ts i d).code (bytes_of s (get_or ts i d)) used' ≡ Some (get_or ts i d).literal)
valued_at Valued.none d i h = absurd (omega arith)
valued_at (Valued.more {used} e v) d zero h = (used, e)
valued_at (Valued.more e v) d (suc i) h = valued_at v d i (omega arith)

value_sort : (l : List ℕ) (used : ℕ) (v : Literal) (c : ℕ) → T (mem c literals) → value_of c l used ≡ Some v → literal_of_lem c ≡ sort_of v
unfolding value_of literal_of_lem lex_integer_lem lex_float_lem lex_string_lem
value_sort l used v c m e = each (λ c. value_of c l used ≡ Some v → literal_of_lem c ≡ sort_of v) c literals
    ((λ e. int (integer_of l) e), ((λ e. is _ e), ((λ e. is _ e), ((λ e. float (decimal_of l) e), ((λ e. is _ e), tt))))) m e
  where
    is : (w : Literal) → Some w ≡ Some v → sort_of w ≡ sort_of v
    is w e = let f : w ≡ v = cc in ap sort_of f

    int : (o : Option ℤ) → of_integer o ≡ Some v → to.int ≡ sort_of v
    int (Some n) e = is (L.Int n) e
    int None e = let z : ◌≡◌ {A = ℕ} 0 1 = cc in absurd (omega arith)

    float : (o : Option Float) → of_decimal o ≡ Some v → to.float ≡ sort_of v
    float (Some x) e = is (L.Float x) e
    float None e = let z : ◌≡◌ {A = ℕ} 0 1 = cc in absurd (omega arith)

pub plain_tokens : (source : List ℕ) (toks : List Token) (bs : List ℕ) → token_list source ≡ scanned toks bs → Plain source toks
plain_tokens source toks bs e = record {
  coded = λ t l h. omega (arith, (each_at (tokens_coded source toks bs e) t (tok.token 0 0 0 L.None) l).greatest);
  sorted = λ t h.
      let (u, v) = valued_at (tokens_valued source toks bs e) (tok.token 0 0 0 L.None) t h.0 in
      value_sort (bytes_of source (token_at_lem source toks t)) u (token_at_lem source toks t).literal (token_at_lem source toks t).code (code_in (is_tee source (token_at_lem source toks t)) (token_at_lem source toks t).code h.1) v;
}
  where
    code_in : (b : Bool) (c : ℕ) → T (mem (cond b Tee c) literals) → T (mem c literals)
    code_in true c m = absurd m
    code_in false c m = m
