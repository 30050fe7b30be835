-- A String in double quotes with its escapes is a lexeme, and it decodes to its bytes.
-- Assumes nothing.
use mathlib.Core.Path.{◌≡◌, refl, ap, ◌∙◌}
use mathlib.Core.Bool.{false}
use mathlib.Core.List.{List, [], ◌∷◌, ◌++◌, append_assoc}
use Prim.Native.Nat.{ℕ, suc, ◌+◌, ◌-◌, ◌<◌}
use native.Mathlib.Decide.{ℕ_discrete}
use native.Mathlib.Omega.{arith}
use lib.ListN.{length, take, length-append}
use lib.Seq.{take_at}
use borrow.Author.Tests.{ne_eqb}
use Rattle.std.specs.Prelude.{Some}
use Rattle.token.specs.Code as Code
use Rattle.strings.specs.Decoded.{escape, decode_from, decoded}
use Rattle.raw_token.specs.Table.{raw_token}
use Rattle.raw_token.specs.Pattern as P
use Rattle.raw_token.specs.Pattern.{behind, body}
use Rattle.raw_token.specs.Parts.{string_at}
use Rattle.raw_token.proofs.Steps.{behind_some}
use Rattle.literal.specs.Literal.{unquoted, lex_string_lem}
use Rattle.literal.specs.declared.Literal.TheVariants as L
use Rattle.lexer.specs.Value.{value_of, text_of}
use Rattle.lexer.proofs.Values.{value_string}
use Rattle.rendered.proofs.Lexeme.{Lexeme}
use Rattle.rendered.specs.Spelled.{letter, escaped, escaped_all, spelled_string}
use Rattle.rendered.proofs.Stays.{quote_token}

-- a byte that stands for itself, and one with a backslash
data Escaping (b : ℕ) : Type 0 where
  plain : letter b ≡ 0 → (b ≡ 34 → ⊥) → (b ≡ 92 → ⊥) → Escaping b
  slash : (c : ℕ) → letter b ≡ c → (c ≡ 0 → ⊥) → (c ≡ 10 → ⊥) → escape c ≡ b ∷ [] → Escaping b

escaping : (b : ℕ) → Escaping b
unfolding letter
escaping b = go (ℕ_discrete b 92) (ℕ_discrete b 34) (ℕ_discrete b 10) (ℕ_discrete b 9) (ℕ_discrete b 13)
  where
    go : Dec (b ≡ 92) → Dec (b ≡ 34) → Dec (b ≡ 10) → Dec (b ≡ 9) → Dec (b ≡ 13) → Escaping b
    go (yes e) p q r s = slash 92 (rw e) (omega arith) (omega arith) (rw e)
    go (no d) (yes e) q r s = slash 34 (rw e) (omega arith) (omega arith) (rw e)
    go (no d) (no f) (yes e) r s = slash 110 (rw e) (omega arith) (omega arith) (rw e)
    go (no d) (no f) (no g) (yes e) s = slash 116 (rw e) (omega arith) (omega arith) (rw e)
    go (no d) (no f) (no g) (no h) (yes e) = slash 114 (rw e) (omega arith) (omega arith) (rw e)
    go (no d) (no f) (no g) (no h) (no k) = plain (rw (ne_eqb b 92 d, ne_eqb b 34 f, ne_eqb b 10 g, ne_eqb b 9 h, ne_eqb b 13 k)) f d

-- ---- the lexeme

body_plain : (b : ℕ) (l : List ℕ) → (b ≡ 34 → ⊥) → (b ≡ 92 → ⊥) → 0 < body 34 false l → body 34 false (b ∷ l) ≡ 1 + body 34 false l
body_plain b l p q h = rw (ne_eqb b 34 p, ne_eqb b 92 q) (behind_some 1 (body 34 false l) (omega arith))

body_slash : (c : ℕ) (l : List ℕ) → (c ≡ 10 → ⊥) → 0 < body 34 false l → body 34 false (92 ∷ c ∷ l) ≡ 2 + body 34 false l
body_slash c l p h =
    let e : behind 1 (body 34 false l) ≡ 1 + body 34 false l = behind_some 1 (body 34 false l) (omega arith) in
    rw (ne_eqb c 10 p, e) (behind_some 1 (1 + body 34 false l) (omega arith) ∙ omega arith)

body_escaped : (b : ℕ) (l : List ℕ) → 0 < body 34 false l → body 34 false (escaped b ++ l) ≡ length (escaped b) + body 34 false l
body_escaped b l h = go (escaping b)
  where
    go : Escaping b → body 34 false (escaped b ++ l) ≡ length (escaped b) + body 34 false l
    go (plain e p q) = rw e (body_plain b l p q h)
    go (slash c e z p d) = rw (e, ne_eqb c 0 z) (body_slash c l p h)

body_all : (l : List ℕ) → body 34 false (escaped_all l ++ 34 ∷ []) ≡ length (escaped_all l ++ 34 ∷ [])
unfolding escaped_all
body_all [] = refl
body_all (b ∷ l) =
    let r = escaped_all l ++ 34 ∷ [] in
    let h : 0 < length r = omega (arith, length-append (escaped_all l) (34 ∷ [])) in
    rw (append_assoc (escaped b) (escaped_all l) (34 ∷ []), length-append (escaped b) r)
    (body_escaped b r (omega (arith, body_all l)) ∙ ap (λ (n : ℕ). length (escaped b) + n) (body_all l))

pub string_lexeme : (l : List ℕ) → Lexeme Code.String (spelled_string l)
unfolding string_at
string_lexeme l =
    let r = escaped_all l ++ 34 ∷ [] in
    let h : 0 < length r = omega (arith, length-append (escaped_all l) (34 ∷ [])) in
    let n : P.string (34 ∷ r) ≡ suc (length r) = ap (behind 1) (body_all l) ∙ behind_some 1 (length r) (omega arith) ∙ omega arith in
    quote_token 34 r refl ∙ rw (n, ne_eqb (suc (length r)) 0 (omega arith)) (ap (λ (k : ℕ). Some (raw_token Code.String k)) (omega arith))

-- ---- what it decodes to

decode_plain : (b : ℕ) (l : List ℕ) → (b ≡ 92 → ⊥) → decode_from false (b ∷ l) ≡ b ∷ decode_from false l
decode_plain b l q = rw (ne_eqb b 92 q)

decode_escaped : (b : ℕ) (l : List ℕ) → decode_from false (escaped b ++ l) ≡ b ∷ decode_from false l
decode_escaped b l = go (escaping b)
  where
    go : Escaping b → decode_from false (escaped b ++ l) ≡ b ∷ decode_from false l
    go (plain e p q) = rw e (decode_plain b l q)
    go (slash c e z p d) = rw (e, ne_eqb c 0 z) (ap (λ (x : List ℕ). x ++ decode_from false l) d)

decode_all : (l : List ℕ) → decode_from false (escaped_all l) ≡ l
unfolding escaped_all
decode_all [] = refl
decode_all (b ∷ l) = decode_escaped b (escaped_all l) ∙ ap (λ (x : List ℕ). b ∷ x) (decode_all l)

pub string_decoded : (l : List ℕ) → decoded (unquoted (spelled_string l)) ≡ l
unfolding decoded
string_decoded l =
    let w = escaped_all l in
    let e : suc (length (w ++ 34 ∷ [])) - 1 - 1 ≡ length w = omega (arith, length-append w (34 ∷ [])) in
    ap (λ (n : ℕ). decode_from false (take n (w ++ 34 ∷ []))) e ∙ ap (decode_from false) (take_at w (34 ∷ []) (length w) refl) ∙ decode_all l

pub string_text : (l : List ℕ) → text_of Code.String (spelled_string l) ≡ l
unfolding text_of
string_text l = string_decoded l

pub string_value : (l : List ℕ) (used : ℕ) → value_of Code.String (spelled_string l) used ≡ Some (L.String used (length l))
unfolding lex_string_lem
string_value l used = value_string Code.String (spelled_string l) used refl ∙ ap (λ (x : List ℕ). Some (L.String used (length x))) (string_decoded l)
