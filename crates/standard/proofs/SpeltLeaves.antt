-- What a name or a literal of a source says, written as the standard text has it, is read as the same.
-- Assumes nothing.
use mathlib.Core.Path.{◌≡◌, refl, ap, sym, ◌∙◌, subst}
use mathlib.Core.Bool.{Bool, true, false, cond, ◌&&◌}
use mathlib.Core.List.{List, [], ◌∷◌, ◌++◌}
use Prim.Native.Nat.{ℕ, ◌+◌, ◌-◌, ◌<◌}
use native.Mathlib.Omega.{arith}
use native.Mathlib.Decide.{ℕ_discrete}
use borrow.Author.Tests.{eq-eqb, ne_eqb}
use lib.Dec.{T, eqb}
use lib.IntN.{ℤ}
use lib.ListN.{length, get_or, drop, length-take, length-drop}
use lib.Seq.{get_or-drop, get_or-take, drop-append_seam, take_at}
use Rattle.std.specs.Prelude.{Float, Option, Some, None}
use Rattle.grammar.specs.Sets.{mem}
use Rattle.source.specs.Bytes.{part}
use Rattle.token.specs.Code as token
use Rattle.tokens.specs.Token.{Token}
use Rattle.numbers.specs.Integer.{in_i64}
use Rattle.numbers.proofs.Halved.{halves_int}
use Rattle.numbers.specs.Decimal.{decimal_of}
use Rattle.strings.specs.Decoded.{decoded}
use Rattle.literal.specs.Literal.{of_decimal, lex_float_lem, lex_string_lem, unquoted}
use Rattle.literal.specs.declared.Literal.{Literal}
use Rattle.literal.specs.declared.Literal.TheVariants as L
use Rattle.lexer.specs.Value.{value_of}
use Rattle.lexer.proofs.Properties.{Spanned, bytes_of}
use Rattle.ast.specs.Literal.{leaf_of_lem}
use Rattle.pyhyeon.specs.Symbol.{Tee, tee_at, is_tee, symbol}
use Rattle.pyhyeon.specs.Rules.{literals}
use Rattle.rendered.proofs.Lexeme.{Reads}
use Rattle.rendered.specs.Spelled.{spelled_bool, spelled_string}
use Rattle.rendered.proofs.Lexemes.{truth_reads, integer_reads, string_reads}
use Rattle.rendered.proofs.Beside.{name_starts}
use Rattle.rendered.proofs.Ints.{read_int}
use Rattle.rendered.proofs.Origin.{Origin, int_origin, found_as, name_origin, float_origin}
use Rattle.trees.proofs.Apt.{each}
use Rattle.unparse.specs.Trees.{literal_code}
use Rattle.unparse.specs.Trees as to
use Rattle.unparse.proofs.Machine.{word_of, literal_of_lem}
use Rattle.standard.proofs.Loads.{worth, load}
use Rattle.standard.specs.Text.{literal_text}
use Rattle.standard.proofs.Signs.{sign}
use Rattle.standard.proofs.Scanning.{Spelt}
use Rattle.standard.proofs.Spells.{SpeltName, fixed_spelt, tee_spelt}

-- ---- names

-- the bytes w are the name `t`; so is a token with these bytes
abbrev is_t : List ℕ → Bool
is_t w = eqb (length w) 1 && eqb (get_or w 0 0) 116

tee_by : (s : List ℕ) (at : ℕ) (w : List ℕ) → part s at (at + length w) ≡ w → tee_at s at (at + length w) ≡ is_t w
tee_by s at w e = go (ℕ_discrete (length w) 1)
  where
    go : Dec (length w ≡ 1) → tee_at s at (at + length w) ≡ is_t w
    go (yes q) =
        let lt : 0 < at + length w - at = omega arith in
        let z : at + 0 ≡ at = omega arith in
        let g : get_or w 0 0 ≡ get_or s at 0 =
        ap (λ (l : List ℕ). get_or l 0 0) (sym e) ∙ get_or-take (at + length w - at) (drop at s) 0 0 lt ∙ get_or-drop at s 0 0 ∙ ap (λ (i : ℕ). get_or s i 0) z in
        rw (eq-eqb (length w) 1 q, eq-eqb (at + length w) (at + 1) (omega arith), g) refl
    go (no q) = rw (ne_eqb (length w) 1 q, ne_eqb (at + length w) (at + 1) (λ y. q (omega arith))) refl

module _ (s text : List ℕ) (t : Token) (o : Origin s t) (p : Spanned (length s) t) where
  abbrev w : List ℕ
  w = bytes_of s t

  ends : t.start + length w ≡ t.end
  ends = let h = p.ordered in let k = p.within in simp (length-take, length-drop) (omega arith)

  itself : part s t.start (t.start + length w) ≡ w
  itself = ap (part s t.start) ends

  other_name : t.code ≡ token.Identifier → is_t w ≡ false → Spelt w (sign token.Identifier w)
  unfolding load
  other_name c f = record {
    code = token.Identifier;
    literal = λ used. L.None;
    text = [];
    reads = name_origin s t o c;
    says = λ s' before after at e h. rw (tee_by s' at w e, f, e) refl;
  }

  pub name_spelt : t.code ≡ token.Identifier → SpeltName (word_of (symbol s t)) (load s text t)
  unfolding load word_of
  name_spelt c = go (is_tee s t) refl
    where
      is-tee : is_tee s t ≡ is_t w
      is-tee = rw (eq-eqb t.code token.Identifier c) (subst (λ (e : ℕ). tee_at s t.start e ≡ is_t w) ends (tee_by s t.start w itself))

      go : (b : Bool) → is_tee s t ≡ b → SpeltName (word_of (cond b Tee t.code)) (cond b [] (cond (eqb t.code token.Identifier) (part s t.start t.end) (worth s text t.start t.end t.literal)))
      go true e = (tee_spelt, refl)
      go false e =
          rw c (other_name c (sym is-tee ∙ e), name_starts s t.start t.end (found_as s t o token.Identifier c))

  -- ---- literals

  abbrev Said : to.Literal → Type 0
  Said c = Spelt (literal_text c (load s text t)) (sign (literal_code c) (load s text t))

  -- what is no name stands for its literal
  valued : (c : ℕ) → t.code ≡ c → (c ≡ token.Identifier → ⊥) → load s text t ≡ worth s text t.start t.end t.literal
  unfolding load
  valued c e n = rw (ne_eqb t.code token.Identifier (λ q. n (sym e ∙ q))) refl

  int_spelt : t.code ≡ token.Int → Said to.int
  unfolding load
  int_spelt c =
      let (l, i) = int_origin s t o c in
      rw (valued token.Int c (omega arith), l) (go (read_int w) i)
    where
      go : (z : ℤ) → in_i64 z ≡ true → Spelt (literal_text to.int (worth s text t.start t.end (L.Int z))) (sign token.Int (worth s text t.start t.end (L.Int z)))
      go z i = rw (halves_int z i) (record { code = token.Int; literal = λ used. L.Int z; text = []; reads = integer_reads z i; says = λ s' before after at e h. refl })

  -- the value of a token of this code
  value-of : (c : ℕ) → t.code ≡ c → value_of c w o.used ≡ Some t.literal
  value-of c e = ap (λ (c : ℕ). value_of c w o.used) (sym e) ∙ o.value

  bool_spelt : t.code ≡ token.Bool → Said to.bool
  unfolding load value_of
  bool_spelt c =
      let l : L.Bool (eqb (get_or w 0 0) 84) ≡ t.literal = cc (value-of token.Bool c) in
      rw (valued token.Bool c (omega arith), ← l) (go (eqb (get_or w 0 0) 84))
    where
      go : (b : Bool) → Spelt (spelled_bool (eqb (cond b 1 0) 1)) (sign token.Bool (cond b 1 0 ∷ []))
      go true = record { code = token.Bool; literal = λ used. L.Bool true; text = []; reads = truth_reads true; says = λ s' before after at e h. refl }
      go false = record { code = token.Bool; literal = λ used. L.Bool false; text = []; reads = truth_reads false; says = λ s' before after at e h. refl }

  none_spelt : t.code ≡ token.None → Said to.none
  unfolding load value_of
  none_spelt c =
      let l : L.None ≡ t.literal = cc (value-of token.None c) in
      rw (valued token.None c (omega arith), ← l) (fixed_spelt token.None refl)

  -- a String's text, between what stands before it and behind it
  between : (before l after : List ℕ) → part (before ++ (l ++ after)) (length before) (length before + length l) ≡ l
  between before l after =
      let n : length before + length l - length before ≡ length l = omega arith in
      rw (n, drop-append_seam before (l ++ after)) (take_at l after (length l) refl)

  string_spelt : t.code ≡ token.String → Said to.string
  unfolding load value_of lex_string_lem
  string_spelt c =
      let l : L.String o.used (length (decoded (unquoted w))) ≡ t.literal = cc (value-of token.String c) in
      rw (valued token.String c (omega arith), ← l) (go (part text o.used (o.used + length (decoded (unquoted w)))))
    where
      go : (l : List ℕ) → Spelt (spelled_string l) (sign token.String l)
      go l = record {
        code = token.String;
        literal = λ used. L.String used (length l);
        text = l;
        reads = string_reads l;
        says = λ s' before after at e h. ap (sign token.String) (between before l after);
      }

  float_spelt : t.code ≡ token.Float → Said to.float
  unfolding load value_of lex_float_lem
  float_spelt c = go (decimal_of w) (value-of token.Float c)
    where
      go : (d : Option Float) → of_decimal d ≡ Some t.literal → Said to.float
      go (Some x) q =
          let l : L.Float x ≡ t.literal = cc in
          rw (valued token.Float c (omega arith), ← l)
          (record {
            code = token.Float;
            literal = λ used. L.Float x;
            text = [];
            reads = subst (λ (v : Literal). Reads token.Float w (λ used. v) []) (sym l) (float_origin s t o c);
            says = λ s' before after at e h. ap (λ (b : List ℕ). sign token.Float ((leaf_of_lem 0 0 (L.Float x)).p ∷ (leaf_of_lem 0 0 (L.Float x)).q ∷ b)) e;
          })
      go None q = let z : ◌≡◌ {A = ℕ} 0 1 = cc in absurd (omega arith)

  pub literal_spelt : T (mem t.code literals) → Spelt (literal_text (literal_of_lem t.code) (load s text t)) (sign (literal_code (literal_of_lem t.code)) (load s text t))
  unfolding literal_of_lem
  literal_spelt m = each (λ c. t.code ≡ c → Said (literal_of_lem c)) t.code literals (int_spelt, (bool_spelt, (string_spelt, (float_spelt, (none_spelt, tt))))) m refl
