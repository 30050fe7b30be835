-- The tokens' promise as a derivation: what each token of a scan is, and what stands behind it. `promise` walks the scan once; the laws of
-- proofs/Laws.antt are inductions on the derivation.
-- Assumes nothing.
use mathlib.Core.Path.{◌≡◌, refl, subst}
use mathlib.Core.Bool.{Bool, true, false, cond, ◌||◌}
use mathlib.Core.List.{List, [], ◌∷◌, ◌++◌}
use mathlib.Core.Logic.{◌⊎◌, inl, inr}
use Prim.Native.Nat.{ℕ, zero, suc, ◌+◌, ◌-◌, ◌/◌, ◌%◌, ◌≤◌}
use native.Mathlib.Nat.{le_refl, le_trans}
use native.Mathlib.Omega.{arith}
use lib.Dec.{eqb, ltb}
use lib.ListN.{length, get_or, replicate}
use borrow.Author.Tests.{eqb-true, ltb-false}
use Rattle.std.specs.Prelude.{Option, Some, None, Result, Ok, Err}
use Rattle.source.specs.Bytes.{part}
use Rattle.token.specs.Code as Code
use Rattle.tokens.specs.Token.{Token, token}
use Rattle.literal.specs.declared.Literal.{Literal}
use Rattle.raw_token.specs.Table.{raw_token, token_at_lem}
use Rattle.raw_token.specs.declared.RawToken.{RawToken}
use Rattle.raw_token.proofs.Within.{token_within}
use Rattle.spacing.specs.Gap.{gap_end_lem}
use Rattle.spacing.specs.Indentation.{step, is_level, is_blank_line, level_of, spaces_end_lem, indentation_at}
use Rattle.lexer.specs.Value.{value_of, text_of}
use Rattle.lexer.specs.Scan.{Scan, scanned, refused, prepend, mark, lexer, Rest, marks_then, indent_then, closed, value_then, found_then, token_then, scan_from, token_list}
use Rattle.lexer.specs.declared.Lexer.{Lexer}
use Rattle.spacing.specs.declared.line.Indentation.{Indentation}
use Rattle.spacing.specs.declared.line.Indentation.TheVariants.{Blank, Level}
use Rattle.source.specs.Reasons.{refusal_at}
use Rattle.source.specs.declared.refusal.Refusal.{Refusal}
use Rattle.spacing.proofs.Levels.{Known, indentation_known}
use Rattle.lexer.proofs.Enough.{Reached, gap_from}

-- The tokens of the source s, Eof last, and their text, where the token before starts at `lo` and ends at `hi`, `depth` levels are open, and
-- `used` bytes of text stand before. A Dedent may span the same spaces as the one before it; any other token starts at or behind `hi`
pub data Tokens (s : List ℕ) : ℕ → ℕ → ℕ → ℕ → List Token → List ℕ → Type 0 where
  indent : {lo hi depth used start end : ℕ} {ts : List Token} {bs : List ℕ} → lo ≤ start → hi ≤ start → start + step ≤ end → end ≤ length s
      → Tokens s start end (suc depth) used ts bs → Tokens s lo hi depth used (mark Code.Indent start end ∷ ts) bs
  dedent : {lo hi depth used start end : ℕ} {ts : List Token} {bs : List ℕ} → lo ≤ start → hi ≤ end → start ≤ end → end ≤ length s
      → Tokens s start end depth used ts bs → Tokens s lo hi (suc depth) used (mark Code.Dedent start end ∷ ts) bs
  raw : {lo hi depth used start code end : ℕ} {v : Literal} {ts : List Token} {bs : List ℕ} → lo ≤ start → hi ≤ start
      → token_at_lem s start ≡ Some (raw_token code end) → value_of code (part s start end) used ≡ Some v
      → Tokens s start end depth (used + length (text_of code (part s start end))) ts bs
      → Tokens s lo hi depth used (token code start end v ∷ ts) (text_of code (part s start end) ++ bs)
  eof : {lo hi used : ℕ} → lo ≤ length s → hi ≤ length s → Tokens s lo hi 0 used (mark Code.Eof (length s) (length s) ∷ []) []

-- what stands behind one place stands behind an earlier one
earlier : {s : List ℕ} {lo hi lo' hi' depth used : ℕ} {ts : List Token} {bs : List ℕ} → lo' ≤ lo → hi' ≤ hi → Tokens s lo hi depth used ts bs → Tokens s lo' hi' depth used ts bs
earlier a b (indent h k m n t) = indent (le_trans a h) (le_trans b k) m n t
earlier a b (dedent h k m n t) = dedent (le_trans a h) (le_trans b k) m n t
earlier a b (raw h k e f t) = raw (le_trans a h) (le_trans b k) e f t
earlier a b (eof h k) = eof (le_trans a h) (le_trans b k)

-- several Dedents of one line
dedents : {s : List ℕ} {start end depth used : ℕ} {ts : List Token} {bs : List ℕ} (k lo hi all : ℕ) → lo ≤ start → hi ≤ end → start ≤ end → end ≤ length s → all ≡ k + depth
    → Tokens s end end depth used ts bs → Tokens s lo hi all used (replicate k (mark Code.Dedent start end) ++ ts) bs
dedents {depth} zero lo hi all a b c d e t =
    let f : all ≡ depth = omega arith in
    rw f (earlier (le_trans a c) b t)
dedents {start} {end} {depth} (suc k) lo hi all a b c d e t =
    let f : all ≡ suc (k + depth) = omega arith in
    rw f (dedent a b c d (dedents k start end (k + depth) (le_refl start) (le_refl end) c d refl t))

-- what a scan from the place `at` on has: the tokens, unless it refuses
abbrev Makes : List ℕ → ℕ → ℕ → ℕ → Scan → Type 0
Makes s at depth used (scanned ts bs) = Tokens s at at depth used ts bs
Makes s at depth used (refused number place) = Unit {0}

-- so it is from every state that the scan can reach
abbrev MakesAll : List ℕ → Rest → Type 0
MakesAll s rest = (y : Lexer) → Reached (length s) y → Makes s y.at (y.top / step) y.used (rest y)

-- ---- a line's spaces

-- the levels that marks open and close
abbrev Moves : ℕ → ℕ → Result Indentation Refusal → Type 0
Moves at top (Ok (Blank end)) = Unit {0}
Moves at top (Ok (Level end code marks top')) =
    ((code ≡ Code.Indent) × (marks ≡ 1) × (top' / step ≡ suc (top / step)) × (at + step ≤ end))
    ⊎ ((code ≡ Code.Dedent) × (top / step ≡ marks + top' / step))
Moves at top (Err r) = Unit {0}

level_moves : (at end top : ℕ) → top % step ≡ 0 → Moves at top (level_of at end top)
unfolding level_of
level_moves at end top e =
    go (eqb (end - at) top) (ltb top (end - at)) (ltb-false top (end - at)) (eqb (end - at) (top + step)) (eqb-true (end - at) (top + step)) (is_level (end - at)) (eqb-true ((end - at) % step) 0)
  where
    go : (t u : Bool) → (u ≡ false → end - at ≤ top) → (v : Bool) → (v ≡ true → end - at ≡ top + step) → (w : Bool) → (w ≡ true → (end - at) % step ≡ 0)
        → Moves at top (cond t (Ok (Level end Code.Dedent 0 top)) (cond u (cond v (Ok (Level end Code.Indent 1 (end - at))) (Err (refusal_at 7 at))) (cond w (Ok (Level end Code.Dedent ((top - (end - at)) / step) (end - at))) (Err (refusal_at 8 at)))))
    go true u f v g w h = inr (refl, omega arith)
    go false true f true g w h = let k = g refl in inl (refl, refl, omega arith, omega arith)
    go false true f false g w h = tt
    go false false f v g true h = let k = f refl in let m = h refl in inr (refl, omega arith)
    go false false f v g false h = tt

indentation_moves : (s : List ℕ) (at top : ℕ) → top % step ≡ 0 → Moves at top (indentation_at s at top)
unfolding indentation_at
indentation_moves s at top e = go (eqb b 9) (is_blank_line b)
  where
    b : ℕ
    b = get_or s (spaces_end_lem s at) 0

    go : (t u : Bool) → Moves at top (cond t (Err (refusal_at 6 (spaces_end_lem s at))) (cond u (Ok (Blank (spaces_end_lem s at))) (level_of at (spaces_end_lem s at) top)))
    go true u = tt
    go false true = tt
    go false false = level_moves at (spaces_end_lem s at) top e

-- marks in front of a scan
module _ (s : List ℕ) (at end depth used : ℕ) (from : at ≤ end) (to : end ≤ length s) where
  blank_makes : (r : Scan) → Makes s end depth used r → Makes s at depth used r
  blank_makes (scanned ts bs) t = earlier from from t
  blank_makes (refused number place) t = tt

  indent_makes : at + step ≤ end → (r : Scan) → Makes s end (suc depth) used r → Makes s at depth used (prepend (mark Code.Indent at end ∷ []) [] r)
  indent_makes h (scanned ts bs) t = indent (le_refl at) (le_refl at) h to (earlier from (le_refl end) t)
  indent_makes h (refused number place) t = tt

  dedents_make : (k all : ℕ) → all ≡ k + depth → (r : Scan) → Makes s end depth used r → Makes s at all used (prepend (replicate k (mark Code.Dedent at end)) [] r)
  dedents_make k all e (scanned ts bs) t = dedents k at at all (le_refl at) from from to e t
  dedents_make k all e (refused number place) t = tt

module _ (s : List ℕ) (x : Lexer) (reached : Reached (length s) x) (rest : Rest) (makes : MakesAll s rest) where
  level_makes : (end code marks top : ℕ) → Known (length s) x.at x.top (Ok (Level end code marks top)) → Moves x.at x.top (Ok (Level end code marks top))
      → Makes s x.at (x.top / step) x.used (marks_then rest x (Ok (Level end code marks top)))
  level_makes end code marks top k (inl m) =
      let y = lexer end false top (x.count + 1) x.used in
      rw (m.0, m.1) (indent_makes s x.at end (x.top / step) x.used k.0 k.1 m.3 (rest y) (rw m.2 at (makes y (k.1, k.2))))
  level_makes end code marks top k (inr m) =
      let y = lexer end false top (x.count + marks) x.used in
      rw m.0 (dedents_make s x.at end (top / step) x.used k.0 k.1 marks (x.top / step) m.1 (rest y) (makes y (k.1, k.2)))

  indent-then : Makes s x.at (x.top / step) x.used (indent_then s rest x)
  unfolding indent_then
  indent-then =
      by_flag x.flag (indentation_at s x.at x.top) (indentation_known s x.at x.top reached.0 reached.1) (indentation_moves s x.at x.top reached.1)
    where
      by_flag : (t : Bool) (i : Result Indentation Refusal) → Known (length s) x.at x.top i → Moves x.at x.top i → Makes s x.at (x.top / step) x.used (cond t (marks_then rest x i) (rest x))
      by_flag false i k m = makes x reached
      by_flag true (Ok (Blank end)) k m =
          let y = lexer end true x.top x.count x.used in
          blank_makes s x.at end (x.top / step) x.used k.0 k.1 (rest y) (makes y (k.1, reached.1))
      by_flag true (Ok (Level end code marks top)) k m = level_makes end code marks top k m
      by_flag true (Err r) k m = tt

  -- ---- a token, and the end

  token-then : Makes s x.at (x.top / step) x.used (token_then s rest x)
  unfolding token_then closed
  token-then = by_token (ltb start (length s)) (token_at_lem s start) refl
    where
      start : ℕ
      start = gap_end_lem s x.at

      token_makes : (code end : ℕ) → token_at_lem s start ≡ Some (raw_token code end) → (v : Literal) → value_of code (part s start end) x.used ≡ Some v
          → (r : Scan) → Makes s end (x.top / step) (x.used + length (text_of code (part s start end))) r
          → Makes s x.at (x.top / step) x.used (prepend (token code start end v ∷ []) (text_of code (part s start end)) r)
      token_makes code end e v f (scanned ts bs) t =
          let w = token_within s start code end e in
          raw (gap_from s x.at) (gap_from s x.at) e f (earlier (omega arith) (le_refl end) t)
      token_makes code end e v f (refused number place) t = tt

      by_value : (code end : ℕ) → token_at_lem s start ≡ Some (raw_token code end) → (v : Option Literal) → value_of code (part s start end) x.used ≡ v
          → Makes s x.at (x.top / step) x.used (value_then rest x code start end (text_of code (part s start end)) v)
      by_value code end e (Some v) f =
          let y = lexer end (eqb code Code.Newline || x.flag) x.top (x.count + 1) (x.used + length (text_of code (part s start end))) in
          token_makes code end e v f (rest y) (makes y ((token_within s start code end e).1, reached.1))
      by_value code end e None f = tt

      by_token : (t : Bool) (k : Option RawToken) → token_at_lem s start ≡ k → Makes s x.at (x.top / step) x.used (cond t (found_then s rest x start k) (closed (length s) x))
      by_token false k e =
          let n = length s in
          dedents (x.top / step) x.at x.at (x.top / step) reached.0 reached.0 (le_refl n) (le_refl n) (omega arith) (eof (le_refl n) (le_refl n))
      by_token true None e = tt
      by_token true (Some t) e = by_value t.code t.end e (value_of t.code (part s start t.end) x.used) refl

-- ---- the scan

makes_from : (fuel : ℕ) (s : List ℕ) → MakesAll s (scan_from fuel s)
unfolding scan_from
makes_from zero s x r = tt
makes_from (suc fuel) s x r =
    indent-then s x r (token_then s (scan_from fuel s)) (λ y p. token-then s y p (scan_from fuel s) (makes_from fuel s))

-- the tokens of a source
pub promise : (s : List ℕ) (ts : List Token) (bs : List ℕ) → token_list s ≡ scanned ts bs → Tokens s 0 0 0 0 ts bs
unfolding token_list
promise s ts bs e = subst (Makes s 0 0 0) e (makes_from (suc (length s)) s (lexer 0 true 0 0 0) (omega arith, refl))
