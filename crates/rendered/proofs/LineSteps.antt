-- The scanner's steps at the start of a line: over the spaces that count, with their marks, and the end.
-- Assumes nothing.
use mathlib.Core.Path.{◌≡◌, refl, sym, ap, ◌∙◌}
use mathlib.Core.Bool.{Bool, true, false, cond}
use mathlib.Core.List.{List, [], ◌∷◌, ◌++◌}
use Prim.Native.Nat.{ℕ, zero, suc, ◌+◌, ◌-◌, ◌*◌, ◌/◌, ◌<◌, ◌≤◌, zero-le}
use native.Mathlib.Decide.{ℕ_discrete, dec_lt}
use native.Mathlib.Omega.{arith}
use lib.Dec.{ltb}
use lib.ListN.{length, get_or, drop, replicate, length-append, length-replicate, get_or-eq_default}
use borrow.Author.Tests.{ne_eqb, lt-ltb, le-ltb}
use Rattle.std.specs.Prelude.{Result, Ok}
use Rattle.source.specs.Bytes.{run}
use Rattle.source.proofs.Lists.{past, length_at, byte_at, drop_more}
use Rattle.source.proofs.Ranges.{NotIn}
use Rattle.token.specs.Code as Code
use Rattle.tokens.specs.Token.{Token}
use Rattle.spacing.specs.Gap.{gap, gap_end_lem}
use Rattle.spacing.specs.Indentation.{step, is_space, level_of, spaces_end_lem}
use Rattle.spacing.specs.declared.line.Indentation.{Indentation}
use Rattle.spacing.specs.declared.line.Indentation.TheVariants.{Level}
use Rattle.spacing.proofs.Levels.{level_same, level_deeper, level_back, measure_level}
use Rattle.lexer.specs.Scan.{scanned, mark, lexer, marks_then, indent_then, closed, token_then}
use Rattle.lexer.proofs.Enough.{from, from_is}
use Rattle.lexer.proofs.Finding.{next_closed}
use Rattle.rendered.proofs.Inked.{Inked}
use Rattle.rendered.proofs.Steps.{plain_from}
use Rattle.source.specs.declared.refusal.Refusal.{Refusal}

-- the marks of a line at this level behind one at the level `top`, and how many they are
abbrev pub level_marks : ℕ → ℕ → ℕ → List Token
level_marks top level at =
    let end = at + step * level in
    cond (ltb top level) (mark Code.Indent at end ∷ []) (replicate (top - level) (mark Code.Dedent at end))

abbrev pub mark_count : ℕ → ℕ → ℕ
mark_count top level = cond (ltb top level) 1 (top - level)

-- ---- the spaces of a line

run_spaces : (n b : ℕ) (l : List ℕ) → (b ≡ 32 → ⊥) → run is_space (replicate n 32 ++ (b ∷ l)) ≡ n
run_spaces zero b l h = rw (ne_eqb b 32 h)
run_spaces (suc n) b l h = ap suc (run_spaces n b l h)

no_spaces : (l : List ℕ) → l ≡ [] → run is_space l ≡ 0
no_spaces l e = ap (run is_space) e

-- the levels as marks
module _ (at top level : ℕ) (rises : level ≤ suc top) where
  at_level : (end : ℕ) → end ≡ at + step * level → Result Indentation Refusal
  at_level end e = cond (ltb top level) (Ok (Level end Code.Indent 1 (step * level))) (Ok (Level end Code.Dedent (top - level) (step * level)))

  level_is : (end : ℕ) (e : end ≡ at + step * level) → at_level end e ≡ level_of at end (step * top)
  unfolding at_level
  level_is end e = go (dec_lt top level) (ℕ_discrete level top)
    where
      k : end - at ≡ step * level
      k = omega arith

      go : Dec (top < level) → Dec (level ≡ top) → at_level end e ≡ level_of at end (step * top)
      go (yes h) q = rw (lt-ltb top level h, ← k) (level_deeper at end (step * top) (omega arith) (omega arith) (omega arith))
      go (no h) (yes q) =
          let z : top - level ≡ 0 = omega arith in
          let y : step * level ≡ step * top = omega arith in
          rw (le-ltb top level (omega arith), z, y) (level_same at end (step * top) (omega arith))
      go (no h) (no q) =
          let z : top - level ≡ (step * top - (end - at)) / step = omega arith in
          rw (le-ltb top level (omega arith), z, ← k) (level_back at end (step * top) (omega arith) (omega arith) (omega arith))

-- the marks of a line's spaces, and then the rest: b is the byte behind the spaces
module _ (s : List ℕ) (at top level used b : ℕ) (within : at + step * level ≤ length s) (rises : level ≤ suc top) (isEnd : at + step * level ≡ spaces_end_lem s at) (is_b : b ≡ get_or s (at + step * level) 0) (other : NotIn (35 ∷ 13 ∷ 10 ∷ 9 ∷ []) b)
    (count : ℕ) (ts : List Token) (bs : List ℕ) (next : from s (lexer (at + step * level) false (step * level) (count + mark_count top level) used) ≡ scanned ts bs) where
  marks_scan : (t : Bool) → from s (lexer (at + step * level) false (step * level) (count + cond t 1 (top - level)) used) ≡ scanned ts bs
      → marks_then (token_then s (from s)) (lexer at true (step * top) count used) (cond t (Ok (Level (at + step * level) Code.Indent 1 (step * level))) (Ok (Level (at + step * level) Code.Dedent (top - level) (step * level))))
      ≡ scanned (cond t (mark Code.Indent at (at + step * level) ∷ []) (replicate (top - level) (mark Code.Dedent at (at + step * level))) ++ ts) bs
  marks_scan true k = rw (← plain_from s (at + step * level) level (count + 1) used within, k)
  marks_scan false k = rw (← plain_from s (at + step * level) level (count + (top - level)) used within, k)

  spaces_scan : from s (lexer at true (step * top) count used) ≡ scanned (level_marks top level at ++ ts) bs
  unfolding indent_then at_level
  spaces_scan =
      let i = measure_level s at (step * top) (at + step * level) isEnd b is_b other (at_level at top level rises (at + step * level) refl) (level_is at top level rises (at + step * level) refl) in
      from_is s (lexer at true (step * top) count used) (omega arith, omega arith)
      ∙ ap (marks_then (token_then s (from s)) (lexer at true (step * top) count used)) (sym i)
      ∙ marks_scan (ltb top level) next

-- a line with a token on it
pub record Starts (l : List ℕ) : Type 0 where
  pub byte : ℕ
  pub rest : List ℕ
  pub is : l ≡ byte ∷ rest
  pub inked : Inked byte

pub line_step : (s : List ℕ) (top level : ℕ) (r : List ℕ) (at count used : ℕ) (ts : List Token) (bs : List ℕ) → level ≤ suc top → Starts r
    → at ≤ length s → drop at s ≡ replicate (step * level) 32 ++ r
    → from s (lexer (at + step * level) false (step * level) (count + mark_count top level) used) ≡ scanned ts bs
    → from s (lexer at true (step * top) count used) ≡ scanned (level_marks top level at ++ ts) bs
line_step s top level r at count used ts bs rises i h e next =
    let n = step * level in
    let low = i.inked.low in
    let behind : drop (at + n) s ≡ r = rw length-replicate at (drop_more s at (replicate n 32) r e) in
    let within : at + n ≤ length s = omega (arith, length_at s at (replicate n 32 ++ r) e, length-append (replicate n 32) r, length-replicate {A = ℕ} n 32) in
    let m : run is_space (drop at s) ≡ n = ap (run is_space) (e ∙ ap (λ (l : List ℕ). replicate n 32 ++ l) i.is) ∙ run_spaces n i.byte i.rest (omega arith) in
    spaces_scan s at top level used i.byte within rises (omega arith) (sym (byte_at s (at + n) i.byte i.rest (behind ∙ i.is)))
    ((((tt, omega arith), omega arith), omega arith), i.inked.no_hash) count ts bs next

-- ---- the end

end_scan : (s : List ℕ) (at count used : ℕ) → at ≡ length s → from s (lexer at false (step * 0) count used) ≡ scanned (mark Code.Eof at at ∷ []) []
unfolding closed gap_end_lem
end_scan s at count used h =
    let g : at ≡ gap_end_lem s at = omega (arith, gap_at_end s at h) in
    plain_from s at 0 count used (omega arith) ∙ next_closed s (lexer at false (step * 0) count used) at g (omega arith) (from s) ∙ rw (← h)
  where
    gap_at_end : (s : List ℕ) (at : ℕ) → at ≡ length s → gap false (drop at s) ≡ 0
    gap_at_end s at h = ap (gap false) (past s at (omega arith))

pub end_step : (s : List ℕ) (top at count used : ℕ) → at ≤ length s → drop at s ≡ [] → from s (lexer at true (step * top) count used) ≡ scanned (replicate top (mark Code.Dedent at at) ++ mark Code.Eof at at ∷ []) []
end_step s top at count used h e =
    let n = length_at s at [] e in
    let z : at + step * 0 ≡ at = omega arith in
    let d : top - 0 ≡ top = omega arith in
    let b : get_or s (at + step * 0) 0 ≡ 0 = get_or-eq_default s 0 {n = at + step * 0} (omega arith) in
    spaces_scan s at top 0 used 0 (omega arith) (omega arith) (omega (arith, no_spaces (drop at s) e)) (sym b) ((((tt, omega arith), omega arith), omega arith), omega arith)
    count (mark Code.Eof (at + step * 0) (at + step * 0) ∷ []) [] (end_scan s (at + step * 0) (count + mark_count top 0) used (omega arith))
    ∙ rw (le-ltb top 0 zero-le, d, z)
