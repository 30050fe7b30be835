-- The token list by the indentation stack is the token list (`by_stack`): along the scan the open Indents of the tokens so far have the columns
-- 2, 4, .. up to the top, so a count below the top is among them exactly where it is a multiple of the step.
-- Assumes nothing.
use mathlib.Core.Path.{◌≡◌, refl, sym, ap, ◌∙◌}
use mathlib.Core.Bool.{Bool, true, false, cond, ◌||◌}
use mathlib.Core.List.{List, [], ◌∷◌, ◌++◌, append_assoc, append-nil}
use Prim.Native.Nat.{ℕ, zero, suc, ◌+◌, ◌-◌, ◌*◌, ◌/◌, ◌%◌, ◌<◌, ◌≤◌}
use native.Mathlib.Decide.{ℕ_discrete, dec_lt, dec_le}
use native.Mathlib.Omega.{arith}
use lib.Dec.{eqb, ltb}
use lib.ListN.{length, get_or, replicate, length-append}
use borrow.Author.Tests.{eq-eqb, ne_eqb, eqb-true, lt-ltb, le-ltb, ltb-false}
use Rattle.std.specs.Prelude.{Option, Some, None, Result, Ok, Err}
use Rattle.source.specs.Bytes.{part}
use Rattle.token.specs.Code as Code
use Rattle.tokens.specs.Token.{Token, token}
use Rattle.literal.specs.declared.Literal.{Literal}
use Rattle.raw_token.specs.Table.{raw_token, token_at_lem}
use Rattle.raw_token.specs.declared.RawToken.{RawToken}
use Rattle.spacing.specs.Gap.{gap_end_lem}
use Rattle.spacing.specs.Indentation.{step, is_level, is_blank_line, level_of, spaces_end_lem, indentation_at}
use Rattle.lexer.specs.Value.{value_of, text_of}
use Rattle.lexer.specs.Scan.{Scan, scanned, refused, prepend, mark, lexer, Rest, marks_then, indent_then, closed, value_then, found_then, token_then, scan_from, token_list}
use Rattle.lexer.specs.declared.Lexer.{Lexer}
use Rattle.spacing.specs.declared.line.Indentation.{Indentation}
use Rattle.spacing.specs.declared.line.Indentation.TheVariants.{Blank, Level}
use Rattle.lexer.proofs.Laws.{raw_code}
use Rattle.lexical.specs.Stack.{pushed, opened, levels, among, above, level_among, indentation_among}
use Rattle.lexical.specs.ByStack.{State, state, Onward, marks_on, indent_on, closed_on, value_on, found_on, token_on, on_from, token_list_by_stack}
use Rattle.source.specs.Reasons.{refusal_at}
use Rattle.source.specs.declared.refusal.Refusal.{Refusal}

-- ---- the stack with d open levels

abbrev ladder : ℕ → List ℕ
ladder zero = 0 ∷ []
ladder (suc d) = step * suc d ∷ ladder d

ladder_top : (d : ℕ) → get_or (ladder d) 0 0 ≡ step * d
ladder_top zero = refl
ladder_top (suc d) = refl

among_beyond : (k d : ℕ) → step * d < k → among k (ladder d) ≡ false
among_beyond k zero h = rw (ne_eqb k 0 (omega arith))
among_beyond k (suc d) h = rw (ne_eqb k (step * suc d) (omega arith)) (among_beyond k d (omega arith))

-- a level is a multiple of the step up to the top
among_ladder : (k d : ℕ) → k ≤ step * d → among k (ladder d) ≡ is_level k
among_ladder k zero h =
    let e : k ≡ 0 = omega arith in
    rw e
among_ladder k (suc d) h = by_top (ℕ_discrete k (step * suc d)) (dec_le k (step * d)) (among_ladder k d)
  where
    by_top : Dec (k ≡ step * suc d) → Dec (k ≤ step * d) → (k ≤ step * d → among k (ladder d) ≡ is_level k) → among k (ladder (suc d)) ≡ is_level k
    by_top (yes e) m below = rw (eq-eqb k (step * suc d) e, eq-eqb (k % step) 0 (omega arith))
    by_top (no o) (yes m) below = rw (ne_eqb k (step * suc d) o) (below m)
    by_top (no o) (no m) below = rw (ne_eqb k (step * suc d) o, among_beyond k d (omega arith), ne_eqb (k % step) 0 (omega arith))

above_beyond : (k d : ℕ) → step * d ≤ k → above k (ladder d) ≡ 0
above_beyond k zero h = rw (le-ltb k 0 (omega arith))
above_beyond k (suc d) h = rw (le-ltb k (step * suc d) h) (above_beyond k d (omega arith))

-- so many are deeper than the level k
above_ladder : (k d : ℕ) → k ≤ step * d → k % step ≡ 0 → above k (ladder d) ≡ (step * d - k) / step
above_ladder k zero h e = above_beyond k zero (omega arith) ∙ omega arith
above_ladder k (suc d) h e = by_top (dec_lt k (step * suc d)) (λ m. above_ladder k d m e)
  where
    by_top : Dec (k < step * suc d) → (k ≤ step * d → above k (ladder d) ≡ (step * d - k) / step) → above k (ladder (suc d)) ≡ (step * suc d - k) / step
    by_top (yes m) below = rw (lt-ltb k (step * suc d) m) (omega (arith, below (omega arith)))
    by_top (no m) below = above_beyond k (suc d) (omega arith) ∙ omega arith

-- ---- what a line's spaces say

level_is : (at end d : ℕ) → level_among at end (ladder d) ≡ level_of at end (step * d)
unfolding level_among level_of
level_is at end d = rw (ladder_top d) (by_top (eqb k (step * d)) (eqb-true k (step * d)) (ltb (step * d) k) (ltb-false (step * d) k))
  where
    k : ℕ
    k = end - at

    at_level : k ≤ step * d → (t : Bool) → (t ≡ true → k % step ≡ 0)
        → cond t (Ok (Level end Code.Dedent (above k (ladder d)) k)) (Err (refusal_at 8 at)) ≡ cond t (Ok (Level end Code.Dedent ((step * d - k) / step) k)) (Err (refusal_at 8 at))
    at_level h true f = rw (above_ladder k d h (f refl))
    at_level h false f = refl

    back : k ≤ step * d
        → cond (among k (ladder d)) (Ok (Level end Code.Dedent (above k (ladder d)) k)) (Err (refusal_at 8 at)) ≡ cond (is_level k) (Ok (Level end Code.Dedent ((step * d - k) / step) k)) (Err (refusal_at 8 at))
    back h = rw (among_ladder k d h) (at_level h (is_level k) (eqb-true (k % step) 0))

    by_top : (t : Bool) → (t ≡ true → k ≡ step * d) → (u : Bool) → (u ≡ false → k ≤ step * d)
        → cond t (Ok (Level end Code.Dedent 0 k)) (cond u (cond (eqb k (step * d + step)) (Ok (Level end Code.Indent 1 k)) (Err (refusal_at 7 at))) (cond (among k (ladder d)) (Ok (Level end Code.Dedent (above k (ladder d)) k)) (Err (refusal_at 8 at))))
        ≡ cond t (Ok (Level end Code.Dedent 0 (step * d))) (cond u (cond (eqb k (step * d + step)) (Ok (Level end Code.Indent 1 k)) (Err (refusal_at 7 at))) (cond (is_level k) (Ok (Level end Code.Dedent ((step * d - k) / step) k)) (Err (refusal_at 8 at))))
    by_top true f u g = ap (λ (n : ℕ). Ok (Level end Code.Dedent 0 n)) (f refl)
    by_top false f true g = refl
    by_top false f false g = back (g refl)

indentation_is : (s : List ℕ) (at d : ℕ) → indentation_among s at (ladder d) ≡ indentation_at s at (step * d)
unfolding indentation_among indentation_at
indentation_is s at d = rw (level_is at (spaces_end_lem s at) d)

-- ---- the levels that marks leave open

record Leads (at d end code n top : ℕ) : Type 0 where
  depth : ℕ
  top_is : top ≡ step * depth
  opens : opened (ladder d) (replicate n (mark code at end)) ≡ ladder depth

abbrev Leading : ℕ → ℕ → Result Indentation Refusal → Type 0
Leading at d (Ok (Blank end)) = Unit {0}
Leading at d (Ok (Level end code n top)) = Leads at d end code n top
Leading at d (Err r) = Unit {0}

-- several Dedents close as many levels
pops : (n d all at end : ℕ) → all ≡ n + d → opened (ladder all) (replicate n (mark Code.Dedent at end)) ≡ ladder d
pops zero d all at end e =
    let f : all ≡ d = omega arith in
    ap ladder f
pops (suc n) d all at end e =
    let f : all ≡ suc (n + d) = omega arith in
    rw f (pops n d (n + d) at end refl)

level_leads : (at end d : ℕ) → Leading at d (level_of at end (step * d))
unfolding level_of
level_leads at end d =
    go (eqb k top) (ltb top k) (ltb-false top k) (eqb k (top + step)) (eqb-true k (top + step)) (is_level k) (eqb-true (k % step) 0)
  where
    k : ℕ
    k = end - at

    top : ℕ
    top = step * d

    go : (t u : Bool) → (u ≡ false → k ≤ top) → (v : Bool) → (v ≡ true → k ≡ top + step) → (w : Bool) → (w ≡ true → k % step ≡ 0)
        → Leading at d (cond t (Ok (Level end Code.Dedent 0 top)) (cond u (cond v (Ok (Level end Code.Indent 1 k)) (Err (refusal_at 7 at))) (cond w (Ok (Level end Code.Dedent ((top - k) / step) k)) (Err (refusal_at 8 at)))))
    go true u f v g w h = record { depth = d; top_is = refl; opens = refl }
    go false true f true g w h =
        let e : k ≡ step * suc d = omega (arith, g refl) in
        record { depth = suc d; top_is = e; opens = ap (λ (j : ℕ). j ∷ ladder d) e }
    go false true f false g w h = tt
    go false false f v g true h =
        let l = f refl in let m = h refl in
        record { depth = k / step; top_is = omega arith; opens = pops ((top - k) / step) (k / step) d at end (omega arith) }
    go false false f v g false h = tt

indentation_leads : (s : List ℕ) (at d : ℕ) → Leading at d (indentation_at s at (step * d))
unfolding indentation_at
indentation_leads s at d = go (eqb b 9) (is_blank_line b)
  where
    b : ℕ
    b = get_or s (spaces_end_lem s at) 0

    go : (t u : Bool) → Leading at d (cond t (Err (refusal_at 6 (spaces_end_lem s at))) (cond u (Ok (Blank (spaces_end_lem s at))) (level_of at (spaces_end_lem s at) (step * d))))
    go true u = tt
    go false true = tt
    go false false = level_leads at (spaces_end_lem s at) d

-- ---- along the scan

opened_append : (ks : List ℕ) (ts us : List Token) → opened ks (ts ++ us) ≡ opened (opened ks ts) us
opened_append ks [] us = refl
opened_append ks (t ∷ ts) us = opened_append (pushed ks t) ts us

prepend_twice : (ts us : List Token) (bs cs all : List ℕ) (r : Scan) → all ≡ bs ++ cs → prepend (ts ++ us) all r ≡ prepend ts bs (prepend us cs r)
prepend_twice ts us bs cs all (scanned vs ds) e = rw (e, append_assoc ts us vs, append_assoc bs cs ds)
prepend_twice ts us bs cs all (refused number place) e = refl

-- what follows is the same at each state whose tokens have d levels open; how many tokens the scan counts is not asked
abbrev Alike : Rest → Onward → Type 0
Alike rest on = (y : State) (d count : ℕ) → levels y.tokens ≡ ladder d
    → on y ≡ prepend y.tokens y.text (rest (lexer y.at y.flag (step * d) count (length y.text)))

module _ (s : List ℕ) (rest : Rest) (on : Onward) (alike : Alike rest on) (y : State) (d count : ℕ) (e : levels y.tokens ≡ ladder d) where
  indent_alike : indent_on s on y ≡ prepend y.tokens y.text (indent_then s rest (lexer y.at y.flag (step * d) count (length y.text)))
  unfolding indent_on indent_then
  indent_alike = rw (e, indentation_is s y.at d) (by_flag y.flag (indentation_at s y.at (step * d)) (indentation_leads s y.at d))
    where
      x : Lexer
      x = lexer y.at y.flag (step * d) count (length y.text)

      by_flag : (t : Bool) (i : Result Indentation Refusal) → Leading y.at d i
          → cond t (marks_on on y i) (on y) ≡ prepend y.tokens y.text (cond t (marks_then rest x i) (rest x))
      by_flag false i l = alike y d count e
      by_flag true (Ok (Blank end)) l = alike (state end true y.tokens y.text) d count e
      by_flag true (Ok (Level end code n top)) l =
          let us = replicate n (mark code y.at end) in
          rw l.top_is
          (alike (state end false (y.tokens ++ us) y.text) l.depth (count + n) (opened_append (0 ∷ []) y.tokens us ∙ ap (λ (ks : List ℕ). opened ks us) e ∙ l.opens)
          ∙ prepend_twice y.tokens us y.text [] y.text (rest (lexer end false (step * l.depth) (count + n) (length y.text))) (sym (append-nil y.text)))
      by_flag true (Err r) l = refl

  token_alike : token_on s on y ≡ prepend y.tokens y.text (token_then s rest (lexer y.at y.flag (step * d) count (length y.text)))
  unfolding token_on token_then closed_on closed
  token_alike = by_token (ltb start (length s)) (token_at_lem s start) refl
    where
      start : ℕ
      start = gap_end_lem s y.at

      x : Lexer
      x = lexer y.at y.flag (step * d) count (length y.text)

      -- a raw token opens and closes nothing
      stays : (code end : ℕ) (v : Literal) → token_at_lem s start ≡ Some (raw_token code end) → levels (y.tokens ++ token code start end v ∷ []) ≡ ladder d
      stays code end v f =
          let c = raw_code s start code end f in
          opened_append (0 ∷ []) y.tokens (token code start end v ∷ []) ∙ rw (ne_eqb code Code.Indent c.2, ne_eqb code Code.Dedent c.3) e

      by_value : (code end : ℕ) (bs : List ℕ) → token_at_lem s start ≡ Some (raw_token code end) → (v : Option Literal)
          → value_on on y code start end bs v ≡ prepend y.tokens y.text (value_then rest x code start end bs v)
      by_value code end bs f (Some v) =
          let flag = eqb code Code.Newline || y.flag in
          rw (← length-append y.text bs)
          (alike (state end flag (y.tokens ++ token code start end v ∷ []) (y.text ++ bs)) d (count + 1) (stays code end v f)
          ∙ prepend_twice y.tokens (token code start end v ∷ []) y.text bs (y.text ++ bs) (rest (lexer end flag (step * d) (count + 1) (length (y.text ++ bs)))) refl)
      by_value code end bs f None = refl

      by_token : (t : Bool) (k : Option RawToken) → token_at_lem s start ≡ k
          → cond t (found_on s on y start k) (closed_on (length s) y)
          ≡ prepend y.tokens y.text (cond t (found_then s rest x start k) (closed (length s) x))
      by_token false k f =
          let c : above 0 (ladder d) ≡ step * d / step = omega (arith, above_ladder 0 d (omega arith) (omega arith)) in
          rw (e, c, append-nil y.text)
      by_token true None f = refl
      by_token true (Some t) f = by_value t.code t.end (text_of t.code (part s start t.end)) f (value_of t.code (part s start t.end) (length y.text))

on_alike : (fuel : ℕ) (s : List ℕ) → Alike (scan_from fuel s) (on_from fuel s)
unfolding scan_from on_from
on_alike zero s y d count e = refl
on_alike (suc fuel) s y d count e =
    indent_alike s (token_then s (scan_from fuel s)) (token_on s (on_from fuel s)) (token_alike s (scan_from fuel s) (on_from fuel s) (on_alike fuel s)) y d count e

prepend_nothing : (r : Scan) → prepend [] [] r ≡ r
prepend_nothing (scanned ts bs) = refl
prepend_nothing (refused number place) = refl

-- "the count must be a level", and a level is one that was opened: what 8 asks for is the column of an open Indent of the token list so far, or 0
pub by_stack : (s : List ℕ) → token_list_by_stack s ≡ token_list s
unfolding token_list_by_stack token_list
by_stack s = on_alike (suc (length s)) s (state 0 true [] []) 0 0 refl ∙ prepend_nothing (scan_from (suc (length s)) s (lexer 0 true 0 0 0))
