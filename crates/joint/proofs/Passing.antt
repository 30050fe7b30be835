-- Runs of tokens, passed one by one: the signs of U, and Newlines.
-- Assumes nothing.
use mathlib.Core.Path.{◌≡◌, refl, ap, ◌∙◌}
use mathlib.Core.List.{List, [], ◌∷◌}
use Prim.Native.Nat.{ℕ, zero, suc, ◌+◌, ◌-◌, ◌≤◌}
use native.Mathlib.Omega.{arith}
use lib.Dec.{T}
use Rattle.grammar.specs.Grammar.{Part, act, tok, many, ◌⨾◌}
use Rattle.grammar.specs.Descent.{null, begins}
use Rattle.grammar.specs.Check.{low, takes}
use Rattle.grammar.specs.Sets.{mem}
use mathlib.Core.Bool.{false}
use Rattle.token.specs.Code.{Newline, String, Eof}
use Rattle.pyhyeon.specs.Machine.{Value, signs, number, count}
use Rattle.pyhyeon.specs.Action.{Action, signs_more, perform}
use Rattle.pyhyeon.specs.Rules.{Rule, newlines, sign_set}
use Rattle.pyhyeon.specs.Tables.{pyhyeon}
use Rattle.leaves.specs.declared.State.{State}
use Rattle.lookahead.specs.Tokens.{eof_at, text_before, Tokens}
use Rattle.leaves.specs.Contract.{Parsed, Shape, Comes}
use Rattle.lookahead.specs.Run.{Run}
use Rattle.leaves.proofs.Frames.{frame_none}
use Rattle.lookahead.proofs.Tokens.{took}
use Rattle.joint.proofs.Chain.{tok_then, act_then, many_on, many_end}

abbrev sign : Part Action Rule
sign = tok sign_set ⨾ act signs_more

newline_low : T (low pyhyeon 100 100 newlines)
unfolding low takes
newline_low = tt

sign_low : T (low pyhyeon 100 100 (many sign))
unfolding low takes
sign_low = tt

-- the state at the token t
abbrev pub moved : State → ℕ → State
moved s t = record { at = record { 0 = t }; nodes = s.nodes; opened = s.opened; used = s.used }

module _ {src toks : List ℕ} {room : ℕ} {out : Shape} {vs ws : List Value} {tr : List ℕ} {q : Part Action Rule} {a : Parsed} {t : List ℕ} {first end : ℕ} (s : State) (g : Run src toks sign_set first end) where
  passing : (n k : ℕ) → k + n ≡ end → first ≤ k → Comes src toks room q out vs (signs first (end - first) ∷ ws) (moved s end) tr a t → Comes src toks room (many sign ⨾ q) out vs (signs first (k - first) ∷ ws) (moved s k) tr a t
  unfolding begins null perform number count
  passing zero k e l c =
      let d : k ≡ end = omega arith in
      rw d (many_end sign_low g.inside g.stop c)
  passing (suc n) k e l c =
      let i = g.inside in
      let h : k ≤ eof_at toks = omega arith in
      let m = g.each k l (omega arith) in
      let z : k - first + 1 ≡ k + 1 - first = omega arith in
      many_on sign_low h m (tok_then h m (act_then {s' = moved s (k + 1)} (rw z) refl refl frame_none (passing n (k + 1) (omega arith) (omega arith) c)))

-- all signs from the state's token on
module _ {src toks : List ℕ} {room : ℕ} {out : Shape} {vs ws : List Value} {s : State} {tr : List ℕ} {q : Part Action Rule} {a : Parsed} {t : List ℕ} {end : ℕ} where
  pub signs_pass : Run src toks sign_set s.at.0 end → Comes src toks room q out vs (signs s.at.0 (end - s.at.0) ∷ ws) (moved s end) tr a t → Comes src toks room (many sign ⨾ q) out vs (signs s.at.0 0 ∷ ws) s tr a t
  signs_pass g c =
      let o = g.order in
      let z : s.at.0 - s.at.0 ≡ 0 = omega arith in
      rw z at (passing s g (end - s.at.0) s.at.0 (omega arith) (omega arith) c)

-- Newlines, passed one by one
module _ {src toks : List ℕ} {room : ℕ} {out : Shape} {vs ws : List Value} {tr : List ℕ} {q : Part Action Rule} {a : Parsed} {t : List ℕ} {first end : ℕ} (s : State) (g : Run src toks (Newline ∷ []) first end) where
  skipping : (n k : ℕ) → k + n ≡ end → first ≤ k → Comes src toks room q out vs ws (moved s end) tr a t → Comes src toks room (newlines ⨾ q) out vs ws (moved s k) tr a t
  unfolding begins null
  skipping zero k e l c =
      let d : k ≡ end = omega arith in
      rw d (many_end newline_low g.inside g.stop c)
  skipping (suc n) k e l c =
      let i = g.inside in
      let h : k ≤ eof_at toks = omega arith in
      let m = g.each k l (omega arith) in
      many_on newline_low h m (tok_then h m (skipping n (k + 1) (omega arith) (omega arith) c))

module _ {src toks : List ℕ} {room : ℕ} {out : Shape} {vs ws : List Value} {s : State} {tr : List ℕ} {q : Part Action Rule} {a : Parsed} {t : List ℕ} {end : ℕ} where
  pub newlines_pass : Run src toks (Newline ∷ []) s.at.0 end → Comes src toks room q out vs ws (moved s end) tr a t → Comes src toks room (newlines ⨾ q) out vs ws s tr a t
  newlines_pass g c = let o = g.order in skipping s g (end - s.at.0) s.at.0 (omega arith) (omega arith) c

-- a run of tokens that are no Strings adds no text
pub run_text : {src toks : List ℕ} {first end : ℕ} (set : List ℕ) → mem Eof set ≡ false → mem String set ≡ false → Tokens src toks → Run src toks set first end → text_before src toks end ≡ text_before src toks first
run_text {src} {toks} {first} {end} set x y w g = go (end - first) first (let o = g.order in omega arith) (omega arith)
  where
    go : (n k : ℕ) → k + n ≡ end → first ≤ k → text_before src toks end ≡ text_before src toks k
    go zero k e l = let d : end ≡ k = omega arith in ap (text_before src toks) d
    go (suc n) k e l =
        let i = g.inside in
        go n (k + 1) (omega arith) (omega arith) ∙ (took set x y w (omega arith) (g.each k l (omega arith))).text
