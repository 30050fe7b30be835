-- 14, 15 and 16 stand at the earliest token that does not fit, never too early, never too late; and each says what that token tells.
-- Assumes nothing.
use mathlib.Core.Path.{◌≡◌, refl, ap, sym, subst, ◌∙◌}
use mathlib.Core.List.{List, ◌∷◌, ◌++◌, map, map-append, append_cancel_left}
use Prim.Native.Nat.{ℕ, suc, ◌+◌, ◌<◌}
use native.Mathlib.Omega.{arith}
use lib.ListN.{length, take, drop, take-append-drop, length-append}
use lib.Seq.{drop-cons, length-take-le}
use Rattle.grammar.specs.Trial.{St}
use Rattle.grammar.specs.Descent.{Answer, done, no, deep, stuck, descend}
use Rattle.grammar.specs.Limits.{before}
use Rattle.grammar.specs.Misfit as fit
use Rattle.grammar.proofs.Ends.{at_no}
use Rattle.grammar.proofs.Along.{Keeps, singly, descend_along}
use Rattle.grammar.proofs.Limits as all
use Rattle.grammar.proofs.Late.{one_misfit, at_misfit, at_refusal}
use Rattle.token.specs.Code.{Eof}
use Rattle.tokens.specs.Token.{Token}
use Rattle.pyhyeon.specs.Symbol.{symbol, symbols}
use Rattle.pyhyeon.specs.Machine.{blank}
use Rattle.pyhyeon.specs.Action.{token_at_lem, machine}
use Rattle.pyhyeon.specs.Rules.{Program}
use Rattle.pyhyeon.specs.Tables.{follow, depth, pyhyeon}
use Rattle.pyhyeon.specs.Prices.{prices}
use Rattle.pyhyeon.specs.Missing.{Fault, fault_number, fault_of}
use Rattle.pyhyeon.specs.Reading.{Work, Misfit, start, code, here, descended, descent}
use Rattle.pyhyeon.specs.Earliest.{Accepts, is_token, Numbered, at_end, lacking, other, Earliest}
use Rattle.pyhyeon.proofs.Language.{language}
use Rattle.pyhyeon.proofs.Agreement.{map_length, descent_answers}
use Rattle.pyhyeon.proofs.Meter.{act_at, counted, meter}
use Rattle.pyhyeon.proofs.Limits.{frugal}
use Rattle.pyhyeon.proofs.Late.{height, is_code, finishes, of_misfit}
use Rattle.pyhyeon.proofs.Missing.{numbered}

module _ (source : List ℕ) (toks : List Token) where
  -- the number of the next token and the number of tokens that are left keep their sum
  record Level (s s' : St (machine source toks)) : Type 0 where
    sum : s'.kept.at + length s'.rest ≡ s.kept.at + length s.rest

  level : Keeps (machine source toks) singly Level
  level = record {
    same = λ s. record { sum = refl };
    on = λ f g. record { sum = g.sum ∙ f.sum };
    shifted = λ t _ l k. record { sum = omega arith };
    acted = λ a _ s. record { sum = omega (arith, act_at source toks a s.kept) };
    both = λ a none. absurd none;
  }

  -- the descent is refused at s
  module _ {asked : List ℕ} (m : ℕ) (s : St (machine source toks)) (e : descend pyhyeon depth Program 0 (start source toks) ≡ no asked m s) where
    -- as many are left as stand from its number on
    counts : s.kept.at + length s.rest ≡ length toks
    unfolding start symbols
    counts = let h = at_no (descend_along level pyhyeon depth Program 0 (start source toks)) e in h.sum ∙ omega (arith, map_length (symbol source) toks)

    -- no rule takes Eof: where it is among the tokens, one is left
    left : before Eof (symbols source toks) < length toks → 0 < length s.rest
    unfolding start meter counted
    left lt = let h = at_no (all.whole pyhyeon prices frugal (meter source toks) depth Program (start source toks) refl refl) e in omega (arith, counts, h.sum)

    -- the next token is t, between w and v: it is the first that does not fit, and its number is that of the refusal
    module _ (w v : List Token) (t : Token) (e₁ : w ++ (t ∷ v) ≡ toks) (n : length s.rest ≡ suc (length v)) where
      apart : map (symbol source) toks ≡ map (symbol source) w ++ (symbol source t ∷ map (symbol source) v)
      apart = ap (map (symbol source)) (sym e₁) ∙ map-append (symbol source) w (t ∷ v)

      as_many : length s.rest ≡ suc (length (map (symbol source) v))
      as_many = n ∙ ap suc (sym (map_length (symbol source) v))

      misfit : fit.Misfit is_token (Accepts source) w t
      unfolding start symbols follow
      misfit = of_misfit source toks w t
          (at_misfit language is_code height finishes tt {M = machine source toks} depth 0 m (map (symbol source) w) (symbol source t) (map (symbol source) v) blank s (rw apart at e) as_many)

      number : Numbered source w t (fault_number (fault_of t.code asked))
      unfolding start symbols follow
      number = numbered source w t
          (at_refusal language is_code height finishes tt {M = machine source toks} depth 0 m (map (symbol source) w) (symbol source t) (map (symbol source) v) blank s (rw apart at e) as_many)

    refusal : before Eof (symbols source toks) < length toks → Earliest source toks (fault_number (fault_of (code source toks s.kept) asked)) (here source toks s.kept)
    refusal lt =
        let i : ℕ = s.kept.at in
        let t : Token = token_at_lem source toks i in
        let w : List Token = take i toks in
        let v : List Token = drop (suc i) toks in
        let below : i < length toks = omega (arith, counts, left lt) in
        let e₁ : w ++ (t ∷ v) ≡ toks = ap (λ (z : List Token). w ++ z) (sym (drop-cons toks i _ below)) ∙ take-append-drop i toks in
        let size : i + suc (length v) ≡ length toks = omega (arith, length-take-le i toks (omega arith), length-append w (t ∷ v), ap length e₁) in
        record { before = w; token = t; after = v; split = sym e₁; misfit = misfit w v t e₁ (omega (arith, counts)); numbered = number w v t e₁ (omega (arith, counts)); stands = refl }

  -- 14, 15 and 16 are given at the start of the earliest token that does not fit (where Eof is among the tokens, so that there is one), by what it tells
  pub earliest : (f : Fault) (place : ℕ) (w : Work) → before Eof (symbols source toks) < length toks → descent source toks ≡ Misfit f place w → Earliest source toks (fault_number f) place
  unfolding descent
  earliest f place w lt e = from (descend pyhyeon depth Program 0 (start source toks)) refl e
    where
      from : (x : Answer (machine source toks)) → descend pyhyeon depth Program 0 (start source toks) ≡ x → descended source toks x ≡ Misfit f place w → Earliest source toks (fault_number f) place
      from (done n s) d e₁ = absurd (let z : ◌≡◌ {A = ℕ} 0 1 = cc in omega arith)
      from (no asked n s) d e₁ =
          let y : fault_of (code source toks s.kept) asked ≡ f = cc in
          let z : here source toks s.kept ≡ place = cc in
          rw (y, z) at (refusal n s d lt)
      from (deep n s) d e₁ = absurd (let z : ◌≡◌ {A = ℕ} 0 1 = cc in omega arith)
      from stuck d e₁ = absurd (descent_answers source toks depth Program 0 (start source toks) d)

  -- each of the three numbers excludes the others
  one_number : {w : List Token} {t : Token} {i j : ℕ} → Numbered source w t i → Numbered source w t j → i ≡ j
  one_number (at_end e) (at_end e₁) = refl
  one_number (at_end e) (lacking m o) = absurd (rw e at m)
  one_number (at_end e) (other f g) = absurd (f e)
  one_number (lacking m o) (at_end e) = absurd (rw e at m)
  one_number (lacking m o) (lacking m₁ o₁) = refl
  one_number (lacking m o) (other f g) = absurd (g m o)
  one_number (other f g) (at_end e) = absurd (f e)
  one_number (other f g) (lacking m o) = absurd (g m o)
  one_number (other f g) (other f₁ g₁) = refl

  -- and at no other place, and with no other number
  pub one_place : (i j p q : ℕ) → Earliest source toks i p → Earliest source toks j q → (i ≡ j) × (p ≡ q)
  one_place i j p q f g =
      let e : f.before ++ (f.token ∷ f.after) ≡ g.before ++ (g.token ∷ g.after) = sym f.split ∙ g.split in
      let b : f.before ≡ g.before = one_misfit (Accepts source) f.before g.before f.token g.token f.after g.after f.misfit g.misfit e in
      let h : f.token ∷ f.after ≡ g.token ∷ g.after = append_cancel_left g.before (f.token ∷ f.after) (g.token ∷ g.after) (subst (λ (z : List Token). z ++ (f.token ∷ f.after) ≡ g.before ++ (g.token ∷ g.after)) b e) in
      let t : f.token ≡ g.token = cc in
      (one_number (rw (b, t) at f.numbered) g.numbered, f.stands ∙ ap (λ (z : Token). z.start) t ∙ sym g.stands)
