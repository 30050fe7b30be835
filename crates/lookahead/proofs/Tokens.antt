-- What the tokens of the words are, one by one.
-- Assumes nothing.
use mathlib.Core.Path.{◌≡◌, refl, ap, sym, ◌∙◌}
use mathlib.Core.Bool.{true, false}
use mathlib.Core.List.{List, [], ◌∷◌, map}
use Prim.Native.Nat.{ℕ, zero, suc, ◌+◌, ◌≤◌, ◌<◌}
use native.Mathlib.Omega.{arith}
use native.Mathlib.Numerals.{add-one}
use lib.ListN.{length, get_or, drop}
use lib.Seq.{drop-cons}
use borrow.Author.Tests.{eq-eqb, ne_eqb}
use Rattle.grammar.specs.Sets.{mem, sees}
use Rattle.grammar.specs.Limits.{before}
use Rattle.grammar.proofs.Tokens.{seen_within}
use Rattle.token.specs.Code.{String, Eof}
use Rattle.lexer.specs.Value.{text_of}
use Rattle.ast.specs.Words.{tabulate}
use Rattle.ast.proofs.Tabulate.{length_tabulate, get_d_tabulate}
use Rattle.pyhyeon.specs.Symbol.{symbol, symbols}
use Rattle.pyhyeon.specs.Action.{token_at_lem}
use Rattle.lookahead.specs.Tokens.{code_at, eof_at, text_before, token_of, tokens_of, symbol_at, Tokens}

map_tabulate : {A B : Type 0} (f : A → B) (g : ℕ → A) (i k : ℕ) → map f (tabulate g i k) ≡ tabulate (λ t. f (g t)) i k
map_tabulate f g i zero = refl
map_tabulate f g i (suc k) = ap (λ l. f (g i) ∷ l) (map_tabulate f g (i + 1) k)

module _ (src toks : List ℕ) where
  symbols_are : symbols src (tokens_of src toks) ≡ tabulate (symbol_at src toks) 0 (eof_at toks + 1)
  unfolding symbols tokens_of symbol_at
  symbols_are = map_tabulate (symbol src) (token_of src toks) 0 (eof_at toks + 1)

  pub symbols_length : length (symbols src (tokens_of src toks)) ≡ eof_at toks + 1
  symbols_length = rw symbols_are (length_tabulate (symbol_at src toks) 0 (eof_at toks + 1))

  pub symbols_at : (t : ℕ) → t ≤ eof_at toks → get_or (symbols src (tokens_of src toks)) t 0 ≡ symbol_at src toks t
  symbols_at t h =
      let e : 0 + t ≡ t = omega arith in
      rw symbols_are (get_d_tabulate (symbol_at src toks) 0 0 (eof_at toks + 1) t (omega arith)) ∙ ap (symbol_at src toks) e

  -- what the machine reads of a token
  pub token_is : (t : ℕ) → t ≤ eof_at toks → token_at_lem src (tokens_of src toks) t ≡ token_of src toks t
  unfolding tokens_of
  token_is t h =
      let e : 0 + t ≡ t = omega arith in
      get_d_tabulate (token_of src toks) _ 0 (eof_at toks + 1) t (omega arith) ∙ ap (token_of src toks) e

  -- what is seen at a token
  pub sees_at : (set : List ℕ) (t : ℕ) → t ≤ eof_at toks → sees set (drop t (symbols src (tokens_of src toks))) ≡ mem (symbol_at src toks t) set
  sees_at set t h = rw (drop-cons (symbols src (tokens_of src toks)) t 0 (omega (arith, symbols_length))) (ap (λ (c : ℕ). mem c set) (symbols_at t h))

  -- text is counted at a String alone
  pub quiet : (t : ℕ) → (code_at toks t ≡ String → ⊥) → text_before src toks (t + 1) ≡ text_before src toks t
  unfolding text_before text_of
  quiet t f = rw add-one (simp (ne_eqb (code_at toks t) String f) (omega arith))

-- a token of a set without Eof and String was seen: it is not the last one, and adds no text
pub record Took (src toks : List ℕ) (t : ℕ) : Type 0 where
  pub inside : t + 1 ≤ eof_at toks
  pub text : text_before src toks (t + 1) ≡ text_before src toks t

not_string : (src toks : List ℕ) (t : ℕ) (set : List ℕ) → mem String set ≡ false → mem (symbol_at src toks t) set ≡ true → code_at toks t ≡ String → ⊥
unfolding symbol_at
not_string src toks t set f e c =
    let s : symbol_at src toks t ≡ String = rw c refl in
    cc

module _ {src toks : List ℕ} {t : ℕ} (set : List ℕ) where
  pub before_eof : mem Eof set ≡ false → Tokens src toks → t ≤ eof_at toks → mem (symbol_at src toks t) set ≡ true → t < eof_at toks
  before_eof f w h e =
      let seen : sees set (drop t (symbols src (tokens_of src toks))) ≡ true = sees_at src toks set t h ∙ e in
      let l : t ≤ before Eof (symbols src (tokens_of src toks)) = rw w.ends h in
      rw w.ends at (seen_within Eof t set (symbols src (tokens_of src toks)) (rw f tt) l (rw seen tt))

  pub took : mem Eof set ≡ false → mem String set ≡ false → Tokens src toks → t ≤ eof_at toks → mem (symbol_at src toks t) set ≡ true → Took src toks t
  took f g w h e = record { inside = omega (arith, before_eof f w h e); text = quiet src toks t (not_string src toks t set g e) }

-- a token that is no Eof is not the last one
pub not_last : {src toks : List ℕ} {t : ℕ} → Tokens src toks → t ≤ eof_at toks → (symbol_at src toks t ≡ Eof → ⊥) → t < eof_at toks
not_last {src} {toks} {t} w h f =
    let c = symbol_at src toks t in
    before_eof (c ∷ []) (simp (ne_eqb Eof c (λ e. f (sym e)))) w h (simp (eq-eqb c c refl))
