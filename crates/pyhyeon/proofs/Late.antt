-- The test by which 14, 15 and 16 are never too late passes, and what the law of grammars says of lists of symbols holds of lists of tokens.
-- Assumes nothing.
use mathlib.Core.Path.{◌≡◌, refl, ap}
use mathlib.Core.Bool.{Bool, true, false, cond, ◌&&◌}
use mathlib.Core.List.{List, [], ◌∷◌, ◌++◌, map, map-append}
use Prim.Native.Nat.{ℕ}
use native.Mathlib.Omega.{arith}
use lib.Dec.{T, eqb}
use Rattle.grammar.specs.Trial.{Out, ok, fail, out, parse}
use Rattle.grammar.specs.Descent.{null, begins}
use Rattle.grammar.specs.Complete.{ready, alive, complete}
use Rattle.grammar.specs.Misfit.{every, Misfit}
use Rattle.grammar.specs.Misfit as fit
use Rattle.grammar.proofs.Sets.{and_l, and_r, and_i}
use Rattle.grammar.proofs.Alike.{fits_alike}
use Rattle.source.specs.Bytes.{between}
use Rattle.token.specs.Code.{If, Identifier, Eof}
use Rattle.literal.specs.declared.Literal.{Literal}
use Rattle.tokens.specs.Token.{Token, token}
use Rattle.pyhyeon.specs.Symbol.{Tee, symbol, symbols}
use Rattle.pyhyeon.specs.Machine.{blank}
use Rattle.pyhyeon.specs.Action.{machine}
use Rattle.pyhyeon.specs.Rules.{Rule, Program, Line, Simple, Block, Class, E, O, A, C, S, P, U, F, plain}
use Rattle.pyhyeon.specs.Tables.{joined, first, follow, least, rank, opens, pyhyeon}
use Rattle.pyhyeon.specs.Reading.{Fits, start, tried, trial}
use Rattle.pyhyeon.specs.Earliest.{Accepts, is_token}

-- how deep rules nest in the shortest reading of a rule: an operand for an E, a `pass` for a Line, a method for a Class
unfoldable pub height : Rule → ℕ
height Program = 0
height Line = 1
height Simple = 0
height Block = 0
height Class = 1
height E = 7
height O = 6
height A = 5
height C = 4
height S = 3
height P = 2
height U = 1
height F = 0

-- the symbols of tokens by their codes
abbrev pub is_code : ℕ → Bool
is_code c = between If Eof c

pub finishes : (r : Rule) → T (complete is_code pyhyeon height r)
unfolding complete ready alive null begins joined plain first follow least rank opens height
finishes Program = tt
finishes Line = tt
finishes Simple = tt
finishes Block = tt
finishes Class = tt
finishes E = tt
finishes O = tt
finishes A = tt
finishes C = tt
finishes S = tt
finishes P = tt
finishes U = tt
finishes F = tt

-- a token that has this symbol, at no place of its own
abbrev pub token_for : ℕ → Token
token_for c = token c 0 0 Literal.None

pub symbol_for : (source : List ℕ) (c : ℕ) → symbol source (token_for c) ≡ c
symbol_for source c = is (eqb c Identifier)
  where
    is : (b : Bool) → cond (b && false) Tee c ≡ c
    is true = refl
    is false = refl

symbols_for : (source : List ℕ) (cs : List ℕ) → map (symbol source) (map token_for cs) ≡ cs
symbols_for source [] = refl
symbols_for source (c ∷ cs) = let e = symbol_for source c in let h = symbols_for source cs in cc

-- and such tokens are tokens where the symbols are codes
pub tokens_for : (cs : List ℕ) → T (every is_code cs) → T (every is_token (map token_for cs))
tokens_for [] h = tt
tokens_for (c ∷ cs) h = and_i (is_code c) (every is_token (map token_for cs)) (and_l (is_code c) (every is_code cs) h) (tokens_for cs (and_r (is_code c) (every is_code cs) h))

module _ (source : List ℕ) (toks : List Token) where
  -- these symbols are accepted, whatever the tokens were that the machine knows
  abbrev pub AcceptsSymbols : List ℕ → Type 0
  AcceptsSymbols l = fit.Accepts (machine source toks) plain Program blank l

  -- tokens are accepted where their symbols are
  of_symbols : (l : List Token) → AcceptsSymbols (map (symbol source) l) → Accepts source l
  unfolding symbols start trial
  of_symbols l (s, e) =
      let (s₁, e₁) = fits_alike (machine source toks) (machine source l) plain Program (map (symbol source) l) blank blank s e in
      (s₁.kept.nodes, ap (tried source l) e₁)

  to_symbols : (l : List Token) → Accepts source l → AcceptsSymbols (map (symbol source) l)
  unfolding symbols start trial
  to_symbols l (nodes, e) = from (parse plain Program (start source l)) refl e
    where
      from : (o : Out (machine source l)) → parse plain Program (start source l) ≡ o → tried source l o ≡ Fits nodes → AcceptsSymbols (map (symbol source) l)
      from (ok s) d e₁ = fits_alike (machine source l) (machine source toks) plain Program (map (symbol source) l) blank blank s d
      from fail d e₁ = absurd (let z : ◌≡◌ {A = ℕ} 0 1 = cc in omega arith)
      from out d e₁ = absurd (let z : ◌≡◌ {A = ℕ} 0 1 = cc in omega arith)

  -- tokens with more behind them, by the symbols of these
  pub of_more : (w v : List Token) (cs : List ℕ) → AcceptsSymbols (map (symbol source) w ++ (map (symbol source) v ++ cs)) → Accepts source (w ++ (v ++ map token_for cs))
  of_more w v cs a =
      of_symbols (w ++ (v ++ map token_for cs)) (rw (map-append (symbol source) w (v ++ map token_for cs), map-append (symbol source) v (map token_for cs), symbols_for source cs) a)

  pub to_more : (w v : List Token) → Accepts source (w ++ v) → AcceptsSymbols (map (symbol source) w ++ map (symbol source) v)
  to_more w v a = rw (map-append (symbol source) w v) at (to_symbols (w ++ v) a)

  -- so the first symbol that does not fit is that of the first token that does not
  pub of_misfit : (w : List Token) (t : Token) → Misfit is_code AcceptsSymbols (map (symbol source) w) (symbol source t) → Misfit is_token (Accepts source) w t
  of_misfit w t h = record {
    rest = map token_for h.rest;
    are = tokens_for h.rest h.are;
    fits = of_more w [] h.rest h.fits;
    unfit = λ l a. h.unfit (map (symbol source) l) (to_more w (t ∷ l) a);
  }
