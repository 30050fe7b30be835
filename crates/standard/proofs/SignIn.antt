-- The signs of a source's tokens; where they are those that steps write, so are the symbols and the loads.
-- Assumes nothing.
use mathlib.Core.Path.{◌≡◌, refl, ap, sym, ◌∙◌}
use mathlib.Core.List.{List, [], ◌∷◌, ◌++◌, map, map-map}
use Prim.Native.Nat.{ℕ}
use Rattle.token.specs.Code.{Eof}
use Rattle.tokens.specs.Token.{Token}
use Rattle.pyhyeon.specs.Symbol.{symbol, symbols}
use Rattle.unparse.specs.Trees.{Load}
use Rattle.unparse.proofs.Write.{Steps, put, run, ◌›◌}
use Rattle.unparse.proofs.Write as write
use Rattle.unparse.proofs.Machine.{loads}
use Rattle.unparse.proofs.Top.{before}
use Rattle.standard.proofs.Loads.{load}
use Rattle.standard.proofs.Signs.{Sign, sign, plain, signs}

abbrev pub sign_in : List ℕ → List ℕ → Token → Sign
sign_in source text t = sign (symbol source t) (load source text t)

abbrev symbol_of : Sign → ℕ
symbol_of g = g.symbol

abbrev load_of : Sign → Load
load_of g = g.load

symbols_of : (e : Steps) (r : List Sign) → map symbol_of (signs e r) ≡ write.symbols e (map symbol_of r)
symbols_of (put c l) r = refl
symbols_of (run a) r = refl
symbols_of (d › e) r = symbols_of d (signs e r) ∙ ap (write.symbols d) (symbols_of e r)

loads_of : (e : Steps) (r : List Sign) → map load_of (signs e r) ≡ loads e (map load_of r)
loads_of (put c l) r = refl
loads_of (run a) r = refl
loads_of (d › e) r = loads_of d (signs e r) ∙ ap (loads d) (loads_of e r)

module _ (source text : List ℕ) (toks : List Token) (e : Steps) (h : map (sign_in source text) toks ≡ signs e (plain Eof ∷ [])) where
  pub symbols_are : symbols source toks ≡ write.symbols e [] ++ (Eof ∷ [])
  unfolding symbols
  symbols_are = sym (map-map symbol_of (sign_in source text) toks) ∙ ap (map symbol_of) h ∙ symbols_of e (plain Eof ∷ []) ∙ before e (Eof ∷ [])

  pub loads_are : map (load source text) toks ≡ loads e ([] ∷ [])
  loads_are = sym (map-map load_of (sign_in source text) toks) ∙ ap (map load_of) h ∙ loads_of e (plain Eof ∷ [])
