-- The ladder of levels, of steps and of texts at once: parentheses stand in both or in none.
-- Assumes nothing.
use mathlib.Core.Path.{◌≡◌, refl}
use mathlib.Core.List.{List}
use Prim.Native.Nat.{ℕ}
use Rattle.token.specs.Code.{LParen, RParen}
use Rattle.pyhyeon.specs.Action as act
use Rattle.ast.specs.Kind as kind
use Rattle.unparse.specs.Levels.{Level, T as Lt, X, E, O, A, C, S, P, U, G, F, same_level, pick, at_f, at_g, at_u, at_p, at_s, at_c, at_a, at_o, at_e}
use Rattle.unparse.proofs.Write.{Steps, key, run, ◌›◌, dress, enclosed, top, fit, tupled}
use Rattle.standard.specs.Text.{within, fit_text, tuple_text}
use Rattle.standard.proofs.Signs.{signs}
use Rattle.standard.proofs.Keys.{Phrase, bracketed}

module _ (own : Level) (e : Steps) {w : List ℕ} (h : Phrase w (signs e)) where
  met : {l : Level} (x : Dec (own ≡ l)) (e' : Steps) {w' : List ℕ} → Phrase w' (signs e') → Phrase (pick x w w') (signs (pick x e e'))
  met (yes q) e' g = h
  met (no q) e' g = g

  topped : Phrase w (signs (top own e))
  topped = go (same_level own F) (same_level own G)
    where
      go : (x : Dec (own ≡ F)) (y : Dec (own ≡ G)) → Phrase w (signs (pick x (dress e) (pick y (dress e) e)))
      go (yes q) y = h
      go (no q) (yes r) = h
      go (no q) (no r) = h

  abbrev paren : Steps
  paren = enclosed (top own e)

  abbrev same : Steps → Steps
  same d = d

  in_paren : Phrase (within LParen w RParen) (signs paren)
  in_paren = bracketed LParen RParen refl refl refl refl refl topped.ends

  rung_F : Phrase (at_f own w (within LParen w RParen) (λ v. v) (λ v. v)) (signs (at_f own e paren same dress))
  rung_F = met (same_level own F) (paren) in_paren

  rung_G : Phrase (at_g own w (within LParen w RParen) (λ v. v) (λ v. v)) (signs (at_g own e paren same dress))
  rung_G = met (same_level own G) (at_f own e paren same dress) rung_F

  rung_U : Phrase (at_u own w (within LParen w RParen) (λ v. v) (λ v. v)) (signs (at_u own e paren same dress))
  rung_U = rung_G

  rung_P : Phrase (at_p own w (within LParen w RParen) (λ v. v) (λ v. v)) (signs (at_p own e paren same dress))
  rung_P = met (same_level own P) (at_u own e paren same dress) rung_U

  rung_S : Phrase (at_s own w (within LParen w RParen) (λ v. v) (λ v. v)) (signs (at_s own e paren same dress))
  rung_S = met (same_level own S) (at_p own e paren same dress) rung_P

  rung_C : Phrase (at_c own w (within LParen w RParen) (λ v. v) (λ v. v)) (signs (at_c own e paren same dress))
  rung_C = met (same_level own C) (at_s own e paren same dress) rung_S

  rung_A : Phrase (at_a own w (within LParen w RParen) (λ v. v) (λ v. v)) (signs (at_a own e paren same dress))
  rung_A = met (same_level own A) (at_c own e paren same dress) rung_C

  rung_O : Phrase (at_o own w (within LParen w RParen) (λ v. v) (λ v. v)) (signs (at_o own e paren same dress))
  rung_O = met (same_level own O) (at_a own e paren same dress) rung_A

  rung_E : Phrase (at_e own w (within LParen w RParen) (λ v. v) (λ v. v)) (signs (at_e own e paren same dress))
  rung_E = met (same_level own E) (at_o own e paren same dress) rung_O

  pub fitted : (l : Level) → Phrase (fit_text own l w) (signs (fit own l e))
  unfolding fit fit_text
  fitted Lt = rung_E
  fitted X = rung_E
  fitted E = rung_E
  fitted O = rung_O
  fitted A = rung_A
  fitted C = rung_C
  fitted S = rung_S
  fitted P = rung_P
  fitted U = rung_U
  fitted G = rung_G
  fitted F = rung_F

-- the members of a Tuple: bare as a whole statement's, and else in parentheses
pub tuple_is : (l : Level) (e : Steps) {w : List ℕ} → Phrase w (signs e) → Phrase (tuple_text l w) (signs (tupled l e))
tuple_is l e {w} p = go (same_level l Lt)
  where
    go : (y : Dec (l ≡ Lt)) → Phrase (pick y w (fit_text F l (within LParen w RParen)))
        (signs (pick y (e › run act.tuple) (fit F l (key LParen › run act.mark › e › run act.list_done › key RParen › run (act.enclose kind.Tuple)))))
    go (yes h) = p
    go (no h) = fitted F (key LParen › run act.mark › e › run act.list_done › key RParen › run (act.enclose kind.Tuple)) (bracketed LParen RParen refl refl refl refl refl p.ends) l
