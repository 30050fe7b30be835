-- Turns, one behind the other.
-- Assumes nothing.
use mathlib.Core.Path.{◌≡◌, refl, sym, ap, ◌∙◌, subst}
use mathlib.Core.List.{List, [], ◌++◌, append_assoc, append-nil}
use Prim.Native.Nat.{ℕ, ◌<◌}
use Rattle.unparse.specs.Trees.{a, Expr, Tree}
use Rattle.writing.specs.declared.back.Back.{Back}
use Rattle.writing.specs.Wrote.{Wrote}
use Rattle.writing.proofs.Writes.{nothing, then, same}
use Rattle.std.specs.Prelude.{Option, Some as some, None}
use Rattle.writer_expr.specs.Levels.{number, text_at}
use Rattle.writer_expr.specs.declared.rules.Rule.{Rule}
use Rattle.writer_expr.specs.Laid.{Stands, Some}
use Rattle.writer_expr.specs.Put.{Put, Left, Turned}
use Rattle.writer_expr.specs.declared.Turn.{Turn}

module _ {src txt tr : List ℕ} {b e : ℕ} {o n : Back} where
  -- all of it was put
  pub finished : {t : List ℕ} {y : ℕ} → Wrote t o n → y ≡ b → Turned src txt tr t b e o n (record { end = y; left = None })
  finished w f = record { is = record { wrote = w; first = f } }

  -- its end was put
  pub going : {t d : List ℕ} (x : Tree (a Expr)) {y : ℕ} (l : Rule) → t ≡ text_at (number l) x ++ d → Stands src txt tr b x y → Wrote d o n → y < e → Turned src txt tr t b e o n (record { end = y; left = some l })
  going {d = d} x l p s w f = record { is = (record { tree = x; done = d; parts = p; stands = s; wrote = w }, f) }

  -- the same text under another name
  pub renamed : {t u : List ℕ} {r : Turn} → t ≡ u → Turned src txt tr t b e o n r → Turned src txt tr u b e o n r
  renamed {r = r} p w = subst (λ (v : List ℕ). Turned src txt tr v b e o n r) p w

  pub turn_goes : {t : List ℕ} {r : Turn} {l : Rule} → Turned src txt tr t b e o n r → r.left ≡ some l → Left src txt tr t b o n r.end (number l) × (r.end < e)
  turn_goes w h = rw h at w.is

  turn_ends : {t : List ℕ} {r : Turn} → Turned src txt tr t b e o n r → r.left ≡ None → Put t b o n r.end
  turn_ends w h = rw h at w.is

-- nothing is left
pub none_from : {A : Type 0} {o : Option A} → ((l : A) → o ≡ some l → ⊥) → o ≡ None
none_from {A} {o} h = go o h
  where
    go : (o : Option A) → ((l : A) → o ≡ some l → ⊥) → o ≡ None
    go None h = refl
    go (some l) h = absurd (h l refl)

-- In the loop: what is left, and a turn.
module _ {src txt tr t : List ℕ} {b : ℕ} {o p q : Back} {e₁ l₁ : ℕ} (s : Left src txt tr t b o p e₁ l₁) {r : Turn} (w : Turned src txt tr (text_at l₁ s.tree) b e₁ p q r) where
  pub left_goes : {l : Rule} → r.left ≡ some l → Left src txt tr t b o q r.end (number l)
  left_goes {l} h =
      let g = (turn_goes w h).0 in
      record {
        tree = g.tree;
        done = g.done ++ s.done;
        parts = s.parts ∙ ap (λ (u : List ℕ). u ++ s.done) g.parts ∙ append_assoc (text_at (number l) g.tree) g.done s.done;
        stands = g.stands;
        wrote = then s.wrote g.wrote;
      }

  pub left_ends : r.left ≡ None → Put t b o q r.end
  left_ends h = let g = turn_ends w h in record { wrote = same (sym s.parts) (then s.wrote g.wrote); first = g.first }

-- some expression is left
pub some_left : {src txt tr t : List ℕ} {b : ℕ} {o p : Back} {e₁ l₁ : ℕ} → Left src txt tr t b o p e₁ l₁ → Some src txt tr e₁
some_left {b = b} s = record { from = b; tree = s.tree; stands = s.stands }

pub left_all : {src txt tr : List ℕ} {b e l : ℕ} {x : Tree (a Expr)} (o : Back) → Stands src txt tr b x e → Left src txt tr (text_at l x) b o o e l
left_all {l = l} {x = x} o s = record { tree = x; done = []; parts = sym (append-nil (text_at l x)); stands = s; wrote = nothing o }
