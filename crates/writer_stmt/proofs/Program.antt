-- A Program: the list of its statements, and its node.
-- Assumes nothing.
use mathlib.Core.Path.{◌≡◌, refl, ap, ◌∙◌}
use mathlib.Core.List.{List}
use Prim.Native.Nat.{ℕ, ◌-◌, ◌<◌}
use native.Mathlib.Omega.{arith}
use lib.ListN.{get_or}
use Rattle.unparse.specs.Trees.{Stmt, list, script, Tree}
use Rattle.unparse.specs.Trees as tree
use Rattle.unparse.specs.Levels.{X}
use Rattle.standard.specs.Text.{text, standard_text}
use Rattle.standard.specs.Bare.{size_b, head_b, fields_b}
use Rattle.standard.specs.Plant.{plant}
use Rattle.writer_expr.specs.Laid.{Laid, Stands, word_at}
use Rattle.writer_expr.proofs.Shapes.{rooted, inner}
use Rattle.writer_stmt.specs.Lines.{stmt, SomeLines}

pub record Whole (src txt tr : List ℕ) (b : ℕ) (x : Tree script) (e : ℕ) : Type 0 where
  pub list : Tree (list Stmt)
  pub says : text 0 X list ≡ standard_text x
  pub stands : Stands src txt tr b list (e - 1)
  pub head : word_at tr e 4 ≡ head_b b (plant list)
  pub there : 0 < e

module _ (src txt tr : List ℕ) where
  seen : (b e : ℕ) (x : Tree script) → Stands src txt tr b x e → Whole src txt tr b x e
  unfolding Laid size_b fields_b plant text standard_text
  seen b e (tree.program l) s =
      let r = rooted e (omega (arith, s.ends)) s.laid.1 in
      record {
        list = l;
        says = refl;
        stands = inner src txt tr s l s.laid.0.0 (omega (arith, s.ends)) (omega arith);
        head = ap (λ (l : List ℕ). get_or l 0 0) r.fields;
        there = omega (arith, s.ends);
      }

  pub whole : {b e : ℕ} {x : Tree script} → Stands src txt tr b x e → Whole src txt tr b x e
  whole {b} {e} {x} s = seen b e x s

pub some_whole : {src txt tr : List ℕ} {b e f : ℕ} {x : Tree script} → Whole src txt tr b x e → f ≡ word_at tr e 4 → SomeLines src txt tr (e - 1) f
some_whole {b = b} v p = record { item = Stmt; line = stmt; from = b; tree = v.list; stands = v.stands; head = p ∙ v.head }
