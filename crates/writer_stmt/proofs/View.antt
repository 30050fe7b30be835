-- What the words say of a line that stands there: its parts, where they stand, and its text t, where d blocks are open.
-- Assumes nothing.
use mathlib.Core.Path.{◌≡◌}
use mathlib.Core.List.{List, ◌++◌}
use Prim.Native.Nat.{ℕ, suc, ◌-◌}
use Rattle.ast.specs.Kind as kind
use Rattle.unparse.specs.Trees.{Item, Stmt, Elif, a, list, other, Tree}
use Rattle.unparse.specs.Levels.{X}
use Rattle.standard.specs.Text.{text, line, opening}
use Rattle.standard.specs.Bare.{head_b}
use Rattle.standard.specs.Plant.{plant}
use Rattle.writer_expr.specs.Laid.{Stands, kind_at, word_at}
use Rattle.writer_stmt.specs.Words.{form_of, Says}
use Rattle.writer_stmt.specs.Lines.{Line, block_word_lem}

-- a line alone
pub record Simple (d : ℕ) (src txt tr : List ℕ) (b : ℕ) (t : List ℕ) (e : ℕ) : Type 0 where
  pub words : List ℕ
  pub says : Says (form_of (kind_at tr e)) src txt tr b (e - 1) e words
  pub text : t ≡ line d words

-- with a list below it
pub record Opened (d : ℕ) (src txt tr : List ℕ) (b : ℕ) (t : List ℕ) (e : ℕ) : Type 0 where
  pub mid : ℕ
  pub item : Item
  pub line : Line (a item)
  pub body : Tree (list item)
  pub words : List ℕ
  pub says : Says (form_of (kind_at tr e)) src txt tr b mid e words
  pub text : t ≡ opening d words (text (suc d) X body)
  pub behind : Stands src txt tr mid body (e - 1)
  pub head : word_at tr e (block_word_lem (kind_at tr e)) ≡ head_b mid (plant body)

-- an If
pub record Branch (d : ℕ) (src txt tr : List ℕ) (b : ℕ) (t : List ℕ) (e : ℕ) : Type 0 where
  pub mid : ℕ
  pub mid₁ : ℕ
  pub mid₂ : ℕ
  pub body : Tree (list Stmt)
  pub elifs : Tree (list Elif)
  pub last : Tree other
  pub words : List ℕ
  pub says : Says (form_of (kind_at tr e)) src txt tr b mid e words
  pub text : t ≡ opening d words (text (suc d) X body) ++ (text d X elifs ++ text d X last)
  pub body_stands : Stands src txt tr mid body mid₁
  pub elifs_stand : Stands src txt tr mid₁ elifs mid₂
  pub last_stands : Stands src txt tr mid₂ last (e - 1)
  pub body_head : word_at tr e 5 ≡ head_b mid (plant body)
  pub elifs_head : word_at tr e 6 ≡ head_b mid₁ (plant elifs)
  pub last_head : word_at tr e 7 ≡ head_b mid₂ (plant last)

pub data View (d : ℕ) (src txt tr : List ℕ) (b : ℕ) (t : List ℕ) (e : ℕ) : Type 0 where
  simple : block_word_lem (kind_at tr e) ≡ 0 → (kind_at tr e ≡ kind.If → ⊥) → Simple d src txt tr b t e → View d src txt tr b t e
  opened : (block_word_lem (kind_at tr e) ≡ 0 → ⊥) → (kind_at tr e ≡ kind.If → ⊥) → Opened d src txt tr b t e → View d src txt tr b t e
  branched : kind_at tr e ≡ kind.If → Branch d src txt tr b t e → View d src txt tr b t e
