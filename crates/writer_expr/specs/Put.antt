-- What a writer from the back has put of an expression. Contracts of inner functions alone cite this; what the writer promises stands in `writer`.
-- Assumes nothing.
use Rattle.std.specs.Prelude.{ℕ, ◌<◌, ◌≡◌, List, ◌++◌, MatchOption}
use Rattle.unparse.specs.Trees.{Item, Expr, Sort, a, Tree}
use Rattle.standard.specs.Bare.{head_b}
use Rattle.standard.specs.Plant.{plant}
use Rattle.writing.specs.declared.back.Back.{Back}
use Rattle.writing.specs.Wrote.{Wrote}
use Rattle.writer_expr.specs.Levels.{number, text_at, text_of}
use Rattle.writer_expr.specs.Laid.{Inline, Stands}
use Rattle.writer_expr.specs.declared.Turn.{Turn}

-- the text t was put, which made n of o, and b is the number of the first node of its tree
pub record Put (t : List ℕ) (b : ℕ) (o n : Back) (e : ℕ) : Type 0 where
  pub wrote : Wrote t o n
  pub first : e ≡ b

-- Of the text t, which begins with node b, the end was put: what is left of it is the text of an expression that ends before node e.
pub record Left (src txt tr t : List ℕ) (b : ℕ) (o n : Back) (e least : ℕ) : Type 0 where
  pub tree : Tree (a Expr)
  pub done : List ℕ
  pub parts : t ≡ text_at least tree ++ done
  pub stands : Stands src txt tr b tree e
  pub wrote : Wrote done o n

-- A turn: all of the text was put, or its end, and the rest, which must fit a rule, ends earlier.
pub record Turned (src txt tr t : List ℕ) (b e : ℕ) (o n : Back) (r : Turn) : Type 0 where
  pub is : MatchOption r.left (Put t b o n r.end) (λ l. Left src txt tr t b o n r.end (number l) × (r.end < e))

-- ---- contracts, for every tree that stands there

-- the text f of an expression was put; a turn was taken at it
abbrev pub Puts : (src txt tr : List ℕ) → (Tree (a Expr) → List ℕ) → (end : ℕ) (o n : Back) → ℕ → Type 0
Puts src txt tr f end o n e = (b : ℕ) (x : Tree (a Expr)) → Stands src txt tr b x end → Put (f x) b o n e

abbrev pub Turns : (src txt tr : List ℕ) → (Tree (a Expr) → List ℕ) → (end : ℕ) (o n : Back) → Turn → Type 0
Turns src txt tr f end o n r = (b : ℕ) (x : Tree (a Expr)) → Stands src txt tr b x end → Turned src txt tr (f x) b end o n r

-- a member of a list was put; members or a list, of any sort s of trees, the first of which has the number f
abbrev pub PutsMember : (src txt tr : List ℕ) → (end : ℕ) (o n : Back) → ℕ → Type 0
PutsMember src txt tr end o n e = (i : Item) → Inline i → (b : ℕ) (x : Tree (a i)) → Stands src txt tr b x end → Put (text_of x) b o n e

abbrev pub PutsList : (src txt tr : List ℕ) → (Item → Sort) → (end first : ℕ) (o n : Back) → ℕ → Type 0
PutsList src txt tr s end first o n e = (i : Item) → Inline i → (b : ℕ) (l : Tree (s i)) → Stands src txt tr b l end → first ≡ head_b b (plant l) → Put (text_of l) b o n e
