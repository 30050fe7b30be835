-- Lines of statements: a statement, an Elif, a method or an Else, and lists of them. Contracts of inner functions alone cite this; what the writer promises stands in `writer`.
-- Assumes nothing.
use Rattle.std.specs.Prelude.{ℕ, ◌<◌, ◌≡◌, cond, List, eqb}
use Rattle.ast.specs.Kind as kind
use Rattle.unparse.specs.Trees.{Item, Stmt, Elif, Def, Sort, a, list, other, script, Tree}
use Rattle.unparse.specs.Levels.{X}
use Rattle.standard.specs.Text.{text, standard_text}
use Rattle.standard.specs.Bare.{head_b}
use Rattle.standard.specs.Plant.{plant}
use Rattle.writer_expr.specs.Laid.{Stands}
use Rattle.writer_expr.specs.Put.{Put}
use Rattle.writing.specs.declared.back.Back.{Back}

-- what has lines of its own
pub data Line : Sort → Type 0 where
  stmt : Line (a Stmt)
  elif : Line (a Elif)
  method : Line (a Def)
  else : Line other

-- which word of a node has the list below its line: "3 While (p, q list), 4 For (p q name, r, s list), 5 Def and 13 Method (p q name, r Name list, s list)", "8 Class
-- (p q name, r Method list)", "14 Elif (p, q list), 15 Else (p list)" (01, Tree). 0 for the rest; an If, which has three lists, is not asked
unfoldable pub block_word_lem : ℕ → ℕ
block_word_lem k =
    cond (eqb k kind.While) 5
    (cond (eqb k kind.Elif) 5
    (cond (eqb k kind.For) 7
    (cond (eqb k kind.Def) 7
    (cond (eqb k kind.Method) 7
    (cond (eqb k kind.Class) 6
    (cond (eqb k kind.Else) 4 0))))))

-- ---- some line ends before node e; some list, by its first node or none; some Else or none; some program

pub record SomeLine (src txt tr : List ℕ) (e : ℕ) : Type 0 where
  pub sort : Sort
  pub line : Line sort
  pub from : ℕ
  pub tree : Tree sort
  pub stands : Stands src txt tr from tree e
  pub there : from < e

pub record SomeLines (src txt tr : List ℕ) (e f : ℕ) : Type 0 where
  pub item : Item
  pub line : Line (a item)
  pub from : ℕ
  pub tree : Tree (list item)
  pub stands : Stands src txt tr from tree e
  pub head : f ≡ head_b from (plant tree)

pub record SomeElse (src txt tr : List ℕ) (e f : ℕ) : Type 0 where
  pub from : ℕ
  pub tree : Tree other
  pub stands : Stands src txt tr from tree e
  pub head : f ≡ head_b from (plant tree)

pub record SomeProgram (src txt tr : List ℕ) (e : ℕ) : Type 0 where
  pub from : ℕ
  pub tree : Tree script
  pub stands : Stands src txt tr from tree e

-- ---- the text of every one that stands there was put, where d blocks are open

abbrev pub PutsLine : (src txt tr : List ℕ) → (d e : ℕ) (o n : Back) → ℕ → Type 0
PutsLine src txt tr d e o n r = (s : Sort) → Line s → (b : ℕ) (x : Tree s) → Stands src txt tr b x e → b < e → Put (text d X x) b o n r

abbrev pub PutsLines : (src txt tr : List ℕ) → (d e f : ℕ) (o n : Back) → ℕ → Type 0
PutsLines src txt tr d e f o n r = (i : Item) → Line (a i) → (b : ℕ) (l : Tree (list i)) → Stands src txt tr b l e → f ≡ head_b b (plant l) → Put (text d X l) b o n r

abbrev pub PutsElse : (src txt tr : List ℕ) → (d e f : ℕ) (o n : Back) → ℕ → Type 0
PutsElse src txt tr d e f o n r = (b : ℕ) (x : Tree other) → Stands src txt tr b x e → f ≡ head_b b (plant x) → Put (text d X x) b o n r

-- "the one standard text" (02, change 6)
abbrev pub PutsProgram : (src txt tr : List ℕ) → (e : ℕ) (o n : Back) → ℕ → Type 0
PutsProgram src txt tr e o n r = (b : ℕ) (x : Tree script) → Stands src txt tr b x e → Put (standard_text x) b o n r
