-- What the line of a statement says, by the kind of its node: all but its blanks at the start, and the colon and line feed at its end.
-- Contracts of inner functions alone cite this; what the writer promises stands in `writer`.
-- Assumes nothing.
use Rattle.std.specs.Prelude.{ℕ, ◌≤◌, ◌≡◌, cond, List, ◌∷◌, ◌++◌, eqb, length}
use Rattle.token.specs.Code as token
use Rattle.source.specs.Bytes.{part}
use Rattle.rendered.specs.Spelled.{spelled_fixed}
use Rattle.ast.specs.Kind as kind
use Rattle.unparse.specs.Trees.{Expr, Name, a, list, Tree}
use Rattle.standard.specs.Text.{after, operator, within}
use Rattle.standard.specs.Bare.{head_b}
use Rattle.standard.specs.Plant.{plant}
use Rattle.writer_expr.specs.Levels.{text_of, text_whole}
use Rattle.writer_expr.specs.Laid.{Stands, kind_at, word_at}
use Rattle.writer_expr.specs.Put.{Put}
use Rattle.writing.specs.declared.back.Back.{Back}

-- an expression or a Return; an Assign; If, While and Elif by their keyword; For, Def and Class; the rest by its keyword alone
pub data Form : Type 0 where
  whole return assign for def class : Form
  asked alone : ℕ → Form

-- break, continue, pass, and the line of an Else
unfoldable pub alone_of : ℕ → ℕ
alone_of k = cond (eqb k kind.Break) token.Break (cond (eqb k kind.Continue) token.Continue (cond (eqb k kind.Pass) token.Pass token.Else))

unfoldable pub form_of : ℕ → Form
unfolding alone_of
form_of k =
    cond (eqb k kind.Expr) whole
    (cond (eqb k kind.Return) return
    (cond (eqb k kind.Assign) assign
    (cond (eqb k kind.If) (asked token.If)
    (cond (eqb k kind.While) (asked token.While)
    (cond (eqb k kind.Elif) (asked token.Elif)
    (cond (eqb k kind.For) for
    (cond (eqb k kind.Def) def
    (cond (eqb k kind.Method) def
    (cond (eqb k kind.Class) class (alone (alone_of k)))))))))))

-- the name of the node before e, and that it lies in the source: "Names are start and end" (01, Tree)
abbrev pub name_at : List ℕ → List ℕ → ℕ → List ℕ
name_at src tr e = part src (word_at tr e 4) (word_at tr e 5)

abbrev pub NameIn : List ℕ → List ℕ → ℕ → Type 0
NameIn src tr e = (word_at tr e 4 ≤ word_at tr e 5) × (word_at tr e 5 ≤ length src)

-- ---- the texts, of an expression, of two, of a list of names and of a name

abbrev pub return_text : Tree (a Expr) → List ℕ
return_text x = after token.Return (text_whole x)

abbrev pub asked_text : ℕ → Tree (a Expr) → List ℕ
asked_text c x = after c (text_of x)

abbrev pub assign_text : Tree (a Expr) → Tree (a Expr) → List ℕ
assign_text x y = text_whole x ++ (operator token.Equal ++ text_whole y)

abbrev pub for_text : List ℕ → Tree (a Expr) → List ℕ
for_text n x = after token.For (n ++ 32 ∷ after token.In (text_of x))

abbrev pub def_text : List ℕ → Tree (list Name) → List ℕ
def_text n l = after token.Def (n ++ within token.LParen (text_of l) token.RParen)

abbrev pub class_text : List ℕ → List ℕ
class_text n = after token.Class n

-- ---- the parts of a line: they stand from node b up to node m, and w is its text

pub record One (f : Tree (a Expr) → List ℕ) (src txt tr : List ℕ) (b m : ℕ) (w : List ℕ) : Type 0 where
  pub tree : Tree (a Expr)
  pub says : w ≡ f tree
  pub stands : Stands src txt tr b tree m

pub record Two (src txt tr : List ℕ) (b m : ℕ) (w : List ℕ) : Type 0 where
  pub mid : ℕ
  pub left : Tree (a Expr)
  pub right : Tree (a Expr)
  pub says : w ≡ assign_text left right
  pub ahead : Stands src txt tr b left mid
  pub behind : Stands src txt tr mid right m

pub record Names (src txt tr : List ℕ) (b m e : ℕ) (w : List ℕ) : Type 0 where
  pub list : Tree (list Name)
  pub says : w ≡ def_text (name_at src tr e) list
  pub stands : Stands src txt tr b list m
  pub head : word_at tr e 6 ≡ head_b b (plant list)

pub record Named (src txt tr : List ℕ) (b m e : ℕ) (w : List ℕ) : Type 0 where
  pub says : w ≡ class_text (name_at src tr e)
  pub empty : m ≡ b
  pub name : NameIn src tr e

pub record Bare (c : ℕ) (src txt tr : List ℕ) (b m e : ℕ) (w : List ℕ) : Type 0 where
  pub says : w ≡ spelled_fixed c
  pub empty : m ≡ b

-- the line of the node before e, of this form
abbrev pub Says : Form → (src txt tr : List ℕ) → (b m e : ℕ) → List ℕ → Type 0
Says whole src txt tr b m e w = One text_whole src txt tr b m w
Says return src txt tr b m e w = One return_text src txt tr b m w
Says (asked c) src txt tr b m e w = One (asked_text c) src txt tr b m w
Says assign src txt tr b m e w = Two src txt tr b m w
Says for src txt tr b m e w = One (for_text (name_at src tr e)) src txt tr b m w × NameIn src tr e
Says def src txt tr b m e w = Names src txt tr b m e w × NameIn src tr e
Says class src txt tr b m e w = Named src txt tr b m e w
Says (alone c) src txt tr b m e w = Bare c src txt tr b m e w

-- ---- contracts: some line stands there; what was put, for every one that does, as the text f

pub record SomeWords (src txt tr : List ℕ) (m e : ℕ) : Type 0 where
  pub from : ℕ
  pub text : List ℕ
  pub says : Says (form_of (kind_at tr e)) src txt tr from m e text

abbrev pub PutsWords : (src txt tr : List ℕ) → (List ℕ → List ℕ) → (m e : ℕ) (o n : Back) → ℕ → Type 0
PutsWords src txt tr f m e o n r = (b : ℕ) (w : List ℕ) → Says (form_of (kind_at tr e)) src txt tr b m e w → Put (f w) b o n r
