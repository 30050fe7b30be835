-- The forms of the nodes of expressions, by what the code reads of them. Contracts of inner functions alone cite this; what the writer promises stands in `writer`.
-- Assumes nothing.
use Rattle.std.specs.Prelude.{ℕ, zero, suc, ◌+◌, ◌-◌, ◌≤◌, ◌<◌, ◌≡◌, cond, List, [], ◌∷◌, ◌++◌, eqb, length}
use Rattle.token.specs.Code as token
use Rattle.source.specs.Bytes.{part}
use Rattle.source.specs.Text.{bytes}
use Rattle.numbers.specs.Bits.{int_of}
use Rattle.rendered.specs.Spelled.{spelled_fixed, spelled_bool, spelled_int, spelled_string}
use Rattle.ast.specs.Kind as kind
use Rattle.ast.specs.Node.{Node}
use Rattle.writer_expr.specs.Levels.{rule_of_lem, sign_of}
use Rattle.writer_expr.specs.Laid.{kind_at, word_at}

-- nodes with parts, and names and literals
pub data Form : Type 0 where
  binary unary call attribute index lambda tuple : Form
  enclosed leaf : ℕ → Form

unfoldable pub form_of : ℕ → Form
form_of k =
    cond (eqb k kind.Binary) binary
    (cond (eqb k kind.Unary) unary
    (cond (eqb k kind.Call) call
    (cond (eqb k kind.Attribute) attribute
    (cond (eqb k kind.Index) index
    (cond (eqb k kind.Lambda) lambda
    (cond (eqb k kind.Tuple) tuple
    (cond (eqb k kind.List) (enclosed k)
    (cond (eqb k kind.Dict) (enclosed k)
    (cond (eqb k kind.Set) (enclosed k)
    (cond (eqb k kind.TreeSet) (enclosed k) (leaf k)))))))))))

-- "a shared middle": the node before e is an And, its right part a comparison, whose left part stands before the And's left part
pub record Linked (tr : List ℕ) (e : ℕ) : Type 0 where
  pub some : 2 ≤ e
  pub root : kind_at tr e ≡ kind.Binary
  pub op : word_at tr e 4 ≡ 13
  pub right : kind_at tr (e - 1) ≡ kind.Binary
  pub low : 7 ≤ word_at tr (e - 1) 4
  pub high : word_at tr (e - 1) 4 ≤ 12
  pub shared : word_at tr (e - 1) 5 < word_at tr e 5

-- the node before e has this form, and is no chain's
abbrev pub Formed : List ℕ → ℕ → Form → Type 0
Formed tr e f = (form_of (kind_at tr e) ≡ f) × (Linked tr e → ⊥)

-- the rule of a node that is no chain's, by its kind and its first field
unfoldable pub rule_at_lem : ℕ → ℕ → ℕ
unfolding rule_of_lem
rule_at_lem k op = cond (eqb k kind.Binary) (rule_of_lem op) (cond (eqb k kind.Unary) 6 (cond (eqb k kind.Lambda) 0 7))

-- [ ], { }, and t{ } of a TreeSet
unfoldable pub opens : ℕ → List ℕ
opens k = cond (eqb k kind.List) (spelled_fixed token.LBracket) (cond (eqb k kind.TreeSet) (bytes "t" ++ spelled_fixed token.LBrace) (spelled_fixed token.LBrace))

unfoldable pub closes : ℕ → List ℕ
closes k = cond (eqb k kind.List) (spelled_fixed token.RBracket) (spelled_fixed token.RBrace)

-- a name or a literal
unfoldable pub leaf_text : List ℕ → List ℕ → Node → List ℕ
leaf_text src txt n =
    cond (eqb n.kind kind.None) (spelled_fixed token.None)
    (cond (eqb n.kind kind.Bool) (spelled_bool (eqb n.p 1))
    (cond (eqb n.kind kind.Int) (spelled_int (int_of n.p n.q))
    (cond (eqb n.kind kind.String) (spelled_string (part txt n.p (n.p + n.q)))
    (cond (eqb n.kind kind.Float) (part src n.r n.s) (part src n.p n.q)))))

-- what it has its bytes at lies inside
pub record Leaf (src txt : List ℕ) (n : Node) : Type 0 where
  pub string : n.kind ≡ kind.String → n.p + n.q ≤ length txt
  pub float : n.kind ≡ kind.Float → (n.r ≤ n.s) × (n.s ≤ length src)
  pub name : (n.kind ≡ kind.None → ⊥) → (n.kind ≡ kind.Bool → ⊥) → (n.kind ≡ kind.Int → ⊥) → (n.kind ≡ kind.String → ⊥) → (n.kind ≡ kind.Float → ⊥) → (n.p ≤ n.q) × (n.q ≤ length src)

-- the n signs before the operand that ends before node j, each with a space behind it
unfoldable pub signs : List ℕ → ℕ → ℕ → List ℕ
signs tr j zero = []
signs tr j (suc n) = (spelled_fixed (sign_of (word_at tr (j + suc n) 4)) ++ 32 ∷ []) ++ signs tr j n
