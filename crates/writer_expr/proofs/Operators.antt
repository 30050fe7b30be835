-- Operators by their numbers: what stands around each, and its rule.
-- Assumes nothing.
use mathlib.Core.Path.{◌≡◌, refl, sym}
use mathlib.Core.Logic.{◌⊎◌, inl, inr}
use mathlib.Core.Bool.{Bool, true, false, cond}
use mathlib.Core.List.{List, [], ◌∷◌, ◌++◌, append_assoc}
use Prim.Native.Nat.{ℕ, ◌+◌, ◌≤◌, ◌<◌}
use native.Mathlib.Omega.{arith}
use native.Mathlib.Decide.{dec_lt}
use borrow.Author.Tests.{eqb-true}
use lib.Dec.{eqb, ltb}
use lib.ListN.{get_or, get_or-eq_default}
use Rattle.source.proofs.Ranges.{NotIn, arm}
use Rattle.token.specs.Code.{Or}
use Rattle.ast.specs.Operator.{binary_ops}
use Rattle.rendered.specs.Spelled.{spelled_fixed}
use Rattle.unparse.specs.Trees.{Sign, Op, Comparison, a, Expr, chain, Tree, sign_code}
use Rattle.unparse.specs.Trees as tree
use Rattle.unparse.specs.Levels.{G, U, level_of}
use Rattle.standard.specs.Text.{text, fit_text, operator}
use Rattle.standard.specs.Plant.{sign_number, op_number, comparison_number}
use Rattle.writer_expr.specs.declared.rules.Rule.{Rule}
use Rattle.writer_expr.specs.declared.rules.Rule.TheVariants as rule
use Rattle.writer_expr.specs.Levels.{number, rank, text_at, text_of, operator_of, sign_of, rule_of_lem, left_of}

-- an operator between its operands; the last one of a chain; a sign before its operand
abbrev pub binary_text : ℕ → Tree (a Expr) → Tree (a Expr) → List ℕ
binary_text op x y = text_at (left_of (rule_of_lem op)) x ++ (operator (operator_of op) ++ text_at (rule_of_lem op + 1) y)

abbrev pub link_text : ℕ → Tree (a Expr) → Tree (a Expr) → List ℕ
link_text op x y = text_at 3 x ++ (operator (operator_of op) ++ text_at 4 y)

abbrev pub sign_text_lem : ℕ → Tree (a Expr) → List ℕ
sign_text_lem op x = (spelled_fixed (sign_of op) ++ 32 ∷ []) ++ text_at 6 x

-- a U is a G: it has its signs in its text
as_U : (x : Tree (a Expr)) → text 0 U x ≡ text 0 G x
unfolding text fit_text
as_U (tree.literal c l) = refl
as_U (tree.variable x) = refl
as_U (tree.unary g x) = refl
as_U (tree.binary o x y) = refl
as_U (tree.compare c) = refl
as_U (tree.attribute x n) = refl
as_U (tree.apply x y) = refl
as_U (tree.index x y) = refl
as_U (tree.bracket b x) = refl
as_U (tree.void v) = refl
as_U (tree.dict x) = refl
as_U (tree.set x) = refl
as_U (tree.single x) = refl
as_U (tree.tuple x) = refl
as_U (tree.lambda x y) = refl

factor : (op : ℕ) (x y : Tree (a Expr)) → text_at 5 x ++ (operator op ++ text 0 U y) ≡ text_at 5 x ++ (operator op ++ text_at 6 y)
factor op x y = rw (as_U y)

pub op_text : (o : Op) (x y : Tree (a Expr)) → text_of (tree.binary o x y) ≡ binary_text (op_number o) x y
unfolding text fit_text operator_of rule_of_lem left_of
op_text Op.or x y = refl
op_text Op.and x y = refl
op_text Op.plus x y = refl
op_text Op.minus x y = refl
op_text Op.star x y = factor (operator_of 3) x y
op_text Op.slashes x y = factor (operator_of 5) x y
op_text Op.slash x y = factor (operator_of 4) x y
op_text Op.percent x y = factor (operator_of 6) x y

pub compare_text : (o : Comparison) (x y : Tree (a Expr)) → text_of (tree.compare (tree.two o x y)) ≡ binary_text (comparison_number o) x y
unfolding text fit_text operator_of rule_of_lem left_of
compare_text Comparison.less x y = refl
compare_text Comparison.less_equal x y = refl
compare_text Comparison.greater x y = refl
compare_text Comparison.greater_equal x y = refl
compare_text Comparison.equal x y = refl
compare_text Comparison.not_equal x y = refl

pub link-text : (o : Comparison) (c : Tree chain) (y : Tree (a Expr)) → text_of (tree.compare (tree.link c o y)) ≡ link_text (comparison_number o) (tree.compare c) y
unfolding text fit_text operator_of
link-text Comparison.less c y = refl
link-text Comparison.less_equal c y = refl
link-text Comparison.greater c y = refl
link-text Comparison.greater_equal c y = refl
link-text Comparison.equal c y = refl
link-text Comparison.not_equal c y = refl

-- no other number than these has another operator
pub other_operator : (op : ℕ) → NotIn (13 ∷ 12 ∷ 11 ∷ 10 ∷ 9 ∷ 8 ∷ 7 ∷ 6 ∷ 5 ∷ 4 ∷ 3 ∷ 2 ∷ 1 ∷ []) op → Or ≡ operator_of op
unfolding operator_of
other_operator op o = go (dec_lt op 15)
  where
    go : Dec (op < 15) → Or ≡ get_or (Or ∷ binary_ops) op Or
    go (yes l) = sym (eqb-true (get_or (Or ∷ binary_ops) op Or) Or (arm (13 ∷ 12 ∷ 11 ∷ 10 ∷ 9 ∷ 8 ∷ 7 ∷ 6 ∷ 5 ∷ 4 ∷ 3 ∷ 2 ∷ 1 ∷ []) (λ (x : ℕ). eqb (get_or (Or ∷ binary_ops) x Or) Or) 0 15 tt op (omega arith) l o))
    go (no l) = sym (get_or-eq_default (Or ∷ binary_ops) Or {n = op} (omega arith))

sign-code : (g : Sign) → sign_code g ≡ sign_of (sign_number g)
unfolding sign_of
sign-code Sign.negation = refl
sign-code Sign.negative = refl
sign-code Sign.positive = refl

pub sign_text : (g : Sign) (x : Tree (a Expr)) → text_of (tree.unary g x) ≡ sign_text_lem (sign_number g) x
unfolding text fit_text
sign_text g x = rw (sign-code g) (sym (append_assoc (spelled_fixed (sign_of (sign_number g))) (32 ∷ []) (text_at 6 x)))

-- the numbers of comparisons and of other operators, and their rules
pub compares : (o : Comparison) → (7 ≤ comparison_number o) × (comparison_number o ≤ 12)
compares Comparison.less = (omega arith, omega arith)
compares Comparison.less_equal = (omega arith, omega arith)
compares Comparison.greater = (omega arith, omega arith)
compares Comparison.greater_equal = (omega arith, omega arith)
compares Comparison.equal = (omega arith, omega arith)
compares Comparison.not_equal = (omega arith, omega arith)

pub compares_not : (o : Op) → (op_number o ≤ 6) ⊎ (13 ≤ op_number o)
compares_not Op.or = inr (omega arith)
compares_not Op.and = inr (omega arith)
compares_not Op.plus = inl (omega arith)
compares_not Op.minus = inl (omega arith)
compares_not Op.star = inl (omega arith)
compares_not Op.slashes = inl (omega arith)
compares_not Op.slash = inl (omega arith)
compares_not Op.percent = inl (omega arith)

pub op_rule : (o : Op) → rank (level_of o) ≡ rule_of_lem (op_number o)
unfolding rule_of_lem
op_rule Op.or = refl
op_rule Op.and = refl
op_rule Op.plus = refl
op_rule Op.minus = refl
op_rule Op.star = refl
op_rule Op.slashes = refl
op_rule Op.slash = refl
op_rule Op.percent = refl

pub compare_rule : (o : Comparison) → 3 ≡ rule_of_lem (comparison_number o)
unfolding rule_of_lem
compare_rule Comparison.less = refl
compare_rule Comparison.less_equal = refl
compare_rule Comparison.greater = refl
compare_rule Comparison.greater_equal = refl
compare_rule Comparison.equal = refl
compare_rule Comparison.not_equal = refl

pub rule_small : (op : ℕ) → rule_of_lem op ≤ 5
unfolding rule_of_lem
rule_small op = go (ltb op 3) (ltb op 7) (ltb op 13) (ltb op 14)
  where
    go : (p q r s : Bool) → cond p 4 (cond q 5 (cond r 3 (cond s 2 1))) ≤ 5
    go true q r s = omega arith
    go false true r s = omega arith
    go false false true s = omega arith
    go false false false true = omega arith
    go false false false false = omega arith

-- a rule is one of eight
pub number_small : (r : Rule) → number r ≤ 7
number_small rule.E = omega arith
number_small rule.O = omega arith
number_small rule.A = omega arith
number_small rule.C = omega arith
number_small rule.S = omega arith
number_small rule.P = omega arith
number_small rule.U = omega arith
number_small rule.F = omega arith
