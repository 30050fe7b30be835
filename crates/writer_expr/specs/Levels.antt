-- The rules of expressions by number: 0 an E, 1 O, 2 A, 3 C, 4 S, 5 P, 6 a U, 7 F (01, Grammar). A text that fits a rule fits those
-- before it. Contracts of inner functions alone cite this; what the writer promises stands in `writer`.
-- Assumes nothing.
use Rattle.std.specs.Prelude.{ℕ, cond, List, [], ◌∷◌, eqb, ltb, get_or}
use Rattle.token.specs.Code as token
use Rattle.ast.specs.Operator.{binary_ops}
use Rattle.unparse.specs.Trees.{Sort, Tree, a, Expr}
use Rattle.unparse.specs.Trees as tree
use Rattle.unparse.specs.Levels.{Level, T, X, E, O, A, C, S, P, U, G, F, level_of}
use Rattle.standard.specs.Text.{text}
use Rattle.writer_expr.specs.declared.rules.Rule.{Rule}
use Rattle.writer_expr.specs.declared.rules.Rule.TheVariants as rule

-- the number of a rule, as the code has it
abbrev pub number : Rule → ℕ
number rule.E = 0
number rule.O = 1
number rule.A = 2
number rule.C = 3
number rule.S = 4
number rule.P = 5
number rule.U = 6
number rule.F = 7

abbrev pub level_from : ℕ → Level
level_from n = get_or (X ∷ O ∷ A ∷ C ∷ S ∷ P ∷ G ∷ []) n F

abbrev pub rank : Level → ℕ
rank T = 0
rank X = 0
rank E = 0
rank O = 1
rank A = 2
rank C = 3
rank S = 4
rank P = 5
rank U = 6
rank G = 6
rank F = 7

-- the standard text where the rule of this number is asked for, and as an E. An expression's does not depend on the blocks that are open (proofs/Depth.antt)
abbrev pub text_at : ℕ → Tree (a Expr) → List ℕ
text_at least x = text 0 (level_from least) x

abbrev pub text_of : {s : Sort} → Tree s → List ℕ
text_of x = text 0 X x

-- and as a whole statement's
abbrev pub text_whole : Tree (a Expr) → List ℕ
text_whole x = text 0 T x

-- the last rule that the text of an expression fits with no parentheses around it
unfoldable pub rank_of : Tree (a Expr) → ℕ
rank_of (tree.literal c l) = rank F
rank_of (tree.variable x) = rank F
rank_of (tree.unary g x) = rank G
rank_of (tree.binary o x y) = rank (level_of o)
rank_of (tree.compare c) = rank C
rank_of (tree.attribute x n) = rank F
rank_of (tree.apply x y) = rank F
rank_of (tree.index x y) = rank F
rank_of (tree.bracket b x) = rank F
rank_of (tree.void v) = rank F
rank_of (tree.dict x) = rank F
rank_of (tree.set x) = rank F
rank_of (tree.single x) = rank F
rank_of (tree.tuple x) = rank F
rank_of (tree.lambda x y) = rank E

-- ---- the same by the words of a node: "Operators count from 1 in enum order" (01, Tree)

-- the code of an operator's token; of a sign's
unfoldable pub operator_of : ℕ → ℕ
operator_of op = get_or (token.Or ∷ binary_ops) op token.Or

unfoldable pub sign_of : ℕ → ℕ
sign_of op = cond (eqb op 1) token.Not (cond (eqb op 2) token.Minus token.Plus)

-- the rule of an operator, and that of its left operand: the same, as "All group left", but for comparisons, whose operands are S
unfoldable pub rule_of_lem : ℕ → ℕ
rule_of_lem op = cond (ltb op 3) 4 (cond (ltb op 7) 5 (cond (ltb op 13) 3 (cond (ltb op 14) 2 1)))

unfoldable pub left_of : ℕ → ℕ
left_of rule = cond (eqb rule 3) 4 rule
