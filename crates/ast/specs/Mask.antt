-- Which of p, q, r and s hold node numbers, as one number: 1 for p, 2 for q, 4 for r and 8 for s. Printing asks for it: "none as `-` where a
-- field holds a node number" (01, Scripts).
-- Assumes nothing.
use Rattle.std.specs.Prelude.{ℕ, ◌+◌, cond}
use Rattle.ast.specs.Node.{Field, Fields, holds_node, fields_of}

abbrev pub bit : Field → ℕ → ℕ
bit f b = cond (holds_node f) b 0

abbrev pub mask_of : Fields → ℕ
mask_of f = bit f.p 1 + bit f.q 2 + bit f.r 4 + bit f.s 8

unfoldable pub node_fields_lem : ℕ → ℕ
node_fields_lem kind = mask_of (fields_of kind)
