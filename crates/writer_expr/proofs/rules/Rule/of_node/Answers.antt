-- `writer_expr::rules::Rule::of_node` meets its contract.
use Rattle.writer_expr.proofs.Chains.{view_rule, link_rule, rule_eq}
use native.Mathlib.Omega.{arith}
use mathlib.Core.Path.{sym, ◌∙◌}
use Rattle.writer_expr.proofs.rules.Rule.of_node.Goals as goal

pub is_link-requires : goal.is_link-requires
is_link-requires c = (omega arith, omega arith)

pub returns-then-is_link : goal.returns-then-is_link
returns-then-is_link c =
    λ src txt b x s. link_rule src txt _ (c.is_link.ensures.0 c.if-is_link.true) s

pub kind_at-requires : goal.kind_at-requires
kind_at-requires c = (omega arith, omega arith)

pub word_at-requires : goal.word_at-requires
word_at-requires c = (omega arith, omega arith, omega arith)

pub returns : goal.returns
returns c =
    λ src txt b x s. view_rule src txt _ (c.is_link.ensures.1 c.if-is_link.false) s ∙ sym (c.of_kind.ensures ∙ rule_eq c.kind_at.ensures c.word_at.ensures)
