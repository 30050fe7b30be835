-- `writer::hollow::block_of` meets its contract: at each kind the block's word computes.
use mathlib.Core.Logic.{inl, inr}
use Rattle.ast.specs.Words.{node_at}
use Rattle.writer.proofs.Blocks.{no_block}
use Rattle.writer.proofs.hollow.block_of.Goals as goal

pub returns-in-15 : goal.returns-in-15
returns-in-15 c = rw c.in-15.is

pub returns-in_default : goal.returns-in_default
returns-in_default c = let a = c.args in no_block (node_at a.tree.now a.k) c.in_default.in_default-own.rest (inl c.in_default.if-this-lt2-own.true)

pub returns-in_default-2 : goal.returns-in_default-2
returns-in_default-2 c = let a = c.args in no_block (node_at a.tree.now a.k) c.in_default.in_default-own.rest (inr c.in_default.if-this-lt6-own.false)
