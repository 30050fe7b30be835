-- `writer::write_source` meets its contract.
use mathlib.Core.Path.{sym, ap}
use lib.Seq.{length-take-le}
use Rattle.writer.specs.Writes.{accepts}
use Rattle.writer.proofs.Accepting.{text_long, lent, told, refused}
use Rattle.writer.proofs.write_source.Goals as goal

pub slice_bounds-write_tree-end : goal.slice_bounds-write_tree-end
slice_bounds-write_tree-end c =
    let a = c.args in
    let p = c.parse_source-read in
    text_long a.src.now a.tokens.now a.text.now a.tree.now p.new.tokens p.new.text p.new.tree p.result c.in-Ok.is p.ensures

pub slice_bounds-write_tree-end-in-Ok : goal.slice_bounds-write_tree-end-in-Ok
slice_bounds-write_tree-end-in-Ok c =
    let a = c.args in
    let p = c.parse_source-read in
    sym (length-take-le _ p.new.text (text_long a.src.now a.tokens.now a.text.now a.tree.now p.new.tokens p.new.text p.new.tree p.result c.in-Ok.is p.ensures))

pub write_tree-requires : goal.write_tree-requires
write_tree-requires c =
    let a = c.args in
    let p = c.parse_source-read in
    lent a.src.now a.tokens.now a.text.now a.tree.now p.new.tokens p.new.text p.new.tree p.result c.in-Ok.is p.ensures

pub returns-in-Ok : goal.returns-in-Ok
returns-in-Ok c =
    let a = c.args in
    let p = c.parse_source-read in
    told a.src.now a.tokens.now a.text.now a.tree.now p.new.tokens p.new.text p.new.tree p.result c.in-Ok.is p.ensures a.out.now c.write_tree.result c.write_tree.new.out c.write_tree.ensures

pub returns-in-Err : goal.returns-in-Err
returns-in-Err c =
    let a = c.args in
    let p = c.parse_source-read in
    refused a.src.now a.tokens.now a.text.now a.tree.now a.out.now p.new.tokens p.new.text p.new.tree p.result (ap accepts c.in-Err.is) p.ensures
