-- `reader::parse_source` meets its contract: each question's no leaves the slices as they were, and behind the last yes the areas are lent.
use Rattle.reader.proofs.Asked.{areas, no1, no2, no3, no4, no5, worked}
use Rattle.reader.specs.Outcome.{tree_area}
use Rattle.areas.specs.Area.{token_area}
use lib.Seq.{length-take-le}
use lib.ListN.{length}
use mathlib.Core.Path.{sym}
use native.Mathlib.Omega.{arith}
use Rattle.reader.proofs.parse_source.Goals as goal

pub returns-then-n-gt-LONGEST : goal.returns-then-n-gt-LONGEST
returns-then-n-gt-LONGEST c =
    let a = c.args in
    no1 a.src.now a.tokens.now a.text.now a.tree.now c.no.result c.if-n-gt-LONGEST.true c.no.ensures

pub returns-then-tokens-token_words : goal.returns-then-tokens-token_words
returns-then-tokens-token_words c =
    let a = c.args in
    no2 a.src.now a.tokens.now a.text.now a.tree.now c.no-then-tokens-token_words.result c.if-n-gt-LONGEST.false c.if-tokens-token_words.true c.no-then-tokens-token_words.ensures

pub returns-then-text-n : goal.returns-then-text-n
returns-then-text-n c =
    let a = c.args in
    no3 a.src.now a.tokens.now a.text.now a.tree.now c.no-then-text-n.result c.if-n-gt-LONGEST.false c.if-tokens-token_words.false c.if-text-n.true c.no-then-text-n.ensures

pub returns-then-tree-tree_words : goal.returns-then-tree-tree_words
returns-then-tree-tree_words c =
    let a = c.args in
    no4 a.src.now a.tokens.now a.text.now a.tree.now c.no-then-tree-tree_words.result c.if-n-gt-LONGEST.false c.if-tokens-token_words.false (omega arith) c.if-tree-tree_words.true c.no-then-tree-tree_words.ensures

pub slice_bounds-read_areas-end-in-None : goal.slice_bounds-read_areas-end-in-None
slice_bounds-read_areas-end-in-None c =
    let a = c.args in
    sym (length-take-le (token_area (length a.src.now)) a.tokens.now c.if-tokens-token_words.false)

pub slice_bounds-read_areas-end-in-None-3 : goal.slice_bounds-read_areas-end-in-None-3
slice_bounds-read_areas-end-in-None-3 c =
    let a = c.args in
    sym (length-take-le (length a.src.now) a.text.now c.if-text-n.false)

pub slice_bounds-read_areas-end-in-None-5 : goal.slice_bounds-read_areas-end-in-None-5
slice_bounds-read_areas-end-in-None-5 c =
    let a = c.args in
    sym (length-take-le (tree_area (length a.src.now)) a.tree.now c.if-tree-tree_words.false)

pub read_areas-requires : goal.read_areas-requires
read_areas-requires c =
    let a = c.args in
    areas a.src.now a.tokens.now a.text.now a.tree.now c.if-n-gt-LONGEST.false c.if-tokens-token_words.false c.if-text-n.false c.if-tree-tree_words.false

pub returns-in-Some : goal.returns-in-Some
returns-in-Some c =
    let a = c.args in
    no5 a.src.now a.tokens.now a.text.now a.tree.now c.no-in-Some.result c.if-n-gt-LONGEST.false c.if-tokens-token_words.false c.if-text-n.false c.if-tree-tree_words.false c.utf8_error.ensures.found_value c.in-Some.is c.no-in-Some.ensures

pub returns-in-None : goal.returns-in-None
returns-in-None c =
    let a = c.args in
    let w = c.read_areas in
    worked a.src.now a.tokens.now a.text.now a.tree.now w.result c.if-n-gt-LONGEST.false c.if-tokens-token_words.false c.if-text-n.false c.if-tree-tree_words.false c.utf8_error.ensures.found_value c.in-None.is w.new.tokens w.new.text w.new.tree w.ensures
