-- 01's listing ("For `a<b<c` and a line feed"), with the version of 02, change 3, computed from the definitions.
-- Assumes nothing.
use mathlib.Core.Path.{◌≡◌, ap}
use mathlib.Core.List.{◌++◌}
use Rattle.source.specs.Text.{bytes}
use Rattle.numbers.specs.Digits.{digits}
use Rattle.utf8.specs.Table.{rows, sequence_length, first_ill_formed, utf8_error_lem}
use Rattle.lexer.specs.Scan.{Scan}
use Rattle.grammar.specs.Trial.{skip_p, ok_if, take_from, take_p, see_p, act_p, enough}
use Rattle.grammar.specs.Descent.{null, begins, then_d, same_d, seq_d, by_d, or_d, loop_d, tail_d, many_d, list_d, walk, enter, rule_d, descend}
use Rattle.ast.specs.Words.{nodes_of}
use Rattle.pyhyeon.specs.Symbol.{symbols}
use Rattle.pyhyeon.specs.Action.{perform}
use Rattle.pyhyeon.specs.Rules.{plain}
use Rattle.pyhyeon.specs.Tables.{joined, first, opens}
use Rattle.pyhyeon.specs.Reading.{start, descent}
use Rattle.pyhyeon.proofs.Starred as starred
use Rattle.reader.specs.Outcome.{of_scan, outcome}
use Rattle.printing.specs.Printed.{spaced, node_lines, printed_tree}
use Rattle.listing.specs.Listing.{printed, printed_outcome, listing}

pub listed : listing (bytes "a<b<c\n") ≡
    bytes "2 8 6 0 8 7 19 6\n"
    ++ bytes "0 23 0 1 - 0 1 0 0\n"
    ++ bytes "1 23 2 3 - 2 3 0 0\n"
    ++ bytes "2 25 0 3 - 9 0 1 0\n"
    ++ bytes "3 23 4 5 - 4 5 0 0\n"
    ++ bytes "4 25 2 5 - 9 1 3 0\n"
    ++ bytes "5 25 0 5 - 13 2 4 0\n"
    ++ bytes "6 12 0 5 - 5 0 0 0\n"
    ++ bytes "7 1 0 6 - 6 0 0 0\n"
unfolding skip_p ok_if take_from take_p see_p act_p enough listing outcome utf8_error_lem first_ill_formed sequence_length rows printed printed_tree node_lines spaced digits nodes_of null begins then_d same_d seq_d by_d or_d loop_d tail_d many_d list_d walk enter rule_d descend symbols perform plain joined first opens start descent
listed = ap (λ (s : Scan). printed_outcome (of_scan (bytes "a<b<c\n") s)) (starred.printed).scans
