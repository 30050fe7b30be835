-- The starred scripts of 01, computed by the checker.
-- Assumes nothing.
use mathlib.Core.Path.{refl}
use mathlib.Core.List.{[]}
use Rattle.grammar.specs.Trial.{and_then, or_else, or_stay, seq_p, alt_p, loop, many_p, skip_p, ok_if, take_from, take_p, see_p, act_p, tail_p, eval, rule, enough, parse}
use Rattle.grammar.specs.Descent.{null, begins, then_d, same_d, seq_d, by_d, or_d, loop_d, tail_d, many_d, list_d, walk, enter, rule_d, descend}
use Rattle.source.specs.Text.{bytes}
use Rattle.lexer.proofs.Computed.{computed, is_list}
use Rattle.pyhyeon.specs.Symbol.{symbols}
use Rattle.pyhyeon.specs.Action.{perform}
use Rattle.pyhyeon.specs.Rules.{plain}
use Rattle.pyhyeon.specs.Tables.{joined, first, opens}
use Rattle.pyhyeon.specs.Reading.{start, descent, trial}
use Rattle.pyhyeon.specs.Starred.{Starred, Printed}

pub starred : Starred
unfolding computed and_then or_else or_stay seq_p alt_p loop many_p skip_p ok_if take_from take_p see_p act_p tail_p eval rule enough parse null begins then_d same_d seq_d by_d or_d loop_d tail_d many_d list_d walk enter rule_d descend symbols perform plain joined first opens start descent trial
starred = record {
  nothing = record { scans = is_list []; comes = record { descends = refl; tries = refl; fields = tt } };
  signed = record { scans = is_list (bytes "a-1"); comes = record { descends = refl; tries = refl; fields = tt } };
  float = record { scans = is_list (bytes "-1.5"); comes = record { descends = refl; tries = refl; fields = tt } };
  attribute = record { scans = is_list (bytes "1.e5"); comes = record { descends = refl; tries = refl; fields = tt } };
  parens = record { scans = is_list (bytes "()"); comes = record { descends = refl; tries = refl; fields = tt } };
  tuple = record { scans = is_list (bytes "())"); comes = record { descends = refl; tries = refl; fields = tt } };
  negation = record { scans = is_list (bytes "not a == b"); comes = record { descends = refl; tries = refl; fields = tt } };
  comma = record { scans = is_list (bytes "1,"); comes = record { descends = refl; tries = refl; fields = tt } };
  cut = record { scans = is_list (bytes "if a:\n  b"); comes = record { descends = refl; tries = refl; fields = tt } };
  whole = record { scans = is_list (bytes "if a:\n  b\n"); comes = record { descends = refl; tries = refl; fields = tt } };
  body = record { scans = is_list (bytes "if a:\n  "); comes = record { descends = refl; tries = refl; fields = tt } };
  least = record { scans = is_list (bytes "-9223372036854775808"); comes = record { descends = refl; tries = refl; fields = tt } };
  large = is_list (bytes "9223372036854775808");
  tab = is_list (bytes "\t");
}

pub printed : Printed
unfolding computed and_then or_else or_stay seq_p alt_p loop many_p skip_p ok_if take_from take_p see_p act_p tail_p eval rule enough parse null begins then_d same_d seq_d by_d or_d loop_d tail_d many_d list_d walk enter rule_d descend symbols perform plain joined first opens start descent trial
printed = record { scans = is_list (bytes "a<b<c\n"); tokens = refl; openings = refl; accepts = refl; tries = refl; records = refl }
