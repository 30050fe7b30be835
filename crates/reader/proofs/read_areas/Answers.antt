-- `reader::read_areas` meets its contract: the scanner's answer decides whether there is a descent.
use Rattle.reader.proofs.Read.{scan_held, scan_no}
use Rattle.reader.proofs.Filled.{zeros_pad}
use mathlib.Core.Path.{sym, subst, ◌∙◌}
use lib.ListN.{length}
use Rattle.lexer.specs.Scan.{token_list}
use Rattle.reader.specs.Answer.{Answer}
use Rattle.reader.specs.Outcome.{of_scan}
use Rattle.reader.specs.Steps.{Fills}
use Rattle.reader.proofs.read_areas.Goals as goal

pub read_tokens-requires : goal.read_tokens-requires
read_tokens-requires c =
    record { held = scan_held c.requires c.scan.ensures c.in-Ok.is; tree_len = c.requires.tree_long }

pub returns-in-Err : goal.returns-in-Err
returns-in-Err c =
    let z = c.fill.ensures.after (λ y e. e) in
    subst (λ (r : Answer). Fills (of_scan c.args.src.now (token_list c.args.src.now)) (length c.args.src.now) r c.scan.new.tokens c.scan.new.text c.fill.new.self)
    (sym c.no.ensures)
    (scan_no c.requires c.scan.ensures c.in-Err.is (z ∙ zeros_pad c.requires.tree_long))
