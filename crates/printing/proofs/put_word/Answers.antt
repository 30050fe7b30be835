-- `printing::put_word` meets its contract: each return knows whether the word holds a node's number, and whether it is none.
use Rattle.std.proofs.Common.{◌≡◌, List, ◌∷◌, ℕ, ap, sym, ◌∙◌}
use Rattle.printing.specs.Printed.{decimal}
use Rattle.printing.specs.Masked.{word}
use Rattle.printing.proofs.Writing.{both, same}
use Rattle.printing.proofs.Parts.{word_dash, word_link, word_plain}
use Rattle.printing.proofs.put_word.Goals as goal
use Rattle.printing.proofs.put_word.Goals.{else-holds-via-then-holds+else-w-eq-NONE_NODE, else-holds-via-else-holds}

abbrev behind : List ℕ → List ℕ
behind l = 32 ∷ l

pub returns-then-w-eq-NONE_NODE : goal.returns-then-w-eq-NONE_NODE
returns-then-w-eq-NONE_NODE c =
    let a = c.args in
    same (ap behind (word_dash a.holds a.w c.if-holds.true c.if-w-eq-NONE_NODE.true)) (both c.put_byte-dash.ensures c.put_byte.ensures)

pub returns-else-holds : goal.returns-else-holds
returns-else-holds c =
    let a = c.args in
    let plain : word a.holds a.w ≡ decimal a.w =
    elim c.else-holds.branch [
      | else-holds-via-then-holds+else-w-eq-NONE_NODE w ↦ word_link a.holds a.w w.if-holds.true w.if-w-eq-NONE_NODE.false
      | else-holds-via-else-holds w ↦ word_plain a.holds a.w w.if-holds.false
    ] in
    same (ap behind (plain ∙ ap decimal (sym c.from.ensures))) c.put_number.ensures
