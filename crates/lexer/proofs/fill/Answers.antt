-- `lexer::fill` meets its contract: the scan, and zeros behind what it filled.
use mathlib.Core.Path.{◌≡◌, refl, ◌∙◌}
use Rattle.lexer.specs.Steps.{Exact}
use Rattle.lexer.proofs.Running.{words_filled, bytes_filled, fills}
use Rattle.lexer.proofs.fill.Goals as goal
use Rattle.lexer.proofs.fill.Goals.{in-Ok, in-Err}

pub returns : goal.returns
returns c =
    let r = c.run-scanned.result in
    let n : (c.match-scanned.filled.0 ≡ words_filled r) × (c.match-scanned.filled.1 ≡ bytes_filled r) = elim c.match-scanned.branch [
      | in-Ok w ↦ rw (w.filled-is, w.in-Ok.is) (refl, refl)
      | in-Err w ↦ rw (w.filled-is, w.in-Err.is) (refl, refl)
    ] in
    let exact : Exact c.args.src.now c.run-scanned.new.tokens c.run-scanned.new.text = record { small = c.requires.small; tokens_long = c.run-scanned.auto.tokens ∙ c.requires.tokens_long; text_long = c.run-scanned.auto.text ∙ c.requires.text_long } in
    fills c.args.src.now c.run-scanned.new.tokens c.run-scanned.new.text exact r _ _ c.run-scanned.ensures (rw n.0 at c.put_zeros.ensures) (rw n.1 at c.put_zeros-2.ensures)
