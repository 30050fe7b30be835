-- `raw_token::word::continuation` meets its contract: below 128 the byte decides, from there on the decoded character.
use mathlib.Core.Path.{◌≡◌, sym, ap, ◌∙◌}
use mathlib.Core.Bool.{Bool, true, false}
use mathlib.Core.List.{List}
use Prim.Native.Nat.{ℕ}
use Rattle.std.specs.Bool.{then_some}
use Rattle.utf8.specs.Character.{Stands}
use Rattle.utf8.specs.declared.character.Character.{Character}
use native.Mathlib.Omega.{arith}
use Rattle.raw_token.specs.Pattern.{character, continues_name}
use Rattle.raw_token.specs.Parts.{Matches, ascii_continues_lem}
use Rattle.raw_token.proofs.Names.{ascii_low, low_continues, at_end, no_character}
use Rattle.raw_token.proofs.Steps.{matches, misses}
use Rattle.raw_token.proofs.word.continuation.Goals as goal

pub returns-in_err-b : goal.returns-in_err-b
returns-in_err-b c =
    let a = c.args in
    rw c.from_residual.ensures (misses (character continues_name) a.s.now a.i (at_end continues_name a.s.now a.i c.in_err-b.ensures.lookup.3))

pub returns-then-ascii_continues : goal.returns-then-ascii_continues
returns-then-ascii_continues c =
    let a = c.args in
    let g = c.in_ok-b.ensures.lookup.3 in
    let within = g.0 in
    let t = ap ascii_continues_lem (sym (g.1 0)) ∙ sym c.ascii_continues.ensures ∙ c.if-ascii_continues.true in
    matches (character continues_name) a.s.now a.i 1 (sym (low_continues a.s.now a.i (ascii_low _ t).1 within ∙ rw t)) (omega arith) (omega arith)

pub returns-then-b-lt128 : goal.returns-then-b-lt128
returns-then-b-lt128 c =
    let a = c.args in
    let g = c.in_ok-b.ensures.lookup.3 in
    let t = ap ascii_continues_lem (sym (g.1 0)) ∙ sym c.ascii_continues.ensures ∙ c.if-ascii_continues.false in
    misses (character continues_name) a.s.now a.i (low_continues a.s.now a.i (rw (g.1 0) at c.if-b-lt128.true) g.0 ∙ rw t)

pub returns-in_err-c : goal.returns-in_err-c
returns-in_err-c c =
    let a = c.args in
    rw c.from_residual-in_err-c.ensures (misses (character continues_name) a.s.now a.i (no_character continues_name a.s.now a.i c.in_err-c.ensures))

-- a character, where it continues a name
decoded : (s : List ℕ) (i : ℕ) (r : Character) (t : Bool) → Stands s i r → t ≡ continues_name r.code → Matches (character continues_name) s i (then_some t r.len)
decoded s i r true d e = matches (character continues_name) s i r.len (rw (← d.code_is, ← e) d.len_is) (omega (arith, d.begins)) d.within
decoded s i r false d e = misses (character continues_name) s i (rw (← d.code_is, ← e))

pub returns : goal.returns
returns c = rw c.then_some.ensures (decoded c.args.s.now c.args.i c.in_ok-c.c c.is_continue.result c.in_ok-c.ensures c.is_continue.ensures)
