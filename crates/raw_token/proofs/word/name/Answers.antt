-- `raw_token::word::name` meets its contract: the first character decides.
use mathlib.Core.Path.{sym, ap, ◌∙◌}
use Rattle.raw_token.specs.Pattern.{begins_name_lem}
use Rattle.raw_token.proofs.Names.{name_none, name_found, name_missed}
use Rattle.utf8.specs.Character.{Stands}
use Rattle.raw_token.proofs.word.name.Goals as goal

pub returns-in_err-c : goal.returns-in_err-c
returns-in_err-c c = rw c.from_residual.ensures (name_none c.args.s.now c.args.at c.in_err-c.ensures)

pub returns-then-not-begins_name : goal.returns-then-not-begins_name
returns-then-not-begins_name c =
    let a = c.args in
    let d : Stands a.s.now a.at c.in_ok-c.c = c.in_ok-c.ensures in
    let t = ap begins_name_lem (sym d.code_is) ∙ sym c.begins_name.ensures ∙ c.if-not-begins_name.true in
    name_missed a.s.now a.at t

pub returns : goal.returns
returns c =
    let a = c.args in
    let d : Stands a.s.now a.at c.in_ok-c.c = c.in_ok-c.ensures in
    let t = ap begins_name_lem (sym d.code_is) ∙ sym c.begins_name.ensures ∙ c.if-not-begins_name.false in
    name_found a.s.now a.at _ _ t d.len_is c.name_end.ensures
