-- `writer::write_tree` meets its contract.
use native.Mathlib.Omega.{arith}
use Prim.Native.Nat.{◌+◌}
use mathlib.Core.Path.{ap, sym, ◌∙◌}
use Rattle.writer.proofs.Rewriting.{some-program, hollow_told, text_told, full_told}
use Rattle.writer.proofs.write_tree.Goals as goal

pub returns-then-any_hollow : goal.returns-then-any_hollow
returns-then-any_hollow c =
    let a = c.args in
    hollow_told a.src.now a.text.now a.tree.now a.nodes a.read a.out.now (sym c.any_hollow.ensures ∙ c.if-any_hollow.true) (c.fill.ensures.after (λ y e. e))

pub put_program-requires : goal.put_program-requires
put_program-requires c = some-program _ _ _ _ c.requires

pub returns-in-Some : goal.returns-in-Some
returns-in-Some c =
    let a = c.args in
    let p = some-program _ _ _ _ c.requires in
    let wrote = (c.put_program.ensures _ _ p.stands).wrote in
    let e = c.out-2-1.given.1.1 (sym (wrote.same ∙ c.new-back.ensures.same)) in
    rw e (text_told a.src.now a.text.now a.tree.now a.nodes a.read a.out.now c.requires (sym c.any_hollow.ensures ∙ c.if-any_hollow.false) c.new-back.result c.put_program.new.back c.put_program.result c.new-back.ensures.empty c.put_program.ensures c.to_front.result c.to_front.new.self.0 c.to_front.ensures.gives c.in-Some.is)

pub returns-in-None : goal.returns-in-None
returns-in-None c =
    let a = c.args in
    let p = some-program _ _ _ _ c.requires in
    let wrote = (c.put_program.ensures _ _ p.stands).wrote in
    let e = c.out-2-1.given.1.1 (sym (wrote.same ∙ c.new-back.ensures.same)) in
    rw e (full_told a.src.now a.text.now a.tree.now a.nodes a.read a.out.now c.requires (sym c.any_hollow.ensures ∙ c.if-any_hollow.false) c.new-back.result c.put_program.new.back c.put_program.result c.new-back.ensures.empty c.put_program.ensures c.to_front.result c.to_front.new.self.0 c.to_front.ensures.gives c.in-None.is)
